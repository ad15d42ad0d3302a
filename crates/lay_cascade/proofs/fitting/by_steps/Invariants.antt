use Rattle.lay_cascade.specs.NodeNames.{fits}
use Rattle.lay_cascade.proofs.Masks.{IsMaskTo}
use Rattle.lay_cascade.proofs.fitting.by_steps.Given as goal

abbrev pub invariant-loop-j : goal.invariant-loop-j
invariant-loop-j l = IsMaskTo l.window.steps.now l.window.from l.j (λ s. fits l.names s.simple) l.word
