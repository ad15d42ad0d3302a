use Rattle.lay_cascade.specs.Windows.{asks_universal}
use Rattle.lay_cascade.proofs.Masks.{IsMaskTo}
use Rattle.lay_cascade.proofs.windows.universal_of.Given as goal

abbrev pub invariant-loop-j : goal.invariant-loop-j
invariant-loop-j l = IsMaskTo l.steps l.from l.j (λ s. asks_universal s.simple) l.word
