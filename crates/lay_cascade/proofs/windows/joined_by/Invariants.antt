use Rattle.lay_cascade.specs.Windows.{asks_joint}
use Rattle.lay_cascade.proofs.Masks.{IsMaskTo}
use Rattle.lay_cascade.proofs.windows.joined_by.Given as goal

abbrev pub invariant-loop-j : goal.invariant-loop-j
invariant-loop-j l = IsMaskTo l.steps l.from l.j (asks_joint l.joint) l.word
