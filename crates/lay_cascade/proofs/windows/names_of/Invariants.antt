use Rattle.lay_cascade.proofs.Masks.{AreNamesTo}
use Rattle.lay_cascade.proofs.windows.names_of.Given as goal

abbrev pub invariant-loop-j : goal.invariant-loop-j
invariant-loop-j l = AreNamesTo l.steps l.from l.j l.place l.masks
