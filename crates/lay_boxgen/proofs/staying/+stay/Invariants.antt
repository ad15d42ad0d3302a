use Rattle.std.proofs.Common.{drop}
use Rattle.lay_boxgen.specs.Staying.{StayTheSame}
use Rattle.lay_boxgen.proofs.staying.+stay.Given as goal

-- all stay, where the rest does
abbrev pub invariant-stay-loop-tree : goal.invariant-stay-loop-tree
invariant-stay-loop-tree l = StayTheSame (drop l.tree-index l.trees) → StayTheSame l.trees
