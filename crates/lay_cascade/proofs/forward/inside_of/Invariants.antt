use Rattle.lay_sheet.specs.declared.selector.Joint.TheVariants.{Descendant}
use Rattle.lay_cascade.specs.Columns.{IsColumn, IsReached}
use Rattle.lay_cascade.proofs.forward.inside_of.Given as goal

abbrev pub invariant-loop-k : goal.invariant-loop-k
invariant-loop-k l = IsColumn l.k (IsReached l.nodes l.ends Descendant) l.inside.items
