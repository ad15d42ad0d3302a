use Rattle.std.proofs.Common.{false, sym, subst}
use Rattle.std.specs.Prelude.{slice_index_or}
use Rattle.lay_sheet.specs.declared.selector.Joint.{Joint}
use Rattle.lay_sheet.specs.declared.selector.Joint.TheVariants.{Descendant}
use Rattle.lay_cascade.specs.Matching.{Says}
use Rattle.lay_cascade.specs.Columns.{IsReached}
use Rattle.lay_cascade.proofs.Columns.{says_of}
use Rattle.lay_cascade.proofs.forward.is_reached.Goals as goal

pub returns-in-Descendant : goal.returns-in-Descendant
returns-in-Descendant c =
    let nodes = c.args.named.nodes.now in
    let told = c.requires.inside c.in-Descendant.is in
    subst (λ (z : Joint). Says c.is_set.result (IsReached nodes c.args.ends.now z c.args.k)) (sym c.in-Descendant.is)
    (says_of c.is_set.result (slice_index_or c.args.inside.now c.args.k false) (IsReached nodes c.args.ends.now Descendant c.args.k) c.is_set.ensures (told.each c.args.k c.requires.place))
