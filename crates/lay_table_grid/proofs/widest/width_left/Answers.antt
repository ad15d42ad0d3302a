use Rattle.std.proofs.Common.{List, subst, sym, ◌∙◌}
use Rattle.lay_borders.specs.declared.candidate.Cand.{Cand}
use Rattle.lay_table_grid.specs.Pass.UsedBorders.{AreUsed}
use Rattle.lay_table_grid.proofs.UsedBorders.{used_left}
use Rattle.lay_table_grid.proofs.widest.width_left.Goals as goal

pub width_of-requires : goal.width_of-requires
width_of-requires c =
    let put = c.in_ok-put_meeting_left.ensures {u = tt} in
    subst (λ (borders : List Cand). AreUsed borders) (sym (c.deref.ensures.value ∙ put)) (used_left c.args.edges.now c.args.row c.args.column)
