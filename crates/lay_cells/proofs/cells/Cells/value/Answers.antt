use Rattle.std.proofs.Common.{map, subst, List, IfSome, IfNone}
use Rattle.std.specs.Arc.{arc_value}
use Rattle.lay_cells.specs.Rows.{State, row_of}
use Rattle.lay_cells.specs.Reads.{KeepsNone, KeepsValue}
use Rattle.lay_cells.proofs.cells.Cells.value.Goals as goal

pub returns-clause-some : goal.returns-clause-some
returns-clause-some g c =
    subst (λ (s : State _ _ _). IfSome c.value_in.result (λ v. KeepsValue g.W.Work.relates s.rows c.args.key (arc_value v.now))) c.self.view_is
    (subst (λ (cells : List _). IfSome c.value_in.result (λ v. KeepsValue g.W.Work.relates (map row_of cells) c.args.key (arc_value v.now))) c.as_slice.ensures.value c.value_in.ensures.some)

pub returns-clause-none : goal.returns-clause-none
returns-clause-none g c =
    subst (λ (s : State _ _ _). IfNone c.value_in.result (KeepsNone s.rows c.args.key)) c.self.view_is
    (subst (λ (cells : List _). IfNone c.value_in.result (KeepsNone (map row_of cells) c.args.key)) c.as_slice.ensures.value c.value_in.ensures.none)
