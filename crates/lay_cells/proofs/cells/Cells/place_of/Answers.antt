use Rattle.std.proofs.Common.{List, IfNone, IfSome, map, subst}
use Rattle.lay_cells.specs.Rows.{Row, State, row_of}
use Rattle.lay_cells.specs.Looks.{IsAt, IsGone}
use Rattle.lay_cells.proofs.cells.Cells.place_of.Goals as goal

pub returns-clause-some : goal.returns-clause-some
returns-clause-some g c =
    subst (λ (s : State _ _ _). IfSome c.find.result (λ i. (r : Row _ _ _) × IsAt s.rows c.args.key i r)) c.self.view_is
    (subst (λ (cells : List _). IfSome c.find.result (λ i. (r : Row _ _ _) × IsAt (map row_of cells) c.args.key i r)) c.as_slice.ensures.value c.find.ensures.found)

pub returns-clause-none : goal.returns-clause-none
returns-clause-none g c =
    subst (λ (s : State _ _ _). IfNone c.find.result (IsGone s.rows c.args.key)) c.self.view_is
    (subst (λ (cells : List _). IfNone c.find.result (IsGone (map row_of cells) c.args.key)) c.as_slice.ensures.value c.find.ensures.gone)
