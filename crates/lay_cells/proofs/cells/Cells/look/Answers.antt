use Rattle.std.proofs.Common.{map, subst, List}
use Rattle.lay_cells.specs.Rows.{State, row_of}
use Rattle.lay_cells.specs.Looks.{Looks}
use Rattle.lay_cells.proofs.cells.Cells.look.Goals as goal

pub returns : goal.returns
returns g c =
    subst (λ (s : State _ _ _). Looks s.rows c.args.key c.look_in.result) c.self.view_is
    (subst (λ (cells : List _). Looks (map row_of cells) c.args.key c.look_in.result) c.as_slice.ensures.value c.look_in.ensures)
