use Rattle.std.proofs.Common.{◌<◌, List, length, map, subst, sym}
use Rattle.std.specs.Prelude.{◌↔◌, IsTrue}
use Rattle.lay_cells.specs.Places.{AtPlace}
use Rattle.lay_cells.specs.Reuses.{CanReuse}
use Rattle.lay_cells.specs.Rows.{State, row_of}
use Rattle.lay_cells.proofs.ByPlace.{within_rows}
use Rattle.lay_cells.proofs.cells.Cells.can_reuse_at.Goals as goal

pub can_reuse_in-requires-after_bounds : goal.can_reuse_in-requires-after_bounds
can_reuse_in-requires-after_bounds g c _ _ =
    subst (λ (xs : List _). c.args.place < length xs) (sym c.as_slice.ensures.value) (within_rows c.args.self.now c.self.inside.cells.items c.self.inside.draws c.self.view_is c.args.place c.requires)

pub returns : goal.returns
returns g c =
    subst (λ (s : State _ _ _). IsTrue c.can_reuse_in.result ↔ AtPlace s.rows c.args.place CanReuse) c.self.view_is
    (subst (λ (cells : List _). IsTrue c.can_reuse_in.result ↔ AtPlace (map row_of cells) c.args.place CanReuse) c.as_slice.ensures.value c.can_reuse_in.ensures)
