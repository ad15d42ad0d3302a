use Rattle.std.proofs.Common.{◌≡◌, ◌<◌, List, length, map, subst, sym}
use Rattle.lay_cells.specs.Rows.{Row, State, row_of}
use Rattle.lay_cells.specs.Places.{AtPlace}
use Rattle.lay_cells.proofs.ByPlace.{within_rows}
use Rattle.lay_cells.proofs.cells.Cells.key_at.Goals as goal

pub key_in-requires-after_bounds : goal.key_in-requires-after_bounds
key_in-requires-after_bounds g c _ _ =
    subst (λ (xs : List _). c.args.place < length xs) (sym c.as_slice.ensures.value) (within_rows c.args.self.now c.self.inside.cells.items c.self.inside.draws c.self.view_is c.args.place c.requires)

pub returns : goal.returns
returns g c =
    subst (λ (s : State _ _ _). AtPlace s.rows c.args.place (λ (r : Row _ _ _). c.key_in.result ≡ r.key)) c.self.view_is
    (subst (λ (cells : List _). AtPlace (map row_of cells) c.args.place (λ (r : Row _ _ _). c.key_in.result ≡ r.key)) c.as_slice.ensures.value c.key_in.ensures)
