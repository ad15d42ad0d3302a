use Rattle.std.proofs.Common.{◌≡◌, ◌<◌, List, length, map, subst, sym}
use Rattle.std.specs.Prelude.{option_map}
use Rattle.lay_cells.specs.Rows.{Row, State, row_of}
use Rattle.lay_cells.specs.Places.{AtPlace}
use Rattle.lay_cells.proofs.ByPlace.{within_rows}
use Rattle.lay_cells.proofs.cells.Cells.kept_at.Goals as goal

pub kept_in-requires-after_bounds : goal.kept_in-requires-after_bounds
kept_in-requires-after_bounds g c _ _ =
    subst (λ (xs : List _). c.args.place < length xs) (sym c.as_slice.ensures.value) (within_rows c.args.self.now c.self.inside.cells.items c.self.inside.draws c.self.view_is c.args.place c.requires)

pub returns : goal.returns
returns g c =
    subst (λ (s : State _ _ _). AtPlace s.rows c.args.place (λ (r : Row _ _ _). option_map (λ d. d.now) c.kept_in.result ≡ r.kept)) c.self.view_is
    (subst (λ (cells : List _). AtPlace (map row_of cells) c.args.place (λ (r : Row _ _ _). option_map (λ d. d.now) c.kept_in.result ≡ r.kept)) c.as_slice.ensures.value c.kept_in.ensures)
