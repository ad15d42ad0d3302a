use Rattle.std.proofs.Common.{◌<◌, List, IfNone, IfSome, false, length, map, subst, sym}
use Rattle.lay_cells.specs.Rows.{Row, State, row_of}
use Rattle.lay_cells.specs.Places.{AtPlace, IsClaimed}
use Rattle.lay_cells.specs.Steps.{IsStale}
use Rattle.lay_cells.proofs.ByPlace.{within_rows}
use Rattle.lay_cells.proofs.cells.Cells.claimed_at.Goals as goal

pub claimed_in-requires-after_bounds : goal.claimed_in-requires-after_bounds
claimed_in-requires-after_bounds g c _ _ =
    subst (λ (xs : List _). c.args.place < length xs) (sym c.as_slice.ensures.value) (within_rows c.args.self.now c.self.inside.cells.items c.self.inside.draws c.self.view_is c.args.place c.requires)

pub returns-clause-some : goal.returns-clause-some
returns-clause-some g c =
    subst (λ (s : State _ _ _). IfSome c.claimed_in.result (λ n. AtPlace s.rows c.args.place (λ (r : Row _ _ _). IsClaimed r n))) c.self.view_is
    (subst (λ (cells : List _). IfSome c.claimed_in.result (λ n. AtPlace (map row_of cells) c.args.place (λ (r : Row _ _ _). IsClaimed r n))) c.as_slice.ensures.value c.claimed_in.ensures.some)

pub returns-clause-none : goal.returns-clause-none
returns-clause-none g c =
    subst (λ (s : State _ _ _). IfNone c.claimed_in.result (AtPlace s.rows c.args.place (λ (r : Row _ _ _). IsStale r false → ⊥))) c.self.view_is
    (subst (λ (cells : List _). IfNone c.claimed_in.result (AtPlace (map row_of cells) c.args.place (λ (r : Row _ _ _). IsStale r false → ⊥))) c.as_slice.ensures.value c.claimed_in.ensures.none)
