-- The places of the cells that one depends on.
use Rattle.std.proofs.Common.{◌≡◌, ◌<◌, ℕ, List, length, map, slice_get, Some, arith, ap, sym, ◌∙◌}
use Rattle.std.proofs.lemmas.Option.{slice_get_within, same_Some}
use Rattle.lay_cells.specs.Places.{IsNeedAt}
use Rattle.lay_cells.specs.Reuses.{AreNeedsAt}
use Rattle.lay_cells.specs.Rows.{entry_of}
use Rattle.lay_cells.specs.Shapes.{IsShape}
use Rattle.lay_kept_cells.proofs.Cited.{at_within, one_at, one_by_key}
use Rattle.lay_cell_work.specs.CellLaws.SoundCells.{CellRow}

pub need_within : (rows : List CellRow) (place : ℕ) (places : List ℕ) → AreNeedsAt rows place places → (j need : ℕ) → slice_get places j ≡ Some need → need < length rows
need_within rows place places are j need got = let q = are.each j need got in slice_get_within rows need q.0 q.1

-- a dependency is one of them
pub need_listed : (rows : List CellRow) → IsShape (map entry_of rows) → (place : ℕ) (places : List ℕ) → AreNeedsAt rows place places → (j need : ℕ)
    → IsNeedAt rows place j need → slice_get places j ≡ Some need
need_listed rows shape place places are j need at =
    let same : at.0 ≡ are.row = one_at rows place at.0 are.row at.1 are.there in
    let key : slice_get are.row.needs j ≡ Some at.2.0.key = ap (λ (r : CellRow). slice_get r.needs j) (sym same) ∙ at.2.2 in
    let lt = slice_get_within are.row.needs j at.2.0.key key in
    let count = are.count in
    let p = at_within places j (omega (arith, lt, count)) in
    let q = are.each j p.0 p.1 in
    let one = one_by_key rows shape p.0 need q.0 at.2.0 q.1 at.2.1 (same_Some q.0.key at.2.0.key (sym q.2 ∙ key)) in
    p.1 ∙ ap Some one.0
