-- A grid has no more columns than its cells span together.
use Rattle.std.proofs.Common.{◌≡◌, ℕ, zero, suc, ◌+◌, ◌≤◌, max, List, [], ◌∷◌, ◌++◌, slice_get, Some, ap, append-nil, append_assoc, arith}
use Rattle.std.proofs.lemmas.Option.{same_Some}
use Rattle.lay_grid.specs.declared.cells.Area.{Area}
use Rattle.lay_grid.specs.declared.cells.Cell.{Cell}
use Rattle.lay_grid.specs.Places.{areas_of, right_edge, HasRoomForArea, StandsLeft, StandAfter}
use Rattle.lay_grid.specs.Slots.{columns_of}
use Rattle.lay_grid.specs.Within.{columns_spanned, ColumnsAreWithin}

member_below : (cells : List Cell) (i : ℕ) (cell : Cell) → slice_get cells i ≡ Some cell → right_edge cell ≤ columns_of cells
member_below [] i cell at = absurd (cc (at))
member_below (x ∷ cells) zero cell at = let e = ap right_edge (same_Some x cell at) in omega (arith, e)
member_below (x ∷ cells) (suc i) cell at = let h = member_below cells i cell at in omega (arith, h)

-- right of all earlier cells there is room
pub room_behind_all : (earlier : List Cell) (area : Area) → HasRoomForArea earlier area (columns_of earlier)
room_behind_all earlier area = record {
  right_of_its_row = λ i cell at same. member_below earlier i cell at;
  all_free = λ r c covers i cell at other.
      let f = covers.first_column in let g = other.last_column in let h = member_below earlier i cell at in
      absurd (omega (arith, f, g, h));
}

left_below : (earlier : List Cell) (area : Area) (left : ℕ) → StandsLeft earlier area left → left ≤ columns_of earlier
left_below earlier area left s = s.least (columns_of earlier) (room_behind_all earlier area)

columns_push : (cells : List Cell) (cell : Cell) → columns_of (cells ++ cell ∷ []) ≡ max (columns_of cells) (right_edge cell)
columns_push [] cell = omega (arith)
columns_push (x ∷ cells) cell = let h = columns_push cells cell in omega (arith, h)

all_below : (earlier cells : List Cell) → StandAfter earlier cells → columns_of (earlier ++ cells) ≤ columns_of earlier + columns_spanned (areas_of cells)
all_below earlier [] s = let e = ap columns_of (append-nil earlier) in omega (arith, e)
all_below earlier (cell ∷ cells) s =
    let e = ap columns_of (append_assoc earlier (cell ∷ []) cells) in
    let h = all_below (earlier ++ cell ∷ []) cells s.1 in
    let p = columns_push earlier cell in
    let l = left_below earlier cell.area cell.left s.0 in
    omega (arith, e, h, p, l)

pub columns_are_within_lem : ColumnsAreWithin
columns_are_within_lem rows grid is =
    let h = all_below [] is.cells is.places in
    let a = ap columns_spanned is.areas in
    let c = is.columns in
    omega (arith, h, a, c)
