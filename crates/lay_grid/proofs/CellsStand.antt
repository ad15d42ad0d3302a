-- Rows have a grid: whatever stands earlier, there is a least column where the slots of an area are free.
use Rattle.std.proofs.Common.{◌≡◌, ◌⊎◌, inl, inr, ℕ, zero, suc, ◌+◌, ◌<◌, ◌≤◌, max, List, [], ◌∷◌, ◌++◌, slice_get, Some, refl, subst, arith}
use Rattle.std.proofs.lemmas.Bool.{cases_eq, cases_lt}
use Rattle.std.proofs.lemmas.Option.{same_Some}
use Rattle.lay_grid.specs.declared.cells.Area.{Area}
use Rattle.lay_grid.specs.declared.cells.Cell.{Cell}
use Rattle.lay_grid.specs.Areas.{areas_from}
use Rattle.lay_grid.specs.Laws.{RowsHaveAGrid}
use Rattle.lay_grid.specs.Places.{Covers, HasRoomForArea, StandAfter, StandsLeft, areas_of, right_edge}
use Rattle.lay_grid.specs.Slots.{columns_of, slots_from}
use Rattle.lay_grid.proofs.ColumnsWithin.{room_behind_all}

-- two ranges have a number in common, or none
overlap : (a b c d : ℕ) → ((x : ℕ) × (a ≤ x) × (x < b) × (c ≤ x) × (x < d)) ⊎ ((x : ℕ) → a ≤ x → x < b → c ≤ x → x < d → ⊥)
overlap a b c d = elim (cases_lt (max a c) b) [
  | inr high ↦ inr (λ x ax xb cx xd. absurd (omega (arith, high, ax, xb, cx)))
  | inl low ↦ elim (cases_lt (max a c) d) [
    | inr high ↦ inr (λ x ax xb cx xd. absurd (omega (arith, high, ax, cx, xd)))
    | inl also ↦ inl (max a c, omega arith, low, omega arith, also)
  ]
]

-- no slot is covered by both
abbrev AreApart : Area → ℕ → Cell → Type 0
AreApart area left cell = (r c : ℕ) → Covers area left r c → Covers cell.area cell.left r c → ⊥

apart : (area : Area) (left : ℕ) (cell : Cell) → AreApart area left cell ⊎ (AreApart area left cell → ⊥)
apart area left cell = from (overlap area.row area.end cell.area.row cell.area.end) (overlap left (left + area.columns) cell.left (cell.left + cell.area.columns))
  where
    from : (((x : ℕ) × (area.row ≤ x) × (x < area.end) × (cell.area.row ≤ x) × (x < cell.area.end)) ⊎ ((x : ℕ) → area.row ≤ x → x < area.end → cell.area.row ≤ x → x < cell.area.end → ⊥))
        → (((x : ℕ) × (left ≤ x) × (x < left + area.columns) × (cell.left ≤ x) × (x < cell.left + cell.area.columns))
        ⊎ ((x : ℕ) → left ≤ x → x < left + area.columns → cell.left ≤ x → x < cell.left + cell.area.columns → ⊥))
        → AreApart area left cell ⊎ (AreApart area left cell → ⊥)
    from (inr none) other = inl (λ r c here there. none r here.first_row here.last_row there.first_row there.last_row)
    from (inl row) (inr none) = inl (λ r c here there. none c here.first_column here.last_column there.first_column there.last_column)
    from (inl (r, a, b, c, d)) (inl (k, e, f, g, h)) = inr (λ never. never r k (record { first_row = a; last_row = b; first_column = e; last_column = f })
        (record { first_row = c; last_row = d; first_column = g; last_column = h }))

-- there is room beside one cell
record HasRoomBeside (area : Area) (left : ℕ) (cell : Cell) : Type 0 where
  pub right : cell.area.row ≡ area.row → right_edge cell ≤ left
  pub apart : AreApart area left cell

beside : (area : Area) (left : ℕ) (cell : Cell) → HasRoomBeside area left cell ⊎ (HasRoomBeside area left cell → ⊥)
beside area left cell = from (apart area left cell) (cases_eq cell.area.row area.row) (cases_lt left (right_edge cell))
  where
    from : (AreApart area left cell ⊎ (AreApart area left cell → ⊥)) → ((cell.area.row ≡ area.row) ⊎ (cell.area.row ≡ area.row → ⊥))
        → ((left < right_edge cell) ⊎ (right_edge cell ≤ left)) → HasRoomBeside area left cell ⊎ (HasRoomBeside area left cell → ⊥)
    from (inr no_room) same order = inr (λ room. no_room room.apart)
    from (inl free) (inr other) order = inl (record { right = λ same. absurd (other same); apart = free })
    from (inl free) (inl same) (inl less) = inr (λ room. let right = room.right same in omega (arith, right, less))
    from (inl free) (inl same) (inr not) = inl (record { right = λ e. omega (arith, not); apart = free })

first_room : (x : Cell) (earlier : List Cell) (area : Area) (left : ℕ) → HasRoomForArea (x ∷ earlier) area left → HasRoomBeside area left x
first_room x earlier area left room = record { right = room.right_of_its_row 0 x refl; apart = λ r c here there. room.all_free r c here 0 x refl there }

rest_room : (x : Cell) (earlier : List Cell) (area : Area) (left : ℕ) → HasRoomForArea (x ∷ earlier) area left → HasRoomForArea earlier area left
rest_room x earlier area left room = record {
  right_of_its_row = λ i cell at. room.right_of_its_row (suc i) cell at;
  all_free = λ r c here i cell at. room.all_free r c here (suc i) cell at;
}

more_room : (x : Cell) (earlier : List Cell) (area : Area) (left : ℕ) → HasRoomBeside area left x → HasRoomForArea earlier area left → HasRoomForArea (x ∷ earlier) area left
more_room x earlier area left one rest = record { right_of_its_row = right; all_free = free }
  where
    right : (i : ℕ) (cell : Cell) → slice_get (x ∷ earlier) i ≡ Some cell → cell.area.row ≡ area.row → right_edge cell ≤ left
    right zero cell at = let e = same_Some x cell at in subst (λ (z : Cell). z.area.row ≡ area.row → right_edge z ≤ left) e one.right
    right (suc i) cell at = rest.right_of_its_row i cell at

    free : (r c : ℕ) → Covers area left r c → (i : ℕ) (cell : Cell) → slice_get (x ∷ earlier) i ≡ Some cell → Covers cell.area cell.left r c → ⊥
    free r c here zero cell at = let e = same_Some x cell at in subst (λ (z : Cell). Covers z.area z.left r c → ⊥) e (one.apart r c here)
    free r c here (suc i) cell at = rest.all_free r c here i cell at

room : (earlier : List Cell) (area : Area) (left : ℕ) → HasRoomForArea earlier area left ⊎ (HasRoomForArea earlier area left → ⊥)
room [] area left = inl (record { right_of_its_row = λ i cell at. absurd (cc (at)); all_free = λ r c here i cell at. absurd (cc (at)) })
room (x ∷ earlier) area left = elim (beside area left x) [
  | inr none ↦ inr (λ all. none (first_room x earlier area left all))
  | inl one ↦ elim (room earlier area left) [
    | inr none ↦ inr (λ all. none (rest_room x earlier area left all))
    | inl rest ↦ inl (more_room x earlier area left one rest)
  ]
]

-- the least column with room, from one on before which there is none
search_from : (earlier : List Cell) (area : Area) (left more : ℕ) → HasRoomForArea earlier area (left + more) → ((column : ℕ) → column < left → HasRoomForArea earlier area column → ⊥)
    → (least : ℕ) × StandsLeft earlier area least
search_from earlier area left zero there none = (
  left,
  record {
    has_room = let e : left + 0 ≡ left = omega arith in subst (λ (n : ℕ). HasRoomForArea earlier area n) e there;
    least = λ column has. elim (cases_lt column left) [
      | inl less ↦ absurd (none column less has)
      | inr not ↦ omega (arith, not)
    ];
  },
)
search_from earlier area left (suc more) there none = elim (room earlier area left) [
  | inl here ↦ (
    left,
    record {
      has_room = here;
      least = λ column has. elim (cases_lt column left) [
        | inl less ↦ absurd (none column less has)
        | inr not ↦ omega (arith, not)
      ];
    },
  )
  | inr never ↦ search_from earlier area (left + 1) more (let e : left + suc more ≡ (left + 1) + more = omega arith in subst (λ (n : ℕ). HasRoomForArea earlier area n) e there)
      (λ column less has. elim (cases_lt column left) [
        | inl low ↦ none column low has
        | inr not ↦ (let e : column ≡ left = omega (arith, less, not) in never (subst (λ (n : ℕ). HasRoomForArea earlier area n) e has))
      ])
]

pub stand_after : (earlier : List Cell) (areas : List Area) → (cells : List Cell) × (areas_of cells ≡ areas) × StandAfter earlier cells
stand_after earlier [] = ([], refl, tt)
stand_after earlier (area ∷ areas) =
    let end : columns_of earlier ≡ 0 + columns_of earlier = omega arith in
    let there = subst (λ (n : ℕ). HasRoomForArea earlier area n) end (room_behind_all earlier area) in
    let here = search_from earlier area 0 (columns_of earlier) there (λ column less. absurd (omega (arith, less))) in
    let cell : Cell = record { area = area; left = here.0 } in
    let rest = stand_after (earlier ++ cell ∷ []) areas in
    let same = rest.1 in
    (cell ∷ rest.0, rw same refl, (here.1, rest.2))

pub rows_have_a_grid_lem : RowsHaveAGrid
rows_have_a_grid_lem rows =
    let cells = stand_after [] (areas_from 0 rows) in
    (record { slots = slots_from 0 cells.0; columns = columns_of cells.0 }, record { cells = cells.0; areas = cells.1; places = cells.2; slots = refl; columns = refl })
