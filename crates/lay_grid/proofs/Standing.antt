-- One more cell that stands.
use Rattle.std.proofs.Common.{◌≡◌, ◌⊎◌, inl, inr, ℕ, ◌+◌, ◌<◌, ◌≤◌, List, [], ◌∷◌, ◌++◌, length, get_or, slice_get, Some, refl, sym, ap, subst, append_assoc, append-nil, arith}
use Rattle.std.proofs.lemmas.Bool.{cases_lt}
use Rattle.lay_grid.specs.declared.cells.Area.{Area}
use Rattle.lay_grid.specs.declared.cells.Cell.{Cell}
use Rattle.lay_grid.specs.Places.{areas_of, SomeCell, Covers, HasRoomForArea, StandsLeft, StandAfter, right_edge}
use Rattle.lay_grid.specs.Pass.Known.{Known, IsCovered, AreFree, Occupied}
use Rattle.lay_grid.proofs.Places.{one_more, old_place, last_place}

abbrev pub cell_at : Area → ℕ → Cell
cell_at area left = record { area = area; left = left }

pub stand_more : (earlier cells : List Cell) (cell : Cell) → StandAfter earlier cells → StandsLeft (earlier ++ cells) cell.area cell.left
    → StandAfter earlier (cells ++ cell ∷ [])
stand_more earlier [] cell s here = (subst (λ (es : List Cell). StandsLeft es cell.area cell.left) (append-nil earlier) here, tt)
stand_more earlier (c ∷ cells) cell s here = (
  s.0,
  stand_more (earlier ++ c ∷ []) cells cell s.1
      (subst (λ (es : List Cell). StandsLeft es cell.area cell.left) (sym (append_assoc earlier (c ∷ []) cells)) here),
)

-- what the columns say before a cell stands there
pub record Fits (busy : List ℕ) (area : Area) (next left : ℕ) : Type 0 where
  pub from : next ≤ left
  pub free : AreFree busy area.row area.columns left
  pub least : (column : ℕ) → next ≤ column → AreFree busy area.row area.columns column → left ≤ column

stands : (cells : List Cell) (busy : List ℕ) (area : Area) (next left : ℕ) → Known cells busy area.row next → area.row < area.end
    → Fits busy area next left → StandsLeft cells area left
stands cells busy area next left k some fits = record {
  has_room = record {
    right_of_its_row = λ i cell at same. let r = k.right i cell at same in let f = fits.from in omega (arith, r, f);
    all_free = λ r c cov i cell at covers. let b = k.free r c cov.first_row (i, cell, at, covers) in let f = fits.free c cov.first_column
        cov.last_column in let g = cov.first_row in absurd (omega (arith, b, f, g));
  };
  least = λ column room. fits.least column (after_next column room k.reached) (free_there column room);
}
  where
    after_next : (column : ℕ) → HasRoomForArea cells area column
        → ((next ≡ 0) ⊎ SomeCell cells (λ cell. (cell.area.row ≡ area.row) × (right_edge cell ≡ next))) → next ≤ column
    after_next column room (inl e) = omega (arith, e)
    after_next column room (inr w) = let r = room.right_of_its_row w.0 w.1 w.2 w.3.0 in let e = w.3.1 in omega (arith, r, e)

    free_there : (column : ℕ) → HasRoomForArea cells area column → AreFree busy area.row area.columns column
    free_there column room c ge lt = elim (cases_lt area.row (get_or busy c 0)) [
      | inl busy_there ↦ (
          let w = k.covered area.row c (omega arith) busy_there in
          absurd (room.all_free area.row c (record { first_row = omega arith; last_row = some; first_column = ge; last_column = lt }) w.0 w.1 w.2 w.3)
          )
      | inr not ↦ not
    ]

pub known_more : (cells : List Cell) (busy after : List ℕ) (area : Area) (next left : ℕ) → Known cells busy area.row next → area.row < area.end
    → Fits busy area next left → Occupied busy after area left
    → Known (cells ++ cell_at area left ∷ []) after area.row (left + area.columns)
known_more cells busy after area next left k some fits now = record {
  stand = stand_more [] cells (cell_at area left) k.stand (stands cells busy area next left k some fits);
  covered = λ r c ge lt. covered r c ge lt (cases_lt c left) (cases_lt c (left + area.columns));
  free = λ r c ge w. free r c ge w.0 w.1 w.3 (one_more cells (cell_at area left) w.1 w.0 w.2);
  above = λ i cell at. above i cell (one_more cells (cell_at area left) cell i at);
  right = λ i cell at same. right i cell same (one_more cells (cell_at area left) cell i at);
  reached = inr (length cells, cell_at area left, last_place cells (cell_at area left), (refl, refl));
  within = now.within;
}
  where
    old : (r c : ℕ) → IsCovered cells r c → IsCovered (cells ++ cell_at area left ∷ []) r c
    old r c w = (w.0, w.1, old_place cells (cell_at area left ∷ []) w.0 w.1 w.2, w.3)

    covered : (r c : ℕ) → area.row ≤ r → r < get_or after c 0 → ((c < left) ⊎ (left ≤ c)) → ((c < left + area.columns) ⊎ (left + area.columns ≤ c))
        → IsCovered (cells ++ cell_at area left ∷ []) r c
    covered r c ge lt (inl less) b = let e = now.before c less in old r c (k.covered r c ge (omega (arith, e, lt)))
    covered r c ge lt (inr from) (inl to) =
        let e = now.inside c from to in (
          length cells,
          cell_at area left,
          last_place cells (cell_at area left),
          record
              { first_row = ge; last_row = omega (arith, e, lt); first_column = from; last_column = to },
        )
    covered r c ge lt (inr from) (inr past) = let e = now.beyond c past in old r c (k.covered r c ge (omega (arith, e, lt)))

    still : (r c : ℕ) → area.row ≤ r → r < get_or busy c 0 → ((c < left) ⊎ (left ≤ c)) → ((c < left + area.columns) ⊎ (left + area.columns ≤ c))
        → r < get_or after c 0
    still r c ge lt (inl less) b = let e = now.before c less in omega (arith, e, lt)
    still r c ge lt (inr from) (inl to) = let f = fits.free c from to in absurd (omega (arith, f, lt, ge))
    still r c ge lt (inr from) (inr past) = let e = now.beyond c past in omega (arith, e, lt)

    free : (r c : ℕ) → area.row ≤ r → (i : ℕ) (cell : Cell) → Covers cell.area cell.left r c
        → ((slice_get cells i ≡ Some cell) ⊎ (cell ≡ cell_at area left)) → r < get_or after c 0
    free r c ge i cell cov (inl at) = still r c ge (k.free r c ge (i, cell, at, cov)) (cases_lt c left) (cases_lt c (left + area.columns))
    free r c ge i cell cov (inr e) =
        let mine : Covers area left r c = subst (λ (x : Cell). Covers x.area x.left r c) e cov in
        let f = now.inside c mine.first_column mine.last_column in let g = mine.last_row in omega (arith, f, g)

    above : (i : ℕ) (cell : Cell) → ((slice_get cells i ≡ Some cell) ⊎ (cell ≡ cell_at area left)) → cell.area.row ≤ area.row
    above i cell (inl at) = k.above i cell at
    above i cell (inr e) = let f = ap (λ (x : Cell). x.area.row) e in omega (arith, f)

    right : (i : ℕ) (cell : Cell) → cell.area.row ≡ area.row → ((slice_get cells i ≡ Some cell) ⊎ (cell ≡ cell_at area left))
        → right_edge cell ≤ left + area.columns
    right i cell same (inl at) = let r = k.right i cell at same in let f = fits.from in omega (arith, r, f)
    right i cell same (inr e) = let f = ap right_edge e in omega (arith, f)

pub areas_more : (cells : List Cell) (cell : Cell) → areas_of (cells ++ cell ∷ []) ≡ areas_of cells ++ cell.area ∷ []
areas_more [] cell = refl
areas_more (c ∷ cells) cell = ap (λ (xs : List Area). c.area ∷ xs) (areas_more cells cell)

-- the next row
pub next_row : (cells : List Cell) (busy : List ℕ) (row next : ℕ) → Known cells busy row next → Known cells busy (row + 1) 0
next_row cells busy row next k = record {
  stand = k.stand;
  covered = λ r c ge lt. k.covered r c (omega arith) lt;
  free = λ r c ge w. k.free r c (omega arith) w;
  above = λ i cell at. let a = k.above i cell at in omega (arith, a);
  right = λ i cell at same. let a = k.above i cell at in absurd (omega (arith, a, same));
  reached = inl refl;
  within = omega arith;
}

pub no_cells : Known [] [] 0 0
no_cells = record {
  stand = tt;
  covered = λ r c ge lt. absurd (omega (arith, lt));
  free = λ r c ge w. let e = w.2 in absurd (cc);
  above = λ i cell at. absurd (cc);
  right = λ i cell at same. absurd (cc);
  reached = inl refl;
  within = omega arith;
}
