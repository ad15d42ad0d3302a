-- The heights of rows, from the first on, and that there are such heights.
use Rattle.std.proofs.Common.{◌≡◌, ◌⊎◌, inl, inr, ℕ, zero, suc, ◌+◌, ◌-◌, ◌<◌, ◌≤◌, ℤ, pos, ◌+ℤ◌, ◌-ℤ◌, ◌≤ℤ◌, None, Some, List, [], ◌∷◌, ◌++◌, length, get_or, slice_get, refl, sym, ap, ◌∙◌, subst, below_more, append-nil, append_assoc, arith}
use Rattle.std.specs.Int.{int_max}
use Rattle.std.specs.List.{Contains}
use Rattle.std.proofs.lemmas.Int.{ints, clamps}
use Rattle.std.proofs.lemmas.Bool.{cases_eq}
use Rattle.std.proofs.lemmas.List.{get_or_append_left, get_or_push, length-append}
use Rattle.std.proofs.lemmas.List.Elements.{Contains-get_or}
use Rattle.std.proofs.lemmas.Option.{get_or_from_slice_get, slice_get-get_or, slice_get_within}
use Rattle.lay_units.specs.declared.length.Unit.{Unit}
use Rattle.lay_units.specs.Units.{IsPosition, IsWithinPower}
use Rattle.lay_grid.specs.declared.heights.RowCell.{RowCell}
use Rattle.lay_grid.specs.declared.heights.RowsIn.{RowsIn}
use Rattle.lay_grid.specs.declared.needs.Need.{Need}
use Rattle.lay_grid.specs.Shares.{sum_of, width_at}
use Rattle.lay_grid.specs.Heights.{IsEnough, RowFits, IsLowest, AreLowest, AreHeights, room_above}
use Rattle.lay_grid.specs.RowsFit.{RowsFit}
use Rattle.lay_grid.specs.Pass.Needs.{IsNeed, NeedsTo, AllNeedsTo}
use Rattle.lay_grid.specs.Pass.Totals.{Totals}
use Rattle.lay_grid.proofs.LeastRooms.{IsLeastRoom, room_exists, enough_more}
use Rattle.lay_grid.proofs.SharedSteps.{length_push}

-- the height of a row so far: it has room for the first n of these
pub record HeightTo (r : RowsIn) (above : List Unit) (needs : List Need) (n : ℕ) (height : ℤ) : Type 0 where
  pub own : width_at r.own (length above) ≤ℤ height
  pub enough : (j : ℕ) → j < n → (need : Need) → slice_get needs j ≡ Some need → need.room ≤ℤ (room_above r above need.row need.span +ℤ height)
  pub least : (u : ℤ) → RowFits r above u → height ≤ℤ u

above_same : (r : RowsIn) (above : List Unit) (row span other_row other_span : ℕ) → row ≡ other_row → span ≡ other_span
    → room_above r above row span ≡ room_above r above other_row other_span
above_same r above row span other_row other_span e f = rw (e, f) refl

-- what a height that fits has room for
needed : (r : RowsIn) (above : List Unit) (needs : List Need) (need : Need) (u : ℤ) → NeedsTo r.cells (length r.cells) (length above) needs
    → Contains needs need → RowFits r above u
    → need.room ≤ℤ (room_above r above need.row need.span +ℤ u)
needed r above needs need u to has fits =
    let h = to.only need has in
    let is : IsNeed r.cells h.1.1 need = h.1.3 in
    let a = is.row in let b = is.span in let c = h.0 in
    let same = above_same r above need.row need.span h.1.1.row h.1.1.span a b in
    let l = is.least _ (fits.cells h.1.0 h.1.1 h.1.2 (omega (arith, a, b, c))) in
    omega (arith, ints, l, same)

pub height_more : (r : RowsIn) (above : List Unit) (needs : List Need) (n : ℕ) (d : Need) (height next : ℤ)
    → NeedsTo r.cells (length r.cells) (length above) needs → n < length needs
    → next ≡ int_max height ((get_or needs n d).room -ℤ room_above r above (get_or needs n d).row (get_or needs n d).span)
    → HeightTo r above needs n height → HeightTo r above needs (n + 1) next
height_more r above needs n d height next to lt e so = record {
  own = let a = so.own in omega (arith, ints, clamps, a, e);
  enough = below_more _ n (λ j less need at. let a = so.enough j less need at in omega (arith, ints, clamps, a, e))
      (λ need at. subst (λ (x : Need). x.room ≤ℤ (room_above r above x.row x.span +ℤ next)) (get_or_from_slice_get needs n need d at)
      (omega (arith, ints, clamps, e)));
  least = λ u fits. let a = so.least u fits in let b = needed r above needs (get_or needs n d) u to (contained lt) fits in omega (arith, ints, clamps, a, b, e);
}
  where
    contained : n < length needs → Contains needs (get_or needs n d)
    contained lt = Contains-get_or needs n d lt

-- with the table's height
pub height_last : (r : RowsIn) (above : List Unit) (needs : List Need) (n : ℕ) (height last : ℤ)
    → NeedsTo r.cells (length r.cells) (length above) needs → length needs ≤ n → HeightTo r above needs n height
    → Totals r above height last → IsLowest r above last
height_last r above needs n height last to all so t = record {
  fits = record {
    own = let a = so.own in let b = t.up in omega (arith, ints, a, b);
    cells = λ k cell at same. has_room cell (to.each k (slice_get_within r.cells k cell at) cell at same);
    total = t.total;
  };
  least = λ u fits. t.least u (so.least u fits) fits.total;
}
  where
    has_room : (cell : RowCell) → ((need : Need) × Contains needs need × IsNeed r.cells cell need)
        → IsEnough r.cells cell cell.baseline (room_above r above cell.row cell.span +ℤ last)
    has_room cell h =
        let need = h.0 in let has = h.1 in let is = h.2 in let lt = has.1 in
        let at : slice_get needs has.0 ≡ Some need = slice_get-get_or needs has.0 need lt ∙ ap (λ (x : Need). Some x) has.2 in
        let room = so.enough has.0 (omega (arith, lt, all)) need at in
        let same = above_same r above need.row need.span cell.row cell.span is.row is.span in
        let b = t.up in
        enough_more r.cells cell cell.baseline need.room _ (omega (arith, ints, room, same, b)) is.enough

-- one more row
pub lowest_more : (r : RowsIn) (above heights : List Unit) (height : Unit) → AreLowest r above heights → IsLowest r (above ++ heights) height.0
    → AreLowest r above (heights ++ height ∷ [])
lowest_more r above [] height l here = (subst (λ (xs : List Unit). IsLowest r xs height.0) (append-nil above) here, tt)
lowest_more r above (h ∷ heights) height l here = (
  l.0,
  lowest_more r (above ++ h ∷ []) heights height l.1
      (subst (λ (xs : List Unit). IsLowest r xs height.0) (sym (append_assoc above (h ∷ []) heights)) here),
)

-- a row has a least height
record CellsTo (r : RowsIn) (above : List Unit) (n : ℕ) (height : ℤ) : Type 0 where
  own : width_at r.own (length above) ≤ℤ height
  cells : (k : ℕ) → k < n → (cell : RowCell) → slice_get r.cells k ≡ Some cell → cell.row + cell.span ≡ length above + 1
      → IsEnough r.cells cell cell.baseline (room_above r above cell.row cell.span +ℤ height)
  least : (u : ℤ) → RowFits r above u → height ≤ℤ u

cell_more : (r : RowsIn) (above : List Unit) (n : ℕ) (d : RowCell) (height room : ℤ) → n < length r.cells
    → IsLeastRoom r.cells (get_or r.cells n d) room → (get_or r.cells n d).row + (get_or r.cells n d).span ≡ length above + 1
    → CellsTo r above n height → CellsTo r above (n + 1) (int_max height (room -ℤ room_above r above (get_or r.cells n d).row (get_or r.cells n d).span))
cell_more r above n d height room lt is ends so = record {
  own = let a = so.own in omega (arith, ints, clamps, a);
  cells = below_more _ n (λ k less cell at same. enough_more r.cells cell cell.baseline _ _ (omega (arith, ints, clamps)) (so.cells k less cell at same))
      (λ cell at same. subst (λ (x : RowCell). IsEnough r.cells x x.baseline (room_above r above x.row x.span +ℤ next))
      (get_or_from_slice_get r.cells n cell d at)
      (enough_more r.cells (get_or r.cells n d) (get_or r.cells n d).baseline room _ (omega (arith, ints, clamps)) is.enough));
  least = λ u fits. let a = so.least u fits in let b = is.least _ (fits.cells n (get_or r.cells n d) (slice_get-get_or r.cells n d lt) ends) in omega
      (arith, ints, clamps, a, b);
}
  where
    next : ℤ
    next = int_max height (room -ℤ room_above r above (get_or r.cells n d).row (get_or r.cells n d).span)

cell_elsewhere : (r : RowsIn) (above : List Unit) (n : ℕ) (d : RowCell) (height : ℤ)
    → ((get_or r.cells n d).row + (get_or r.cells n d).span ≡ length above + 1 → ⊥) → CellsTo r above n height → CellsTo r above (n + 1) height
cell_elsewhere r above n d height other so = record {
  own = so.own;
  cells = below_more _ n so.cells (λ cell at same. absurd
      (other (subst (λ (x : RowCell). x.row + x.span ≡ length above + 1) (sym (get_or_from_slice_get r.cells n cell d at)) same)));
  least = so.least;
}

cells_exist : (r : RowsIn) (above : List Unit) (n : ℕ) → n ≤ length r.cells → (height : ℤ) × CellsTo r above n height
cells_exist r above zero less = (
  width_at r.own (length above),
  record {
    own = omega (arith, ints);
    cells = λ k none. absurd (omega (arith, none));
    least = λ u fits. fits.own;
  },
)
cells_exist r above (suc n) less =
    next (cells_exist r above n (omega (arith, less))) (cases_eq ((get_or r.cells n default).row + (get_or r.cells n default).span) (length above + 1))
  where
    default : RowCell
    default = record { row = 0; span = 0; height = record { 0 = pos 0 }; baseline = None }

    next : ((height : ℤ) × CellsTo r above n height)
        → (((get_or r.cells n default).row + (get_or r.cells n default).span ≡ length above + 1) ⊎
        ((get_or r.cells n default).row + (get_or r.cells n default).span ≡ length above + 1 → ⊥))
        → (height : ℤ) × CellsTo r above (suc n) height
    next h (inl ends) =
        let room = room_exists r.cells n (get_or r.cells n default) (slice_get-get_or r.cells n default (omega (arith, less))) in
        let cell = get_or r.cells n default in
        let raised = int_max h.0 (room.0 -ℤ room_above r above cell.row cell.span) in
        (raised, subst (λ (m : ℕ). CellsTo r above m raised) (omega arith) (cell_more r above n default h.0 room.0 (omega (arith, less)) room.1 ends h.1))
    next h (inr other) = (h.0, subst (λ (m : ℕ). CellsTo r above m h.0) (omega arith) (cell_elsewhere r above n default h.0 other h.1))

lowest_exists : (r : RowsIn) (above : List Unit) → (height : ℤ) × IsLowest r above height
lowest_exists r above = from (cells_exist r above (length r.cells) (omega arith)) (cases_eq (length above + 1) (length r.own))
  where
    whole : (height last : ℤ) → CellsTo r above (length r.cells) height → Totals r above height last → IsLowest r above last
    whole height last so t = record {
      fits = record {
        own = let a = so.own in let b = t.up in omega (arith, ints, a, b);
        cells = λ k cell at same. let b = t.up in enough_more r.cells cell cell.baseline (room_above r above cell.row cell.span +ℤ height)
            (room_above r above cell.row cell.span +ℤ last) (omega (arith, ints, b)) (so.cells k (slice_get_within r.cells k cell at) cell at same);
        total = t.total;
      };
      least = λ u fits. t.least u (so.least u fits) fits.total;
    }

    from : ((height : ℤ) × CellsTo r above (length r.cells) height) → ((length above + 1 ≡ length r.own) ⊎ (length above + 1 ≡ length r.own → ⊥))
        → (height : ℤ) × IsLowest r above height
    from h (inl is) = (
      int_max h.0 (r.total.0 -ℤ sum_of above),
      whole h.0 _ h.1 (record {
        up = omega (arith, ints, clamps);
        total = λ e. omega (arith, ints, clamps);
        least = λ u le enough. let t = enough is in omega (arith, ints, clamps, le, t);
      }),
    )
    from h (inr other) = (h.0, whole h.0 h.0 h.1 (record { up = omega (arith, ints); total = λ e. absurd (other e); least = λ u le enough. le }))

-- what is known of a need
pub need_fits : (r : RowsIn) (above : List Unit) (needs : List Need) (n : ℕ) (d : Need) → RowsFit r
    → NeedsTo r.cells (length r.cells) (length above) needs → n < length needs → (1 ≤ (get_or needs n d).span) × IsWithinPower 64 (get_or needs n d).room
need_fits r above needs n d fits to lt =
    let h = (to.only (get_or needs n d) (Contains-get_or needs n d lt)).1 in
    let cell = fits.cells h.0 h.1 (slice_get_within r.cells h.0 h.1 h.2) in
    let some = subst (λ (x : RowCell). 1 ≤ x.span) (get_or_from_slice_get r.cells h.0 h.1 h.1 h.2) cell.some in
    let span = h.3.span in
    (omega (arith, some, span), h.3.within)

in_range : (all : List (List Need)) (row : ℕ) (d : List Need) → row < length all → get_or all row d ≡ get_or all row []
in_range all row d less = let a = slice_get-get_or all row d less in let b = slice_get-get_or all row [] less in cc (a, b)

-- the needs of the row below these
pub needs_below : (cells items : List RowCell) (rows row : ℕ) (all : List (List Need)) (needs d : List Need) (above heights : List Unit)
    → items ≡ cells → AllNeedsTo items (length items) rows all → row < rows
    → needs ≡ get_or all row d → above ≡ heights → length heights ≡ row → NeedsTo cells (length cells) (length above) needs
needs_below cells items rows row all needs d above heights e to less here a n =
    subst (λ (m : ℕ). NeedsTo cells (length cells) m needs) (sym (ap length a ∙ n))
    (subst (λ (xs : List Need). NeedsTo cells (length cells) row xs) (sym (here ∙ in_range all row d (let m = to.as_many in omega (arith, m, less))))
    (subst (λ (cs : List RowCell). NeedsTo cs (length cs) row (get_or all row [])) e (to.each row less)))

-- so many rows more have heights
pub heights_go_on : (r : RowsIn) (above : List Unit) (more : ℕ) → (heights : List Unit) × (length heights ≡ more) × AreLowest r above heights
heights_go_on r above zero = ([], refl, tt)
heights_go_on r above (suc more) =
    let h = lowest_exists r above in
    let height : Unit = record { 0 = h.0 } in
    let rest = heights_go_on r (above ++ height ∷ []) more in
    let n = rest.1 in
    (height ∷ rest.0, omega (arith, n), (h.1, rest.2))

-- heights after heights
lowest_append : (r : RowsIn) (above xs ys : List Unit) → AreLowest r above xs → AreLowest r (above ++ xs) ys → AreLowest r above (xs ++ ys)
lowest_append r above [] ys p q = subst (λ (a : List Unit). AreLowest r a ys) (append-nil above) q
lowest_append r above (x ∷ xs) ys p q = (
  p.0,
  lowest_append r (above ++ x ∷ []) xs ys p.1
      (subst (λ (a : List Unit). AreLowest r a ys) (sym (append_assoc above (x ∷ []) xs)) q),
)

-- so each of the heights is a position
pub height_fits : (r : RowsIn) (above : List Unit) (height : ℤ) → RowsFit r → AreLowest r [] above → IsLowest r above height
    → length above < length r.own → IsPosition height
height_fits r above height fits low here less = at
  where
    unit : Unit
    unit = record { 0 = height }

    to : AreLowest r [] (above ++ unit ∷ [])
    to = lowest_more r [] above unit low here

    rest : (heights : List Unit) × (length heights ≡ length r.own - (length above + 1)) × AreLowest r (above ++ unit ∷ []) heights
    rest = heights_go_on r (above ++ unit ∷ []) (length r.own - (length above + 1))

    all : AreHeights r ((above ++ unit ∷ []) ++ rest.0)
    all = record {
      as_many = let m = length-append (above ++ unit ∷ []) rest.0 in let n = length_push above unit in let o = rest.1 in omega (arith, m, n, o, less);
      lowest = lowest_append r [] (above ++ unit ∷ []) rest.0 to rest.2;
    }

    found : get_or ((above ++ unit ∷ []) ++ rest.0) (length above) unit ≡ unit
    found = get_or_append_left (above ++ unit ∷ []) rest.0 unit (length above) (let n = length_push above unit in omega (arith, n)) ∙ get_or_push
        above unit unit (length above) refl

    at : IsPosition height
    at = subst (λ (u : Unit). IsPosition u.0) found (fits.heights _ all (length above) unit (let m = all.as_many in omega (arith, m, less)))
