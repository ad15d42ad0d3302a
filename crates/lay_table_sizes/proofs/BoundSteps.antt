-- What columns are asked for by cells and groups, one after another; all of it is sizes.
use Rattle.std.proofs.Common.{◌≡◌, ℕ, zero, suc, ◌+◌, ◌^◌, ◌<◌, ◌≤◌, ◌==◌, Bool, true, false, Option, None, Some, List, [], ◌∷◌, ◌++◌, map, drop, length, length-append, slice_get, if◌then◌else◌, append_assoc, append-nil, refl, sym, ap, subst, ◌∙◌, arith}
use Rattle.std.specs.List.{All}
use Rattle.std.proofs.lemmas.Int.{ints}
use Rattle.std.proofs.lemmas.List.{length-map}
use Rattle.std.proofs.lemmas.List.Elements.{All-append, All-cons, All-nil}
use Rattle.lay_table_sizes.proofs.Cited.{size_is_used}
use Rattle.lay_units.specs.declared.length.Unit.{Unit as Length}
use Rattle.lay_style.specs.declared.style.Style.{Style}
use Rattle.lay_style.specs.declared.style_lengths.LengthPercentageOrAuto.{LengthPercentageOrAuto}
use Rattle.lay_style.specs.declared.style_lengths.LengthPercentageOrAuto.TheVariants as or_auto
use Rattle.lay_box_tree.specs.declared.box_tree.BoxKind.{BoxKind}
use Rattle.lay_box_tree.specs.declared.box_tree.BoxKind.TheVariants as kind
use Rattle.lay_box_tree.specs.declared.box_tree.BoxNode.{BoxNode}
use Rattle.lay_measure.specs.declared.preferred_widths.PreferredWidths.{PreferredWidths}
use Rattle.lay_grid.specs.Automatic.Fit.{BoundsFit, CellFits, SpanFits}
use Rattle.lay_grid.specs.Automatic.Sizes.{MayBeSize}
use Rattle.lay_grid.specs.declared.automatic.bounds.GroupSpan.{GroupSpan}
use Rattle.lay_table_grid.specs.GridBounds.{TableGridFits}
use Rattle.lay_table_grid.specs.MeetingBorders.{around_column}
use Rattle.lay_table_grid.specs.TableGrid.{TableGridValue}
use Rattle.lay_table_sizes.specs.CellBounds.{span_cells}
use Rattle.lay_table_sizes.specs.ColumnBounds.{bounds_in}
use Rattle.lay_table_sizes.specs.GivenWidths.{column_width_by, column_width_of, column_widths, group_width_by, group_width_of, length_or_none, width_at_place}
use Rattle.lay_table_sizes.specs.GroupWidths.{goes_on, group_spans, run_of, span_at, span_with, spans_from}

drop_step : {A : Type 0} (xs : List A) (k : ℕ) (x : A) → slice_get xs k ≡ Some x → drop k xs ≡ x ∷ drop (k + 1) xs
drop_step [] k x is = absurd cc
drop_step (y ∷ ys) zero x is = let e : y ≡ x = cc in ap (λ z. z ∷ ys) e
drop_step (y ∷ ys) (suc k) x is = let e : suc k + 1 ≡ suc (k + 1) = omega arith in rw e (drop_step ys k x is)

pub mapped_step : {A B : Type 0} (f : A → B) (done : List B) (all : List A) (k : ℕ) (x : A) → slice_get all k ≡ Some x → done ++ map f (drop k all) ≡ map f all
    → (done ++ f x ∷ []) ++ map f (drop (k + 1) all) ≡ map f all
mapped_step f done all k x at so_far =
    let d = drop_step all k x at in
    let whole : done ++ f x ∷ map f (drop (k + 1) all) ≡ map f all = rw d at so_far in
    append_assoc done (f x ∷ []) (map f (drop (k + 1) all)) ∙ whole

-- one more column
pub span_step : (boxes : List BoxNode) (k : ℕ) (before : Option ℕ) (groups : List ℕ) (group : ℕ) (spans new all : List GroupSpan) → slice_get groups k ≡ Some group
    → spans ++ spans_from boxes k before (drop k groups) ≡ all → new ≡ spans ++ span_at boxes k before group (drop k groups)
    → new ++ spans_from boxes (k + 1) (Some group) (drop (k + 1) groups) ≡ all
span_step boxes k before groups group spans new all at so_far is =
    let d = drop_step groups k group at in
    let whole : spans ++ (span_at boxes k before group (group ∷ drop (k + 1) groups) ++ spans_from boxes (k + 1) (Some group) (drop (k + 1) groups)) ≡ all = rw d at so_far in
    let now : new ≡ spans ++ span_at boxes k before group (group ∷ drop (k + 1) groups) = rw d at is in
    rw now (append_assoc spans (span_at boxes k before group (group ∷ drop (k + 1) groups)) (spans_from boxes (k + 1) (Some group) (drop (k + 1) groups)) ∙ whole)

-- no group begins where one goes on
pub span_none : (boxes : List BoxNode) (k : ℕ) (before : Option ℕ) (group : ℕ) (groups : List ℕ) (spans : List GroupSpan) → goes_on before group ≡ true
    → spans ≡ spans ++ span_at boxes k before group groups
span_none boxes k before group groups spans goes = rw goes (sym (append-nil spans))

pub span_one : (boxes : List BoxNode) (k : ℕ) (before : Option ℕ) (group n : ℕ) (groups : List ℕ) (spans new : List GroupSpan) → goes_on before group ≡ false
    → n ≡ run_of group groups → new ≡ spans ++ span_with (group_width_of (slice_get boxes group)) k n → new ≡ spans ++ span_at boxes k before group groups
span_one boxes k before group n groups spans new goes run is = let there = rw run at is in rw goes there

-- a run goes on, or ends
pub run_more : (groups : List ℕ) (k group : ℕ) (g : ℕ) → slice_get groups k ≡ Some g → g ≡ group → run_of group (drop k groups) ≡ suc (run_of group (drop (k + 1) groups))
run_more groups k group g at e = let d = drop_step groups k g at in let same : (g == group) ≡ true = grind (arith, e) in rw (d, same) refl

pub run_ends : (groups : List ℕ) (k group : ℕ) (g : ℕ) → slice_get groups k ≡ Some g → (g ≡ group → ⊥) → run_of group (drop k groups) ≡ 0
run_ends groups k group g at differ = let d = drop_step groups k g at in let other : (g == group) ≡ false = grind (arith, differ) in rw (d, other) refl

pub nothing_left : (group : ℕ) (groups : List ℕ) (k : ℕ) → length groups ≤ k → run_of group (drop k groups) ≡ 0
nothing_left group [] zero past = refl
nothing_left group [] (suc k) past = refl
nothing_left group (g ∷ groups) zero past = absurd (omega (arith, past))
nothing_left group (g ∷ groups) (suc k) past = nothing_left group groups k (omega (arith, past))

run_most : (group : ℕ) (groups : List ℕ) → run_of group groups ≤ length groups
run_most group [] = omega arith
run_most group (g ∷ groups) = by (g == group) (run_most group groups)
  where
    by : (b : Bool) → run_of group groups ≤ length groups → (if b then suc (run_of group groups) else 0) ≤ suc (length groups)
    by true rest = omega (arith, rest)
    by false rest = omega arith

-- given widths are sizes
length_is : (width : LengthPercentageOrAuto) → MayBeSize (length_or_none width)
length_is or_auto.Auto = tt
length_is (or_auto.Length u) = let is = size_is_used u.0 in let low = is.0 in let high = is.1 in (omega (arith, ints, low), omega (arith, ints, high))
length_is (or_auto.Percent h) = tt

column_is : (k : BoxKind) (s : Style) → MayBeSize (column_width_by k s)
column_is (kind.Column span) s = length_is s.sizing.width
column_is _ s = tt

group_is : (k : BoxKind) (s : Style) → MayBeSize (group_width_by k s)
group_is (kind.ColumnGroup span) s = length_is s.sizing.width
group_is _ s = tt

column_of_is : (b : Option BoxNode) → MayBeSize (column_width_of b)
column_of_is None = tt
column_of_is (Some b) = column_is b.kind b.style

place_is : (boxes : List BoxNode) (place : Option ℕ) → MayBeSize (width_at_place boxes place)
place_is boxes None = tt
place_is boxes (Some place) = column_of_is (slice_get boxes place)

columns_are : (boxes : List BoxNode) (places : List ℕ) (n : ℕ) → All MayBeSize (column_widths boxes places n)
columns_are boxes places zero = All-nil MayBeSize
columns_are boxes places (suc n) =
    All-append MayBeSize (column_widths boxes places n) (width_at_place boxes (slice_get places n) ∷ []) (columns_are boxes places n)
    (All-cons MayBeSize (width_at_place boxes (slice_get places n)) [] (place_is boxes (slice_get places n)) (All-nil MayBeSize))

columns_count : (boxes : List BoxNode) (places : List ℕ) (n : ℕ) → length (column_widths boxes places n) ≡ n
columns_count boxes places zero = refl
columns_count boxes places (suc n) =
    let counted = length-append (column_widths boxes places n) (width_at_place boxes (slice_get places n) ∷ []) in
    let before = columns_count boxes places n in
    omega (arith, counted, before)

group_of_is : (b : Option BoxNode) → MayBeSize (group_width_of b)
group_of_is None = tt
group_of_is (Some b) = group_is b.kind b.style

span_with_fits : (columns column span : ℕ) (width : Option Length) → MayBeSize width → 1 ≤ span → column + span ≤ columns → All (SpanFits columns) (span_with width column span)
span_with_fits columns column span None is some inside = All-nil (SpanFits columns)
span_with_fits columns column span (Some width) is some inside = All-cons (SpanFits columns) _ [] (record { some = some; inside = inside; width = is }) (All-nil (SpanFits columns))

spans_fit : (boxes : List BoxNode) (columns column : ℕ) (before : Option ℕ) (groups : List ℕ) → column + length groups ≤ columns → All (SpanFits columns) (spans_from boxes column before groups)
spans_fit boxes columns column before [] inside = All-nil (SpanFits columns)
spans_fit boxes columns column before (group ∷ groups) inside =
    All-append (SpanFits columns) (span_at boxes column before group (group ∷ groups)) (spans_from boxes (column + 1) (Some group) groups)
    (by (goes_on before group)) (spans_fit boxes columns (column + 1) (Some group) groups (omega (arith, inside)))
  where
    run : run_of group (group ∷ groups) ≡ suc (run_of group groups)
    run = let same : (group == group) ≡ true = grind arith in rw same refl

    by : (b : Bool) → All (SpanFits columns) (if b then [] else span_with (group_width_of (slice_get boxes group)) column (run_of group (group ∷ groups)))
    by true = All-nil (SpanFits columns)
    by false =
        let few = run_most group groups in
        span_with_fits columns column (run_of group (group ∷ groups)) (group_width_of (slice_get boxes group)) (group_of_is (slice_get boxes group)) (omega (arith, run)) (omega (arith, run, few, inside))

-- all of it is what the bounds of columns can be asked of
pub bounds_fit : (boxes : List BoxNode) (inner : List PreferredWidths) (g : TableGridValue) → TableGridFits g → g.columns < 2 ^ 32 → All (CellFits g.columns) (span_cells boxes inner g.cells)
    → BoundsFit (bounds_in boxes inner g)
bounds_fit boxes inner g fits few cells =
    let counted = columns_count boxes g.column_boxes g.columns in
    let across = fits.spacing.across in
    let low = across.0 in let high = across.1 in
    let boxed = fits.column_boxes in
    let mapped = length-map g.column_boxes (around_column boxes) in
    record {
      few = omega (arith, counted, few);
      given = columns_are boxes g.column_boxes g.columns;
      cells = subst (λ (n : ℕ). All (CellFits n) (span_cells boxes inner g.cells)) (sym counted) cells;
      groups = subst (λ (n : ℕ). All (SpanFits n) (group_spans boxes g.column_boxes)) (sym counted)
          (spans_fit boxes g.columns 0 None (map (around_column boxes) g.column_boxes) (omega (arith, mapped, boxed)));
      spacing = (omega (arith, ints, low), omega (arith, ints, high));
    }
