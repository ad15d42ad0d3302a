-- The widths that columns are given, and what is known of them.
use Rattle.std.proofs.Common.{◌≡◌, ℕ, zero, suc, ◌+◌, ◌<◌, List, ◌++◌, [], ◌∷◌, length, length-append, slice_get, Option, None, refl, sym, ap, ◌∙◌, arith, inl, inr}
use Rattle.std.proofs.lemmas.Bool.{cases_lt}
use Rattle.std.proofs.lemmas.Grind.{elements}
use Rattle.lay_units.specs.declared.length.Unit.{Unit as Length}
use Rattle.lay_units.specs.Lengths.{no_length}
use Rattle.lay_box_tree.specs.declared.box_tree.BoxNode.{BoxNode}
use Rattle.lay_measure.specs.declared.preferred_widths.PreferredWidths.{PreferredWidths}
use Rattle.lay_grid.specs.Columns.{AreColumns, AreOwn}
use Rattle.lay_grid.specs.Shares.{own_at}
use Rattle.lay_table_grid.specs.TableGrid.{TableGridValue}
use Rattle.lay_table_sizes.specs.ColumnWidths.{columns_in, element_widths, left_for_columns, width_by_place}
use Rattle.lay_table_sizes.specs.PreferredWidths.{AreColumnWidths, content_widths, own_or, widths_at}

pub element_widths_count : (table : Option Length) (boxes : List BoxNode) (places : List ℕ) (n : ℕ) → length (element_widths table boxes places n) ≡ n
element_widths_count table boxes places zero = refl
element_widths_count table boxes places (suc n) =
    let counted = length-append (element_widths table boxes places n) (width_by_place table boxes (slice_get places n) ∷ []) in
    let before = element_widths_count table boxes places n in
    omega (arith, counted, before)

-- the columns before n have their own widths, or those of what is in their cells
pub record ColumnsTo (owns : List (Option Length)) (contents : List PreferredWidths) (n : ℕ) (widths : List PreferredWidths) : Type 0 where
  pub count : length widths ≡ n
  pub each : (i : ℕ) → i < n → widths_at widths i ≡ own_or (own_at owns i) (widths_at contents i)

read_before : (widths : List PreferredWidths) (w : PreferredWidths) (k : ℕ) → k < length widths → widths_at (widths ++ w ∷ []) k ≡ widths_at widths k
read_before widths w k lt = grind (arith, elements)

read_last : (widths : List PreferredWidths) (w : PreferredWidths) (k : ℕ) → k ≡ length widths → widths_at (widths ++ w ∷ []) k ≡ w
read_last widths w k e = grind (arith, elements)

pub columns_step : (owns : List (Option Length)) (contents : List PreferredWidths) (n : ℕ) (widths : List PreferredWidths) (w : PreferredWidths)
    → ColumnsTo owns contents n widths → w ≡ own_or (own_at owns n) (widths_at contents n) → ColumnsTo owns contents (n + 1) (widths ++ w ∷ [])
columns_step owns contents n widths w so_far is = record {
  count = grind (arith, elements, so_far.count);
  each = λ i lt. elim (cases_lt i n) [
    | inl low ↦ read_before widths w i (omega (arith, so_far.count)) ∙ so_far.each i low
    | inr high ↦ (let q : i ≡ n = omega arith in rw q (read_last widths w n (sym so_far.count) ∙ is))
  ];
}

-- and so all of them
pub all_columns : (boxes : List BoxNode) (inner : List PreferredWidths) (g : TableGridValue) (owns : List (Option Length)) (contents widths : List PreferredWidths)
    → AreOwn (columns_in None boxes g no_length) owns → length contents ≡ g.columns → ((i : ℕ) → i < g.columns → widths_at contents i ≡ content_widths boxes inner g.cells i)
    → ColumnsTo owns contents (length contents) widths → AreColumnWidths boxes inner g widths
all_columns boxes inner g owns contents widths are count each all = record {
  owns = owns;
  are_own = are;
  count = all.count ∙ count;
  each = λ i lt. all.each i (omega (arith, count, lt)) ∙ ap (own_or (own_at owns i)) (each i lt);
}

-- each column has a width
pub columns_count : (table : Option Length) (boxes : List BoxNode) (g : TableGridValue) (wanted : Length) (widths : List Length) → AreColumns (columns_in table boxes g wanted) widths → length widths ≡ g.columns
columns_count table boxes g wanted widths are = are.shared.as_many ∙ are.own.as_many ∙ element_widths_count (left_for_columns g table) boxes g.column_boxes g.columns
