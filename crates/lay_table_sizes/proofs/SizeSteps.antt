-- Used sizes of boxes that are within their bounds, box by box.
use Rattle.std.proofs.Common.{◌≡◌, ℕ, zero, suc, ◌+◌, ◌<◌, ◌==◌, pos, true, List, [], ◌∷◌, ◌++◌, length, length-append, drop, slice_get, Some, ◌+ℤ◌, ◌-ℤ◌, append_assoc, arith, inl, inr, refl, ap, sym, ◌∙◌}
use Rattle.std.specs.List.{All}
use Rattle.std.proofs.lemmas.Bool.{cases_lt}
use Rattle.std.proofs.lemmas.List.Elements.{All-append, All-cons, All-nil}
use Rattle.std.proofs.lemmas.Grind.{elements}
use Rattle.std.proofs.lemmas.Int.{ints}
use Rattle.lay_units.specs.Units.{IsUsed, IsUsedSize}
use Rattle.lay_units.specs.declared.length.Unit.{Unit as Length}
use Rattle.lay_units.specs.declared.records.Sides.{Sides}
use Rattle.lay_style.specs.declared.style.Style.{Style}
use Rattle.lay_widths.specs.declared.widths.BlockOut.{BlockOut}
use Rattle.lay_sizes.specs.BoxSizes.{widths_beside}
use Rattle.lay_sizes.specs.SizeBounds.{IsInset, SizeFits}
use Rattle.lay_sizes.specs.SizeColumns.{HaveSizeBounds, sizes_at}
use Rattle.lay_sizes.specs.declared.sizing.BoxSizes.{BoxSizes}
use Rattle.lay_table_sizes.proofs.Cited.{held_fit, size_is_used, WidthsFit}
use Rattle.lay_table_sizes.specs.CellSizes.{content_width}
use Rattle.lay_table_sizes.specs.TableSizes.{AreWrapperWidths, held, held_width, sizes_of_box, wrapper_block}
use Rattle.lay_table_sizes.specs.declared.cell_size.CellSize.{CellSize}
use Rattle.lay_table_sizes.specs.declared.table_rule.TableRule.{TableRule}
use Rattle.lay_table_sizes.specs.declared.table_rule.TableRule.TheVariants.{Block, ShrinkToFit}
use Rattle.lay_table_sizes.proofs.CellSteps.{drop_step}

pub zero_is_used : IsUsed (pos 0)
zero_is_used = (omega (arith, ints), omega (arith, ints))

pub zero_is_inset : IsInset (pos 0)
zero_is_inset = (omega (arith, ints), omega (arith, ints))

pub widths_fit : (rule : TableRule) (containing : Length) (s : Style) (width : Length) (out : BlockOut) → AreWrapperWidths rule containing s width out → WidthsFit out
widths_fit Block containing s width out is = held_fit is.used out is.held
widths_fit ShrinkToFit containing s width out is = held_fit (widths_beside (wrapper_block containing s width) width.0) out is

-- the boxes before n have these sizes
pub record SizesTo (place : ℕ) (wrapper table : BoxSizes) (sizes : List BoxSizes) (n : ℕ) : Type 0 where
  pub count : length sizes ≡ n
  pub each : (k : ℕ) → k < n → sizes_at sizes k ≡ sizes_of_box place wrapper table k
  pub bounds : HaveSizeBounds sizes

pub read_before : (sizes : List BoxSizes) (z : BoxSizes) (k : ℕ) → k < length sizes → sizes_at (sizes ++ z ∷ []) k ≡ sizes_at sizes k
read_before sizes z k lt = grind (arith, elements)

pub read_last : (sizes : List BoxSizes) (z : BoxSizes) (k : ℕ) → k ≡ length sizes → sizes_at (sizes ++ z ∷ []) k ≡ z
read_last sizes z k e = grind (arith, elements)

pub one_more : (place : ℕ) (wrapper table : BoxSizes) (sizes : List BoxSizes) (n : ℕ) (z : BoxSizes) → SizesTo place wrapper table sizes n → z ≡ sizes_of_box place wrapper table n → SizeFits z
    → SizesTo place wrapper table (sizes ++ z ∷ []) (n + 1)
one_more place wrapper table sizes n z so_far is fits = record {
  count = grind (arith, elements, so_far.count);
  each = λ k lt. elim (cases_lt k n) [
    | inl low ↦ read_before sizes z k (omega (arith, so_far.count)) ∙ so_far.each k low
    | inr high ↦ (let q : k ≡ n = omega arith in rw q (read_last sizes z n (sym so_far.count) ∙ is))
  ];
  bounds = λ k lt. elim (cases_lt k n) [
    | inl low ↦ (let r = read_before sizes z k (omega (arith, so_far.count)) in rw r (so_far.bounds k (omega (arith, so_far.count))))
    | inr high ↦ (let counted = length-append sizes (z ∷ []) in
        let q : k ≡ length sizes = omega (arith, counted, so_far.count) in let r = read_last sizes z k q in rw r fits)
  ];
}

-- a box that isn't the first
pub sizes_later : (place : ℕ) (wrapper table : BoxSizes) (k : ℕ) → k ≡ place → (k ≡ 0 → ⊥) → sizes_of_box place wrapper table k ≡ table
sizes_later place wrapper table zero e not = absurd (not refl)
sizes_later place wrapper table (suc k) e not = let yes : (suc k == place) ≡ true = grind (arith, e) in rw yes refl

pub content_is_used : (cell : CellSize) (insets : Sides) → IsUsedSize (content_width cell insets)
content_is_used cell insets = size_is_used (cell.width.0 -ℤ (insets.left.0 +ℤ insets.right.0))

-- the columns before k are held
pub held_step : (used widths : List Length) (k : ℕ) (w : Length) → slice_get widths k ≡ Some w → used ++ held (drop k widths) ≡ held widths
    → (used ++ held_width w ∷ []) ++ held (drop (k + 1) widths) ≡ held widths
held_step used widths k w at so_far =
    let d = drop_step widths k w at in
    let all : used ++ held_width w ∷ held (drop (k + 1) widths) ≡ held widths = rw d at so_far in
    append_assoc used (held_width w ∷ []) (held (drop (k + 1) widths)) ∙ all

abbrev IsUsedWidth : Length → Type 0
IsUsedWidth width = IsUsedSize width.0

pub used_step : (used : List Length) (w : Length) → All IsUsedWidth used → IsUsedSize w.0 → All IsUsedWidth (used ++ w ∷ [])
used_step used w so_far is = All-append IsUsedWidth used (w ∷ []) so_far (All-cons IsUsedWidth w [] is (All-nil IsUsedWidth))

pub held_count : (widths : List Length) → length (held widths) ≡ length widths
held_count [] = refl
held_count (w ∷ widths) = ap suc (held_count widths)
