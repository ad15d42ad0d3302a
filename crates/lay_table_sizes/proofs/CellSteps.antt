-- The sizes of cells and the widths of columns, gathered from the last cell on.
use Rattle.std.proofs.Common.{◌≡◌, ℕ, zero, suc, ◌+◌, ◌<◌, ◌≢◌, ◌==◌, ◌&&◌, Bool, true, false, Option, None, Some, List, [], ◌∷◌, drop, length, slice_get, slice_index_or, if◌then◌else◌, rules, refl, sym, ap, ◌∙◌, arith}
use Rattle.std.proofs.lemmas.Bool.{eqb-true}
use Rattle.lay_units.specs.declared.length.Unit.{Unit as Length}
use Rattle.lay_box_tree.specs.declared.box_tree.BoxNode.{BoxNode}
use Rattle.lay_measure.specs.declared.preferred_widths.PreferredWidths.{PreferredWidths}
use Rattle.lay_table_grid.specs.declared.grid.TableCell.{TableCell}
use Rattle.lay_table_sizes.specs.CellSizes.{cell_size, cell_size_at}
use Rattle.lay_table_sizes.specs.PreferredWidths.{cell_widths, content_widths, wider, widths_at}
use Rattle.lay_table_sizes.specs.declared.cell_size.CellSize.{CellSize}

pub drop_step : {A : Type 0} (xs : List A) (k : ℕ) (x : A) → slice_get xs k ≡ Some x → drop k xs ≡ x ∷ drop (k + 1) xs
drop_step [] k x is = absurd cc
drop_step (y ∷ ys) zero x is = let e : y ≡ x = cc in ap (λ z. z ∷ ys) e
drop_step (y ∷ ys) (suc k) x is = let e : suc k + 1 ≡ suc (k + 1) = omega arith in rw e (drop_step ys k x is)

-- the cells from j on have their sizes
pub record CellsFrom (spacing : Length) (columns : List Length) (cells : List TableCell) (count j : ℕ) (sizes : List (Option CellSize)) : Type 0 where
  pub as_many : length sizes ≡ count
  pub each : (k : ℕ) → k < count → slice_index_or sizes k None ≡ cell_size_at spacing columns (drop j cells) k

pub cells_step : (spacing : Length) (columns : List Length) (cells : List TableCell) (count j : ℕ) (old new : List (Option CellSize)) (c : TableCell) (size : CellSize)
    → CellsFrom spacing columns cells count (j + 1) old → slice_get cells j ≡ Some c → size ≡ cell_size spacing columns c → length new ≡ length old
    → (c.place < length old → slice_index_or new c.place None ≡ Some size) → ((k : ℕ) → k ≢ c.place → slice_index_or new k None ≡ slice_index_or old k None)
    → CellsFrom spacing columns cells count j new
cells_step spacing columns cells count j old new c size from at is as_many here others =
    let counted = from.as_many in
    record {
      as_many = as_many ∙ counted;
      each = λ k lt. let d = drop_step cells j c at in rw d (by k lt (c.place == k) refl (from.each k lt) (λ e. here (omega (arith, counted, lt, e))) (others k));
    }
  where
    by : (k : ℕ) → k < count → (b : Bool) → (c.place == k) ≡ b → slice_index_or old k None ≡ cell_size_at spacing columns (drop (j + 1) cells) k
        → (c.place ≡ k → slice_index_or new c.place None ≡ Some size) → (k ≢ c.place → slice_index_or new k None ≡ slice_index_or old k None)
        → slice_index_or new k None ≡ (if b then Some (cell_size spacing columns c) else cell_size_at spacing columns (drop (j + 1) cells) k)
    by k lt true e before there other =
        let same = eqb-true c.place k e in
        ap (λ (i : ℕ). slice_index_or new i None) (sym same) ∙ there same ∙ ap (λ (s : CellSize). Some s) is
    by k lt false e before there other = other (λ same. grind (rules, e, same)) ∙ before

-- the widths of columns by what is in the cells from j on
pub record WidthsFrom (boxes : List BoxNode) (inner : List PreferredWidths) (cells : List TableCell) (count j : ℕ) (widths : List PreferredWidths) : Type 0 where
  pub as_many : length widths ≡ count
  pub each : (i : ℕ) → i < count → widths_at widths i ≡ content_widths boxes inner (drop j cells) i

-- a cell over more columns than one gives none
pub widths_same : (boxes : List BoxNode) (inner : List PreferredWidths) (cells : List TableCell) (count j : ℕ) (widths : List PreferredWidths) (c : TableCell)
    → WidthsFrom boxes inner cells count (j + 1) widths → slice_get cells j ≡ Some c → (c.columns ≡ 1 → ⊥) → WidthsFrom boxes inner cells count j widths
widths_same boxes inner cells count j widths c from at more = record {
  as_many = from.as_many;
  each = λ i lt. let d = drop_step cells j c at in
      let no : ((c.column == i) && (c.columns == 1)) ≡ false = by (c.column == i) (c.columns == 1) refl in
      rw (d, no) (from.each i lt);
}
  where
    by : (a b : Bool) → (c.columns == 1) ≡ b → (a && b) ≡ false
    by false b e = refl
    by true false e = refl
    by true true e = absurd (more (eqb-true c.columns 1 e))

pub widths_step : (boxes : List BoxNode) (inner : List PreferredWidths) (cells : List TableCell) (count j : ℕ) (old new : List PreferredWidths) (c : TableCell) (w : PreferredWidths)
    → WidthsFrom boxes inner cells count (j + 1) old → slice_get cells j ≡ Some c → c.columns ≡ 1 → w ≡ cell_widths boxes inner c → length new ≡ length old
    → widths_at new c.column ≡ wider w (widths_at old c.column) → ((i : ℕ) → i ≢ c.column → widths_at new i ≡ widths_at old i)
    → WidthsFrom boxes inner cells count j new
widths_step boxes inner cells count j old new c w from at one is as_many here others = record {
  as_many = as_many ∙ from.as_many;
  each = λ i lt. let d = drop_step cells j c at in
      let alone : (c.columns == 1) ≡ true = grind (arith, one) in
      rw (d, alone) (by i (c.column == i) refl (from.each i lt) (others i));
}
  where
    by : (i : ℕ) (b : Bool) → (c.column == i) ≡ b → widths_at old i ≡ content_widths boxes inner (drop (j + 1) cells) i → (i ≢ c.column → widths_at new i ≡ widths_at old i)
        → widths_at new i ≡ (if b && true then wider (cell_widths boxes inner c) (content_widths boxes inner (drop (j + 1) cells) i) else content_widths boxes inner (drop (j + 1) cells) i)
    by i true e before other =
        let same = eqb-true c.column i e in
        ap (widths_at new) (sym same) ∙ here ∙ rw (is, same, before) refl
    by i false e before other = other (λ same. grind (rules, e, same)) ∙ before
