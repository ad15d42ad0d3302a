-- A table has one pair of preferred widths, and one set of bounds.
use Rattle.std.proofs.Common.{◌≡◌, ℤ, Bool, true, false, List, Option, None, refl, sym, ap, subst, ◌∙◌, arith}
use Rattle.std.proofs.lemmas.List.{ext_get_or}
use Rattle.lay_units.specs.declared.length.Unit.{Unit as Length}
use Rattle.lay_box_tree.specs.declared.box_tree.BoxNode.{BoxNode}
use Rattle.lay_measure.specs.MeasureInValue.{no_widths}
use Rattle.lay_measure.specs.declared.preferred_widths.PreferredWidths.{PreferredWidths}
use Rattle.lay_grid.specs.Shares.{own_at}
use Rattle.lay_grid.specs.declared.automatic.bounds.Bound.{Bound}
use Rattle.lay_table_sizes.proofs.Cited.{one_list_of_bounds_lem}
use Rattle.lay_table_sizes.specs.ColumnBounds.{bounds_in}
use Rattle.lay_table_sizes.specs.TableLayouts.{is_fixed}
use Rattle.lay_table_grid.specs.GridLaws.{OneTableGrid}
use Rattle.lay_table_grid.specs.TableGrid.{TableGridValue}
use Rattle.lay_table_sizes.specs.Laws.{OneTableWidths}
use Rattle.lay_table_sizes.specs.PreferredWidths.{AreColumnWidths, HasFixedWidths, content_widths, own_or}
use Rattle.lay_table_sizes.specs.TableBounds.{HasBounds, TableBoundsValue}
use Rattle.lay_table_sizes.specs.TableBoxes.{wrapper_style}
use Rattle.lay_table_sizes.specs.TableWidths.{HasAutoWidths, HasTableWidthsAs}
use Rattle.lay_table_sizes.proofs.ColumnSteps.{element_widths_count}

one_column_widths : (boxes : List BoxNode) (inner : List PreferredWidths) (g : TableGridValue) (v w : List PreferredWidths) → AreColumnWidths boxes inner g v → AreColumnWidths boxes inner g w → v ≡ w
one_column_widths boxes inner g v w p q =
    let count = p.count in
    let given = element_widths_count None boxes g.column_boxes g.columns in
    ext_get_or no_widths v w (p.count ∙ sym q.count) (λ i lt.
    let own : own_at p.owns i ≡ own_at q.owns i = p.are_own.own i (omega (arith, given, count, lt)) ∙ sym (q.are_own.own i (omega (arith, given, count, lt))) in
    p.each i (omega (arith, count, lt)) ∙ ap (λ (o : Option Length). own_or o (content_widths boxes inner g.cells i)) own ∙ sym (q.each i (omega (arith, count, lt))))

abbrev widths_of : Length → Length → PreferredWidths
widths_of minimum preferred = record { minimum = minimum; preferred = preferred }

one_fixed : OneTableGrid → (boxes : List BoxNode) (inner : List PreferredWidths) (v w : PreferredWidths) → HasFixedWidths boxes inner v → HasFixedWidths boxes inner w → v ≡ w
one_fixed one_grid boxes inner v w p q =
    let e : p.grid ≡ q.grid = one_grid boxes p.grid q.grid p.is_grid q.is_grid in
    let there : AreColumnWidths boxes inner q.grid p.columns = rw e at p.are_columns in
    let columns : p.columns ≡ q.columns = one_column_widths boxes inner q.grid p.columns q.columns there q.are_columns in
    let minimum : v.minimum ≡ w.minimum = p.minimum ∙ rw (e, columns) refl ∙ sym q.minimum in
    let preferred : v.preferred ≡ w.preferred = p.preferred ∙ rw (e, columns) refl ∙ sym q.preferred in
    let same : widths_of v.minimum v.preferred ≡ widths_of w.minimum w.preferred = rw (minimum, preferred) refl in
    same

abbrev bounds_of : List Bound → ℤ → TableBoundsValue
bounds_of columns captions = record { columns = columns; captions = record { 0 = captions } }

-- a table has one set of bounds
one_bounds : (boxes : List BoxNode) (inner : List PreferredWidths) (g : TableGridValue) (t u : TableBoundsValue) → HasBounds boxes inner g t → HasBounds boxes inner g u → t ≡ u
one_bounds boxes inner g t u p q =
    let columns : t.columns ≡ u.columns = one_list_of_bounds_lem (bounds_in boxes inner g) t.columns u.columns p.columns q.columns in
    let captions : t.captions.0 ≡ u.captions.0 = p.captions ∙ sym q.captions in
    let same : bounds_of t.columns t.captions.0 ≡ bounds_of u.columns u.captions.0 = rw (columns, captions) refl in
    same

one_auto : OneTableGrid → (boxes : List BoxNode) (inner : List PreferredWidths) (v w : PreferredWidths) (t u : TableBoundsValue) → HasAutoWidths boxes inner v t → HasAutoWidths boxes inner w u → (v ≡ w) × (t ≡ u)
one_auto one_grid boxes inner v w t u p q =
    let e : p.grid ≡ q.grid = one_grid boxes p.grid q.grid p.is_grid q.is_grid in
    let there : HasBounds boxes inner q.grid t = subst (λ (g : TableGridValue). HasBounds boxes inner g t) e p.bounds in
    let bounds : t ≡ u = one_bounds boxes inner q.grid t u there q.bounds in
    let minimum : v.minimum ≡ w.minimum = p.minimum ∙ rw (e, bounds) refl ∙ sym q.minimum in
    let preferred : v.preferred ≡ w.preferred = p.preferred ∙ rw (e, bounds) refl ∙ sym q.preferred in
    let same : widths_of v.minimum v.preferred ≡ widths_of w.minimum w.preferred = rw (minimum, preferred) refl in
    (same, bounds)

one_as : OneTableGrid → (fixed : Bool) (boxes : List BoxNode) (inner : List PreferredWidths) (v w : PreferredWidths) (t u : TableBoundsValue)
    → HasTableWidthsAs fixed boxes inner v t → HasTableWidthsAs fixed boxes inner w u → (v ≡ w) × (t ≡ u)
one_as one_grid true boxes inner v w t u p q = (one_fixed one_grid boxes inner v w p.0 q.0, p.1 ∙ sym q.1)
one_as one_grid false boxes inner v w t u p q = one_auto one_grid boxes inner v w t u p q

pub one_table_widths_lem : OneTableGrid → OneTableWidths
one_table_widths_lem one_grid boxes inner v w t u p q = one_as one_grid (is_fixed (wrapper_style boxes)) boxes inner v w t u p q
