-- Where borders collapse, a cell and the table box have one set of borders each.
use Rattle.std.proofs.Common.{◌≡◌, ◌⊎◌, inl, inr, ℕ, zero, suc, ◌<◌, ℤ, length, refl, sym, ◌∙◌, arith}
use Rattle.lay_units.specs.declared.records.Sides.{Sides}
use Rattle.lay_table_grid.specs.TableParts.{TableParts}
use Rattle.lay_table_grid.specs.Laws.{OneCellBorders, OneTableBorders}
use Rattle.lay_table_grid.specs.TableBorders.{AreOuterHalves}
use Rattle.lay_table_grid.proofs.WidestEdges.{half_same}

abbrev sides_of : ℤ → ℤ → ℤ → ℤ → Sides
sides_of top right bottom left = record { top = record { 0 = top }; right = record { 0 = right }; bottom = record { 0 = bottom }; left = record { 0 = left } }

sides_same : (v w : Sides) → v.top.0 ≡ w.top.0 → v.right.0 ≡ w.right.0 → v.bottom.0 ≡ w.bottom.0 → v.left.0 ≡ w.left.0 → v ≡ w
sides_same v w t r b l =
    let e : sides_of v.top.0 v.right.0 v.bottom.0 v.left.0 ≡ sides_of w.top.0 w.right.0 w.bottom.0 w.left.0 = rw (t, r, b, l) refl in e

pub one_cell_borders_lem : OneCellBorders
one_cell_borders_lem p a v w x y =
    sides_same v w (half_same _ _ _ _ _ x.top y.top) (half_same _ _ _ _ _ x.right y.right) (half_same _ _ _ _ _ x.bottom y.bottom) (half_same _ _ _ _ _ x.left y.left)

outer_same : (p : TableParts) (v w : Sides) → AreOuterHalves p v → AreOuterHalves p w → v ≡ w
outer_same p v w x y =
    sides_same v w (half_same _ _ _ _ _ x.top y.top) (half_same _ _ _ _ _ x.right y.right) (half_same _ _ _ _ _ x.bottom y.bottom) (half_same _ _ _ _ _ x.left y.left)

some_or_zero : (n : ℕ) → (0 < n) ⊎ (n ≡ 0)
some_or_zero zero = inr refl
some_or_zero (suc n) = inl (omega arith)

pub one_table_borders_lem : OneTableBorders
one_table_borders_lem p v w x y = from (some_or_zero (length p.rows)) (some_or_zero p.columns)
  where
    from : ((0 < length p.rows) ⊎ (length p.rows ≡ 0)) → ((0 < p.columns) ⊎ (p.columns ≡ 0)) → v ≡ w
    from (inl rows) (inl columns) = outer_same p v w (x.some rows columns) (y.some rows columns)
    from (inr rows) c = x.none (inl rows) ∙ sym (y.none (inl rows))
    from (inl rows) (inr columns) = x.none (inr columns) ∙ sym (y.none (inr columns))
