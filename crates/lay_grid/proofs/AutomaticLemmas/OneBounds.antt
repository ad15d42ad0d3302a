-- Columns have one list of bounds.
use Rattle.std.proofs.Common.{◌≡◌, ℤ, pos, Option, List, [], ◌∷◌, refl, sym, ◌∙◌, subst, arith}
use Rattle.std.proofs.lemmas.List.{ext_get_or}
use Rattle.lay_units.specs.declared.length.Unit.{Unit}
use Rattle.lay_grid.specs.declared.automatic.bounds.Bound.{Bound}
use Rattle.lay_grid.specs.declared.automatic.bounds.GroupSpan.{GroupSpan}
use Rattle.lay_grid.specs.Automatic.Own.{AreOwn}
use Rattle.lay_grid.specs.Automatic.Spread.{AreWidened, IsWidened}
use Rattle.lay_grid.specs.Automatic.Bounds.{ArePaired, AreWidths}
use Rattle.lay_grid.specs.Automatic.Laws.{OneListOfBounds}
use Rattle.lay_grid.proofs.AutomaticLemmas.Sums.{same_widths, unit_same}

own_same : (given : List (Option Unit)) (cells : List GroupSpan) (v w : List Unit) → AreOwn given cells v → AreOwn given cells w → v ≡ w
own_same given cells v w p q =
    let a = p.as_many in
    same_widths v w (p.as_many ∙ sym q.as_many) (λ i less. p.own i (omega (arith, a, less)) ∙ sym (q.own i (omega (arith, a, less))))

one_widened : (spacing : ℤ) (cell : GroupSpan) (before v w : List Unit) → IsWidened spacing cell before v → IsWidened spacing cell before w → v ≡ w
one_widened spacing cell before v w p q =
    let a = p.as_many in
    same_widths v w (p.as_many ∙ sym q.as_many) (λ i less. p.each i (omega (arith, a, less)) ∙ sym (q.each i (omega (arith, a, less))))

widened_same : (spacing : ℤ) (cells : List GroupSpan) (before v w : List Unit) → AreWidened spacing cells before v → AreWidened spacing cells before w → v ≡ w
widened_same spacing [] before v w p q = sym p ∙ q
widened_same spacing (cell ∷ cells) before v w p q =
    let e = one_widened spacing cell before p.0 q.0 p.1 q.1 in
    widened_same spacing cells q.0 v w (subst (λ (ws : List Unit). AreWidened spacing cells ws v) e p.2) q.2

widths_same : (given : List (Option Unit)) (spacing : ℤ) (cells groups : List GroupSpan) (v w : List Unit)
    → AreWidths given spacing cells groups v → AreWidths given spacing cells groups w → v ≡ w
widths_same given spacing cells groups v w p q =
    let a = own_same given cells p.own q.own p.are_own q.are_own in
    let b = widened_same spacing cells q.own p.by_cells q.by_cells
    (subst (λ (ws : List Unit). AreWidened spacing cells ws p.by_cells) a p.after_cells) q.after_cells in
    widened_same spacing groups q.by_cells v w (subst (λ (ws : List Unit). AreWidened spacing groups ws v) b p.after_groups) q.after_groups

abbrev bound_of : Unit → Unit → Bound
bound_of min max = record { min = min; max = max }

bound_same : (x y : Bound) → x.min.0 ≡ y.min.0 → x.max.0 ≡ y.max.0 → x ≡ y
bound_same x y e f =
    let a = unit_same x.min y.min e in let b = unit_same x.max y.max f in
    let h : bound_of x.min x.max ≡ bound_of y.min y.max = rw (a, b) refl in h

paired_same : (minimums maximums : List Unit) (v w : List Bound) → ArePaired minimums maximums v → ArePaired minimums maximums w → v ≡ w
paired_same minimums maximums v w p q =
    let a = p.as_many in
    ext_get_or (record { min = record { 0 = pos 0 }; max = record { 0 = pos 0 } }) v w (p.as_many ∙ sym q.as_many) (λ i less. bound_same _ _
    (p.min i (omega (arith, a, less)) ∙ sym (q.min i (omega (arith, a, less))))
    (p.max i (omega (arith, a, less)) ∙ sym (q.max i (omega (arith, a, less)))))

pub one_list_of_bounds_lem : OneListOfBounds
one_list_of_bounds_lem i v w p q =
    let a = widths_same _ _ _ _ _ _ p.narrow q.narrow in
    let b = widths_same _ _ _ _ _ _ p.wide q.wide in
    paired_same q.minimums q.maximums v w (subst (λ (ws : List Unit). ArePaired q.minimums ws v) b
    (subst (λ (ws : List Unit). ArePaired ws p.maximums v) a p.paired)) q.paired
