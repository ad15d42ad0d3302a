-- The used width of a table of the automatic layout is one, and what it comes to.
use Rattle.std.proofs.Common.{◌≡◌, ℤ, pos, ◌+ℤ◌, ◌-ℤ◌, ◌≤ℤ◌, Option, None, Some, refl, sym, ap, subst, ◌∙◌, arith}
use Rattle.std.specs.Int.{int_max, int_min}
use Rattle.std.proofs.lemmas.Int.{clamps, ints}
use Rattle.lay_units.specs.Units.{IsUsedSize, clamp_size_of}
use Rattle.lay_units.specs.declared.length.Unit.{Unit as Length}
use Rattle.lay_units.specs.declared.records.BlockIn.{BlockIn}
use Rattle.lay_units.specs.declared.records.Len.{Len}
use Rattle.lay_units.specs.declared.records.Len.TheVariants.{Auto as auto, Of as of}
use Rattle.lay_widths.specs.BlockWidths.{width_in}
use Rattle.lay_widths.specs.FloatWidths.{SolvesFloat, available_of, float_width_of}
use Rattle.lay_widths.specs.Lengths.{edges_of}
use Rattle.lay_widths.specs.MinMax.{AtMost}
use Rattle.lay_widths.specs.declared.widths.BlockOut.{BlockOut}
use Rattle.lay_widths.specs.declared.widths.UsedWidths.{UsedWidths}
use Rattle.lay_table_sizes.proofs.Cited.{one_float_width_lem}
use Rattle.lay_table_sizes.specs.AutoWidth.{IsAutoWidth}
use Rattle.lay_table_sizes.specs.CellBounds.{cell_edges, cell_minimum}
use Rattle.lay_table_sizes.specs.BoundLaws.{AutoTablesHaveRoom, AutoWidthsFitTheRoom, CellBoundsHaveOrder, GivenWidthsAreGreatest, IsUnbounded, OneAutoWidth}

abbrev length_of : ℤ → Length
length_of v = record { 0 = v }

pub one_auto_width_lem : OneAutoWidth
one_auto_width_lem b least greatest captions v w p q =
    let out : p.out ≡ q.out = one_float_width_lem b least greatest p.out q.out p.is_used q.is_used in
    let e : v.0 ≡ w.0 = p.width_is ∙ ap (λ (o : BlockOut). int_max o.width.0 (int_max least.0 (captions.0 -ℤ edges_of b))) out ∙ sym q.width_is in
    let same : length_of v.0 ≡ length_of w.0 = ap length_of e in
    same

greater : (a b : ℤ) → b ≤ℤ int_max a b
greater a b = omega (arith, ints, clamps)

pub cell_bounds_have_order_lem : CellBoundsHaveOrder
cell_bounds_have_order_lem borders s content = greater (content.preferred.0 +ℤ cell_edges borders s) (cell_minimum borders s content)

second : (a b c v : ℤ) → v ≡ int_max a (int_max b c) → b ≤ℤ v
second a b c v e = omega (arith, ints, clamps, e)

third : (a b c v : ℤ) → v ≡ int_max a (int_max b c) → c ≤ℤ v
third a b c v e = omega (arith, ints, clamps, e)

pub auto_tables_have_room_lem : AutoTablesHaveRoom
auto_tables_have_room_lem b least greatest captions width is = record {
  columns = second is.out.width.0 least.0 (captions.0 -ℤ edges_of b) width.0 is.width_is;
  captions_fit = third is.out.width.0 least.0 (captions.0 -ℤ edges_of b) width.0 is.width_is;
}

-- without bounds the width is what the rules give for the computed one
at_most : (Rules : Len → UsedWidths → Type 0) (max : Option Length) (before after : UsedWidths) → max ≡ None → AtMost width_in Rules max before after → after ≡ before
at_most Rules None before after e is = is
at_most Rules (Some max) before after e is = absurd cc

at_least : (v min : ℤ) → min ≡ pos 0 → pos 0 ≤ℤ v → min ≤ℤ v
at_least v min e low = omega (arith, ints, e, low)

abbrev computed_width : BlockIn → Length → Length → ℤ
computed_width b least greatest = float_width_of b least greatest b.width

unbounded : (b : BlockIn) (least greatest captions width : Length) → IsUnbounded b → pos 0 ≤ℤ computed_width b least greatest → (is : IsAutoWidth b least greatest captions width)
    → is.out.width.0 ≡ clamp_size_of (computed_width b least greatest)
unbounded b least greatest captions width free low is =
    let bounded = is.is_used.bounded in
    let first : bounded.tentative.width ≡ computed_width b least greatest = bounded.first.width in
    let narrowed : bounded.narrowed ≡ bounded.tentative = at_most (SolvesFloat b least greatest) b.max_width bounded.tentative bounded.narrowed free.max_width bounded.second in
    let n : bounded.narrowed.width ≡ computed_width b least greatest = ap (λ (u : UsedWidths). u.width) narrowed ∙ first in
    let used : is.is_used.used ≡ bounded.narrowed = bounded.third.1 (at_least bounded.narrowed.width b.min_width.0 free.min_width (subst (λ (v : ℤ). pos 0 ≤ℤ v) (sym n) low)) in
    is.is_used.held.width ∙ ap clamp_size_of (ap (λ (u : UsedWidths). u.width) used ∙ n)

held : (v : ℤ) → IsUsedSize v → clamp_size_of v ≡ v
held v is = let low = is.0 in let high = is.1 in omega (arith, ints, clamps, low, high)

given_is : (b : BlockIn) (least greatest given : Length) (w : Len) → w ≡ of given → float_width_of b least greatest w ≡ given.0
given_is b least greatest given auto e = absurd cc
given_is b least greatest given (of width) e = let same : width ≡ given = cc in ap (λ (u : Length). u.0) same

pub given_widths_are_greatest_lem : GivenWidthsAreGreatest
given_widths_are_greatest_lem b given least greatest captions width free e size is =
    let computed : computed_width b least greatest ≡ given.0 = given_is b least greatest given b.width e in
    let low = size.0 in
    let out = unbounded b least greatest captions width free (subst (λ (v : ℤ). pos 0 ≤ℤ v) (sym computed) low) is in
    is.width_is ∙ ap (λ (v : ℤ). int_max v (int_max least.0 (captions.0 -ℤ edges_of b))) (out ∙ ap clamp_size_of computed ∙ held given.0 size)

auto_is : (b : BlockIn) (least greatest : Length) (w : Len) → w ≡ auto → float_width_of b least greatest w ≡ int_min (int_max least.0 (available_of b)) greatest.0
auto_is b least greatest auto e = refl
auto_is b least greatest (of width) e = absurd cc

between : (a l g : ℤ) → pos 0 ≤ℤ l → l ≤ℤ g → pos 0 ≤ℤ int_min (int_max l a) g
between a l g low order = omega (arith, ints, clamps, low, order)

fits : (a l g c : ℤ) → IsUsedSize l → IsUsedSize g → l ≤ℤ g → int_max (clamp_size_of (int_min (int_max l a) g)) (int_max l c) ≡ int_max (int_min g a) (int_max l c)
fits a l g c small large order =
    let low = small.0 in let high = large.1 in omega (arith, ints, clamps, low, high, order)

pub auto_widths_fit_the_room_lem : AutoWidthsFitTheRoom
auto_widths_fit_the_room_lem b least greatest captions width free e small large order is =
    let computed : computed_width b least greatest ≡ int_min (int_max least.0 (available_of b)) greatest.0 = auto_is b least greatest b.width e in
    let low = small.0 in
    let out = unbounded b least greatest captions width free (subst (λ (v : ℤ). pos 0 ≤ℤ v) (sym computed) (between (available_of b) least.0 greatest.0 low order)) is in
    is.width_is ∙ ap (λ (v : ℤ). int_max v (int_max least.0 (captions.0 -ℤ edges_of b))) (out ∙ ap clamp_size_of computed)
    ∙ fits (available_of b) least.0 greatest.0 (captions.0 -ℤ edges_of b) small large order
