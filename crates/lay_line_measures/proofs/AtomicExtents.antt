-- An atomic box is as high in its line as its margin box.
use Rattle.std.proofs.Common.{◌≡◌, pos, ◌+ℤ◌, Option, Some, None, arith}
use Rattle.std.proofs.lemmas.Int.{ints}
use Rattle.lay_units.specs.declared.length.Unit.{Unit as Length}
use Rattle.lay_sizes.specs.declared.own_boxes.OwnBox.{OwnBox}
use Rattle.lay_sizes.specs.OwnBoxes.{margin_height}
use Rattle.lay_line_measures.specs.AtomicBoxes.{border_extent}
use Rattle.lay_line_measures.specs.Laws.{AtomicBoxesAreMarginBoxes}

together : (o : OwnBox) (b : Option Length) → (o.margin.top.0 +ℤ (border_extent o b).above.0) +ℤ ((border_extent o b).below.0 +ℤ o.margin.bottom.0) ≡ margin_height o
together o None = omega (arith, ints)
together o (Some b) = omega (arith, ints)

nothing_below : (o : OwnBox) (b : Option Length) → b ≡ None → (border_extent o b).below.0 +ℤ o.margin.bottom.0 ≡ pos 0
nothing_below o None e = omega (arith, ints)
nothing_below o (Some b) e = absurd cc

pub atomic_extents_lem : AtomicBoxesAreMarginBoxes
atomic_extents_lem o = (together o o.baseline, nothing_below o o.baseline)
