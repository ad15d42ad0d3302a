-- Widths that a given width takes.
use Rattle.std.proofs.Common.{◌≡◌, ℤ, ◌-ℤ◌, ◌≤ℤ◌, arith}
use Rattle.std.proofs.lemmas.Int.{ints}
use Rattle.lay_units.specs.Units.{half_of}
use Rattle.lay_units.specs.declared.length.Unit.{Unit}
use Rattle.lay_units.specs.declared.records.Len.{Len}
use Rattle.lay_units.specs.declared.records.Len.TheVariants.{Auto as auto, Of as of}
use Rattle.lay_units.specs.declared.records.BlockIn.{BlockIn}
use Rattle.lay_widths.specs.declared.widths.UsedWidths.{UsedWidths}
use Rattle.lay_widths.specs.Lengths.{together}
use Rattle.lay_widths.specs.BlockWidths.{GivenMargin, GivenWidth}

pub left_given : (b : BlockIn) (width : ℤ) (used : UsedWidths) (left : Unit) → b.margin_left ≡ of left → used.width ≡ width → used.margin_left ≡ left.0 → GivenWidth b width used
left_given b width used left is w m = record { width_is = w; too_wide = λ _. rw is m; fits = λ _. rw is m }

half_given : (left right : Len) (rest : ℤ) (used : UsedWidths) → left ≡ auto → right ≡ auto → used.margin_left ≡ half_of rest → GivenMargin left right rest used
half_given left right rest used is-l is-r m = rw (is-l, is-r) m

pub both_auto : (b : BlockIn) (width : ℤ) (used : UsedWidths) → b.margin_left ≡ auto → b.margin_right ≡ auto → together b width ≤ℤ b.containing_width.0 → used.width ≡ width → used.margin_left ≡ half_of (b.containing_width.0 -ℤ together b width) → GivenWidth b width used
both_auto b width used is-l is-r fits w m = record { width_is = w; too_wide = λ over. absurd (omega (arith, ints)); fits = λ _. half_given _ _ _ used is-l is-r m }
