use Rattle.std.proofs.Common.{◌≡◌, ℤ, ◌-ℤ◌, arith}
use Rattle.std.proofs.lemmas.Int.{ints}
use Rattle.lay_units.specs.declared.records.BlockIn.{BlockIn}
use Rattle.lay_widths.specs.Lengths.{edges_of}
use Rattle.lay_abspos.specs.declared.axis.Offsets.{Offsets}
use Rattle.lay_abspos.specs.AbsoluteAxis.{across, filled_by}

-- what fills the room inside borders and paddings fills the containing block with them
pub across_filled : (b : BlockIn) (used : Offsets) (room : ℤ) → room ≡ b.containing_width.0 -ℤ edges_of b → filled_by used ≡ room → across b used ≡ b.containing_width.0
across_filled b used room inside filled = omega (arith, ints)
