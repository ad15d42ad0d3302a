-- What is known of used sizes is known in one way: the facts have one proof, so that a type may keep them.
use Rattle.std.proofs.Props.{props}
use Rattle.lay_units.specs.declared.records.Len.{Len}
use Rattle.lay_units.specs.declared.records.Len.TheVariants.{Auto as auto, Of as of}
use Rattle.lay_sizes.specs.SizeBounds.{IsUsedSizeOrAuto, SizeFits}
use Rattle.lay_sizes.specs.declared.sizing.BoxSizes.{BoxSizes}

IsUsedSizeOrAuto-prop : (v : Len) → IsProp (IsUsedSizeOrAuto v)
IsUsedSizeOrAuto-prop auto = hlevel props
IsUsedSizeOrAuto-prop (of v) = hlevel props

pub SizeFits-prop : (z : BoxSizes) → IsProp (SizeFits z)
SizeFits-prop z = hlevel (props, IsUsedSizeOrAuto-prop)
