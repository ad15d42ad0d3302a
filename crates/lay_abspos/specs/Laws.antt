-- An absolutely positioned box has one set of used offsets, margins and sizes, whatever is given of it.
use Rattle.std.specs.Prelude.{◌≡◌}
use Rattle.lay_units.specs.declared.records.AbsOut.{AbsOut}
use Rattle.lay_abspos.specs.declared.axis.Axis.{Axis}
use Rattle.lay_abspos.specs.AbsoluteAxis.{IsUsedAxis}

abbrev pub OneUsedAxis : Type 0
OneUsedAxis = (a : Axis) (x y : AbsOut) → IsUsedAxis a x → IsUsedAxis a y → x ≡ y

abbrev pub SomeUsedAxis : Type 0
SomeUsedAxis = (a : Axis) → (out : AbsOut) × IsUsedAxis a out
