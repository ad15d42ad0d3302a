-- A formatting context stands in a place by itself, and in one alone.
use Rattle.std.specs.Prelude.{◌≡◌}
use Rattle.lay_sizes.specs.declared.own_boxes.OwnBox.{OwnBox}
use Rattle.lay_placements.specs.declared.corner.Corner.{Corner}
use Rattle.lay_abspos.specs.OwnOffsets.{IsOwnOffset, StandInput}

abbrev pub OneOwnPlace : Type 0
OneOwnPlace = (at : StandInput) (own : OwnBox) (x y : Corner) → IsOwnOffset at own x → IsOwnOffset at own y → x ≡ y

abbrev pub SomeOwnPlace : Type 0
SomeOwnPlace = (at : StandInput) (own : OwnBox) → (corner : Corner) × IsOwnOffset at own corner
