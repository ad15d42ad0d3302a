-- A formatting context stands in one place beside its placement.
use Rattle.std.proofs.Common.{◌≡◌, sym, ◌∙◌}
use Rattle.lay_sizes.specs.declared.own_boxes.OwnBox.{OwnBox}
use Rattle.lay_box_tree.specs.BoxColumns.{box_at}
use Rattle.lay_placements.specs.declared.corner.Corner.{Corner}
use Rattle.lay_abspos.proofs.OneAbsoluteBox.{one_offset_lem}
use Rattle.lay_abspos.specs.PlaceLaws.{OneOwnPlace}
use Rattle.lay_abspos.specs.OwnOffsets.{IsOwnOffsetBy, StandInput}
use Rattle.lay_abspos.specs.declared.own_place.OwnPlace.{OwnPlace}
use Rattle.lay_abspos.specs.declared.own_place.OwnPlace.TheVariants.{Inner, Root, Absolute}

one_offset_by : (at : StandInput) (o : OwnPlace) (own : OwnBox) (a b : Corner) → IsOwnOffsetBy o at own a → IsOwnOffsetBy o at own b → a ≡ b
one_offset_by at Inner own a b p q = p ∙ sym q
one_offset_by at (Root viewport) own a b p q = p ∙ sym q
one_offset_by at (Absolute s) own a b p q = one_offset_lem s (box_at at.boxes 0) at.left own.height a b p q

pub one_own_place_lem : OneOwnPlace
one_own_place_lem at own x y p q = one_offset_by at at.position own x y p q
