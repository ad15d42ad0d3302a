-- The contexts of a document stand in order: each behind the one around it, in which its box is.
use Rattle.std.specs.Prelude.{ℕ, ◌≡◌, ◌<◌, List, length}
use Rattle.lay_box_tree.specs.declared.box_tree.BoxNode.{BoxNode}
use Rattle.lay_contexts.specs.DocumentContexts.{spot_at}
use Rattle.lay_contexts.specs.declared.context_spot.ContextSpot.{ContextSpot}
use Rattle.lay_box_tree.specs.ContextBoxes.{AreContextBoxes}
use Rattle.lay_contexts.specs.ContextList.{boxes_at}

pub record AreInOrder (spots : List ContextSpot) (boxes : List (List BoxNode)) : Type 0 where
  pub count : length spots ≡ length boxes
  pub around : (i : ℕ) → 0 < i → i < length spots → (spot_at spots i).around < i
  pub within : (i : ℕ) → 0 < i → i < length spots → (spot_at spots i).at < length (boxes_at boxes (spot_at spots i).around)
  pub each : (i : ℕ) → i < length boxes → AreContextBoxes (boxes_at boxes i)
