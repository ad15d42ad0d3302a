-- Each inline box in a list of boxes has one first part and one last part.
use Rattle.std.specs.Prelude.{ℕ, ◌≡◌, ◌<◌, Bool, true, List, length}
use Rattle.std.specs.List.{list_any}
use Rattle.lay_box_tree.specs.declared.box_tree.BoxNode.{BoxNode}
use Rattle.lay_box_tree.specs.InlineParts.{id_at, is_first_part, is_last_part, is_part_of}

-- just one box of this element has this end of its inline box
pub record HasOne (ends : List BoxNode → ℕ → Bool) (boxes : List BoxNode) (id : ℕ) : Type 0 where
  pub at : ℕ
  pub within : at < length boxes
  pub of : id_at boxes at ≡ id
  pub is : ends boxes at ≡ true
  pub only : (k : ℕ) → k < length boxes → id_at boxes k ≡ id → ends boxes k ≡ true → k ≡ at

abbrev pub EndsAreOne : Type 0
EndsAreOne = (boxes : List BoxNode) (id : ℕ) → list_any (is_part_of id) boxes ≡ true
    → HasOne is_first_part boxes id × HasOne is_last_part boxes id
