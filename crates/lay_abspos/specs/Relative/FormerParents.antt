-- What stood in an inline box before it was broken (9.2.1.1): the block-level boxes that broke it, and what is out of flow
-- between them. "When such an inline box is affected by relative positioning, any resulting translation also affects the
-- block-level box contained in the inline box." In the list of a context's boxes they stand behind a part of the inline box,
-- outside it and beside it or the boxes that hold it, and the next part stands behind them. The anonymous block round the
-- next part stands there too, but that part is in it.
--
-- In `outer ("a" inner (block1) block2)` both inline boxes held block1, and outer alone held block2. The former parent of
-- block1 is inner, the innermost, and outer is the parent of that.
use Rattle.std.specs.Prelude.{ℕ, ◌≡◌, ◌<◌, ◌≤◌, true, false, List, length, slice_index_or, Option, None, Some}
use Rattle.lay_doc.specs.Tree.{IsUnder}
use Rattle.lay_box_tree.specs.BoxColumns.{box_parents}
use Rattle.lay_box_tree.specs.Containers.{box_parent}
use Rattle.lay_box_tree.specs.declared.box_tree.BoxNode.{BoxNode}
use Rattle.lay_box_tree.specs.InlineParts.{id_at, is_inline_at, is_part_at}

-- the box at k was in the inline box of which the one at p is a part
pub record WasIn (boxes : List BoxNode) (p k : ℕ) : Type 0 where
  pub part : is_inline_at boxes p ≡ true
  pub before : p < k
  pub beside : box_parent boxes k < p
  -- the next part
  pub next : ℕ
  pub behind : k < next
  pub same : is_part_at boxes (id_at boxes p) next ≡ true
  pub first : (j : ℕ) → p < j → j < next → is_part_at boxes (id_at boxes p) j ≡ false
  pub outside : IsUnder (box_parents boxes) k next → ⊥

-- the nearest such part, if there is one
abbrev pub IsFormerParent : List BoxNode → ℕ → Option ℕ → Type 0
IsFormerParent boxes k None = (p : ℕ) → WasIn boxes p k → ⊥
IsFormerParent boxes k (Some p) = WasIn boxes p k × ((r : ℕ) → WasIn boxes r k → r ≤ p)

-- that of each box
pub record AreFormerParents (boxes : List BoxNode) (parents : List (Option ℕ)) : Type 0 where
  pub count : length parents ≡ length boxes
  pub each : (k : ℕ) → k < length boxes → IsFormerParent boxes k (slice_index_or parents k None)

abbrev pub OneFormerParent : Type 0
OneFormerParent = (boxes : List BoxNode) (k : ℕ) (o q : Option ℕ) → IsFormerParent boxes k o → IsFormerParent boxes k q → o ≡ q
