-- The latest part of each inline box among the first boxes of a list, as the search for first and last parts keeps it.
use Rattle.std.specs.Prelude.{ℕ, ◌≡◌, ◌<◌, true, false, List, Option, None, Some}
use Rattle.lay_box_tree.specs.declared.box_tree.BoxNode.{BoxNode}
use Rattle.lay_box_tree.specs.InlineParts.{is_part_at}

-- among the first n boxes this is the place of the latest part of the inline box of the element with this id
abbrev pub IsLatest : List BoxNode → (n id : ℕ) → Option ℕ → Type 0
IsLatest boxes n id None = (j : ℕ) → j < n → is_part_at boxes id j ≡ false
IsLatest boxes n id (Some p) = (p < n) × (is_part_at boxes id p ≡ true) × ((j : ℕ) → p < j → j < n → is_part_at boxes id j ≡ false)
