-- The boxes that the nodes of a document generate, where they do, while they are found from the first node on.
use Rattle.std.specs.Prelude.{ℕ, ◌≡◌, ◌<◌, List, length, slice_index_or, Option, None, Some}
use Rattle.lay_style.specs.declared.style.Style.{Style}
use Rattle.lay_doc.specs.declared.node.Node.{Node}
use Rattle.lay_boxgen.specs.declared.facts.Facts.{Facts}
use Rattle.lay_boxgen.specs.Contexts.{GeneratesBox, box_at}

-- this is the box that the node at k generates, or it generates none
abbrev pub IsGenerated : List Node → List Style → ℕ → Option Facts → Type 0
IsGenerated nodes styles k None = GeneratesBox nodes styles k → ⊥
IsGenerated nodes styles k (Some f) = (box_at nodes styles k ≡ Some f) × GeneratesBox nodes styles k

-- these are those of the first n nodes
pub record AreGenerated (nodes : List Node) (styles : List Style) (n : ℕ) (boxes : List (Option Facts)) : Type 0 where
  pub count : length boxes ≡ n
  pub each : (k : ℕ) → k < n → IsGenerated nodes styles k (slice_index_or boxes k None)
