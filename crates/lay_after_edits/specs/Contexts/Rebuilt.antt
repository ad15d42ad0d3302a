-- Contexts to be built of those before: the nodes generate the same boxes by themselves, and of contexts without a flag the boxes stay.
use Rattle.std.specs.Prelude.{ℕ, ◌≡◌, ◌<◌, Bool, false, List, length, slice_index}
use Rattle.lay_style.specs.declared.style.Style.{Style}
use Rattle.lay_doc.specs.declared.node.Node.{Node}
use Rattle.lay_doc.specs.Document.{ids_of, parents_of}
use Rattle.lay_boxgen.specs.Contexts.{box_at}
use Rattle.lay_contexts.specs.Contexts.{Context, boxes_in}
use Rattle.lay_contexts.specs.ContextTree.{boxes_of_place}
use Rattle.lay_after_edits.specs.Contexts.Links.{is_made}
use Rattle.lay_after_edits.specs.Contexts.Reach.{ArePlacesOf}

-- nodes generate the same boxes by themselves with other styles
pub record SameBoxes (ns ms : List Node) (ss ts : List Style) : Type 0 where
  pub parents : parents_of ms ≡ parents_of ns
  pub box : (k : ℕ) → box_at ms ts k ≡ box_at ns ss k

pub record AreRebuilt (ns ms : List Node) (ss ts : List Style) (contexts : List Context) (places : List ℕ) (reached : List Bool)
    : Type 0 where
  pub places_are : ArePlacesOf contexts places
  pub flags : length reached ≡ length contexts
  pub ids : ids_of ms ≡ ids_of ns
  pub same : SameBoxes ns ms ss ts
  pub kept : (i : ℕ) → i < length contexts → is_made reached i ≡ false → boxes_in contexts i ≡ boxes_of_place ms ts (slice_index places i)
