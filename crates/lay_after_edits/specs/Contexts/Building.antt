-- Later contexts while they are listed: the first n of them, each of which keeps its boxes or has them made anew.
use Rattle.std.specs.Prelude.{ℕ, ◌≡◌, ◌<◌, Bool, false, List, length, slice_index}
use Rattle.lay_style.specs.declared.style.Style.{Style}
use Rattle.lay_doc.specs.declared.node.Node.{Node}
use Rattle.lay_contexts.specs.Contexts.{Context, boxes_in, context_at}
use Rattle.lay_contexts.specs.ContextTree.{boxes_of_place}
use Rattle.lay_after_edits.specs.Contexts.Links.{HasLinks, is_made}

-- this is what the context with the number i became
pub record IsBuilt (contexts : List Context) (nodes : List Node) (styles : List Style) (places : List ℕ) (c : Context) (made : Bool) (i : ℕ)
    : Type 0 where
  pub links : HasLinks (context_at contexts i) c
  pub boxes : c.boxes ≡ boxes_of_place nodes styles (slice_index places i)
  pub kept : made ≡ false → c.boxes ≡ boxes_in contexts i

pub record AreBuiltTo (contexts : List Context) (nodes : List Node) (styles : List Style) (places : List ℕ)
    (items : List Context) (made : List Bool) (n : ℕ) : Type 0 where
  pub count : length items ≡ n
  pub each : (i : ℕ) → i < n → IsBuilt contexts nodes styles places (context_at items i) (is_made made i) i
