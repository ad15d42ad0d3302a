-- The contexts of a document (9.4.1) in document order, each with the number of the context around it in this list, and the
-- place where its box stands among the boxes of that one. The root's context is its own.
--
-- For example a table has a row with a cell, and behind the row a caption. Its box tree has the caption first (17.4); the
-- list has the table's context, then that of the cell and then that of the caption.
use Rattle.std.specs.Prelude.{ℕ, ◌≡◌, ◌<◌, List, length, slice_index_or}
use Rattle.lay_style.specs.declared.style.Style.{Style}
use Rattle.lay_doc.specs.declared.node.Node.{Node}
use Rattle.lay_doc.specs.Document.{Document, IsDocument}
use Rattle.lay_boxgen.specs.Contexts.{IsContextAt}
use Rattle.lay_contexts.specs.ContextTree.{StandsIn}
use Rattle.lay_contexts.specs.declared.context_spot.ContextSpot.{ContextSpot}

abbrev pub root_spot : ContextSpot
root_spot = record { place = 0; around = 0; at = 0 }

-- the context with the number i
abbrev pub spot_at : List ContextSpot → ℕ → ContextSpot
spot_at spots i = slice_index_or spots i root_spot

pub record AreDocumentContexts (nodes : List Node) (styles : List Style) (spots : List ContextSpot) : Type 0 where
  -- they are contexts, in document order, and all that there are
  pub are : (i : ℕ) → i < length spots → IsContextAt nodes styles (spot_at spots i).place
  pub rising : (i j : ℕ) → i < j → j < length spots → (spot_at spots i).place < (spot_at spots j).place
  pub all : (k : ℕ) → IsContextAt nodes styles k → (i : ℕ) × (i < length spots) × ((spot_at spots i).place ≡ k)
  -- the root's is its own, and each other one stands in one of them
  pub root : spot_at spots 0 ≡ root_spot
  pub within : (i : ℕ) → 0 < i → i < length spots → (spot_at spots i).around < length spots
  pub stands : (i : ℕ) → 0 < i → i < length spots
      → StandsIn nodes styles (spot_at spots i).place (spot_at spots (spot_at spots i).around).place (spot_at spots i).at

abbrev pub OneListOfContexts : Type 0
OneListOfContexts = (d : Document) (styles : List Style) (spots others : List ContextSpot) → IsDocument d → length styles ≡ length d.nodes
    → AreDocumentContexts d.nodes styles spots → AreDocumentContexts d.nodes styles others → spots ≡ others

abbrev pub ContextsStandInOrder : Type 0
ContextsStandInOrder = (d : Document) (styles : List Style) (spots : List ContextSpot) (i : ℕ)
    → IsDocument d → length styles ≡ length d.nodes
    → AreDocumentContexts d.nodes styles spots → 0 < i → i < length spots → (spot_at spots i).around < i
