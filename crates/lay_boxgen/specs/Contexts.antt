-- Contexts: the elements that establish a new block formatting context (9.4.1), and the replaced elements,
-- where they generate a box.
use Rattle.std.specs.Prelude.{ℕ, ◌≡◌, ◌<◌, ◌↔◌, Bool, true, false, ◌&&◌, ◌||◌, not, List, length}
use Rattle.std.specs.Prelude.{slice_get, slice_index, slice_index_or, IsTrue, Option, None, Some}
use Rattle.lay_style.specs.declared.style.Style.{Style}
use Rattle.lay_style.specs.ComputedStyle.{style_at}
use Rattle.lay_style.specs.Places.{place_of}
use Rattle.lay_doc.specs.declared.node.Node.{Node}
use Rattle.lay_doc.specs.Document.{Document, ids_of, parents_of}
use Rattle.lay_boxgen.specs.Forms.{is_column, is_column_group}
use Rattle.lay_boxgen.specs.NodeBoxes.{node_box}
use Rattle.lay_boxgen.specs.declared.facts.Facts.{Facts}
use Rattle.lay_boxgen.specs.declared.facts.Form.{Form}

abbrev pub box_of_node : ℕ → Option Node → Style → Option Facts
box_of_node k None s = None
box_of_node k (Some n) s = node_box k n s

-- the box of the node at k by itself
abbrev pub box_at : List Node → List Style → ℕ → Option Facts
box_at nodes styles k = box_of_node k (slice_get nodes k) (style_at styles k)

abbrev pub has_box : Option Facts → Bool
has_box None = false
has_box (Some f) = true

-- a column keeps no child, and a column group only columns (17.2.1, the first stage)
abbrev pub keeps_form : Form → Form → Bool
keeps_form parent f = not (is_column parent) && (not (is_column_group parent) || is_column f)

abbrev pub keeps : Option Facts → Option Facts → Bool
keeps (Some parent) (Some f) = keeps_form parent.form f.form
keeps _ _ = false

-- the node at k generates a box: it has one by itself, its parent keeps it, and its parent generates a box
pub data GeneratesBox (nodes : List Node) (styles : List Style) : ℕ → Type 0 where
  root : IsTrue (has_box (box_at nodes styles 0)) → GeneratesBox nodes styles 0
  below : (k : ℕ) → 0 < k
      → IsTrue (keeps (box_at nodes styles (slice_index (parents_of nodes) k)) (box_at nodes styles k))
      → GeneratesBox nodes styles (slice_index (parents_of nodes) k)
      → GeneratesBox nodes styles k

abbrev pub is_marked : Option Facts → Bool
is_marked None = false
is_marked (Some f) = f.inner

-- the node at k is a context
pub record IsContextAt (nodes : List Node) (styles : List Style) (k : ℕ) : Type 0 where
  pub establishes : IsTrue (is_marked (box_at nodes styles k))
  pub generates : GeneratesBox nodes styles k

abbrev pub IsContextThere : List Node → List Style → Option ℕ → Type 0
IsContextThere nodes styles None = ⊥
IsContextThere nodes styles (Some k) = IsContextAt nodes styles k

-- the document's node with this id is a context
abbrev pub IsContext : Document → List Style → ℕ → Type 0
IsContext d styles id = IsContextThere d.nodes styles (place_of id (ids_of d.nodes))

-- for each number below n whether it is so
pub record AreFlagsOf (P : ℕ → Type 0) (n : ℕ) (flags : List Bool) : Type 0 where
  pub count : length flags ≡ n
  pub each : (k : ℕ) → k < n → IsTrue (slice_index_or flags k false) ↔ P k

-- for each node whether it is a context
abbrev pub AreNodeContextFlags : List Node → List Style → List Bool → Type 0
AreNodeContextFlags nodes styles flags = AreFlagsOf (IsContextAt nodes styles) (length nodes) flags
