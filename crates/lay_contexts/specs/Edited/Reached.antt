-- Which nodes an edit reaches (CSS 2.2, 6.1.1, 6.2 and 6.2.1). The computed style of a node comes of its own declarations and of its
-- parent's style: an inherited property, and one whose value is `inherit`, has the parent's value. So what changes in a node may
-- change the styles of all nodes below it, and of no others. An edit reaches the node that it changes, puts in or takes out, and all
-- nodes below that one. Of other nodes nothing changes but the places where they stand (law `unreached_nodes_stay`).
use Rattle.std.specs.Prelude.{ℕ, List, Option, Some, None}
use Rattle.lay_style.specs.Places.{place_of}
use Rattle.lay_doc.specs.declared.edit.Edit.{Edit}
use Rattle.lay_doc.specs.declared.edit.Edit.TheVariants.{SetStyle, ClearStyle, SetText, Insert, Remove, Bad}
use Rattle.lay_doc.specs.Document.{Document, ids_of, parents_of}
use Rattle.lay_doc.specs.Tree.{IsUnder}

-- the id of the node that an edit changes, puts in or takes out
abbrev pub subject_of : Edit → Option ℕ
subject_of (SetStyle node decl) = Some node.0
subject_of (ClearStyle node property) = Some node.0
subject_of (SetText node text) = Some node.0
subject_of (Insert parent index new) = Some new.id.0
subject_of (Remove node) = Some node.0
subject_of (Bad bad) = None

-- the place of the node with this id
abbrev pub place_in : List ℕ → Option ℕ → Option ℕ
place_in ids None = None
place_in ids (Some id) = place_of id ids

-- the node at k is the one at this place or one below it
abbrev pub IsUnderThere : List ℕ → Option ℕ → ℕ → Type 0
IsUnderThere parents None k = ⊥
IsUnderThere parents (Some p) k = IsUnder parents p k

-- the edit reaches the node at k of this document, which is the one before the edit or the one after it
abbrev pub IsReached : Document → Edit → ℕ → Type 0
IsReached d edit k = IsUnderThere (parents_of d.nodes) (place_in (ids_of d.nodes) (subject_of edit)) k
