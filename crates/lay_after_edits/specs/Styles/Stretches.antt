-- The nodes whose computed styles an edit may change (CSS 2.2, 6.2): the node that it changes, puts in or takes out, and those below it,
-- which stand together. All others keep theirs, before this stretch of nodes and behind it.
use Rattle.std.specs.Prelude.{ℕ, ◌+◌, ◌-◌, List, length, Option, Some, None, option_map, nat_lt, if◌then◌else◌}
use Rattle.lay_style.specs.Places.{place_of}
use Rattle.lay_doc.specs.declared.edit.Edit.{Edit}
use Rattle.lay_doc.specs.declared.edit.Edit.TheVariants.{SetStyle, ClearStyle, SetText, Insert, Remove, Bad}
use Rattle.lay_doc.specs.Document.{Document, ids_of, parents_of}
use Rattle.lay_doc.specs.Tree.{end_of, slot_of}
use Rattle.lay_after_edits.specs.declared.styles.stretch.Stretch.{Stretch}

-- a node and those below it
abbrev pub subtree_at : List ℕ → ℕ → Stretch
subtree_at parents p = record { from = p; until = end_of parents p; to = end_of parents p }

-- these are taken out
abbrev pub removed_at : List ℕ → ℕ → Stretch
removed_at parents p = record { from = p; until = end_of parents p; to = p }

-- one node is put in before the place `at`
abbrev pub inserted_at : ℕ → Stretch
inserted_at at = record { from = at; until = at; to = at + 1 }

-- no node
abbrev pub none_of : ℕ → Stretch
none_of count = record { from = count; until = count; to = count }

-- those of an edit that the document takes
abbrev pub edit_stretch : Document → Edit → Option Stretch
edit_stretch d (SetStyle node decl) = option_map (subtree_at (parents_of d.nodes)) (place_of node.0 (ids_of d.nodes))
edit_stretch d (ClearStyle node property) = option_map (subtree_at (parents_of d.nodes)) (place_of node.0 (ids_of d.nodes))
edit_stretch d (SetText node text) = Some (none_of (length d.nodes))
edit_stretch d (Insert parent index new) =
    option_map (λ p. inserted_at (slot_of (parents_of d.nodes) p index)) (place_of parent.0 (ids_of d.nodes))
edit_stretch d (Remove node) = option_map (removed_at (parents_of d.nodes)) (place_of node.0 (ids_of d.nodes))
edit_stretch d (Bad bad) = None

-- where the node at k of the document after the edit stood before it, if it isn't in the stretch
abbrev pub earlier : Stretch → ℕ → ℕ
earlier s k = if nat_lt k s.from then k else ((k - s.to) + s.until)
