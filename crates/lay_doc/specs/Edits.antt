-- The first fault of an edit, and the document after an edit that has none.
use Rattle.std.specs.Prelude.{ℕ, ◌+◌, ◌==◌, ◌||◌, not, List, length, slice_index, Option}
use Rattle.std.specs.Prelude.{Some, None, nat_lt, nat_le, is_some, if◌then◌else◌}
use Rattle.lay_units.specs.Limits.{most_depth, most_nodes}
use Rattle.lay_style.specs.Places.{place_of}
use Rattle.lay_doc.specs.declared.node.Node.{Node}
use Rattle.lay_doc.specs.declared.edit.Edit.{Edit}
use Rattle.lay_doc.specs.declared.edit.Edit.TheVariants.{SetStyle, ClearStyle, SetText, Insert, Remove, Bad}
use Rattle.lay_doc.specs.declared.edit.BadDeclaration.{BadDeclaration}
use Rattle.lay_doc.specs.declared.edit.BadDeclaration.TheVariants.{Property as no_property, Value as no_value}
use Rattle.lay_doc.specs.declared.edit.EditFault.{EditFault}
use Rattle.lay_doc.specs.declared.edit.EditFault.TheVariants.{NoNode, NotElement, IdTaken, BadIndex, TooManyNodes}
use Rattle.lay_doc.specs.declared.edit.EditFault.TheVariants.{TooDeep, TextTooLong, BadProperty, BadValue}
use Rattle.lay_doc.specs.NewNodes.{NewNodeValue, is_element}
use Rattle.lay_doc.specs.Tree.{child_count, slot_of}
use Rattle.lay_doc.specs.Document.{Document, parents_of, ids_of, depths_of, text_size, is_element_at, is_too_long, inserted, becomes}
use Rattle.lay_doc.specs.Changes.{style_fault, text_fault, with_style, without_style, with_text, after_change}
use Rattle.lay_doc.specs.Removal.{remove_fault, after_remove}

-- the first fault of putting a node below the place p
abbrev pub fault_below : List Node → ℕ → ℕ → NewNodeValue → Option EditFault
fault_below nodes p index new =
    if not (is_element_at nodes p) then Some NotElement
    else (if (new.id.0 == 0) || is_some (place_of new.id.0 (ids_of nodes)) then Some IdTaken
    else (if nat_lt (child_count (parents_of nodes) p) index then Some BadIndex
    else (if nat_le most_nodes (length nodes) then Some TooManyNodes
    else (if nat_le most_depth (slice_index (depths_of nodes) p) then Some TooDeep
    else (if is_too_long (text_size nodes) (length new.text) then Some TextTooLong
    else None)))))

abbrev pub insert_fault : Document → ℕ → ℕ → NewNodeValue → Option EditFault
insert_fault d parent index new = fault_or (place_of parent (ids_of d.nodes))
  where
    fault_or : Option ℕ → Option EditFault
    fault_or None = Some NoNode
    fault_or (Some p) = fault_below d.nodes p index new

-- the fault of an edit that was given with no property, or no value of its property
abbrev pub bad_fault : BadDeclaration → EditFault
bad_fault no_property = BadProperty
bad_fault no_value = BadValue

-- the first fault of an edit, or none
abbrev pub fault : Document → Edit → Option EditFault
fault d (SetStyle node decl) = style_fault d node.0
fault d (ClearStyle node property) = style_fault d node.0
fault d (SetText node text) = text_fault d node.0 (length text)
fault d (Bad bad) = Some (bad_fault bad)
fault d (Remove node) = remove_fault d node.0
fault d (Insert parent index new) = insert_fault d parent.0 index new

-- the document with a node put below the place p, before the child that had the index, or last
abbrev pub inserted_below : Document → ℕ → ℕ → NewNodeValue → Document
inserted_below d p index new = record {
  width = d.width;
  height = d.height;
  nodes = inserted d.nodes (slot_of (parents_of d.nodes) p index) (becomes new p (slice_index (depths_of d.nodes) p + 1));
}

abbrev pub after_insert : Document → ℕ → ℕ → NewNodeValue → Document
after_insert d parent index new = inserted_or (place_of parent (ids_of d.nodes))
  where
    inserted_or : Option ℕ → Document
    inserted_or None = d
    inserted_or (Some p) = inserted_below d p index new

-- the document after an edit; one that has a fault is not applied, and leaves no meaning here
abbrev pub after : Document → Edit → Document
after d (SetStyle node decl) = after_change d node.0 (with_style decl)
after d (ClearStyle node property) = after_change d node.0 (without_style property)
after d (SetText node text) = after_change d node.0 (with_text text)
after d (Bad bad) = d
after d (Remove node) = after_remove d node.0
after d (Insert parent index new) = after_insert d parent.0 index new

-- how many children the node with this id has
abbrev pub last_index : Document → ℕ → ℕ
last_index d parent = count_or (place_of parent (ids_of d.nodes))
  where
    count_or : Option ℕ → ℕ
    count_or None = 0
    count_or (Some p) = child_count (parents_of d.nodes) p

-- the first fault of a document's root: it must be an element, and its id not 0
abbrev pub root_fault : NewNodeValue → Option EditFault
root_fault root = if not (is_element root.kind) then Some NotElement else (if root.id.0 == 0 then Some IdTaken else None)
