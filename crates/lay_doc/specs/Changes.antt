-- A change of one node, of its declarations or its text: its first fault, and the document after it.
use Rattle.std.specs.Prelude.{ℕ, zero, suc, ◌-◌, not, List, [], ◌∷◌, slice_index, Option, Some, None, if◌then◌else◌}
use Rattle.lay_style.specs.declared.property.Property.{Property}
use Rattle.lay_style.specs.Values.{Declaration}
use Rattle.lay_style.specs.Declarations.{with_declaration, without_declaration}
use Rattle.lay_style.specs.Places.{place_of}
use Rattle.lay_doc.specs.declared.node.Node.{Node}
use Rattle.lay_doc.specs.declared.edit.EditFault.{EditFault}
use Rattle.lay_doc.specs.declared.edit.EditFault.TheVariants.{NoNode, NotElement, NotText, TextTooLong}
use Rattle.lay_doc.specs.Document.{Document, ids_of, text_lengths_of, text_size, is_text_at, is_too_long}

-- the first fault of changing the declarations of the node with this id: a text has none
abbrev pub style_fault : Document → ℕ → Option EditFault
style_fault d id = fault_or (place_of id (ids_of d.nodes))
  where
    fault_or : Option ℕ → Option EditFault
    fault_or None = Some NoNode
    fault_or (Some p) = if is_text_at d.nodes p then Some NotElement else None

-- the first fault of giving the node at the place p a text of so many bytes; its own text doesn't count
abbrev pub text_fault_at : List Node → ℕ → ℕ → Option EditFault
text_fault_at nodes p bytes =
    if not (is_text_at nodes p) then Some NotText
    else (if is_too_long (text_size nodes - slice_index (text_lengths_of nodes) p) bytes then Some TextTooLong
    else None)

-- the first fault of giving the node with this id a text of so many bytes
abbrev pub text_fault : Document → ℕ → ℕ → Option EditFault
text_fault d id bytes = fault_or (place_of id (ids_of d.nodes))
  where
    fault_or : Option ℕ → Option EditFault
    fault_or None = Some NoNode
    fault_or (Some p) = text_fault_at d.nodes p bytes

-- a node with this declaration, in place of an earlier one of its property
abbrev pub with_style : Declaration → Node → Node
with_style decl n = record n { decls = with_declaration decl n.decls }

-- a node without a declaration of this property
abbrev pub without_style : Property → Node → Node
without_style property n = record n { decls = without_declaration property n.decls }

-- a node with this text
abbrev pub with_text : List ℕ → Node → Node
with_text text n = record n { text = text }

-- the nodes with the one at a place changed
abbrev pub changed_at : ℕ → (Node → Node) → List Node → List Node
changed_at k change [] = []
changed_at zero change (n ∷ ns) = change n ∷ ns
changed_at (suc k) change (n ∷ ns) = n ∷ changed_at k change ns

-- the document with the node of this id changed
abbrev pub after_change : Document → ℕ → (Node → Node) → Document
after_change d id change = changed_or (place_of id (ids_of d.nodes))
  where
    changed_or : Option ℕ → Document
    changed_or None = d
    changed_or (Some p) = record d { nodes = changed_at p change d.nodes }
