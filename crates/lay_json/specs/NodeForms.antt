-- A node of a run document, or of a command that inserts one. First the forms of its fields are judged, in
-- the order in which they stand here; a field that isn't for the node's kind is ignored. Then the members
-- of `style` are read as declarations, in the byte order of their names.
use Rattle.std.specs.Prelude.{ℕ, ◌*◌, ◌&&◌, pos, List, [], Bool, true, Option, Some, None, unwrap_or}
use Rattle.std.specs.Prelude.{ok_or, is_some, option_and_then, Result, Ok, Err, codes, if◌then◌else◌}
use Rattle.std.specs.Str.{bytes_eq}
use Rattle.serde_json.specs.Data.{Data, Members, no_members, member}
use Rattle.serde_json.specs.Find.{as_str, as_object}
use Rattle.lay_units.specs.declared.length.Unit.{Unit}
use Rattle.lay_style.specs.Values.{Declaration}
use Rattle.lay_style.specs.Declarations.{with_declaration}
use Rattle.lay_doc.specs.declared.node.Kind.{Kind as NodeKind}
use Rattle.lay_doc.specs.declared.node.Kind.TheVariants.{Element, Text as text_kind, Replaced}
use Rattle.lay_doc.specs.declared.edit.BadDeclaration.{BadDeclaration}
use Rattle.lay_doc.specs.declared.edit.BadDeclaration.TheVariants.{Property as no_property, Value as no_value}
use Rattle.lay_doc.specs.NewNodes.{NewNodeValue}
use Rattle.lay_values.specs.declared.reading.ValueFault.{ValueFault}
use Rattle.lay_values.specs.declared.reading.ValueFault.TheVariants.{BadProperty}
use Rattle.lay_values.specs.Reading.{read_declaration}
use Rattle.lay_json.specs.declared.fault.Field.TheVariants.{Id, Parent, Kind, Style, Colspan, Rowspan, Text, Natural}
use Rattle.lay_json.specs.declared.fault.Spot.{Spot}
use Rattle.lay_json.specs.declared.fault.InputFault.{InputFault}
use Rattle.lay_json.specs.declared.fault.InputFault.TheVariants.{WrongKind}
use Rattle.lay_json.specs.declared.node_form.KindName.{KindName}
use Rattle.lay_json.specs.declared.node_form.KindName.TheVariants.{Element as an_element, Text as a_text, Replaced as a_replaced}
use Rattle.lay_json.specs.declared.node_form.NodeForm.{NodeForm}
use Rattle.lay_json.specs.Fields.{then_read, map_read, value_in, object_of, required_text, required_number, number_or, required_sides}

-- the kind that a text names
abbrev pub kind_named : List ℕ → Option KindName
kind_named text =
    if bytes_eq text (codes "element") then Some an_element
    else (if bytes_eq text (codes "text") then Some a_text
    else (if bytes_eq text (codes "replaced") then Some a_replaced else None))

abbrev pub kind_name : Spot → Data → Result KindName InputFault
kind_name place d = then_read (required_text Kind place d) (λ text. ok_or (kind_named text) (WrongKind Kind place))

-- whether all members have texts
abbrev pub are_texts : Members → Bool
are_texts no_members = true
are_texts (member name d ms) = is_some (as_str d) && are_texts ms

-- a `style` that must be an object of texts
abbrev pub texts_of : Spot → Data → Result Members InputFault
texts_of place d = then_read (object_of Style place d) (λ ms. if are_texts ms then Ok ms else Err (WrongKind Style place))

-- the members of `style`, which has none where it is absent
abbrev pub style_of : Spot → Data → Result Members InputFault
style_of place d = given_or_none (value_in Style d)
  where
    given_or_none : Option Data → Result Members InputFault
    given_or_none None = Ok no_members
    given_or_none (Some style) = texts_of place style

-- so many px
abbrev pub px_unit : ℕ → Unit
px_unit n = record { 0 = pos (64 * n) }

-- an element: its style, and its spans of 1 to 64, which are 1 where they are absent
abbrev pub element_kind_of : Spot → Data → Result NodeKind InputFault
element_kind_of place d =
    then_read (style_of place d) (λ style.
    then_read (number_or 1 1 64 Colspan place d) (λ colspan.
    then_read (number_or 1 1 64 Rowspan place d) (λ rowspan.
    Ok (Element colspan rowspan))))

-- a text
abbrev pub text_kind_of : Spot → Data → Result NodeKind InputFault
text_kind_of place d = then_read (required_text Text place d) (λ text. Ok text_kind)

-- a replaced element: its style and its natural size
abbrev pub replaced_kind_of : Spot → Data → Result NodeKind InputFault
replaced_kind_of place d =
    then_read (style_of place d) (λ style.
    then_read (required_sides Natural place d) (λ size.
    Ok (Replaced (px_unit size.0) (px_unit size.1))))

abbrev pub node_kind_named : Spot → Data → KindName → Result NodeKind InputFault
node_kind_named place d an_element = element_kind_of place d
node_kind_named place d a_text = text_kind_of place d
node_kind_named place d a_replaced = replaced_kind_of place d

-- the forms of all fields of a node, in their order: its id, its parent's id and its kind
abbrev pub node_form : Spot → Data → Result NodeForm InputFault
node_form place d =
    then_read (required_number 1 4294967295 Id place d) (λ id.
    then_read (required_number 0 4294967295 Parent place d) (λ parent.
    then_read (kind_name place d) (λ name.
    then_read (node_kind_named place d name) (λ kind.
    Ok (record { id = record { 0 = id }; parent = record { 0 = parent }; kind = kind })))))

-- why a name and a text give no declaration
abbrev pub bad_declaration : ValueFault → BadDeclaration
bad_declaration BadProperty = no_property
bad_declaration _ = no_value

abbrev pub judged_declaration : Result Declaration ValueFault → Result Declaration BadDeclaration
judged_declaration (Ok decl) = Ok decl
judged_declaration (Err fault) = Err (bad_declaration fault)

-- the declaration of a property's name and the text of its value
abbrev pub declaration_of_texts : List ℕ → List ℕ → Result Declaration BadDeclaration
declaration_of_texts name text = judged_declaration (read_declaration name text)

-- a value that is a text, after its form was judged
abbrev pub text_in : Option Data → List ℕ
text_in d = unwrap_or (option_and_then as_str d) []

-- the members of `style`, after its form was judged
abbrev pub style_members : Data → Members
style_members d = unwrap_or (option_and_then as_object (value_in Style d)) no_members

-- the declarations of the members, which stand in the byte order of their names, or the fault of the first
-- that gives none; a later one of a property takes the place of an earlier one
abbrev pub declarations_from : List Declaration → Members → Result (List Declaration) BadDeclaration
declarations_from decls no_members = Ok decls
declarations_from decls (member name d ms) =
    then_read (declaration_of_texts name (text_in (Some d))) (λ decl. declarations_from (with_declaration decl decls) ms)

abbrev pub declarations_in : Data → Result (List Declaration) BadDeclaration
declarations_in d = declarations_from [] (style_members d)

-- a node of this form with these declarations and this text
abbrev pub node_with : NodeForm → List ℕ → List Declaration → NewNodeValue
node_with form text decls = record { id = form.id; kind = form.kind; decls = decls; text = text }

-- the node of a form, or the fault of its first declaration that is none; a text has no declarations, and
-- only a text has a text
abbrev pub new_node : NodeForm → Data → Result NewNodeValue BadDeclaration
new_node form d = of_kind form.kind
  where
    of_kind : NodeKind → Result NewNodeValue BadDeclaration
    of_kind (Element colspan rowspan) = map_read (node_with form []) (declarations_in d)
    of_kind text_kind = Ok (node_with form (text_in (value_in Text d)) [])
    of_kind (Replaced w h) = map_read (node_with form []) (declarations_in d)
