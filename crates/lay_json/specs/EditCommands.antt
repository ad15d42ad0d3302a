-- An edit, as a command of an editor or as one of a batch: an object whose `do` says what the edit does, and whose further
-- fields are judged in the order in which they stand here. What names no property, or gives no value of its property, is no
-- fault of the run: it gives an edit that is always refused.
use Rattle.std.specs.Prelude.{ℕ, List, Option, Some, None, ok_or, Result, Ok, Err, codes, if◌then◌else◌}
use Rattle.std.specs.Str.{bytes_eq}
use Rattle.serde_json.specs.Data.{Data}
use Rattle.lay_style.specs.declared.property.Property.{Property}
use Rattle.lay_style.specs.Values.{Declaration}
use Rattle.lay_doc.specs.declared.node.NodeId.{NodeId}
use Rattle.lay_doc.specs.declared.edit.Edit.{Edit}
use Rattle.lay_doc.specs.declared.edit.Edit.TheVariants.{SetStyle, ClearStyle, SetText, Insert as put_node, Remove as remove_node, Bad}
use Rattle.lay_doc.specs.declared.edit.BadDeclaration.{BadDeclaration}
use Rattle.lay_doc.specs.declared.edit.BadDeclaration.TheVariants.{Property as no_property}
use Rattle.lay_doc.specs.NewNodes.{NewNodeValue}
use Rattle.lay_values.specs.Names.{property_of}
use Rattle.lay_json.specs.declared.fault.Field.TheVariants.{Do, Node, Property as a_property, Value as a_value, Text as a_text, Index}
use Rattle.lay_json.specs.declared.fault.Spot.{Spot}
use Rattle.lay_json.specs.declared.fault.InputFault.{InputFault}
use Rattle.lay_json.specs.declared.fault.InputFault.TheVariants.{WrongKind}
use Rattle.lay_json.specs.declared.edit.Change.{Change}
use Rattle.lay_json.specs.declared.edit.Change.TheVariants.{Set, Clear, Text, Insert, Remove}
use Rattle.lay_json.specs.Fields.{then_read, map_read, object_of, required_text, required_number}
use Rattle.lay_json.specs.NodeForms.{node_form, new_node, declaration_of_texts}

-- the edit that a text of `do` names
abbrev pub change_named : List ℕ → Option Change
change_named text =
    if bytes_eq text (codes "set") then Some Set
    else (if bytes_eq text (codes "clear") then Some Clear
    else (if bytes_eq text (codes "text") then Some Text
    else (if bytes_eq text (codes "insert") then Some Insert
    else (if bytes_eq text (codes "remove") then Some Remove else None))))

abbrev pub change_of : Spot → Data → Result Change InputFault
change_of place d = then_read (required_text Do place d) (λ text. ok_or (change_named text) (WrongKind Do place))

-- the node that a command names: any number that an id can be, and 0
abbrev pub named_node : Spot → Data → Result NodeId InputFault
named_node place d = map_read (λ n. record { 0 = n }) (required_number 0 4294967295 Node place d)

-- a node is given a declaration; where the name and the text give none, the edit is a bad one
abbrev pub style_set : NodeId → Result Declaration BadDeclaration → Edit
style_set node (Ok decl) = SetStyle node decl
style_set node (Err bad) = Bad bad

abbrev pub set_command : Spot → Data → Result Edit InputFault
set_command place d =
    then_read (named_node place d) (λ node.
    then_read (required_text a_property place d) (λ property.
    then_read (required_text a_value place d) (λ value.
    Ok (style_set node (declaration_of_texts property value)))))

-- what a node declares for a property is taken away; where there is no such property, the edit is a bad one
abbrev pub style_cleared : NodeId → Option Property → Edit
style_cleared node (Some property) = ClearStyle node property
style_cleared node None = Bad no_property

abbrev pub clear_command : Spot → Data → Result Edit InputFault
clear_command place d =
    then_read (named_node place d) (λ node.
    then_read (required_text a_property place d) (λ property.
    Ok (style_cleared node (property_of property))))

abbrev pub text_command : Spot → Data → Result Edit InputFault
text_command place d =
    then_read (named_node place d) (λ node.
    then_read (required_text a_text place d) (λ text.
    Ok (SetText node text)))

-- a node is put below its parent; where the first of its declarations that is none has a fault, the edit is a
-- bad one
abbrev pub node_put : NodeId → ℕ → Result NewNodeValue BadDeclaration → Edit
node_put parent index (Ok new) = put_node parent index new
node_put parent index (Err bad) = Bad bad

abbrev pub insert_command : Spot → Data → Result Edit InputFault
insert_command place d =
    then_read (required_number 0 4294967295 Index place d) (λ index.
    then_read (node_form place d) (λ form.
    Ok (node_put form.parent index (new_node form d))))

abbrev pub remove_command : Spot → Data → Result Edit InputFault
remove_command place d = map_read remove_node (named_node place d)

-- the edit that does this
abbrev pub edit_for : Spot → Data → Change → Result Edit InputFault
edit_for place d Set = set_command place d
edit_for place d Clear = clear_command place d
edit_for place d Text = text_command place d
edit_for place d Insert = insert_command place d
edit_for place d Remove = remove_command place d

-- the edit that a value is; one that is no object is of another kind than what has a `do`
abbrev pub edit_of : Spot → Data → Result Edit InputFault
edit_of place d =
    then_read (object_of Do place d) (λ members.
    then_read (change_of place d) (edit_for place d))
