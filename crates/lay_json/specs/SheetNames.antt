-- The style sheet of a run document, and what its nodes are called. Faults are judged after those of the run: first that of
-- `sheet` (I4), and then, where there is a sheet, those of `tag`, `label` and `classes` in this order, node after node. What
-- is absent is empty. A text has no names, and its fields of these names are ignored.
use Rattle.std.specs.Prelude.{ℕ, ◌&&◌, List, [], ◌∷◌, ◌++◌, length, min, Bool, true, is_some}
use Rattle.std.specs.Prelude.{Option, Some, None, unwrap_or, Result, Ok, Err, codes, if◌then◌else◌}
use Rattle.std.specs.Str.{bytes_eq}
use Rattle.serde_json.specs.Data.{Data, Items, no_items, item}
use Rattle.serde_json.specs.Find.{as_str, as_array}
use Rattle.lay_cascade.specs.declared.node_names.names.Names.{Names}
use Rattle.lay_json.specs.declared.fault.Field.{Field}
use Rattle.lay_json.specs.declared.fault.Field.TheVariants.{Kind, Nodes, Sheet, Tag, Label, Classes}
use Rattle.lay_json.specs.declared.fault.Spot.{Spot}
use Rattle.lay_json.specs.declared.fault.Spot.TheVariants.{Run as in_run, Node as in_node}
use Rattle.lay_json.specs.declared.fault.InputFault.{InputFault}
use Rattle.lay_json.specs.declared.fault.InputFault.TheVariants.{WrongKind}
use Rattle.lay_json.specs.declared.sheet_in.SheetIn.{SheetIn}
use Rattle.lay_json.specs.Fields.{then_read, map_read, value_in, list_of, text_of}
use Rattle.lay_json.specs.NodeForms.{text_in}
use Rattle.lay_json.specs.RunDocument.{run_of}
use Rattle.lay_run.specs.Runs.{Run}

-- the text of a field, which is empty where the object hasn't the field
abbrev pub text_or_empty : Field → Spot → Data → Result (List ℕ) InputFault
text_or_empty f place d = given_or_empty (value_in f d)
  where
    given_or_empty : Option Data → Result (List ℕ) InputFault
    given_or_empty None = Ok []
    given_or_empty (Some v) = text_of f place v

-- whether all items are texts
abbrev pub items_are_texts : Items → Bool
items_are_texts no_items = true
items_are_texts (item d ds) = is_some (as_str d) && items_are_texts ds

-- the texts that items are
abbrev pub texts_in : Items → List (List ℕ)
texts_in no_items = []
texts_in (item d ds) = text_in (Some d) ∷ texts_in ds

-- the items of `classes`, which must be texts; none where the field is absent
abbrev pub class_items : Spot → Data → Result Items InputFault
class_items place d = given_or_none (value_in Classes d)
  where
    given_or_none : Option Data → Result Items InputFault
    given_or_none None = Ok no_items
    given_or_none (Some v) =
        then_read (list_of Classes place v) (λ ds. if items_are_texts ds then Ok ds else Err (WrongKind Classes place))

-- what a node that isn't a text is called
abbrev pub names_of : Spot → Data → Result Names InputFault
names_of place d =
    then_read (text_or_empty Tag place d) (λ tag.
    then_read (text_or_empty Label place d) (λ label.
    then_read (class_items place d) (λ classes.
    Ok (record { tag = tag; label = label; classes = texts_in classes }))))

-- whether a node is a text, after its form was judged
abbrev pub is_a_text : Data → Bool
is_a_text d = bytes_eq (text_in (value_in Kind d)) (codes "text")

-- what node k is called
abbrev pub names_at : ℕ → Data → Result Names InputFault
names_at k d = if is_a_text d then Ok (record { tag = []; label = []; classes = [] }) else names_of (in_node k) d

-- these names with those of the next node, which is numbered by how many come before it; a run has fewer than 2^32
abbrev pub with_names : List Names → Data → Result (List Names) InputFault
with_names before d = map_read (λ names. before ++ names ∷ []) (names_at (min (length before) 4294967295) d)

-- these names and those of the nodes that follow
abbrev pub names_from : List Names → Items → Result (List Names) InputFault
names_from before no_items = Ok before
names_from before (item d ds) = then_read (with_names before d) (λ longer. names_from longer ds)

-- a run's nodes, after their forms were judged
abbrev pub items_or_none : Data → Items
items_or_none d = unwrap_or (as_array d) no_items

abbrev pub nodes_in : Data → Items
nodes_in run = given_or_none (value_in Nodes run)
  where
    given_or_none : Option Data → Items
    given_or_none None = no_items
    given_or_none (Some d) = items_or_none d

-- the text of a sheet, with what the run's nodes are called
abbrev pub with_sheet : Data → Data → Result SheetIn InputFault
with_sheet run sheet =
    then_read (text_of Sheet in_run sheet) (λ text.
    map_read (λ names. record { sheet = Some text; names = names }) (names_from [] (nodes_in run)))

-- the sheet of a run document, with what its nodes are called; without a sheet no names are read
abbrev pub sheet_of : Data → Result SheetIn InputFault
sheet_of run = given_or_none (value_in Sheet run)
  where
    given_or_none : Option Data → Result SheetIn InputFault
    given_or_none None = Ok (record { sheet = None; names = [] })
    given_or_none (Some sheet) = with_sheet run sheet

-- the run of a value, with the sheet and the names
abbrev pub input_of : Data → Result (Run × SheetIn) InputFault
input_of value = then_read (run_of value) (λ run. map_read (λ sheet. (run, sheet)) (sheet_of value))
