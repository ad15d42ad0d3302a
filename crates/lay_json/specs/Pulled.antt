-- A run document that is read some nodes at a time: what was taken of its nodes, and where its other members stand.
use Rattle.std.specs.Prelude.{ℕ, ◌≡◌, List, [], ◌∷◌, ◌++◌, ◌||◌, Bool, true, false, codes, is_some, Option, Some, None, Result, Ok, if◌then◌else◌}
use Rattle.std.specs.Str.{bytes_eq}
use Rattle.json.specs.Token.{Token, key, end_object}
use Rattle.serde_json.specs.Data.{Data, Items, item, object, Members, no_members, put}
use Rattle.serde_json.specs.Find.{get_member}
use Rattle.lay_json.specs.Spans.Readings.{ReadsMembers, put_all}
use Rattle.lay_history.specs.declared.edits.command.Cmd.{Cmd}
use Rattle.lay_face.specs.FaceValue.{FaceValue}
use Rattle.lay_cascade.specs.declared.node_names.names.Names.{Names}
use Rattle.lay_run.specs.Runs.{Run}
use Rattle.lay_json.specs.declared.fault.InputFault.{InputFault}
use Rattle.lay_json.specs.declared.fault.Field.TheVariants.{Editors, Viewport, Face, Sheet}
use Rattle.lay_json.specs.declared.sheet_in.SheetIn.{SheetIn}
use Rattle.lay_json.specs.declared.taken.Taken.{Taken}
use Rattle.lay_json.specs.declared.fault.Spot.TheVariants.{Run as in_run}
use Rattle.lay_json.specs.Fields.{then_read, map_read, value_in, text_of}
use Rattle.lay_json.specs.FaceFields.{run_face}
use Rattle.lay_json.specs.Nodes.{put_nodes, document_of}
use Rattle.lay_json.specs.Listing.{id_in, ids_in}
use Rattle.lay_json.specs.Editors.{scripts_of}
use Rattle.lay_json.specs.RunDocument.{editor_list}
use Rattle.lay_json.specs.SheetNames.{names_from, input_of}
use Rattle.lay_json.specs.Reading.{IsJson}

-- what further nodes are called, where names are asked for
abbrev pub more_names : Bool → List Names → Items → Result (List Names) InputFault
more_names true before ds = names_from before ds
more_names false before ds = Ok before

-- further nodes were taken
abbrev pub Adds : Bool → Taken → Items → Taken → Type 0
Adds named old ds new = (put_nodes old.doc ds ≡ Ok new.doc) × (new.listed ≡ old.listed ++ ids_in ds) × (more_names named old.names ds ≡ Ok new.names)

-- the first node and those after it were taken
abbrev pub IsTaken : ℕ × ℕ → Bool → Data → Items → Taken → Type 0
IsTaken viewport named first rest taken =
    (document_of viewport first rest ≡ Ok taken.doc) × (taken.listed ≡ id_in first ∷ ids_in rest) × (more_names named [] (item first rest) ≡ Ok taken.names)

-- what comes after some members: the name `nodes`, or the brace that closes the object
abbrev pub stopped : Bool → List Token → List Token
stopped true ts = key (codes "nodes") ∷ ts
stopped false ts = end_object ∷ ts

-- the names of the members that are asked for beside the nodes
abbrev pub is_asked : List ℕ → Bool
is_asked name = bytes_eq name (codes "viewport") || (bytes_eq name (codes "face") || (bytes_eq name (codes "sheet") || bytes_eq name (codes "editors")))

-- two objects have the same members of these names
abbrev pub SayAlike : Data → Data → Type 0
SayAlike a b =
    (value_in Viewport a ≡ value_in Viewport b) × (value_in Face a ≡ value_in Face b) × (value_in Sheet a ≡ value_in Sheet b)
    × (value_in Editors a ≡ value_in Editors b)

-- members with one more of this name and value, if it is asked for
abbrev pub Keeps : Members → List ℕ → Data → Members → Type 0
Keeps old name d new = (ms : Members) → SayAlike (object old) (object ms) → SayAlike (object new) (object (put name d ms))

-- Some members, none of which is named `nodes`, up to where they stop. The value has those that are asked for.
abbrev pub AreMembers : List Token → Data → Bool → List Token → Type 0
AreMembers old value is_nodes new =
    (ms : List (List ℕ × Data)) × ReadsMembers 126 old ms (stopped is_nodes new) × SayAlike value (object (put_all ms no_members))
    × (get_member (codes "nodes") (put_all ms no_members) ≡ None)

-- members after the nodes that leave all but the editors to those before them
abbrev pub IsAfter : Data → Type 0
IsAfter d = (value_in Viewport d ≡ None) × (value_in Face d ≡ None) × (value_in Sheet d ≡ None)

-- the editors that stand after the nodes, or else those before them
abbrev pub editors_at : Data → Data → Data
editors_at before later = if is_some (value_in Editors later) then later else before

abbrev pub scripts_in : Data → Data → Result (List (List Cmd)) InputFault
scripts_in before later = then_read (editor_list (editors_at before later)) scripts_of

-- the text of the sheet, where there is one
abbrev pub sheet_text : Data → Result (Option (List ℕ)) InputFault
sheet_text d = given_or_none (value_in Sheet d)
  where
    given_or_none : Option Data → Result (Option (List ℕ)) InputFault
    given_or_none None = Ok None
    given_or_none (Some sheet) = map_read Some (text_of Sheet in_run sheet)

-- the run and the sheet of what was taken, and of a face, scripts and a sheet's text
abbrev pub input_with : Taken → FaceValue → List (List Cmd) → Option (List ℕ) → Run × SheetIn
input_with taken face scripts text =
    (record { doc = taken.doc; face = face; scripts = scripts; listed = taken.listed }, record { sheet = text; names = taken.names })

-- the run and the sheet of what was taken, and of the members before the nodes and after them
abbrev pub read_with : Data → Data → Taken → Result (Run × SheetIn) InputFault
read_with before later taken =
    then_read (run_face before) (λ face.
    then_read (scripts_in before later) (λ scripts.
    map_read (input_with taken face scripts) (sheet_text before)))

-- the bytes are a text of this run with this sheet
abbrev pub SayInput : List ℕ → Run × SheetIn → Type 0
SayInput bytes input = (value : Data) × IsJson bytes value × (input_of value ≡ Ok input)
