-- A run document (a JSON value): its fields in order, then its nodes one after the other, then its editors.
use Rattle.std.specs.Prelude.{ℕ, ◌∷◌, Option, Some, None, Result, Ok, Err}
use Rattle.serde_json.specs.Data.{Data, Items, no_items, item}
use Rattle.lay_json.specs.declared.fault.Field.TheVariants.{Run as run_field, Viewport, Nodes, Editors}
use Rattle.lay_json.specs.declared.fault.Spot.TheVariants.{Run as in_run}
use Rattle.lay_json.specs.declared.fault.InputFault.{InputFault}
use Rattle.lay_json.specs.declared.fault.InputFault.TheVariants.{Missing}
use Rattle.lay_json.specs.Fields.{then_read, value_in, required, object_of, list_of, required_sides}
use Rattle.lay_json.specs.FaceFields.{run_face}
use Rattle.lay_json.specs.Nodes.{document_of}
use Rattle.lay_json.specs.Editors.{scripts_of}
use Rattle.lay_json.specs.Listing.{id_in, ids_in}
use Rattle.lay_run.specs.Runs.{Run}

-- the first item of a list of nodes, and those after it; an empty list counts as absent
abbrev pub some_nodes : Items → Result (Data × Items) InputFault
some_nodes no_items = Err (Missing Nodes in_run)
some_nodes (item first rest) = Ok (first, rest)

abbrev pub node_list : Data → Result (Data × Items) InputFault
node_list run =
    then_read (required Nodes in_run run) (λ d.
    then_read (list_of Nodes in_run d) some_nodes)

-- the list of editors, which is empty where it is absent
abbrev pub editor_list : Data → Result Items InputFault
editor_list run = given_or_none (value_in Editors run)
  where
    given_or_none : Option Data → Result Items InputFault
    given_or_none None = Ok no_items
    given_or_none (Some d) = list_of Editors in_run d

-- the viewport's width and height
abbrev pub viewport_sides : Data → Result (ℕ × ℕ) InputFault
viewport_sides run = required_sides Viewport in_run run

-- the run of a run document, or its first fault: the fields in their order, the nodes one after the other,
-- and the editors
abbrev pub run_of : Data → Result Run InputFault
run_of run =
    then_read (object_of run_field in_run run) (λ members.
    then_read (viewport_sides run) (λ viewport.
    then_read (run_face run) (λ face.
    then_read (node_list run) (λ nodes.
    then_read (editor_list run) (λ editors.
    then_read (document_of viewport nodes.0 nodes.1) (λ doc.
    then_read (scripts_of editors) (λ scripts.
    Ok (record { doc = doc; face = face; scripts = scripts; listed = id_in nodes.0 ∷ ids_in nodes.1 }))))))))
