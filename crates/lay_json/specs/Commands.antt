-- A command of an editor: an object whose `do` says what the command does. An edit alone is a list of one edit; a batch holds its
-- list in the field `edits`: objects each of which is an edit by itself. The fields of each are judged at the place of their command,
-- those of the first edit first.
use Rattle.std.specs.Prelude.{ℕ, List, [], ◌∷◌, Option, Some, option_map, ok_or, Result, Ok, Err, codes, if◌then◌else◌}
use Rattle.std.specs.Str.{bytes_eq}
use Rattle.serde_json.specs.Data.{Data, Items, no_items, item}
use Rattle.lay_doc.specs.declared.edit.Edit.{Edit}
use Rattle.lay_history.specs.declared.edits.command.Cmd.{Cmd}
use Rattle.lay_history.specs.declared.edits.command.Cmd.TheVariants.{Edits as some_edits, Latest as a_latest, Sync as a_sync}
use Rattle.lay_json.specs.declared.fault.Field.TheVariants.{Do, Edits}
use Rattle.lay_json.specs.declared.fault.Spot.{Spot}
use Rattle.lay_json.specs.declared.fault.Spot.TheVariants.{Command as in_command}
use Rattle.lay_json.specs.declared.fault.InputFault.{InputFault}
use Rattle.lay_json.specs.declared.fault.InputFault.TheVariants.{Missing, WrongKind, BatchTooLong}
use Rattle.lay_json.specs.declared.command.Action.{Action}
use Rattle.lay_json.specs.declared.command.Action.TheVariants.{Change, Batch, Latest, Sync}
use Rattle.lay_json.specs.Fields.{then_read, map_read, has_at_most, object_of, list_of, required, required_text}
use Rattle.lay_json.specs.EditCommands.{change_named, edit_for, edit_of}

-- what a text of `do` names
abbrev pub action_named : List ℕ → Option Action
action_named text =
    if bytes_eq text (codes "batch") then Some Batch
    else (if bytes_eq text (codes "latest") then Some Latest
    else (if bytes_eq text (codes "sync") then Some Sync
    else option_map Change (change_named text)))

abbrev pub action_of : Spot → Data → Result Action InputFault
action_of place d = then_read (required_text Do place d) (λ text. ok_or (action_named text) (WrongKind Do place))

-- the edits that values are, in order, or the fault of the first that is none
abbrev pub listed_edits : Spot → Items → Result (List Edit) InputFault
listed_edits place no_items = Ok []
listed_edits place (item d ds) = then_read (edit_of place d) (λ e. map_read (λ es. e ∷ es) (listed_edits place ds))

-- a list in which something stands; an empty one counts as absent
abbrev pub not_empty : Spot → Items → Result Items InputFault
not_empty place no_items = Err (Missing Edits place)
not_empty place (item d ds) = Ok (item d ds)

-- a list that isn't too long
abbrev pub few_edits : ℕ → ℕ → Items → Result Items InputFault
few_edits editor index all = if has_at_most 1024 all then Ok all else Err (BatchTooLong editor index)

-- the list of a batch: it must be there and be a list (I3, I4), then have at most 1,024 edits (I10), and then each edit its form
abbrev pub batch_of : ℕ → ℕ → Data → Result (List Edit) InputFault
batch_of editor index d =
    then_read (required Edits (in_command editor index) d) (λ value.
    then_read (list_of Edits (in_command editor index) value) (λ list.
    then_read (not_empty (in_command editor index) list) (λ some.
    then_read (few_edits editor index some) (listed_edits (in_command editor index)))))

-- the command that does this
abbrev pub command_for : ℕ → ℕ → Data → Action → Result Cmd InputFault
command_for editor index d (Change change) = map_read (λ e. some_edits (e ∷ [])) (edit_for (in_command editor index) d change)
command_for editor index d Batch = map_read some_edits (batch_of editor index d)
command_for editor index d Latest = Ok a_latest
command_for editor index d Sync = Ok a_sync

-- the command of this index of an editor, which a value is; one that is no object is of another kind than what has a `do`
abbrev pub command_of : ℕ → ℕ → Data → Result Cmd InputFault
command_of editor index d =
    then_read (object_of Do (in_command editor index) d) (λ members.
    then_read (action_of (in_command editor index) d) (command_for editor index d))
