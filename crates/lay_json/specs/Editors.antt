-- The editors of a run document. The items of `editors` are judged in this order: that there are at most 16 (I7), that
-- each is a list of commands (I4 on `editors`), and then the commands one after the other, each for its form and then
-- for the limits of all scripts together (I8).
-- Command i of editor e, with i from 0 and e from 1, is read when e - 1 scripts and i commands of e are there.
use Rattle.std.specs.Prelude.{◌+◌, ◌&&◌, ◌||◌, List, [], ◌∷◌, ◌++◌, length, nat_le, Bool, true, is_some, Result, Ok, Err, if◌then◌else◌}
use Rattle.serde_json.specs.Data.{Data, Items, no_items, item}
use Rattle.serde_json.specs.Find.{as_array}
use Rattle.lay_history.specs.declared.edits.command.Cmd.{Cmd}
use Rattle.lay_json.specs.declared.fault.Field.TheVariants.{Editors}
use Rattle.lay_json.specs.declared.fault.Spot.TheVariants.{Run as in_run}
use Rattle.lay_json.specs.declared.fault.InputFault.{InputFault}
use Rattle.lay_json.specs.declared.fault.InputFault.TheVariants.{WrongKind, TooManyEditors, TooManyCommands}
use Rattle.lay_json.specs.Fields.{then_read, map_read, list_of, has_at_most}
use Rattle.lay_json.specs.Commands.{command_of}
use Rattle.lay_run.specs.Scripts.{is_read, reads_of, command_count, read_count}

-- whether a command that follows these scripts and these commands of its own script is one too many: whatever it
-- is, where 8,192 are there, and a read also where 256 reads are there
abbrev pub is_past : List (List Cmd) → List Cmd → Cmd → Bool
is_past before own c =
    nat_le 8192 (command_count before + length own) || (is_read c && nat_le 256 (read_count before + reads_of own))

abbrev pub within_limits : List (List Cmd) → List Cmd → Cmd → Result Cmd InputFault
within_limits before own c = if is_past before own c then Err TooManyCommands else Ok c

-- the command that a value is, after these scripts and these commands of its own script
abbrev pub next_script_command : List (List Cmd) → List Cmd → Data → Result Cmd InputFault
next_script_command before own d =
    then_read (command_of (length before + 1) (length own) d) (within_limits before own)

-- the own commands with the one that a value is
abbrev pub with_command : List (List Cmd) → List Cmd → Data → Result (List Cmd) InputFault
with_command before own d = map_read (λ c. own ++ c ∷ []) (next_script_command before own d)

-- the script of these commands and those of the items
abbrev pub script_from : List (List Cmd) → List Cmd → Items → Result (List Cmd) InputFault
script_from before own no_items = Ok own
script_from before own (item d ds) =
    then_read (with_command before own d) (λ longer. script_from before longer ds)

-- the script of the editor that follows these
abbrev pub script_after : List (List Cmd) → Data → Result (List Cmd) InputFault
script_after before d = then_read (list_of Editors in_run d) (script_from before [])

-- the scripts with the one that a value is
abbrev pub with_script : List (List Cmd) → Data → Result (List (List Cmd)) InputFault
with_script before d = map_read (λ script. before ++ script ∷ []) (script_after before d)

-- these scripts and those of the items
abbrev pub scripts_from : List (List Cmd) → Items → Result (List (List Cmd)) InputFault
scripts_from before no_items = Ok before
scripts_from before (item d ds) =
    then_read (with_script before d) (λ longer. scripts_from longer ds)

-- whether all items are lists
abbrev pub are_lists : Items → Bool
are_lists no_items = true
are_lists (item d ds) = is_some (as_array d) && are_lists ds

-- the scripts of all editors
abbrev pub scripts_of : Items → Result (List (List Cmd)) InputFault
scripts_of editors =
    if has_at_most 16 editors
    then (if are_lists editors then scripts_from [] editors else Err (WrongKind Editors in_run))
    else Err TooManyEditors
