-- Edits in batches, while the last one is being filled.
use Rattle.std.specs.Prelude.{◌≡◌, ◌≤◌, ◌<◌, List, [], ◌++◌, flat_map, length, Option, Some, None, IfSome}
use Rattle.std.specs.List.{All}
use Rattle.lay_doc.specs.declared.edit.Edit.{Edit}
use Rattle.lay_history.specs.declared.edits.command.Cmd.{Cmd}
use Rattle.lay_history.specs.declared.edits.command.Cmd.TheVariants.{Edits, Latest, Sync}
use Rattle.lay_generator.specs.Commands.{batch_size}

abbrev pub edits_in : Cmd → List Edit
edits_in (Edits edits) = edits
edits_in Latest = []
edits_in Sync = []

abbrev pub last_edits : Option (List Edit) → List Edit
last_edits None = []
last_edits (Some edits) = edits

-- all edits, in order
abbrev pub edits_of : List Cmd → Option (List Edit) → List Edit
edits_of full last = flat_map edits_in full ++ last_edits last

abbrev pub IsFull : Cmd → Type 0
IsFull (Edits edits) = length edits ≡ batch_size
IsFull Latest = ⊥
IsFull Sync = ⊥

abbrev pub IsBegun : List Edit → Type 0
IsBegun edits = (1 ≤ length edits) × (length edits < batch_size)

pub record IsInBatches (full : List Cmd) (last : Option (List Edit)) : Type 0 where
  pub full_are : All IsFull full
  pub last_is : IfSome last IsBegun
