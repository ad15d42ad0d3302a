-- Whose commands a history answers, and in which order. The editors of a run are numbered from 1 and the commands of each
-- one from 0. A call is one command of an editor, with its index.
use Rattle.std.specs.Prelude.{ℕ, zero, suc, ◌≡◌, ◌+◌, ◌<◌, ◌⊎◌, ◌==◌, List, [], ◌∷◌}
use Rattle.std.specs.Prelude.{flat_map, slice_get, slice_index_or, Some, if◌then◌else◌}
use Rattle.lay_history.specs.declared.edits.command.Cmd.{Cmd}
use Rattle.lay_history.specs.declared.edits.command.Cmd.TheVariants as command
use Rattle.lay_history.specs.declared.edits.history.Entry.{Entry}
use Rattle.lay_history.specs.declared.edits.history.Entry.TheVariants.{Edit, Publish, Latest, Sync}

pub record Call : Type 0 where
  pub editor : ℕ
  pub index : ℕ
  pub command : Cmd

-- the call that an entry answers
abbrev pub call_in : Entry → List Call
call_in (Edit editor index edits reply) = record { editor = editor; index = index; command = command.Edits edits } ∷ []
call_in (Publish version) = []
call_in (Latest editor index reply) = record { editor = editor; index = index; command = command.Latest } ∷ []
call_in (Sync editor index reply) = record { editor = editor; index = index; command = command.Sync } ∷ []

-- the calls that a history answers, in order
abbrev pub calls : List Entry → List Call
calls history = flat_map call_in history

-- the call, where it is this editor's
abbrev pub call_if_of : ℕ → Call → List Call
call_if_of editor c = if c.editor == editor then c ∷ [] else []

-- an editor's calls among these, in order
abbrev pub calls_of : ℕ → List Call → List Call
calls_of editor cs = flat_map (call_if_of editor) cs

-- the calls of an editor that gives these commands, from an index on
abbrev pub script_calls : ℕ → ℕ → List Cmd → List Call
script_calls editor index [] = []
script_calls editor index (c ∷ cs) = record { editor = editor; index = index; command = c } ∷ script_calls editor (index + 1) cs

-- the commands of an editor; none where there is no such editor
abbrev pub script_of : List (List Cmd) → ℕ → List Cmd
script_of scripts zero = []
script_of scripts (suc place) = slice_index_or scripts place []

-- each editor's commands are answered once and in order, and no other
abbrev pub AnswersScripts : List Entry → List (List Cmd) → Type 0
AnswersScripts history scripts = (editor : ℕ) → calls_of editor (calls history) ≡ script_calls editor 0 (script_of scripts editor)

-- a call comes before another where editors take turns: first the first command of each editor, in rising order of
-- editors, then the second ones, and so on
abbrev pub IsEarlier : Call → Call → Type 0
IsEarlier a b = (a.index < b.index) ⊎ ((a.index ≡ b.index) × (a.editor < b.editor))

-- the editors take turns
abbrev pub TakesTurns : List Entry → Type 0
TakesTurns history = (j k : ℕ) (a b : Call) → j < k → slice_get (calls history) j ≡ Some a
    → slice_get (calls history) k ≡ Some b → IsEarlier a b
