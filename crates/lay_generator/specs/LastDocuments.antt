-- The document that a run's editors leave where each of their lists of edits is accepted: the run's own after all lists of one editor, then
-- all of the next one, and so on.
use Rattle.std.specs.Prelude.{ℕ, List, [], ◌∷◌, flat_map, fold, length}
use Rattle.lay_doc.specs.declared.edit.Edit.{Edit}
use Rattle.lay_doc.specs.Document.{Document}
use Rattle.lay_history.specs.declared.edits.command.Cmd.{Cmd}
use Rattle.lay_history.specs.declared.edits.command.Cmd.TheVariants.{Edits, Latest, Sync}
use Rattle.lay_history.specs.Edits.EditLists.{after_all}
use Rattle.lay_run.specs.Runs.{Run}

-- the list of edits that a command gives
abbrev pub list_of_command : Cmd → List (List Edit)
list_of_command (Edits edits) = edits ∷ []
list_of_command Latest = []
list_of_command Sync = []

-- the lists of edits of all editors, each editor's in order
abbrev pub lists_of : List (List Cmd) → List (List Edit)
lists_of scripts = flat_map (flat_map list_of_command) scripts

abbrev pub list_count : Run → ℕ
list_count run = length (lists_of run.scripts)

-- a run's document after these lists of edits
abbrev pub after_lists : Run → List (List Edit) → Document
after_lists run lists = fold after_all run.doc lists

abbrev pub last_document : Run → Document
last_document run = after_lists run (lists_of run.scripts)
