-- A history is a list of entries, in the order in which they came. Its accepted lists of edits, in order, make the versions of
-- the document: version v is the document after the first v of them. Some versions are published.
use Rattle.std.specs.Prelude.{ℕ, List, [], ◌∷◌, length, take, fold, flat_map, Option, Some, None, Bool, ◌==◌}
use Rattle.std.specs.List.{list_any}
use Rattle.lay_doc.specs.declared.edit.Edit.{Edit as Change}
use Rattle.lay_doc.specs.Document.{Document}
use Rattle.lay_history.specs.Edits.EditLists.{after_all}
use Rattle.lay_history.specs.declared.edits.command.Reply.{Reply}
use Rattle.lay_history.specs.declared.edits.command.Reply.TheVariants.{Accepted, Shown}
use Rattle.lay_history.specs.declared.edits.history.Entry.{Entry}
use Rattle.lay_history.specs.declared.edits.history.Entry.TheVariants.{Edit, Publish, Latest, Sync}

-- the list of edits, where the reply to it is that it was accepted
abbrev pub list_if_accepted : List Change → Reply → List (List Change)
list_if_accepted edits (Accepted version) = edits ∷ []
list_if_accepted edits _ = []

-- the accepted list of edits of an entry
abbrev pub list_in : Entry → List (List Change)
list_in (Edit editor index edits reply) = list_if_accepted edits reply
list_in _ = []

-- the accepted lists of edits of a history, in order
abbrev pub lists : List Entry → List (List Change)
lists history = flat_map list_in history

-- how many lists were accepted, which is the number of the last version
abbrev pub accepted : List Entry → ℕ
accepted history = length (lists history)

-- the document of a version
abbrev pub doc_at : Document → List Entry → ℕ → Document
doc_at init history version = fold after_all init (take version (lists history))

-- the version that an entry publishes
abbrev pub version_in : Entry → List ℕ
version_in (Publish version) = version ∷ []
version_in _ = []

-- the versions that are published, in order
abbrev pub published : List Entry → List ℕ
published history = flat_map version_in history

-- whether a version is published
abbrev pub is_published : List Entry → ℕ → Bool
is_published history version = list_any (λ v. v == version) (published history)

-- the last of these, or one given before them
abbrev pub last_or : Option ℕ → List ℕ → Option ℕ
last_or before [] = before
last_or before (v ∷ vs) = last_or (Some v) vs

-- the version that was published last
abbrev pub last_published : List Entry → Option ℕ
last_published history = last_or None (published history)

-- the version that a reply shows
abbrev pub shown_by : Reply → Option ℕ
shown_by (Shown version) = Some version
shown_by _ = None

-- the version that an entry shows to its editor
abbrev pub shown_version : Entry → Option ℕ
shown_version (Latest editor index reply) = shown_by reply
shown_version (Sync editor index reply) = shown_by reply
shown_version _ = None
