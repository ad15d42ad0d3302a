-- What follows of legal histories, and what determines a history.
use Rattle.std.specs.Prelude.{ℕ, ◌≡◌, ◌+◌, ◌<◌, ◌≤◌, ⊤, List, [], ◌∷◌, length, take, slice_get, Some}
use Rattle.std.specs.List.{All}
use Rattle.lay_doc.specs.declared.edit.Edit.{Edit as Change}
use Rattle.lay_doc.specs.declared.edit.EditFault.{EditFault}
use Rattle.lay_doc.specs.Document.{Document}
use Rattle.lay_history.specs.declared.edits.command.Cmd.{Cmd}
use Rattle.lay_history.specs.declared.edits.command.Reply.{Reply}
use Rattle.lay_history.specs.declared.edits.command.Reply.TheVariants.{Refused}
use Rattle.lay_history.specs.declared.edits.history.Entry.{Entry}
use Rattle.lay_history.specs.declared.edits.history.Entry.TheVariants.{Edit, Publish, Latest, Sync}
use Rattle.lay_history.specs.Histories.{accepted, published, shown_by, shown_version}
use Rattle.lay_history.specs.Legal.{IsLegal}
use Rattle.lay_history.specs.Calls.{AnswersScripts, TakesTurns, calls}

-- the versions that a legal history publishes rise, and none is greater than the number of accepted lists of edits
abbrev pub VersionsRise : Type 0
VersionsRise = (init : Document) (history : List Entry) → IsLegal init history
    → ((j k v w : ℕ) → j < k → slice_get (published history) j ≡ Some v → slice_get (published history) k ≡ Some w → v < w)
    × All (λ v. v ≤ accepted history) (published history)

-- so there are at most one more than accepted lists
abbrev pub FewVersions : Type 0
FewVersions = (init : Document) (history : List Entry) → IsLegal init history → length (published history) ≤ accepted history + 1

-- no entry shows an older version than one before it, whichever editors they are of
abbrev pub ShownRise : List Entry → Type 0
ShownRise history = (j k v w : ℕ) (a b : Entry) → j < k → slice_get history j ≡ Some a → slice_get history k ≡ Some b
    → shown_version a ≡ Some v → shown_version b ≡ Some w → v ≤ w

-- a `Sync` shows the version with all edits that were accepted before it
abbrev pub SyncsShowAll : List Entry → Type 0
SyncsShowAll history = (k v editor index : ℕ) (reply : Reply) → slice_get history k ≡ Some (Sync editor index reply)
    → shown_by reply ≡ Some v → v ≡ accepted (take k history)

-- the versions that a legal history shows never fall, and a `Sync` shows the last one
abbrev pub ShownVersionsRise : Type 0
ShownVersionsRise = (init : Document) (history : List Entry) → IsLegal init history → ShownRise history × SyncsShowAll history

-- a list is refused at a place that it has
abbrev pub RefusalsAreWithin : Type 0
RefusalsAreWithin = (init : Document) (history : List Entry) (k editor index place : ℕ) (edits : List Change) (f : EditFault)
    → IsLegal init history
    → slice_get history k ≡ Some (Edit editor index edits (Refused place f)) → place < length edits

-- the lines of a report show the same of these entries: all but what the edits were
abbrev pub ShowsSame : Entry → Entry → Type 0
ShowsSame (Edit editor index edits reply) (Edit editor' index' edits' reply') = (editor ≡ editor') × (index ≡ index') × (reply ≡ reply')
ShowsSame (Publish version) (Publish version') = version ≡ version'
ShowsSame (Latest editor index reply) (Latest editor' index' reply') = (editor ≡ editor') × (index ≡ index') × (reply ≡ reply')
ShowsSame (Sync editor index reply) (Sync editor' index' reply') = (editor ≡ editor') × (index ≡ index') × (reply ≡ reply')
ShowsSame _ _ = ⊥

abbrev pub ShowSame : List Entry → List Entry → Type 0
ShowSame [] [] = ⊤
ShowSame (x ∷ xs) (y ∷ ys) = ShowsSame x y × ShowSame xs ys
ShowSame _ _ = ⊥

-- what the lines show of a history and the scripts of its editors determine it
abbrev pub OneHistory : Type 0
OneHistory = (scripts : List (List Cmd)) (g h : List Entry) → AnswersScripts g scripts → AnswersScripts h scripts → ShowSame g h → g ≡ h

-- where editors take turns, their scripts determine the order of all calls
abbrev pub OneOrder : Type 0
OneOrder = (scripts : List (List Cmd)) (g h : List Entry) → AnswersScripts g scripts → AnswersScripts h scripts
    → TakesTurns g → TakesTurns h → calls g ≡ calls h
