-- When a history is legal: each reply is right for the document as it was then. A list of edits is refused exactly for its first
-- fault, at its place; it is accepted as the next version, or refused for want of memory, where it has none. The last version is
-- published, once, and so no version follows a later one. Who asks to be shown a version is shown the one that was
-- published last; after a `Sync` that is the version with all edits that were accepted so far. Want of memory may
-- answer each command, but no edit alone that has a fault.
use Rattle.std.specs.Prelude.{ℕ, ◌≡◌, ◌+◌, ◌<◌, ⊤, List, length, take, slice_get, Option, Some, None}
use Rattle.std.specs.List.{All}
use Rattle.lay_doc.specs.declared.edit.Edit.{Edit as Change}
use Rattle.lay_doc.specs.Document.{Document}
use Rattle.lay_history.specs.Edits.EditLists.{fault_at, first}
use Rattle.lay_history.specs.declared.edits.command.Reply.{Reply}
use Rattle.lay_history.specs.declared.edits.command.Reply.TheVariants.{Accepted, Refused, Shown, NoMemory}
use Rattle.lay_history.specs.declared.edits.history.Entry.{Entry}
use Rattle.lay_history.specs.declared.edits.history.Entry.TheVariants.{Edit, Publish, Latest, Sync}
use Rattle.lay_history.specs.Histories.{accepted, doc_at, last_published, published}

-- the reply answers a list of edits of a document, before which so many lists were accepted
abbrev pub AnswersEdits : Document → ℕ → List Change → Reply → Type 0
AnswersEdits d count edits (Accepted version) = (first d edits ≡ None) × (version ≡ count + 1)
AnswersEdits d count edits (Refused place f) = first d edits ≡ Some (place, f)
AnswersEdits d count edits (Shown version) = ⊥
AnswersEdits d count edits NoMemory = length edits ≡ 1 → fault_at d edits 0 ≡ None

-- the reply answers `Latest`, where this version was published last
abbrev pub AnswersLatest : Option ℕ → Reply → Type 0
AnswersLatest last (Accepted version) = ⊥
AnswersLatest last (Refused place f) = ⊥
AnswersLatest last (Shown version) = last ≡ Some version
AnswersLatest last NoMemory = ⊤

-- the reply answers `Sync`, where this version was published last and so many lists of edits were accepted
abbrev pub AnswersSync : Option ℕ → ℕ → Reply → Type 0
AnswersSync last count (Accepted version) = ⊥
AnswersSync last count (Refused place f) = ⊥
AnswersSync last count (Shown version) = (last ≡ Some version) × (version ≡ count)
AnswersSync last count NoMemory = ⊤

-- the document as it is after a history
abbrev pub doc_after : Document → List Entry → Document
doc_after init history = doc_at init history (accepted history)

-- the entry may come after these
abbrev pub MayFollow : Document → List Entry → Entry → Type 0
MayFollow init before (Edit editor index edits reply) = AnswersEdits (doc_after init before) (accepted before) edits reply
MayFollow init before (Publish version) = (version ≡ accepted before) × All (λ v. v < version) (published before)
MayFollow init before (Latest editor index reply) = AnswersLatest (last_published before) reply
MayFollow init before (Sync editor index reply) = AnswersSync (last_published before) (accepted before) reply

-- each entry may come after those before it
abbrev pub IsLegal : Document → List Entry → Type 0
IsLegal init history = (k : ℕ) (e : Entry) → slice_get history k ≡ Some e → MayFollow init (take k history) e

-- the last version is published
abbrev pub IsWhole : List Entry → Type 0
IsWhole history = last_published history ≡ Some (accepted history)
