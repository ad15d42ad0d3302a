-- What the calls of editors on a core leave.
use Rattle.std.specs.Prelude.{ℕ, ⊤, ◌≡◌, ◌+◌, ◌-◌, ◌&&◌, not, List, [], ◌∷◌, ◌++◌, Bool}
use Rattle.std.specs.Prelude.{true, false, Option, Some, None, is_some, if◌then◌else◌}
use Rattle.lay_doc.specs.declared.edit.Edit.{Edit as Change}
use Rattle.lay_doc.specs.Document.{Document}
use Rattle.lay_history.specs.Edits.EditLists.{after_all, fault_at, first}
use Rattle.lay_history.specs.declared.edits.command.Reply.{Reply}
use Rattle.lay_history.specs.declared.edits.command.Reply.TheVariants.{Accepted, Refused, Shown, NoMemory}
use Rattle.lay_history.specs.declared.edits.history.Entry.{Entry}
use Rattle.lay_history.specs.declared.edits.history.Entry.TheVariants.{Edit, Publish, Latest, Sync}
use Rattle.lay_face.specs.FaceValue.{FaceValue}
use Rattle.lay_history.specs.Histories.{accepted, last_published}
use Rattle.lay_document_cells.specs.Edits.{CellsEditTo}
use Rattle.lay_document_cells.specs.State.{IsNew}
use Rattle.lay_core.specs.State.{State, document_cells, is_clean}
use Rattle.lay_core.specs.Publishing.{RefreshesTo, is_version}
use Rattle.lay_core.specs.Work.{MaySettle}

-- a core that no call has come to: each cell is made, and dirty
pub record IsNewCore (d : Document) (face : FaceValue) (calls : ℕ) (s : State) : Type 0 where
  pub cells : IsNew d face (document_cells s)
  pub state : s ≡ record { init = d; face = face; history = []; document = d; cells = s.cells; trees = []; calls_left = calls; laid = 0 }

-- with the entry of a call
abbrev pub called : State → Entry → State
called s entry = record s { history = s.history ++ entry ∷ []; calls_left = s.calls_left - 1 }

-- the list of edits is applied, and cells of contexts that this touches are dirty, with those that depend on them
pub record EditsDocument (s : State) (edits : List Change) (t : State) : Type 0 where
  pub cells : CellsEditTo (document_cells s) edits (document_cells t)
  pub state : t ≡ record s { document = after_all s.document edits; cells = t.cells }

-- a list of edits with this reply: a fault or want of memory changes nothing but the history
abbrev pub EditsTo : State → (editor index : ℕ) → List Change → Reply → State → Type 0
EditsTo s editor index edits (Accepted version) t =
    (first s.document edits ≡ None) × (version ≡ accepted s.history + 1)
    × EditsDocument (called s (Edit editor index edits (Accepted version))) edits t
EditsTo s editor index edits (Refused place f) t =
    (first s.document edits ≡ Some (place, f)) × (t ≡ called s (Edit editor index edits (Refused place f)))
EditsTo s editor index edits (Shown version) t = ⊥
EditsTo s editor index edits NoMemory t = (fault_at s.document edits 0 ≡ None) × (t ≡ called s (Edit editor index edits NoMemory))

-- the present version is shown, or memory runs out and nothing is published
abbrev pub ShowsPresent : State → Reply → State → Type 0
ShowsPresent s (Accepted version) t = ⊥
ShowsPresent s (Refused place f) t = ⊥
ShowsPresent s (Shown version) t = (version ≡ accepted s.history) × RefreshesTo s t
ShowsPresent s NoMemory t = MaySettle s t

-- this version is shown
abbrev pub ShowsVersion : Option ℕ → Reply → Type 0
ShowsVersion last (Accepted version) = ⊥
ShowsVersion last (Refused place f) = ⊥
ShowsVersion last (Shown version) = last ≡ Some version
ShowsVersion last NoMemory = ⊥

-- the version that was published last is shown
abbrev pub ShowsLast : State → Reply → State → Type 0
ShowsLast s reply t = ShowsVersion (last_published s.history) reply × (t ≡ s)

-- whether `Latest` publishes: nothing is published yet, or no cell is dirty and the present version isn't published
abbrev pub due_of : (last : Option ℕ) → (clean : Bool) → (count : ℕ) → Bool
due_of last clean count = if is_some last then clean && not (is_version last count) else true

abbrev pub is_due : State → Bool
is_due s = due_of (last_published s.history) (is_clean s) (accepted s.history)

abbrev pub ShowsLatest : Bool → State → Reply → State → Type 0
ShowsLatest true s reply t = ShowsPresent s reply t
ShowsLatest false s reply t = ShowsLast s reply t

-- `Latest` with this reply: what it shows, and its entry
pub record LatestTo (s : State) (editor index : ℕ) (reply : Reply) (t : State) : Type 0 where
  pub before : State
  pub shows : ShowsLatest (is_due s) s reply before
  pub state : t ≡ called before (Latest editor index reply)

-- `Sync` with this reply
pub record SyncTo (s : State) (editor index : ℕ) (reply : Reply) (t : State) : Type 0 where
  pub before : State
  pub shows : ShowsPresent s reply before
  pub state : t ≡ called before (Sync editor index reply)

-- the entry of a command that is to be shown a version
abbrev pub IsReadEntry : Entry → Type 0
IsReadEntry (Edit editor index edits reply) = ⊥
IsReadEntry (Publish version) = ⊥
IsReadEntry (Latest editor index reply) = ⊤
IsReadEntry (Sync editor index reply) = ⊤
