-- What stands after a history, and the entries that may come next: the next command of an editor with a reply that is right
-- now, or that the present version is published.
use Rattle.std.specs.Prelude.{ℕ, ⊤, zero, suc, ◌≡◌, ◌+◌, ◌≤◌, ◌<◌, ◌^◌, List, [], length, take}
use Rattle.std.specs.Prelude.{fold, slice_get, slice_index_or, slice_set, Option, Some, None}
use Rattle.std.specs.List.{All}
use Rattle.lay_doc.specs.Document.{Document}
use Rattle.lay_history.specs.Edits.EditLists.{after_all}
use Rattle.lay_history.specs.declared.edits.command.Cmd.{Cmd}
use Rattle.lay_history.specs.declared.edits.command.Cmd.TheVariants as command
use Rattle.lay_history.specs.declared.edits.command.Reply.{Reply}
use Rattle.lay_history.specs.declared.edits.history.Entry.{Entry}
use Rattle.lay_history.specs.declared.edits.history.Entry.TheVariants as entry
use Rattle.lay_history.specs.Calls.{calls, calls_of, script_calls, script_of}
use Rattle.lay_history.specs.Histories.{accepted, list_in, last_or, last_published, shown_by, version_in}
use Rattle.lay_history.specs.Legal.{AnswersEdits, AnswersLatest, AnswersSync, IsLegal, doc_after}
use Rattle.lay_audit.specs.declared.step.Step.{Step}
use Rattle.lay_audit.specs.declared.step.Step.TheVariants.{Answer, Publish}
use Rattle.lay_audit.specs.LegalReports.{Basis}

-- the document, the number of accepted lists of edits, the version that was published last, and how many commands of each editor
-- are answered
pub record PresentValue : Type 0 where
  pub document : Document
  pub count : ℕ
  pub last : Option ℕ
  pub next : List ℕ

-- how many commands of an editor are answered; editors are numbered from 1
abbrev pub answered_of : List ℕ → ℕ → ℕ
answered_of next zero = 0
answered_of next (suc place) = slice_index_or next place 0

-- it stands so after a legal history, which answers fronts of the scripts
pub record IsPresent (basis : Basis) (history : List Entry) (p : PresentValue) : Type 0 where
  pub legal : IsLegal basis.init history
  pub document_is : p.document ≡ doc_after basis.init history
  pub count_is : p.count ≡ accepted history
  pub last_is : p.last ≡ last_published history
  pub answered : (editor : ℕ)
      → calls_of editor (calls history) ≡ script_calls editor 0 (take (answered_of p.next editor) (script_of basis.scripts editor))
  pub within : (place : ℕ) → slice_index_or p.next place 0 ≤ length (slice_index_or basis.scripts place [])
  pub editors : length p.next ≡ length basis.scripts

-- the entry of a command and a reply to it
abbrev pub entry_of : (editor index : ℕ) → Cmd → Reply → Entry
entry_of editor index (command.Edits edits) reply = entry.Edit editor index edits reply
entry_of editor index command.Latest reply = entry.Latest editor index reply
entry_of editor index command.Sync reply = entry.Sync editor index reply

-- the reply is right now
abbrev pub Answers : PresentValue → Cmd → Reply → Type 0
Answers p (command.Edits edits) reply = AnswersEdits p.document p.count edits reply
Answers p command.Latest reply = AnswersLatest p.last reply
Answers p command.Sync reply = AnswersSync p.last p.count reply

-- the next command of the editor at a place
abbrev pub next_command : List (List Cmd) → PresentValue → ℕ → Option Cmd
next_command scripts p place = slice_get (slice_index_or scripts place []) (slice_index_or p.next place 0)

-- the entry answers the next command of the editor at a place so
pub record IsAnswer (scripts : List (List Cmd)) (p : PresentValue) (place : ℕ) (reply : Reply) (e : Entry) : Type 0 where
  pub command : Cmd
  pub command_is : next_command scripts p place ≡ Some command
  pub answers : Answers p command reply
  pub entry_is : e ≡ entry_of (suc place) (slice_index_or p.next place 0) command reply

-- the entry may come now
abbrev pub IsStep : List (List Cmd) → PresentValue → Step → Entry → Type 0
IsStep scripts p (Answer place reply) e = IsAnswer scripts p place reply e
IsStep scripts p Publish e = (p.last ≡ Some p.count → ⊥) × (e ≡ entry.Publish p.count)

abbrev pub next_after : Step → List ℕ → List ℕ
next_after (Answer place reply) next = slice_set next place (slice_index_or next place 0 + 1)
next_after Publish next = next

-- the version that a step shows
abbrev pub shown_in : Step → Option ℕ
shown_in (Answer place reply) = shown_by reply
shown_in Publish = None

-- it stands so after this entry
pub record Moves (p : PresentValue) (step : Step) (e : Entry) (q : PresentValue) : Type 0 where
  pub document_is : q.document ≡ fold after_all p.document (list_in e)
  pub count_is : q.count ≡ p.count + length (list_in e)
  pub last_is : q.last ≡ last_or p.last (version_in e)
  pub next_is : q.next ≡ next_after step p.next

-- a command has less than 2^64 edits
abbrev pub IsCommandWithin : Cmd → Type 0
IsCommandWithin (command.Edits edits) = length edits < 2 ^ 64
IsCommandWithin command.Latest = ⊤
IsCommandWithin command.Sync = ⊤

abbrev pub AreCommandsWithin : List Cmd → Type 0
AreCommandsWithin commands = All IsCommandWithin commands

-- the numbers that entries may have now are below 2^64
pub record IsPresentWithin (scripts : List (List Cmd)) (p : PresentValue) : Type 0 where
  pub lists : All AreCommandsWithin scripts
  pub editors : length scripts + 1 < 2 ^ 64
  pub indices : (place : ℕ) → slice_index_or p.next place 0 < 2 ^ 64
  pub count : p.count + 1 < 2 ^ 64

-- the edits of a command are accepted; the command counts as answered later
abbrev pub Accepts : PresentValue → Cmd → PresentValue → Type 0
Accepts p (command.Edits edits) q = q ≡ record { document = after_all p.document edits; count = p.count + 1; last = p.last; next = p.next }
Accepts p command.Latest q = ⊥
Accepts p command.Sync q = ⊥

-- all commands are answered
abbrev pub AllAnswered : List (List Cmd) → PresentValue → Type 0
AllAnswered scripts p = (place : ℕ) → slice_index_or p.next place 0 ≡ length (slice_index_or scripts place [])
