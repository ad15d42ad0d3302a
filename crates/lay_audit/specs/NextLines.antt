-- Which line stands next in a text.
use Rattle.std.specs.Prelude.{ℕ, ◌≡◌, ◌++◌, List, length, codes}
use Rattle.std.specs.Fmt.{decimal}
use Rattle.lay_history.specs.declared.edits.command.Cmd.{Cmd}
use Rattle.lay_history.specs.declared.edits.command.Cmd.TheVariants as command
use Rattle.lay_history.specs.declared.edits.command.Reply.{Reply}
use Rattle.lay_history.specs.declared.edits.history.Entry.{Entry}
use Rattle.lay_report.specs.Report.{entry_line, reply_text}
use Rattle.lay_audit.specs.declared.step.Step.{Step}
use Rattle.lay_audit.specs.Presents.{Answers, IsStep, PresentValue}

-- the text begins with these bytes
pub record BeginsWith (text front : List ℕ) : Type 0 where
  pub more : List ℕ
  pub text_is : text ≡ front ++ more

-- the line of an entry of this step stands next
pub record StandsNext (scripts : List (List Cmd)) (p : PresentValue) (rest : List ℕ) (step : Step) : Type 0 where
  pub entry : Entry
  pub is : IsStep scripts p step entry
  pub begins : BeginsWith rest (entry_line entry)

abbrev pub StandsNot : List (List Cmd) → PresentValue → List ℕ → Step → Type 0
StandsNot scripts p rest step = (e : Entry) → IsStep scripts p step e → BeginsWith rest (entry_line e) → ⊥

-- how the line of a command begins, before the reply
abbrev pub command_word : Cmd → List ℕ
command_word (command.Edits edits) = codes "edit "
command_word command.Latest = codes "latest "
command_word command.Sync = codes "sync "

abbrev pub command_front : (editor index : ℕ) → Cmd → List ℕ
command_front editor index c = command_word c ++ decimal editor ++ codes " " ++ decimal index ++ codes " "

-- how many edits a command has; one that is to be shown a version has none
abbrev pub edit_count : Cmd → ℕ
edit_count (command.Edits edits) = length edits
edit_count command.Latest = 0
edit_count command.Sync = 0

-- and how the line of one with so many edits ends
abbrev pub reply_end : ℕ → Reply → List ℕ
reply_end count reply = reply_text count reply ++ codes "\n"

-- a right reply to the command stands next
pub record RepliesNext (p : PresentValue) (c : Cmd) (said : List ℕ) (reply : Reply) : Type 0 where
  pub right : Answers p c reply
  pub begins : BeginsWith said (reply_end (edit_count c) reply)
