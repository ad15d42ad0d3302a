-- What the passes of a run say of its history.
use Rattle.std.specs.Prelude.{ℕ, ◌≡◌, ◌+◌, List, length, slice_get, slice_index_or, Some, []}
use Rattle.std.specs.List.{All}
use Rattle.lay_history.specs.declared.edits.command.Cmd.{Cmd}
use Rattle.lay_history.specs.declared.edits.history.Entry.{Entry}
use Rattle.lay_history.specs.Calls.{AnswersScripts, calls, script_calls}
use Rattle.lay_board.specs.Entries.{by_editor}
use Rattle.lay_board.specs.Passes.{IsKnownIn, PassOf}
use Rattle.lay_board.specs.Rules.{IsNoEditor}

-- the pass at this place is that of the next number, and has made the calls of the script there
pub record HasRun (scripts : List (List Cmd)) (place : ℕ) (p : PassOf) : Type 0 where
  pub number : p.knows.number ≡ place + 1
  pub own : calls p.knows.own ≡ script_calls (place + 1) 0 (slice_index_or scripts place [])

-- Where each pass has made the calls of its script, a history that has of each editor just the entries that its pass knows of, and none of
-- an editor without a pass, answers each editor's commands once and in order, and no other.
abbrev pub PassesAnswerScripts : Type 0
PassesAnswerScripts = (scripts : List (List Cmd)) (passes : List PassOf) (history : List Entry) → length passes ≡ length scripts
    → ((place : ℕ) (p : PassOf) → slice_get passes place ≡ Some p → HasRun scripts place p) → All (IsKnownIn history) passes
    → ((n : ℕ) → IsNoEditor (length scripts) n → by_editor n history ≡ []) → AnswersScripts history scripts
