-- What editors on threads of their own come to: each pass makes the calls of its script, once and in order.
use Rattle.std.specs.Prelude.{ℕ, ◌≡◌, ◌+◌, List, [], ◌∷◌, ◌++◌, length, slice_get, Some}
use Rattle.atomic_table.specs.Seated.{TableId}
use Rattle.lay_history.specs.declared.edits.command.Cmd.{Cmd}
use Rattle.lay_history.specs.declared.edits.history.Entry.{Entry}
use Rattle.lay_history.specs.Calls.{call_in, calls, script_calls}
use Rattle.lay_board.specs.Passes.{PassOf, new_pass}
use Rattle.lay_board.specs.declared.views.Origin.{Origin}
use Rattle.lay_drive.specs.declared.jobs.Job.{Job}

-- each script has a job with the pass of its place: it is of this table, knows nothing yet, and has a call for each command
pub record AreNewJobs (table : TableId) (origin : Origin) (scripts : List (List Cmd)) (jobs : List Job) : Type 0 where
  pub count : length jobs ≡ length scripts
  pub scripts_are : (place : ℕ) (j : Job) → slice_get jobs place ≡ Some j → slice_get scripts place ≡ Some j.script
  pub passes_are : (place : ℕ) (j : Job) → slice_get jobs place ≡ Some j
      → j.pass ≡ record { table = table; knows = new_pass origin (place + 1) (length j.script) }

-- a call of a pass, which answers this command of its editor
pub record IsCalled (before : PassOf) (command : Cmd) (after : PassOf) : Type 0 where
  pub table : after.table ≡ before.table
  pub number : after.knows.number ≡ before.knows.number
  pub left : after.knows.left + 1 ≡ before.knows.left
  pub entry : Entry
  pub own : after.knows.own ≡ before.knows.own ++ entry ∷ []
  pub answers : call_in entry ≡ record { editor = before.knows.number; index = length before.knows.own; command = command } ∷ []

-- calls of a pass, which answer these commands in order
pub record AreCalled (before : PassOf) (commands : List Cmd) (after : PassOf) : Type 0 where
  pub table : after.table ≡ before.table
  pub number : after.knows.number ≡ before.knows.number
  pub left : after.knows.left + length commands ≡ before.knows.left
  pub length_is : length after.knows.own ≡ length before.knows.own + length commands
  pub own : calls after.knows.own ≡ calls before.knows.own ++ script_calls before.knows.number (length before.knows.own) commands

-- the pass of a job after its script
abbrev pub IsJobRun : Job → PassOf → Type 0
IsJobRun j p = AreCalled j.pass j.script p

-- the passes of all jobs, in their order
pub record AreRun (jobs : List Job) (passes : List PassOf) : Type 0 where
  pub count : length passes ≡ length jobs
  pub each : (place : ℕ) (j : Job) (p : PassOf) → slice_get jobs place ≡ Some j → slice_get passes place ≡ Some p → IsJobRun j p
