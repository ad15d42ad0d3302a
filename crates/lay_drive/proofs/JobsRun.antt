-- The jobs of a run, and what their passes know in the end.
use Rattle.std.proofs.Common.{◌≡◌, ℕ, ◌+◌, ◌<◌, ◌≤◌, List, [], ◌++◌, length, map, slice_get, slice_index_or, option_map, Some, sym, ap, ◌∙◌, subst, arith}
use Rattle.std.proofs.lemmas.List.{length-map}
use Rattle.std.proofs.lemmas.Option.{get_or_from_slice_get, slice_get-get_or, same_Some, slice_get-map, slice_get_within}
use Rattle.std.specs.List.{All}
use Rattle.atomic_table.specs.Seated.{TableId}
use Rattle.lay_history.specs.declared.edits.command.Cmd.{Cmd}
use Rattle.lay_history.specs.declared.edits.history.Entry.{Entry}
use Rattle.lay_history.specs.Calls.{AnswersScripts, calls, calls_of, script_calls}
use Rattle.lay_core.specs.Publishing.{RefreshesTo}
use Rattle.lay_core.specs.State.{State}
use Rattle.lay_core.proofs.Quiet.{refresh_quiet}
use Rattle.lay_board.specs.Entries.{by_editor}
use Rattle.lay_board.specs.Passes.{AreNew, CloserOf, IsKnownIn, PassOf, new_pass}
use Rattle.lay_board.specs.Rules.{IsNoEditor}
use Rattle.lay_board.specs.declared.views.Origin.{Origin}
use Rattle.lay_drive.specs.Laws.{HasRun}
use Rattle.lay_drive.specs.Runs.{AreNewJobs, AreRun}
use Rattle.lay_drive.specs.declared.jobs.Job.{Job}
use Rattle.lay_drive.proofs.Answering.{answer}

abbrev pass_of : Job → PassOf
pass_of j = j.pass

abbrev script_of : Job → List Cmd
script_of j = j.script

pub are_new_jobs : (table : TableId) (origin : Origin) (scripts : List (List Cmd)) (passes : List PassOf) (jobs : List Job) → AreNew table origin (map length scripts) passes
    → map pass_of jobs ≡ passes → map script_of jobs ≡ scripts → AreNewJobs table origin scripts jobs
are_new_jobs table origin scripts passes jobs new passes_are scripts_are = record {
  count = sym (length-map jobs script_of) ∙ ap length scripts_are;
  scripts_are = script;
  passes_are = λ place j at.
      let n = new.each place j.pass (ap (λ ps. slice_get ps place) (sym passes_are) ∙ slice_get-map pass_of jobs place ∙ ap (option_map pass_of) at) in
      let left : n.0 ≡ length j.script = same_Some n.0 (length j.script) (sym n.1 ∙ slice_get-map length scripts place ∙ ap (option_map length) (script place j at)) in
      n.2 ∙ ap (λ l. record { table = table; knows = new_pass origin (place + 1) l }) left;
}
  where
    script : (place : ℕ) (j : Job) → slice_get jobs place ≡ Some j → slice_get scripts place ≡ Some j.script
    script place j at = ap (λ ss. slice_get ss place) (sym scripts_are) ∙ slice_get-map script_of jobs place ∙ ap (option_map script_of) at

-- a job at a place of a list
abbrev at_place : List Job → ℕ → Job → Type 0
at_place jobs place j = slice_get jobs place ≡ Some j

pub tables_of : (table : TableId) (origin : Origin) (scripts : List (List Cmd)) (jobs : List Job) → AreNewJobs table origin scripts jobs → All (λ j. j.pass.table ≡ table) jobs
tables_of table origin scripts jobs new place d lt = ap (λ p. p.table) (new.passes_are place (slice_index_or jobs place d) (slice_get-get_or jobs place d lt))

pub calls_left : (table : TableId) (origin : Origin) (scripts : List (List Cmd)) (jobs : List Job) → AreNewJobs table origin scripts jobs
    → All (λ j. length j.script ≤ j.pass.knows.left) jobs
calls_left table origin scripts jobs new place d lt =
    let e = ap (λ p. p.knows.left) (new.passes_are place (slice_index_or jobs place d) (slice_get-get_or jobs place d lt)) in omega (arith, e)

-- what is known of the pass at a place in the end
record IsEnded (table : TableId) (scripts : List (List Cmd)) (place : ℕ) (p : PassOf) : Type 0 where
  table_is : p.table ≡ table
  run : HasRun scripts place p

ended : (table : TableId) (origin : Origin) (scripts : List (List Cmd)) (jobs : List Job) (passes : List PassOf) → AreNewJobs table origin scripts jobs → AreRun jobs passes
    → (place : ℕ) (p : PassOf) → slice_get passes place ≡ Some p → IsEnded table scripts place p
ended table origin scripts jobs passes new runs place p at = by (slice_index_or jobs place d) (slice_get-get_or jobs place d lt)
  where
    d : Job
    d = record { pass = p; script = [] }

    lt : place < length jobs
    lt = let l = slice_get_within passes place p at in let c = runs.count in omega (arith, l, c)

    by : (j : Job) → at_place jobs place j → IsEnded table scripts place p
    by j job =
        let is = runs.each place j p job at in
        let pass = new.passes_are place j job in
        let script : j.script ≡ slice_index_or scripts place [] = sym (get_or_from_slice_get scripts place j.script [] (new.scripts_are place j job)) in
        record {
          table_is = is.table ∙ ap (λ q. q.table) pass;
          run = record {
            number = is.number ∙ ap (λ q. q.knows.number) pass;
            own = is.own ∙ ap (λ q. calls q.knows.own ++ script_calls q.knows.number (length q.knows.own) j.script) pass ∙ ap (script_calls (place + 1) 0) script;
          };
        }

pub ended_tables : (table : TableId) (origin : Origin) (scripts : List (List Cmd)) (jobs : List Job) (passes : List PassOf) → AreNewJobs table origin scripts jobs
    → AreRun jobs passes → All (λ p. p.table ≡ table) passes
ended_tables table origin scripts jobs passes new runs place d lt =
    (ended table origin scripts jobs passes new runs place (slice_index_or passes place d) (slice_get-get_or passes place d lt)).table_is

pub ended_count : (table : TableId) (origin : Origin) (scripts : List (List Cmd)) (jobs : List Job) (passes : List PassOf) → AreNewJobs table origin scripts jobs
    → AreRun jobs passes → length passes ≡ length scripts
ended_count table origin scripts jobs passes new runs = runs.count ∙ new.count

-- the jobs of an engine that was started for these scripts
pub started : (table : TableId) (origin : Origin) (scripts all slice : List (List Cmd)) (counts : List ℕ) (passes : List PassOf) (jobs : List Job) → all ≡ scripts → slice ≡ all
    → counts ≡ map length slice → AreNew table origin counts passes → map pass_of jobs ≡ passes → map script_of jobs ≡ all → AreNewJobs table origin scripts jobs
started table origin scripts all slice counts passes jobs all_is slice_is counts_are new passes_are scripts_are =
    are_new_jobs table origin scripts passes jobs (subst (λ ns. AreNew table origin ns passes) (counts_are ∙ ap (map length) (slice_is ∙ all_is)) new) passes_are (scripts_are ∙ all_is)

-- as many passes were made as there are scripts
pub made_is : (closer : CloserOf) (table : TableId) (origin : Origin) (scripts all slice : List (List Cmd)) (counts : List ℕ) → closer ≡ record { table = table; origin = origin; made = length counts }
    → all ≡ scripts → slice ≡ all → counts ≡ map length slice → closer.made ≡ length scripts
made_is closer table origin scripts all slice counts is all_is slice_is counts_are =
    ap (λ (x : CloserOf). x.made) is ∙ (ap length counts_are ∙ (length-map slice length ∙ ap length (slice_is ∙ all_is)))

pub ended_answers : (table : TableId) (origin : Origin) (scripts : List (List Cmd)) (jobs : List Job) (passes : List PassOf) (history : List Entry) (made : ℕ)
    → made ≡ length scripts → AreNewJobs table origin scripts jobs → AreRun jobs passes → All (IsKnownIn history) passes
    → ((n : ℕ) → IsNoEditor made n → by_editor n history ≡ []) → AnswersScripts history scripts
ended_answers table origin scripts jobs passes history made made_is new runs known others =
    answer scripts passes history (ended_count table origin scripts jobs passes new runs)
    (λ place p at. (ended table origin scripts jobs passes new runs place p at).run) known
    (subst (λ m. (n : ℕ) → IsNoEditor m n → by_editor n history ≡ []) made_is others)

-- to publish the last version answers no call
pub refreshed_answers : (scripts : List (List Cmd)) (s t : State) → RefreshesTo s t → AnswersScripts s.history scripts → AnswersScripts t.history scripts
refreshed_answers scripts s t does answers editor = ap (calls_of editor) (refresh_quiet s t does).call ∙ answers editor
