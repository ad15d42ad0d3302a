-- Bytes don't both spell a run and have a fault, so without faults of the streams each has the answer of its kind.
use Rattle.std.proofs.Common.{◌≡◌, ◌⊎◌, ℕ, List, refl, inl, inr, Option, Some, None, IfSome, Ok, Err}
use Rattle.lay_run.specs.Runs.{Run}
use Rattle.lay_json.specs.Styled.StyledReading.{IsStyledReading}
use Rattle.lay_cli.proofs.Cited.{one_styled_check_lem, one_styled_reading_lem}
use Rattle.lay_core.specs.State.{State}
use Rattle.lay_words.specs.declared.form.Form.{Form}
use Rattle.lay_words.specs.declared.form.Form.TheVariants as form
use Rattle.lay_json.specs.declared.styled.check.Check.{Check}
use Rattle.lay_json.specs.Styled.StyledChecks.{IsStyledCheck}
use Rattle.lay_cli.specs.Answers.{IsAskedWell, IsInputRefusal, IsRefused, OfRun, Refuses, Reports}
use Rattle.lay_cli.specs.Checks.{IsCheckRefusal}
use Rattle.lay_cli.specs.Endings.{Ends, SinkValue}
use Rattle.lay_cli.specs.declared.status.Status.{Status}
use Rattle.lay_cli.specs.declared.status.Status.TheVariants.{Ok as ok, Refused as refused, Usage as usage, ReadFault as read_fault, WriteFault as write_fault, NoMemory as no_memory}

not_both : (bytes line : List ℕ) (run : Run) → IsStyledReading bytes (Ok run) → IsInputRefusal bytes line → ⊥
not_both bytes line run reading refusal =
    let e : Ok run ≡ Err refusal.fault = one_styled_reading_lem bytes (Ok run) (Err refusal.fault) reading refusal.reading in absurd cc

not_both_checked : (bytes line : List ℕ) (check : Check) → IsStyledCheck bytes (Ok check) → IsCheckRefusal bytes line → ⊥
not_both_checked bytes line check reading refusal =
    let e : Ok check ≡ Err refusal.fault = one_styled_check_lem bytes (Ok check) (Err refusal.fault) reading refusal.reading in absurd cc

-- words that ask well of these bytes aren't refused
never_refused : (asked : Form) (bytes line : List ℕ) → IsAskedWell asked bytes → Refuses asked (Some bytes) line → ⊥
never_refused form.Scratch bytes line well refusal = not_both bytes line well.0 well.1 refusal
never_refused (form.Run workers) bytes line well refusal = not_both bytes line well.0 well.1 refusal
never_refused (form.Gen size seed workers) bytes line well refusal = refusal
never_refused (form.Hit x y) bytes line well refusal = not_both bytes line well.0 well.1 refusal
never_refused form.Check bytes line well refusal = not_both_checked bytes line well.check well.spells refusal

-- bytes that are refused have no report
of_run : (bytes line : List ℕ) (P : Run → Type 0) → OfRun bytes P → IsInputRefusal bytes line → ⊥
of_run bytes line P r refusal = not_both bytes line r.run r.spells refusal

never_reported : (asked : Form) (bytes line text : List ℕ) (kept : Option State) → Reports asked (Some bytes) kept text → IsRefused asked bytes line → ⊥
never_reported form.Scratch bytes line text kept report refusal = of_run bytes line _ report.1.solves refusal
never_reported (form.Run workers) bytes line text None report refusal = report
never_reported (form.Run workers) bytes line text (Some s) report refusal = of_run bytes line _ report.driven refusal
never_reported (form.Gen size seed workers) bytes line text kept report refusal = refusal
never_reported (form.Hit x y) bytes line text kept report refusal = of_run bytes line _ report.1.seen refusal
never_reported form.Check bytes line text kept report refusal = not_both_checked bytes line report.1.judged.check report.1.judged.spells refusal

-- a run is reported
pub reported : (asked : Form) (left : Option (List ℕ)) (status : Status) (s t : SinkValue) (kept : Option State) → Ends (Reports asked left) (Refuses asked left) status s t kept
    → (status ≡ usage → ⊥) → (status ≡ read_fault → ⊥) → (status ≡ write_fault → ⊥)
    → IfSome left (λ bytes. IsAskedWell asked bytes → (status ≡ ok) ⊎ (status ≡ no_memory))
reported asked None status s t kept ends not_usage not_read not_write = tt
reported asked (Some bytes) ok s t kept ends not_usage not_read not_write = λ well. inl refl
reported asked (Some bytes) refused s t kept ends not_usage not_read not_write = λ well. let r = ends.refused refl in absurd (never_refused asked bytes r.0 well r.1)
reported asked (Some bytes) usage s t kept ends not_usage not_read not_write = λ well. absurd (not_usage refl)
reported asked (Some bytes) read_fault s t kept ends not_usage not_read not_write = λ well. absurd (not_read refl)
reported asked (Some bytes) write_fault s t kept ends not_usage not_read not_write = λ well. absurd (not_write refl)
reported asked (Some bytes) no_memory s t kept ends not_usage not_read not_write = λ well. inr refl

-- a generated run is reported
pub generated_reported : (size seed workers : ℕ) (left : Option (List ℕ)) (status : Status) (s t : SinkValue) (kept : Option State)
    → Ends (Reports (form.Gen size seed workers) left) (Refuses (form.Gen size seed workers) left) status s t kept
    → (status ≡ usage → ⊥) → (status ≡ read_fault → ⊥) → (status ≡ write_fault → ⊥) → (status ≡ ok) ⊎ (status ≡ no_memory)
generated_reported size seed workers left ok s t kept ends not_usage not_read not_write = inl refl
generated_reported size seed workers left refused s t kept ends not_usage not_read not_write = let r = ends.refused refl in absurd r.1
generated_reported size seed workers left usage s t kept ends not_usage not_read not_write = absurd (not_usage refl)
generated_reported size seed workers left read_fault s t kept ends not_usage not_read not_write = absurd (not_read refl)
generated_reported size seed workers left write_fault s t kept ends not_usage not_read not_write = absurd (not_write refl)
generated_reported size seed workers left no_memory s t kept ends not_usage not_read not_write = inr refl

-- what is refused has its line
pub refuses : (asked : Form) (left : Option (List ℕ)) (status : Status) (s t : SinkValue) (kept : Option State) → Ends (Reports asked left) (Refuses asked left) status s t kept
    → (status ≡ usage → ⊥) → (status ≡ read_fault → ⊥) → (status ≡ write_fault → ⊥)
    → IfSome left (λ bytes. (line : List ℕ) → IsRefused asked bytes line → (status ≡ refused) ⊎ (status ≡ no_memory))
refuses asked None status s t kept ends not_usage not_read not_write = tt
refuses asked (Some bytes) ok s t kept ends not_usage not_read not_write = λ line refusal. let r = ends.ok refl in absurd (never_reported asked bytes line r.0 kept r.1 refusal)
refuses asked (Some bytes) refused s t kept ends not_usage not_read not_write = λ line refusal. inl refl
refuses asked (Some bytes) usage s t kept ends not_usage not_read not_write = λ line refusal. absurd (not_usage refl)
refuses asked (Some bytes) read_fault s t kept ends not_usage not_read not_write = λ line refusal. absurd (not_read refl)
refuses asked (Some bytes) write_fault s t kept ends not_usage not_read not_write = λ line refusal. absurd (not_write refl)
refuses asked (Some bytes) no_memory s t kept ends not_usage not_read not_write = λ line refusal. inr refl
