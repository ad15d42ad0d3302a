-- Bytes have one styled check.
use Rattle.std.proofs.Common.{◌≡◌, ◌∙◌, ℕ, ◌<◌, List, length, refl, sym, ap, subst, Result, Ok, Err}
use Rattle.lay_run.specs.Runs.{Run}
use Rattle.lay_json.specs.declared.fault.InputFault.{InputFault}
use Rattle.lay_json.specs.declared.fault.InputFault.TheVariants.{TooLong}
use Rattle.lay_json.specs.declared.check_in.CheckIn.{CheckIn}
use Rattle.lay_json.specs.declared.sheet_in.SheetIn.{SheetIn}
use Rattle.lay_json.specs.Fields.{map_read}
use Rattle.lay_json.specs.Reading.{check_too_long}
use Rattle.lay_json.proofs.OneCheck.{one_check_lem, runs_read_beside_reports_lem}
use Rattle.lay_json.specs.declared.styled.check.Check.{Check}
use Rattle.lay_json.specs.Styled.StyledReading.{read, refused}
use Rattle.lay_json.specs.Styled.StyledChecks.{IsCheckStyled, IsStyledCheck, check_read, check_refused}
use Rattle.lay_json.specs.Styled.Laws.{OneStyledCheck, RunsAreStyledBesideReports}
use Rattle.lay_json.proofs.StyledLemmas.OneStyledReading.{one_styled_input}

abbrev Asked : Type 0
Asked = Result CheckIn InputFault

abbrev asking : CheckIn → Asked
asking check = Ok check

abbrev refusing : InputFault → Asked
refusing fault = Err fault

same_fault : (e f : InputFault) → refusing e ≡ refusing f → e ≡ f
same_fault e f is = cc

same_check : (a b : CheckIn) → asking a ≡ asking b → a ≡ b
same_check a b is = cc

no_both : (a : CheckIn) (e : InputFault) → asking a ≡ refusing e → ⊥
no_both a e is = absurd cc

abbrev with_report : List ℕ → Result Run InputFault → Result Check InputFault
with_report report run = map_read (λ r. record { run = r; report = report }) run

one_check_styled : (check : CheckIn) (a b : Result Check InputFault) → IsCheckStyled check a → IsCheckStyled check b → a ≡ b
one_check_styled check a b x y = x.is ∙ ap (with_report check.report) (one_styled_input check.run check.sheet x.run y.run x.styled y.styled) ∙ sym y.is

pub one_styled_check_lem : OneStyledCheck
one_styled_check_lem bytes a b (check_refused e x p) (check_refused f y q) = p ∙ ap Err (same_fault e f (one_check_lem bytes (refusing e) (refusing f) x y)) ∙ sym q
one_styled_check_lem bytes a b (check_refused e x p) (check_read check y s) = absurd (no_both check e (one_check_lem bytes (asking check) (refusing e) y x))
one_styled_check_lem bytes a b (check_read check x s) (check_refused f y q) = absurd (no_both check f (one_check_lem bytes (asking check) (refusing f) x y))
one_styled_check_lem bytes a b (check_read check x s) (check_read other y t) =
    one_check_styled other a b (subst (λ z. IsCheckStyled z a) (same_check check other (one_check_lem bytes (asking check) (asking other) x y)) s) t

refusal-run : (run : Run) (fault : InputFault) → Ok run ≡ Err fault → ⊥
refusal-run run fault e = absurd cc

abbrev both_of : Run → SheetIn → List ℕ → CheckIn
both_of run sheet report = record { run = run; sheet = sheet; report = report }

pub runs_are_styled_beside_reports_lem : RunsAreStyledBesideReports
runs_are_styled_beside_reports_lem bytes report both run holds (refused fault input is) = absurd (refusal-run run fault is)
runs_are_styled_beside_reports_lem bytes report both run holds (read unstyled sheet input styled) =
    check_read (both_of unstyled sheet report) (runs_read_beside_reports_lem bytes report both unstyled sheet holds input)
    (record { run = Ok run; styled = styled; is = refl })

pub check_too_long_lem : (bytes : List ℕ) → 16777216 < length bytes → IsStyledCheck bytes (Err TooLong)
check_too_long_lem bytes more = check_refused TooLong (check_too_long more refl) refl
