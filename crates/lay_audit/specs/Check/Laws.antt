-- What follows of the definition: there is one line on a check, and it is `yes` just on legal reports.
use Rattle.std.specs.Prelude.{ℕ, ◌≡◌, ◌↔◌, List, codes}
use Rattle.lay_json.specs.declared.styled.check.Check.{Check}
use Rattle.lay_audit.specs.LegalReports.{IsLegalReport}
use Rattle.lay_audit.specs.Check.Judging.{IsVerdictOn, basis_in}

abbrev pub OneVerdictLine : Type 0
OneVerdictLine = (check : Check) (a b : List ℕ) → IsVerdictOn check a → IsVerdictOn check b → a ≡ b

abbrev pub YesIsForLegalReports : Type 0
YesIsForLegalReports = (check : Check) (text : List ℕ) → IsVerdictOn check text
    → (text ≡ codes "yes\n") ↔ IsLegalReport (basis_in check.run) check.report
