-- The lines of verdicts.
use Rattle.std.proofs.Common.{◌≡◌, ◌∙◌, ℕ, ◌++◌, List, codes, refl, sym, ap, arith}
use Rattle.std.specs.Prelude.{◌↔◌, slice_index_or}
use Rattle.std.specs.Fmt.{decimal}
use Rattle.lay_audit.specs.declared.verdict.Verdict.{Verdict}
use Rattle.lay_audit.specs.declared.verdict.Verdict.TheVariants.{Yes, No}
use Rattle.lay_audit.specs.LegalReports.{IsLegalReport}
use Rattle.lay_audit.specs.Laws.{OneVerdict, YesIsLegal}
use Rattle.lay_audit.specs.Check.Judging.{basis_in, verdict_line}
use Rattle.lay_audit.specs.Check.Laws.{OneVerdictLine, YesIsForLegalReports}

pub one_verdict_line_lem : OneVerdict → OneVerdictLine
one_verdict_line_lem one check a b x y = x.text_is ∙ ap verdict_line (one (basis_in check.run) check.report x.verdict y.verdict x.is y.is) ∙ sym y.text_is

-- another line begins with another letter
no_yes : (rest : List ℕ) → codes "no " ++ rest ≡ codes "yes\n" → ⊥
no_yes rest e = let f : 110 ≡ 121 = ap (λ (xs : List ℕ). slice_index_or xs 0 0) e in absurd (omega (arith, f))

only_yes : (v : Verdict) → verdict_line v ≡ codes "yes\n" → v ≡ Yes
only_yes Yes e = refl
only_yes (No number) e = absurd (no_yes (decimal number ++ codes "\n") e)

pub yes_is_for_legal_reports_lem : YesIsLegal → YesIsForLegalReports
yes_is_for_legal_reports_lem law check text on = (said, legal)
  where
    just : (on.verdict ≡ Yes) ↔ IsLegalReport (basis_in check.run) check.report
    just = law (basis_in check.run) check.report on.verdict on.is

    said : text ≡ codes "yes\n" → IsLegalReport (basis_in check.run) check.report
    said e = just.0 (only_yes on.verdict (sym on.text_is ∙ e))

    legal : IsLegalReport (basis_in check.run) check.report → text ≡ codes "yes\n"
    legal l = on.text_is ∙ ap verdict_line (just.1 l)
