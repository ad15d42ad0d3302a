use Rattle.std.proofs.Common.{◌≡◌, ◌++◌, sym, ap, ◌∙◌, arith}
use Rattle.std.proofs.lemmas.Bool.Decides.{Decides-eqb}
use Rattle.std.proofs.lemmas.Slice.Eq.{slice_eq-Decides}
use Rattle.std.proofs.lemmas.Option.{same_Some, none-some}
use Rattle.std.proofs.lemmas.Bool.{both_ways}
use Rattle.lay_report.specs.Report.{laid_line}
use Rattle.lay_audit.specs.Lines.{behind_line, first_line}
use Rattle.lay_audit.proofs.EndSteps.{laid_first}
use Rattle.lay_audit.proofs.LineFacts.{line_parts}
use Rattle.lay_audit.proofs.ending.behind_laid.Goals as goal
use Rattle.lay_audit.proofs.ending.behind_laid.Goals.{else-contexts-laid-via-then-contexts-laid+else-eq, else-contexts-laid-via-else-contexts-laid}

pub returns-in_default-clause-none : goal.returns-in_default-clause-none
returns-in_default-clause-none c = λ e rest is.
    none-some is.laid (sym c.in_default.is ∙ c.laid_number.ensures is.laid is.within (c.split_line.ensures.first ∙ (ap first_line is.text_is ∙ laid_first is.laid rest)))

pub returns-then-eq-clause-some : goal.returns-then-eq-clause-some
returns-then-eq-clause-some c =
    let same = (slice_eq-Decides Decides-eqb c.as_bytes.result.now c.split_line.result.0.now c.eq.result c.eq.ensures).0 c.if-eq.true in
    let line = sym c.split_line.ensures.first ∙ (sym same ∙ (c.as_bytes.ensures.value ∙ c.in_ok-written.ensures)) in
    record {
      laid = c.in-Some.laid;
      enough = omega arith;
      within = omega arith;
      text_is = sym (line_parts c.args.text.now) ∙ (ap (λ x. x ++ behind_line c.args.text.now) line ∙ ap (λ x. laid_line c.in-Some.laid ++ x) (sym c.split_line.ensures.rest));
    }

pub returns-clause-none : goal.returns-clause-none
returns-clause-none c = λ e rest is.
    let line = c.split_line.ensures.first ∙ (ap first_line is.text_is ∙ laid_first is.laid rest) in
    let number : c.in-Some.laid ≡ is.laid = same_Some c.in-Some.laid is.laid (sym c.in-Some.is ∙ c.laid_number.ensures is.laid is.within line) in
    elim c.else-contexts-laid.branch [
      | else-contexts-laid-via-then-contexts-laid+else-eq w ↦
          both_ways w.eq.result w.if-eq.false ((slice_eq-Decides Decides-eqb w.as_bytes.result.now c.split_line.result.0.now w.eq.result w.eq.ensures).1
          (w.as_bytes.ensures.value ∙ (c.in_ok-written.ensures ∙ (ap laid_line number ∙ sym line))))
      | else-contexts-laid-via-else-contexts-laid w ↦ (let f = w.if-contexts-laid.false in let m = is.enough in omega (arith, f, m, number))
    ]
