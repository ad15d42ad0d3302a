use Rattle.std.proofs.lemmas.Result.{IfOk-weaker}
use Rattle.lay_audit.specs.Verdicts.{IsVerdict}
use Rattle.lay_audit.specs.Check.Judging.{basis_in}
use Rattle.lay_audit.proofs.check.judging.verdict_on.Goals as goal

pub returns : goal.returns
returns c =
    let found : IsVerdict (basis_in c.args.check.now.run) c.args.check.now.report c.in_ok-verdict.verdict =
    rw (c.doc.ensures, c.face.ensures, c.as_slice-scripts.ensures.value, c.scripts.ensures, c.as_str.ensures) at c.in_ok-verdict.ensures in
    IfOk-weaker c.verdict_line.result _ _ (λ text is. record { verdict = c.in_ok-verdict.verdict; is = found; text_is = is }) c.verdict_line.ensures
