use Rattle.std.proofs.Common.{◌≡◌, ◌++◌, sym, ap, ◌∙◌}
use Rattle.lay_report.specs.Report.{final_line}
use Rattle.lay_audit.specs.Readings.{ReadingValue}
use Rattle.lay_audit.proofs.reading.Reading.behind_final.Goals as goal

pub returns-clause-none : goal.returns-clause-none
returns-clause-none c = λ e rest is.
    let line : c.as_bytes.result.now ≡ final_line c.args.self.now.present.count = c.as_bytes.ensures.value ∙ (c.in_ok-line.ensures ∙ ap final_line (c.count.ensures ∙ ap (λ (x : ReadingValue). x.present.count) c.self.view_is)) in
    c.behind.ensures.none e (record { more = rest; text_is = ap (λ (x : ReadingValue). x.rest) c.self.view_is ∙ (is.rest_is ∙ ap (λ x. x ++ rest) (sym line)) })
