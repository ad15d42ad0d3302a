use Rattle.std.proofs.Common.{sym, ◌∙◌}
use Rattle.serde_json.specs.View.{view}
use Rattle.lay_json.proofs.SpansLemmas.Standing.{one_value}
use Rattle.lay_json.proofs.spans.cursor.Cursor.next_value.Goals as goal

pub returns-clause-value : goal.returns-clause-value
returns-clause-value c =
    let it = c.in_ok-values.ensures.value in
    one_value c.args.self.now c.next_values.new.self it.0 (view c.in_ok-value.value) it.1 (sym it.2 ∙ c.in_ok-value.ensures) it.3
