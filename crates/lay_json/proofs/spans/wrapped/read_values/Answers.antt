use Rattle.std.proofs.Common.{◌≡◌, Some, refl, sym, ap, ◌∙◌}
use Rattle.serde_json.specs.Data.{array, item, no_items}
use Rattle.serde_json.specs.Read.{read}
use Rattle.lay_json.specs.Spans.Readings.{wrapped, three_deep}
use Rattle.lay_json.proofs.SpansLemmas.Standing.{stand_as}
use Rattle.lay_json.proofs.spans.wrapped.read_values.Goals as goal

pub returns-then-is_filled : goal.returns-then-is_filled
returns-then-is_filled c =
    let it = c.if-is_filled.ensures refl in
    let text = c.as_slice.ensures.value ∙ c.in_ok-wrap.ensures in
    let said : read (wrapped c.args.own.now) ≡ Some (three_deep (item it.0 it.1)) =
    ap read (sym text) ∙ c.in_ok-read.ensures ∙ ap Some (c.in_ok-only.ensures ∙ ap (λ d. array (item d no_items)) (c.in_ok-values.ensures ∙ ap (λ d. array (item d no_items)) it.2)) in
    (it.0, it.1, it.2, stand_as c.args.own.now it.0 it.1 said c.requires)
