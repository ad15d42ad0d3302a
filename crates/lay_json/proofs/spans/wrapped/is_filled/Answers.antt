use Rattle.std.proofs.Common.{◌<◌, length, sym, arith, rules}
use Rattle.serde_json.specs.View.{view}
use Rattle.lay_json.proofs.SpansLemmas.Steps.{filled}
use Rattle.lay_json.proofs.spans.wrapped.is_filled.Goals as goal

pub returns-in-Some : goal.returns-in-Some
returns-in-Some c = λ some.
    let enough : 0 < length c.in-Some.items.now.items = first_of (search rules, grind arith) in
    filled (view c.args.value.now) c.in-Some.items.now.items (sym c.in-Some.ensures) enough
