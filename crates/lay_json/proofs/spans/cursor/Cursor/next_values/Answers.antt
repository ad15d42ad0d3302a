use Rattle.std.proofs.Common.{◌≡◌, ◌++◌, sym, ap, ◌∙◌, subst, arith, rules}
use Rattle.json.specs.Lex.{between, lex, punctuate}
use Rattle.serde_json.specs.Data.{item}
use Rattle.lay_json.specs.Spans.Scans.{place_of}
use Rattle.lay_json.specs.declared.spans.cursor.Place.TheVariants.{AfterValue}
use Rattle.lay_json.specs.Spans.Readings.{tokens_at, ReadsItems, EndsValue}
use Rattle.lay_json.proofs.SpansLemmas.Steps.{begins_there}
use Rattle.lay_json.proofs.SpansLemmas.Whole.{items_shorter}
use Rattle.lay_json.proofs.spans.cursor.Cursor.next_values.Goals as goal

pub returns-clause-value : goal.returns-clause-value
returns-clause-value c =
    let it = c.in_ok-values.ensures in
    let own = c.split_at.result.0.now in
    let rest = c.split_at.result.1.now in
    let p = place_of c.self.inside.place in
    let ends : EndsValue rest = subst EndsValue (sym c.split_at.ensures.back) c.in-Some.ensures.ends in
    let same : tokens_at c.self.inside.place c.self.inside.rest.now ≡ c.args.self.now = first_of (search rules, grind arith) in
    let stood = it.3 rest p ends.0 ends.1 (begins_there c.self.inside.place c.in_default.not-AfterValue) in
    let at : punctuate p (lex between (own ++ rest)) ≡ c.args.self.now = ap (λ t. punctuate p (lex between t)) (sym c.split_at.ensures.by_index.0) ∙ same in
    (it.0, it.1, it.2, subst (λ ts. ReadsItems 124 ts (item it.0 it.1) (tokens_at AfterValue rest)) at stood)

pub returns-clause-shorter : goal.returns-clause-shorter
returns-clause-shorter c =
    let it = c.in_ok-values.ensures in
    let own = c.split_at.result.0.now in
    let rest = c.split_at.result.1.now in
    let p = place_of c.self.inside.place in
    let ends : EndsValue rest = subst EndsValue (sym c.split_at.ensures.back) c.in-Some.ensures.ends in
    let same : tokens_at c.self.inside.place c.self.inside.rest.now ≡ c.args.self.now = first_of (search rules, grind arith) in
    let stood = it.3 rest p ends.0 ends.1 (begins_there c.self.inside.place c.in_default.not-AfterValue) in
    let at : punctuate p (lex between (own ++ rest)) ≡ c.args.self.now = ap (λ t. punctuate p (lex between t)) (sym c.split_at.ensures.by_index.0) ∙ same in
    items_shorter 124 c.args.self.now it.0 it.1 (tokens_at AfterValue rest) (subst (λ ts. ReadsItems 124 ts (item it.0 it.1) (tokens_at AfterValue rest)) at stood)
