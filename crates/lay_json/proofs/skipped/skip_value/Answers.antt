use Rattle.std.proofs.Common.{◌≡◌, ◌∷◌, Some, ap, ◌∙◌, subst, arith, rules}
use Rattle.json.specs.Token.{begin_array}
use Rattle.json.specs.Json.{value}
use Rattle.serde_json.specs.Data.{array}
use Rattle.serde_json.specs.Read.{of_json, converted}
use Rattle.serde_json.specs.View.{view}
use Rattle.lay_json.proofs.Asked.{on_ok}
use Rattle.lay_json.proofs.Pulling.{at_126}
use Rattle.lay_json.proofs.SpansLemmas.Whole.{list_read, shorter}
use Rattle.lay_json.proofs.skipped.skip_value.Goals as goal

pub returns-then-begin_array-clause-value : goal.returns-then-begin_array-clause-value
returns-then-begin_array-clause-value c =
    let ts = c.begin_array.new.self in
    let opened : c.args.cursor.now ≡ begin_array ∷ ts = first_of (search rules, grind arith) in
    on_ok c.skip_items.result
    (λ it. (array it.0, ap (λ us. converted of_json (value 126 us)) opened ∙ list_read 126 ts it.0 c.skip_items.new.cursor (omega arith) it.1))
    c.skip_items.ensures

pub returns-then-begin_array-clause-shorter : goal.returns-then-begin_array-clause-shorter
returns-then-begin_array-clause-shorter c =
    let ts = c.begin_array.new.self in
    let opened : c.args.cursor.now ≡ begin_array ∷ ts = first_of (search rules, grind arith) in
    on_ok c.skip_items.result
    (λ it.
    let read = ap (λ us. converted of_json (value 126 us)) opened ∙ list_read 126 ts it.0 c.skip_items.new.cursor (omega arith) it.1 in
    shorter 126 c.args.cursor.now c.skip_items.new.cursor (array it.0) read)
    c.skip_items.ensures

pub returns-clause-value : goal.returns-clause-value
returns-clause-value c =
    let d = view c.in_ok-next_value.field-0 in
    let rest = c.next_value.new.self in
    let same : c.begin_array.new.self ≡ c.args.cursor.now = first_of (search rules, grind arith) in
    (d, subst (λ ts. converted of_json (value 126 ts) ≡ Some (d, rest)) same (at_126 c.begin_array.new.self rest d c.in_ok-next_value.ensures.value))
