use Rattle.std.proofs.Common.{◌≡◌, refl, subst, arith, rules}
use Rattle.serde_json.specs.Data.{no_items, item}
use Rattle.lay_json.specs.Spans.Readings.{ReadsItems, items_then}
use Rattle.lay_json.proofs.SpansLemmas.Whole.{items_appended}
use Rattle.lay_json.proofs.skipped.skip_items.Goals as goal

pub items-init : goal.items-init
items-init c = (no_items, refl)

pub items-preserved : goal.items-preserved
items-preserved c =
    let was = c.items.invariant in
    let it = c.in_ok-next_values.ensures.value in
    let cursor = c.next_values.new.self in
    let more = item it.0 it.1 in
    let same : c.end_array.new.self ≡ c.items.cursor = first_of (search rules, grind arith) in
    (items_then was.0 more, items_appended 124 c.args.cursor.now was.0 c.items.cursor more cursor was.1 (subst (λ ts. ReadsItems 124 ts more cursor) same it.3))
