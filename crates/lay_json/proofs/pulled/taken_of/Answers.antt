use Rattle.std.proofs.Common.{◌≡◌, subst, arith, rules}
use Rattle.serde_json.specs.Data.{item}
use Rattle.lay_json.specs.Spans.Readings.{ReadsItems, items_then}
use Rattle.lay_json.proofs.SpansLemmas.Whole.{items_appended}
use Rattle.lay_json.proofs.Taking.{taken_more}
use Rattle.lay_json.proofs.pulled.taken_of.Goals as goal

pub nodes-preserved : goal.nodes-preserved
nodes-preserved c =
    let was = c.nodes.invariant in
    let it = c.in_ok-take_more.ensures.value in
    let cursor = c.take_more.new.cursor in
    let same : c.end_array.new.self ≡ c.nodes.cursor = first_of (search rules, grind arith) in (
      was.0,
      was.1,
      items_then was.2 it.0,
      was.3,
      items_appended 124 was.0 (item was.1 was.2) c.nodes.cursor it.0 cursor was.4 (subst (λ ts. ReadsItems 124 ts it.0 cursor) same it.1),
      taken_more c.args.viewport c.args.named was.1 was.2 it.0 c.nodes.taken c.take_more.new.taken was.5 it.2,
    )
