use Rattle.std.proofs.Common.{◌≡◌, length, ap, arith}
use Rattle.lay_contexts.specs.FormattingContextList.{first_number}
use Rattle.lay_contexts.specs.Partings.{homes_of}
use Rattle.lay_contexts.proofs.ContextFacts.{in_order}
use Rattle.lay_contexts.proofs.GrowingColumns.{few_numbers, homes_found}
use Rattle.lay_contexts.proofs.GrowingList.{all_listed}
use Rattle.lay_contexts.proofs.formatting_context_list.formatting_contexts.Goals as goal

pub new-requires-clause-few : goal.new-requires-clause-few
new-requires-clause-few c =
    let contexts = c.args.contexts.now in
    let ps = c.in_ok-partings.partings.items in
    let found = c.in_ok-partings.ensures {u = tt} in
    let n : c.loop-i.i ≡ length contexts = omega (arith, c.len-i-end.ensures.count, c.loop-i-test.false, c.loop-i.auto.i-end) in
    let count = c.loop-i.invariant.count in
    let all = ap (first_number contexts) n in
    let few = few_numbers contexts ps found in
    omega (arith, count, all, few)

pub new-requires-clause-are : goal.new-requires-clause-are
new-requires-clause-are c =
    let contexts = c.args.contexts.now in
    let ps = c.in_ok-partings.partings.items in
    let found = c.in_ok-partings.ensures {u = tt} in
    let n : c.loop-i.i ≡ length contexts = omega (arith, c.len-i-end.ensures.count, c.loop-i-test.false, c.loop-i.auto.i-end) in
    let of = all_listed contexts (homes_of ps) c.loop-i.items.items c.loop-i.i n (homes_found contexts ps found) c.loop-i.invariant in
    in_order contexts c.loop-i.items.items c.len-i-end.ensures.are of
