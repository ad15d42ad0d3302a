use Rattle.std.proofs.Common.{◌≡◌, ◌∙◌, ap, arith, length, map}
use Rattle.std.proofs.lemmas.List.{length-map}
use Rattle.std.specs.Arc.{arc_value}
use Rattle.lay_contexts.specs.ContextList.{AreNumberedTo, boxes_of_spots}
use Rattle.lay_contexts.proofs.ContextNumbers.{numbered_contexts}
use Rattle.lay_contexts.proofs.FewContexts.{few_contexts}
use Rattle.lay_contexts.proofs.context_list.contexts_of.Goals as goal

pub new-requires-clause-few : goal.new-requires-clause-few
new-requires-clause-few c =
    let few = few_contexts c.args.doc.now.nodes c.args.computed.now c.in_ok-list.list.spots.items (c.in_ok-list.ensures {u = tt}).spots in
    let same : map arc_value c.in_ok-all.all.items ≡ c.number_inner.new.items.items = c.in_ok-all.ensures {u = tt} in
    let count = length-map c.in_ok-all.all.items arc_value in
    let as_many = ap length same in
    omega (arith, few, c.nodes.ensures.valid.few, c.number_inner.ensures.count, count, as_many)

pub new-requires-clause-are : goal.new-requires-clause-are
new-requires-clause-are c =
    let same : map arc_value c.in_ok-all.all.items ≡ c.number_inner.new.items.items = c.in_ok-all.ensures {u = tt} in
    rw same (numbered_contexts c.in_ok-list.list.spots.items c.in_ok-list.list.boxes.items c.number_inner.new.items.items (c.in_ok-list.ensures {u = tt}).order c.number_inner.ensures)

pub returns : goal.returns
returns c =
    let list = c.in_ok-list.ensures {u = tt} in
    let spots = c.in_ok-list.list.spots.items in
    let result : c.new.result ≡ c.number_inner.new.items.items = c.new.ensures ∙ c.in_ok-all.ensures {u = tt} in
    let numbered : AreNumberedTo spots (boxes_of_spots c.args.doc.now.nodes c.args.computed.now spots) c.number_inner.new.items.items (length spots) = rw list.boxes at c.number_inner.ensures in
    rw result (record { spots = spots; are = list.spots; numbered = numbered })
