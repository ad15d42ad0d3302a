use Rattle.std.proofs.Common.{◌≡◌, length, arith}
use Rattle.lay_contexts.proofs.FollowedLinks.{all_follow, all_in_order, as_many, none_follow}
use Rattle.lay_contexts.proofs.later_boxes.later_formatting_contexts.Goals.{then-made-i+in_ok-list_made, else-made-i+in_ok-list_kept}
use Rattle.lay_contexts.proofs.later_boxes.later_formatting_contexts.Goals as goal

pub loop-i-init : goal.loop-i-init
loop-i-init c =
    none_follow c.args.of.now.contexts.now c.args.of.now.later.now c.requires.links c.args.of.now.all.now c.requires.are c.in_ok-items.items.items
    ((c.in_ok-items.ensures {u = tt}).items)

pub bounds-made-i : goal.bounds-made-i
bounds-made-i c = omega (arith, c.loop-i-test.true, c.len-i-end.ensures.count, c.requires.links.count, c.requires.kept.flags)

pub list_kept-requires-clause-kept : goal.list_kept-requires-clause-kept
list_kept-requires-clause-kept c =
    c.requires.kept.kept c.loop-i.i (omega (arith, c.loop-i-test.true, c.len-i-end.ensures.count, c.requires.links.count)) c.if-made-i.false

pub loop-i-preserved : goal.loop-i-preserved
loop-i-preserved c =
    elim c.if-made-i.branch [
      | then-made-i+in_ok-list_made w ↦ rw w.items-is (w.in_ok-list_made.ensures {u = tt})
      | else-made-i+in_ok-list_kept w ↦ rw w.items-is (w.in_ok-list_kept.ensures {u = tt})
    ]

pub new-requires-clause-few : goal.new-requires-clause-few
new-requires-clause-few c =
    let n : c.loop-i.i ≡ length c.args.of.now.later.now = omega (arith, c.loop-i-test.false, c.loop-i.auto.i-end, c.len-i-end.ensures.count) in
    let many = as_many c.args.of.now.contexts.now c.args.of.now.later.now c.requires.links c.args.of.now.all.now c.loop-i.items.items c.loop-i.i c.loop-i.invariant n in
    omega (arith, many, c.len.ensures.few)

pub new-requires-clause-are : goal.new-requires-clause-are
new-requires-clause-are c =
    let n : c.loop-i.i ≡ length c.args.of.now.later.now = omega (arith, c.loop-i-test.false, c.loop-i.auto.i-end, c.len-i-end.ensures.count) in
    all_in_order c.args.of.now.contexts.now c.args.of.now.later.now c.requires.links c.args.of.now.all.now c.loop-i.items.items c.loop-i.i c.loop-i.invariant n c.len-i-end.ensures.are

pub returns : goal.returns
returns c =
    let n : c.loop-i.i ≡ length c.args.of.now.later.now = omega (arith, c.loop-i-test.false, c.loop-i.auto.i-end, c.len-i-end.ensures.count) in
    rw c.new.ensures (all_follow c.args.of.now.contexts.now c.args.of.now.later.now c.requires.links c.args.of.now.all.now c.loop-i.items.items c.loop-i.i c.loop-i.invariant n)
