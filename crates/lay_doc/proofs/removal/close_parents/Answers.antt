use Rattle.std.proofs.Common.{◌<◌, length, arith}
use Rattle.std.proofs.lemmas.Grind.{common_steps}
use Rattle.lay_doc.specs.Removal.{moved_back}
use Rattle.lay_doc.proofs.Inserted.{parent_ahead, shift_more}
use Rattle.lay_doc.proofs.Removed.{front_stays_back}
use Rattle.lay_doc.proofs.removal.close_parents.Goals as goal

pub loop-k-init : goal.loop-k-init
loop-k-init c = rw (front_stays_back c.args.nodes.now.items c.args.from c.args.to c.args.from c.requires.before) (grind (arith, common_steps))

pub close_parent-requires-clause-kept : goal.close_parent-requires-clause-kept
close_parent-requires-clause-kept c =
    let within : c.loop-k.k < length c.args.nodes.now.items = omega arith in
    rw (parent_ahead (moved_back c.args.from c.args.to) c.args.nodes.now.items c.loop-k.nodes.items c.loop-k.k within c.loop-k.invariant) (c.requires.kept c.loop-k.k within)

pub loop-k-preserved : goal.loop-k-preserved
loop-k-preserved c =
    let within : c.loop-k.k < length c.args.nodes.now.items = omega arith in
    shift_more (moved_back c.args.from c.args.to) c.args.nodes.now.items c.loop-k.nodes.items c.close_parent.new.nodes.items c.loop-k.k within c.loop-k.invariant c.close_parent.ensures
