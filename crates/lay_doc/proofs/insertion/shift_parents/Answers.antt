use Rattle.std.proofs.Common.{◌<◌, length, arith}
use Rattle.std.proofs.lemmas.Grind.{common_steps}
use Rattle.lay_doc.specs.Document.{moved}
use Rattle.lay_doc.proofs.Inserted.{front_stays, parent_ahead, shift_more}
use Rattle.lay_doc.proofs.insertion.shift_parents.Goals as goal

pub loop-k-init : goal.loop-k-init
loop-k-init c =
    let nodes = c.args.nodes.now.items in
    rw (front_stays nodes c.args.at c.args.at c.requires.before) (grind (arith, common_steps))

pub shift_parent-requires-clause-small : goal.shift_parent-requires-clause-small
shift_parent-requires-clause-small c =
    let within : c.loop-k.k < length c.args.nodes.now.items = omega arith in
    rw (parent_ahead (moved c.args.at) c.args.nodes.now.items c.loop-k.nodes.items c.loop-k.k within c.loop-k.invariant) (c.requires.small c.loop-k.k within)

pub loop-k-preserved : goal.loop-k-preserved
loop-k-preserved c =
    let within : c.loop-k.k < length c.args.nodes.now.items = omega arith in
    shift_more (moved c.args.at) c.args.nodes.now.items c.loop-k.nodes.items c.shift_parent.new.nodes.items c.loop-k.k within c.loop-k.invariant c.shift_parent.ensures
