use Rattle.std.proofs.Common.{rules, ◌≡◌, ◌<◌, true, false, slice_set, length, arith}
use Rattle.lay_box_tree.specs.Containing.{container_of}
use Rattle.lay_flow_boxes.specs.declared.inline_containers.Level.TheVariants.{Block as block}
use Rattle.lay_flow_boxes.specs.InlineContainers.{is_of}
use Rattle.lay_flow_boxes.proofs.AloneSteps.{alone_first, alone_less, alone_same}
use Rattle.lay_flow_boxes.proofs.inline_containers.leave_out_holders.Goals as goal
use Rattle.lay_flow_boxes.proofs.inline_containers.leave_out_holders.Goals.{then-is_of, else-is_of}

pub loop-k-init : goal.loop-k-init
loop-k-init c = alone_first c.args.boxes.now c.args.containers.now c.requires.count c.requires.each

pub loop-k-preserved : goal.loop-k-preserved
loop-k-preserved c =
    elim c.if-is_of.branch [
      | then-is_of w ↦ (let of : is_of block c.args.boxes.now c.loop-k.k ≡ true = search rules in
          let within : container_of c.args.boxes.now c.loop-k.k < length c.args.boxes.now = search rules in
          let set : c.if-is_of.containers ≡ slice_set c.loop-k.containers (container_of c.args.boxes.now c.loop-k.k) false = search rules in
          rw set (alone_less c.args.boxes.now c.loop-k.containers c.loop-k.k c.loop-k.invariant (omega (arith, c.loop-k.auto.k)) within of))
      | else-is_of w ↦ (let of : is_of block c.args.boxes.now c.loop-k.k ≡ false = search rules in
          rw w.containers-is (alone_same c.args.boxes.now c.loop-k.containers c.loop-k.k c.loop-k.invariant of))
    ]
