use Rattle.std.proofs.Common.{rules, ◌≡◌, ◌<◌, true, false, slice_set, length, arith}
use Rattle.lay_box_tree.specs.Containing.{container_of}
use Rattle.lay_flow_boxes.specs.InlineContainers.{is_of}
use Rattle.lay_flow_boxes.proofs.InlineContainerSteps.{none_more, one_more}
use Rattle.lay_flow_boxes.proofs.inline_containers.holders.Goals as goal
use Rattle.lay_flow_boxes.proofs.inline_containers.holders.Goals.{then-is_of, else-is_of}

pub loop-k-preserved : goal.loop-k-preserved
loop-k-preserved c =
    elim c.if-is_of.branch [
      | then-is_of w ↦ (let of : is_of c.args.level c.args.boxes.now c.loop-k.k ≡ true = search rules in
          let within : container_of c.args.boxes.now c.loop-k.k < length c.args.boxes.now = search rules in
          let set : c.if-is_of.holders.items ≡ slice_set c.loop-k.holders.items (container_of c.args.boxes.now c.loop-k.k) true = search rules in
          rw set (one_more c.args.level c.args.boxes.now c.loop-k.holders.items c.loop-k.k c.loop-k.invariant (omega (arith, c.loop-k.auto.k)) within of))
      | else-is_of w ↦ (let of : is_of c.args.level c.args.boxes.now c.loop-k.k ≡ false = search rules in
          rw w.holders-is (none_more c.args.level c.args.boxes.now c.loop-k.holders.items c.loop-k.k c.loop-k.invariant of))
    ]
