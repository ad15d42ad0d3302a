use Rattle.std.proofs.Common.{rules, ◌≡◌, ◌<◌, true, false, slice_set, length}
use Rattle.lay_box_tree.specs.Containing.{container_of}
use Rattle.lay_flow_boxes.specs.AskedContents.{is_asked_at}
use Rattle.lay_flow_boxes.proofs.AskedSteps.{none_more, one_more}
use Rattle.lay_flow_boxes.proofs.asked_contents.asked_holders.Goals as goal
use Rattle.lay_flow_boxes.proofs.asked_contents.asked_holders.Goals.{then-is_asked_at, else-is_asked_at}

pub loop-k-preserved : goal.loop-k-preserved
loop-k-preserved c =
    elim c.if-is_asked_at.branch [
      | then-is_asked_at w ↦ (let asked : is_asked_at c.args.asked c.args.boxes.now c.loop-k.k ≡ true = search rules in
          let within : container_of c.args.boxes.now c.loop-k.k < length c.args.boxes.now = search rules in
          let set : c.if-is_asked_at.holders.items ≡ slice_set c.loop-k.holders.items (container_of c.args.boxes.now c.loop-k.k) true = search rules in
          rw set (one_more c.args.asked c.args.boxes.now c.loop-k.holders.items c.loop-k.k c.loop-k.invariant within asked))
      | else-is_asked_at w ↦ (let asked : is_asked_at c.args.asked c.args.boxes.now c.loop-k.k ≡ false = search rules in
          rw w.holders-is (none_more c.args.asked c.args.boxes.now c.loop-k.holders.items c.loop-k.k c.loop-k.invariant asked))
    ]
