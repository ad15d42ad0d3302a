use Rattle.std.proofs.Common.{◌≡◌, ℕ, ap, ◌∙◌, length, ◌+◌}
use Rattle.lay_flow.specs.Blocks.Boxes.{box_at}
use Rattle.lay_flow.specs.Blocks.FlowPlaces.{IsNearPlace, border_box, own_place, corner_at}
use Rattle.lay_flow.specs.Blocks.Lengths.{length_at}
use Rattle.lay_flow.proofs.BorderBoxSteps.{one_longer, one_more}
use Rattle.lay_flow.proofs.border_boxes.border_boxes.Goals as goal

pub loop-k-preserved : goal.loop-k-preserved
loop-k-preserved c =
    let ok = c.in_ok-push.ensures {u = tt} in
    let was = c.loop-k.invariant in
    let columns = c.args.columns.now in
    record {
      count = ap length ok.items ∙ one_longer c.loop-k.places.items c.border_box_at.result ∙ ap (λ (n : ℕ). n + 1) was.count;
      each = rw ok.items (one_more (λ k p. p ≡ border_box (box_at c.args.boxes.now.list.now k).kind (record { 0 = length_at columns.tops.items k }) (record { 0 = length_at columns.heights.items k }) (own_place (box_at c.args.boxes.now.list.now k).kind (corner_at columns.places.items k) (corner_at columns.corners.items k)))
          c.loop-k.places.items c.loop-k.k c.border_box_at.result was.count was.each c.border_box_at.ensures.value);
      near = rw ok.items (one_more (λ k p. IsNearPlace p) c.loop-k.places.items c.loop-k.k c.border_box_at.result was.count was.near c.border_box_at.ensures.near);
    }
