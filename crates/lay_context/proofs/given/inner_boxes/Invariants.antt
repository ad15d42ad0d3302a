use Rattle.std.proofs.Common.{◌≡◌, map, take}
use Rattle.lay_contexts.specs.FormattingContexts.{formatting_context_at}
use Rattle.lay_context.specs.DocumentLayout.{flow_number, own_box_in}
use Rattle.lay_sizes.specs.OwnBoxes.{OwnBoxesFit}
use Rattle.lay_context.proofs.given.inner_boxes.Given as goal

abbrev pub invariant-loop-k : goal.invariant-loop-k
invariant-loop-k g l = record {
  boxes : l.boxes.items ≡ map (own_box_in (g.V.Values.workings l.at.known.now).places) (map (flow_number l.at.contexts.now) (take l.k (formatting_context_at l.at.contexts.now l.at.number).inner));
  fit : OwnBoxesFit l.boxes.items;
}
