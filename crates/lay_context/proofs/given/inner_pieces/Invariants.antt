use Rattle.std.proofs.Common.{◌≡◌, map, take}
use Rattle.lay_contexts.specs.FormattingContexts.{formatting_context_at}
use Rattle.lay_placements.specs.InnerPieces.{AreNearInnerPieces, pieces_or_none}
use Rattle.lay_context.specs.DocumentLayout.{flow_number, pieces_in}
use Rattle.lay_context.proofs.given.inner_pieces.Given as goal

abbrev pub invariant-loop-k : goal.invariant-loop-k
invariant-loop-k g l = record {
  pieces : map pieces_or_none l.pieces.items
      ≡ map (pieces_in l.at.contexts.now (g.V.Values.workings l.at.known.now).places) (map (flow_number l.at.contexts.now) (take l.k (formatting_context_at l.at.contexts.now l.at.number).inner));
  near : AreNearInnerPieces (map pieces_or_none l.pieces.items);
}
