use Rattle.std.proofs.Common.{◌∷◌, [], map, refl}
use Rattle.std.proofs.lemmas.List.{map-append}
use Rattle.lay_contexts.specs.FormattingContexts.{formatting_context_at}
use Rattle.lay_placements.specs.InnerPieces.{pieces_or_none}
use Rattle.lay_context.specs.DocumentLayout.{flow_number, pieces_in}
use Rattle.lay_context.proofs.GivenFacts.{no_inner_pieces_are_near, one_more_near, one_more_of}
use Rattle.lay_context.proofs.given.inner_pieces.Goals as goal

pub loop-k-init : goal.loop-k-init
loop-k-init g c =
    let none = (c.in_ok-pieces.ensures {u = tt}).items in
    record { pieces = rw none refl; near = rw none no_inner_pieces_are_near }

pub loop-k-preserved : goal.loop-k-preserved
loop-k-preserved g c =
    let at = c.args.at.now in
    let pushed = (c.in_ok-push.ensures {u = tt}).items in
    let found = c.in_ok-pieces_in.ensures {u = tt} in
    let within = rw (c.inner-count.ensures, c.formatting_context.ensures.context) at c.loop-k-test.true in
    let is = rw (c.inner_at.ensures.contexts, c.inner_at.ensures.known, c.inner_at.ensures.number) at found.pieces in
    let split = map-append pieces_or_none c.loop-k.pieces.items (c.in_ok-pieces_in.field-0 ∷ []) in
    record {
      pieces = rw (pushed, split) (one_more_of (pieces_in at.contexts.now (g.V.Values.workings at.known.now).places) (flow_number at.contexts.now) (formatting_context_at at.contexts.now at.number).inner c.loop-k.k (map pieces_or_none c.loop-k.pieces.items) (pieces_or_none c.in_ok-pieces_in.field-0)
          within c.loop-k.invariant.pieces is);
      near = rw (pushed, split) (one_more_near (map pieces_or_none c.loop-k.pieces.items) (pieces_or_none c.in_ok-pieces_in.field-0) c.loop-k.invariant.near found.near);
    }
