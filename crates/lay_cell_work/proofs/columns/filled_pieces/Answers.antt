use Rattle.std.proofs.Common.{◌∙◌, ◌<◌, ◌≤◌, [], ◌∷◌, ap, map, length, arith}
use Rattle.std.proofs.lemmas.List.{length-map, map-append}
use Rattle.lay_placements.specs.InnerPieces.{pieces_or_none}
use Rattle.lay_cell_work.proofs.Cited.{one_more_near}
use Rattle.lay_cell_work.specs.CellValues.{Places, own_pieces}
use Rattle.lay_cell_work.proofs.FilledColumns.{all_filled, one_more_filled}
use Rattle.lay_cell_work.proofs.columns.filled_pieces.Goals as goal

pub loop-k-preserved : goal.loop-k-preserved
loop-k-preserved c =
    let pushed = (c.in_ok-push.ensures {u = tt}).items in
    let found = c.in_ok-pieces_at.ensures {u = tt} in
    let count = ap length c.as_slice-count.ensures.pieces in
    let counted = length-map c.as_slice-count.result.now pieces_or_none in
    let within : c.loop-k.k < length c.args.given.now = omega (arith, count, counted, c.loop-k-test.true) in
    let split = map-append pieces_or_none c.loop-k.pieces.items (c.in_ok-pieces_at.field-0 ∷ []) in
    record {
      pieces = rw (pushed, split) (one_more_filled [] (own_pieces (Places c.args.places.now)) c.args.links.now c.args.given.now (map pieces_or_none c.loop-k.pieces.items) c.loop-k.k (pieces_or_none c.in_ok-pieces_at.field-0) within c.loop-k.invariant.pieces found.pieces);
      near = rw (pushed, split) (one_more_near (map pieces_or_none c.loop-k.pieces.items) (pieces_or_none c.in_ok-pieces_at.field-0) c.loop-k.invariant.near found.near);
    }

pub returns : goal.returns
returns c =
    let count = ap length c.as_slice-count.ensures.pieces in
    let counted = length-map c.as_slice-count.result.now pieces_or_none in
    let past : length c.args.given.now ≤ c.loop-k.k = omega (arith, count, counted, c.loop-k-test.false) in
    c.new.ensures ∙ all_filled [] (own_pieces (Places c.args.places.now)) c.args.links.now c.args.given.now (map pieces_or_none c.loop-k.pieces.items) c.loop-k.k past c.loop-k.invariant.pieces
