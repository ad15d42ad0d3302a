use Rattle.lay_context.proofs.PieceRanges.{near_context_in_range}
use Rattle.lay_context.proofs.assembling.page_context.Goals as goal

pub returns-clause-range : goal.returns-clause-range
returns-clause-range g c =
    let found = c.in_ok-pieces.ensures {u = tt} in
    rw (c.new.ensures, found.pieces) (near_context_in_range _ (c.in_ok-rect.ensures {u = tt}).near c.noted_standing.ensures.fits.shift found.fits.pieces)

pub returns-clause-few : goal.returns-clause-few
returns-clause-few g c =
    let found = c.in_ok-pieces.ensures {u = tt} in
    rw (c.new.ensures, found.pieces) found.fits.few
