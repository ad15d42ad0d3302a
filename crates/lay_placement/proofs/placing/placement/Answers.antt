use Rattle.std.proofs.Common.{arith, ap, length, ◌∙◌}
use Rattle.lay_placement.proofs.placing.placement.Goals as goal

pub own_box-own-requires-clause-sizes : goal.own_box-own-requires-clause-sizes
own_box-own-requires-clause-sizes c =
    let fits = c.boxes.ensures.fits in
    rw (c.sizes_at.ensures, c.sizes.ensures) (fits.size_bounds 0 (omega (arith, fits.size_count, fits.boxes.some)))

pub new-requires-3 : goal.new-requires-3
new-requires-3 c =
    let made = (c.in_ok-pieces-2.ensures {u = tt}).ok ∙ c.new.ensures in
    let counted = ap length made in
    let pieces = c.in_ok-pieces.ensures {u = tt} in
    record {
      own = c.own_box-own.ensures.fits;
      pieces = rw made pieces.near;
      few = omega (arith, counted, pieces.few);
      standings = (c.in_ok-standings.ensures {u = tt}).near;
    }
