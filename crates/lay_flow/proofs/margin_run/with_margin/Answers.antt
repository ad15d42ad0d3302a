use Rattle.std.proofs.Common.{[], ◌∷◌}
use Rattle.lay_flow.proofs.StrutBounds.{holds_itself, fits_after}
use Rattle.lay_flow.proofs.margin_run.with_margin.Goals as goal

pub invariant_of-result : goal.invariant_of-result
invariant_of-result c =
    let s = c.args.used.strut in
    record { fits = fits_after s c.add.result c.args.margin.0 c.args.used.fits c.requires (c.add.ensures (s.positive ∷ s.negative ∷ []) (holds_itself s c.args.used.fits)) }
