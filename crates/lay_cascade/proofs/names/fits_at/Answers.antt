use Rattle.std.proofs.Common.{◌∙◌, ap}
use Rattle.lay_cascade.specs.NodeNames.{fits}
use Rattle.lay_cascade.proofs.Climbing.{fits_read}
use Rattle.lay_cascade.proofs.names.fits_at.Goals as goal

pub fits-requires : goal.fits-requires
fits-requires c = c.requires.sets.each c.args.place c.names_at.result.now c.set_at.result.now c.requires.place c.names_at.ensures c.set_at.ensures

pub returns : goal.returns
returns c = c.fits.ensures ∙ ap (λ z. fits z c.args.simple.now) c.names_at.ensures ∙ fits_read c.args.names.now c.args.place c.names_at.result.now c.args.simple.now c.requires.place
