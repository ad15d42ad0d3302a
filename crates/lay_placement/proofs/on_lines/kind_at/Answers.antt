use Rattle.lay_placement.proofs.on_lines.kind_at.Goals as goal

pub returns-clause-fits : goal.returns-clause-fits
returns-clause-fits c = c.as_slice.ensures.are.fits c.args.k c.requires
