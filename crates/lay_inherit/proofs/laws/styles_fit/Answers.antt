use Rattle.lay_inherit.proofs.StyleBounds.{styles_fit_lem}
use Rattle.lay_inherit.proofs.laws.styles_fit.Goals as goal

pub returns : goal.returns
returns c = styles_fit_lem
