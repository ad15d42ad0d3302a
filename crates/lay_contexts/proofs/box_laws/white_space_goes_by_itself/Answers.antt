use Rattle.lay_contexts.proofs.WhiteChildren.{white_space_goes_by_itself}
use Rattle.lay_contexts.proofs.box_laws.white_space_goes_by_itself.Goals as goal

pub returns : goal.returns
returns c = white_space_goes_by_itself
