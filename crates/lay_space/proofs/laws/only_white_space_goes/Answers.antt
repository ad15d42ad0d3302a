use Rattle.lay_space.proofs.ProcessedContent.{only_white_space_goes_lem}
use Rattle.lay_space.proofs.laws.only_white_space_goes.Goals as goal

pub returns : goal.returns
returns c = only_white_space_goes_lem
