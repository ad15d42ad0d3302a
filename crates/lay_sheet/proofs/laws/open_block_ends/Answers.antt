use Rattle.lay_sheet.proofs.Closing.{open_block_ends_lem}
use Rattle.lay_sheet.proofs.laws.open_block_ends.Goals as goal

pub returns : goal.returns
returns c = open_block_ends_lem
