use Rattle.lay_sheet.proofs.Closing.{open_comment_ends_lem}
use Rattle.lay_sheet.proofs.laws.open_comment_ends.Goals as goal

pub returns : goal.returns
returns c = open_comment_ends_lem
