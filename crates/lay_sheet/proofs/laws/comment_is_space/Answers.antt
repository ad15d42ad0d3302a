use Rattle.lay_sheet.proofs.Texts.{comment_is_space_lem}
use Rattle.lay_sheet.proofs.laws.comment_is_space.Goals as goal

pub returns : goal.returns
returns c = comment_is_space_lem
