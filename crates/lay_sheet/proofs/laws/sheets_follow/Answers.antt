use Rattle.lay_sheet.proofs.Closing.{sheets_follow_lem}
use Rattle.lay_sheet.proofs.laws.sheets_follow.Goals as goal

pub returns : goal.returns
returns c = sheets_follow_lem
