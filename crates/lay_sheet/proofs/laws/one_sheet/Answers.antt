use Rattle.lay_sheet.proofs.OneSheet.{one_sheet_lem}
use Rattle.lay_sheet.proofs.laws.one_sheet.Goals as goal

pub returns : goal.returns
returns c = one_sheet_lem
