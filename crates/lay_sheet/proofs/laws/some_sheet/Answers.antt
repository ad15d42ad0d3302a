use Rattle.lay_sheet.proofs.SomeSheet.{some_sheet_lem}
use Rattle.lay_sheet.proofs.laws.some_sheet.Goals as goal

pub returns : goal.returns
returns c = some_sheet_lem
