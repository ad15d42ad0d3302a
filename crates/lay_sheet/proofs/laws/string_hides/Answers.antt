use Rattle.lay_sheet.proofs.Texts.{string_hides_lem}
use Rattle.lay_sheet.proofs.laws.string_hides.Goals as goal

pub returns : goal.returns
returns c = string_hides_lem
