use Rattle.lay_sheet.proofs.Texts.{escape_hides_lem}
use Rattle.lay_sheet.proofs.laws.escape_hides.Goals as goal

pub returns : goal.returns
returns c = escape_hides_lem
