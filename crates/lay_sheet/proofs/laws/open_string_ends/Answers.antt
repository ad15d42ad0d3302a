use Rattle.lay_sheet.proofs.Closing.{open_string_ends_lem}
use Rattle.lay_sheet.proofs.laws.open_string_ends.Goals as goal

pub returns : goal.returns
returns c = open_string_ends_lem
