use Rattle.lay_sheet.proofs.PrintedSheets.{printed_sheet_reads_lem}
use Rattle.lay_sheet.proofs.laws.printed_sheet_reads.Goals as goal

pub returns : goal.returns
returns c = printed_sheet_reads_lem
