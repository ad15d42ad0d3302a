use Rattle.lay_table_sizes.proofs.AutoWidths.{given_widths_are_greatest_lem}
use Rattle.lay_table_sizes.proofs.bound_laws.given_widths_are_greatest.Goals as goal

pub returns : goal.returns
returns c = given_widths_are_greatest_lem
