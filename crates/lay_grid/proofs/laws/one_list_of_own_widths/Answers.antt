use Rattle.lay_grid.proofs.OneColumns.{one_list_of_own_widths_lem}
use Rattle.lay_grid.proofs.laws.one_list_of_own_widths.Goals as goal

pub returns : goal.returns
returns c = one_list_of_own_widths_lem
