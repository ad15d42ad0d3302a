use Rattle.lay_grid.proofs.AutomaticLemmas.OneColumns.{one_list_of_columns_lem}
use Rattle.lay_grid.proofs.automatic.laws.one_list_of_columns.Goals as goal

pub returns : goal.returns
returns c = one_list_of_columns_lem
