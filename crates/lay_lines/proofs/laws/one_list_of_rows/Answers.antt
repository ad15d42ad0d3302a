use Rattle.lay_lines.proofs.LineLists.{one_list_of_rows_lem}
use Rattle.lay_lines.proofs.laws.one_list_of_rows.Goals as goal

pub returns : goal.returns
returns c = one_list_of_rows_lem (record { place = c.one_float_place.ensures; room = c.one_room.ensures })
