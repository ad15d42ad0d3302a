-- A container has one list of lines.
use Rattle.lay_flow.proofs.Cited.{one_float_place_lem, one_lines_lem, one_list_of_rows_lem, one_room_lem}
use Rattle.lay_lines.specs.Laws.{OneLines}

pub one_line_list : OneLines
one_line_list = one_lines_lem (one_list_of_rows_lem (record { place = one_float_place_lem; room = one_room_lem }))
