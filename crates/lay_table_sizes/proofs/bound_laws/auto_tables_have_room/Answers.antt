use Rattle.lay_table_sizes.proofs.AutoWidths.{auto_tables_have_room_lem}
use Rattle.lay_table_sizes.proofs.bound_laws.auto_tables_have_room.Goals as goal

pub returns : goal.returns
returns c = auto_tables_have_room_lem
