use Rattle.lay_table_sizes.proofs.AutoWidths.{auto_widths_fit_the_room_lem}
use Rattle.lay_table_sizes.proofs.bound_laws.auto_widths_fit_the_room.Goals as goal

pub returns : goal.returns
returns c = auto_widths_fit_the_room_lem
