-- Where the shifts of a line lie.
use Rattle.std.specs.Prelude.{List}
use Rattle.lay_units.specs.declared.length.Unit.{Unit}
use Rattle.lay_valign.specs.declared.shift_list.Shifts.{Shifts}
use Rattle.lay_valign.specs.declared.shift_list.Shifts.TheVariants.{One, Many}

abbrev pub shifts_in : Shifts → List Unit
shifts_in (One shifts) = shifts
shifts_in (Many shifts) = shifts.items
