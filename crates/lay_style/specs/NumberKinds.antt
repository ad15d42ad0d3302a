-- The code's enum of the numbers that a property takes, as the definitions name them.
use Rattle.lay_style.specs.declared.values.Numbers.{Numbers}
use Rattle.lay_style.specs.declared.values.Numbers.TheVariants.{Never, FromZero, Any}
use Rattle.lay_style.specs.Values.{no_number, from_zero, any_number}
use Rattle.lay_style.specs.Values as values

abbrev pub number_range_of : Numbers → values.Numbers
number_range_of Never = no_number
number_range_of FromZero = from_zero
number_range_of Any = any_number
