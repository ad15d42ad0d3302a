-- The number that the program ends with.
use Rattle.std.specs.Prelude.{ℕ}
use Rattle.lay_drawing.specs.declared.call.Ending.{Ending}
use Rattle.lay_drawing.specs.declared.call.Ending.TheVariants.{Drawn, Refused, Usage, ReadFault, WriteFault, NoMemory}

abbrev pub number_of : Ending → ℕ
number_of Drawn = 0
number_of Refused = 1
number_of Usage = 2
number_of ReadFault = 3
number_of WriteFault = 4
number_of NoMemory = 5
