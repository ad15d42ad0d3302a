-- What adjoining margins collapse to (CSS 2.2, 8.3.1): the greatest positive margin less the greatest
-- absolute value of the negative ones. Each of the two counts as zero where no margin is of that sign.
-- So margins of 20, 10 and -30 collapse to 20 - 30 = -10, and -10 and -30 to 0 - 30 = -30.
use Rattle.std.specs.Prelude.{◌≡◌, ℤ, pos, ◌+ℤ◌, List, [], ◌∷◌}
use Rattle.std.specs.Int.{int_min, int_max}
use Rattle.lay_margins.specs.StrutValue.{StrutValue}

-- the greatest of zero and these
abbrev pub greatest_margin : List ℤ → ℤ
greatest_margin [] = pos 0
greatest_margin (m ∷ ms) = int_max m (greatest_margin ms)

-- the least of zero and these
abbrev pub least : List ℤ → ℤ
least [] = pos 0
least (m ∷ ms) = int_min m (least ms)

abbrev pub collapse : List ℤ → ℤ
collapse margins = greatest_margin margins +ℤ least margins

-- the strut holds these margins
pub record Holds (strut : StrutValue) (margins : List ℤ) : Type 0 where
  pub positive_is : strut.positive ≡ greatest_margin margins
  pub negative_is : strut.negative ≡ least margins
