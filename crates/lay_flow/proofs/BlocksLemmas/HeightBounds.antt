-- Heights within their bounds.
use Rattle.std.proofs.Common.{◌≡◌, ℤ, pos, Option, Some, None, Bool, true, false, arith, refl, int_lt, ◌≤ℤ◌}
use Rattle.std.proofs.lemmas.Int.{ints}
use Rattle.lay_units.specs.Units.{IsUsedSize}
use Rattle.lay_units.specs.declared.length.Unit.{Unit as Length}
use Rattle.lay_heights.specs.MinMax.{with_min_max_of, at_most_max, at_least_min}

at_least_size : (h low : ℤ) → h ≤ℤ pos 2147483648 → IsUsedSize low → IsUsedSize (at_least_min h low)
at_least_size h low most l = go (int_lt h low) refl
  where
    go : (b : Bool) → int_lt h low ≡ b → IsUsedSize (at_least_min h low)
    go true e = rw e l
    go false e = rw e (let a = l.0 in (grind (arith, ints, e, a), most))

at_most_same : (h : ℤ) (high : Option Length) → h ≤ℤ pos 2147483648 → at_most_max h high ≤ℤ pos 2147483648
at_most_same h None most = most
at_most_same h (Some high) most = go (int_lt high.0 h) refl
  where
    go : (b : Bool) → int_lt high.0 h ≡ b → at_most_max h (Some high) ≤ℤ pos 2147483648
    go true e = rw e (grind (arith, ints, e, most))
    go false e = rw e most

pub min_max_size : (h low : ℤ) (high : Option Length) → IsUsedSize h → IsUsedSize low → IsUsedSize (with_min_max_of h low high)
min_max_size h low high a b = at_least_size (at_most_max h high) low (at_most_same h high a.1) b
