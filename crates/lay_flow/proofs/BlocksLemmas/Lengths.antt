-- Lengths with equal values are equal.
use Rattle.std.proofs.Common.{◌≡◌, ℤ, ap}
use Rattle.lay_units.specs.declared.length.Unit.{Unit as Length}

pub same_length : (u v : Length) → u.0 ≡ v.0 → u ≡ v
same_length u v e = ap (λ (n : ℤ). let w : Length = record { 0 = n } in w) e
