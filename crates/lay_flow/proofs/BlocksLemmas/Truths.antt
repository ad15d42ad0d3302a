-- Truth values, and comparisons of two places.
use Rattle.std.proofs.Common.{◌≡◌, ℕ, ◌<◌, ◌≤◌, not, nat_lt, Bool, true, false, refl, arith}

pub true_false : (b : Bool) → b ≡ true → b ≡ false → ⊥
true_false b t f = grind (arith, t, f)

-- a value of two
pub true_or : (b : Bool) (X : Type 0) → (b ≡ true → X) → (b ≡ false → X) → X
true_or true X t f = t refl
true_or false X t f = f refl

pub not_low : (a f : ℕ) → not (nat_lt a f) ≡ true → f ≤ a
not_low a f e = grind (arith, e)

pub low_not : (a f : ℕ) → f ≤ a → not (nat_lt a f) ≡ true
low_not a f e = grind (arith, e)

pub low_yes : (a f : ℕ) → a < f → not (nat_lt a f) ≡ false
low_yes a f e = grind (arith, e)
