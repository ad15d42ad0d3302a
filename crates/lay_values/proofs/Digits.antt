-- The numbers that digits spell.
use Rattle.std.proofs.Common.{◌≡◌, ℕ, ◌+◌, ◌-◌, ◌*◌, ◌^◌, ◌<◌, ◌≤◌, suc, refl, arith, lit<, true, List, [], ◌∷◌, ◌++◌, length, drop, drop-cons, get_or, length-append}
use Rattle.std.specs.List.{list_all}
use Rattle.std.proofs.Math.Nat.{pow-succ', pow-le-pow_right}
use Rattle.std.proofs.lemmas.List.Folds.{list_all-append}
use Rattle.std.proofs.lemmas.Grind.{common_steps}
use Rattle.lay_values.specs.Numbers.{is_digit, leading, value_after}

pub leading_digits-are : (bs : List ℕ) → list_all is_digit (leading is_digit bs) ≡ true
leading_digits-are [] = refl
leading_digits-are (b ∷ bs) = grind (arith, common_steps, leading_digits-are bs)

value_after-grows : (v : ℕ) (ds : List ℕ) → v ≤ value_after v ds
value_after-grows v [] = omega arith
value_after-grows v (d ∷ ds) = omega (arith, value_after-grows (10 * v + (d - 48)) ds)

-- ten times the value of the digits so far is within the value of all
pub tenfold-within : (v i m : ℕ) (ds : List ℕ) → i < length ds → value_after v (drop i ds) < m → 10 * v < m
tenfold-within v i m ds inside below =
    let q = rw (drop-cons ds i 0) at below in omega (arith, q, value_after-grows (10 * v + (get_or ds i 0 - 48)) (drop (suc i) ds))

pub value_after-append : (v : ℕ) (xs ys : List ℕ) → value_after v (xs ++ ys) ≡ value_after (value_after v xs) ys
value_after-append v [] ys = refl
value_after-append v (x ∷ xs) ys = value_after-append (10 * v + (x - 48)) xs ys

-- a value of k digits, and one more
next-below : (v k d : ℕ) → v < 10 ^ k → is_digit d ≡ true → 10 * v + (d - 48) < 10 ^ suc k
next-below v k d below digit = rw pow-succ' (grind (arith, common_steps))

value_after-below : (v k : ℕ) (ds : List ℕ) → v < 10 ^ k → list_all is_digit ds ≡ true → value_after v ds < 10 ^ (k + length ds)
value_after-below v k [] below digits = grind (arith, common_steps)
value_after-below v k (d ∷ ds) below digits =
    let first : is_digit d ≡ true = grind (arith, common_steps) in
    let others : list_all is_digit ds ≡ true = grind (arith, common_steps) in
    let e : k + suc (length ds) ≡ suc k + length ds = omega arith in
    rw e (value_after-below (10 * v + (d - 48)) (suc k) ds (next-below v k d below first) others)

-- fewer than that many digits are within their power of ten
pub few_digits : (ds : List ℕ) (k : ℕ) → list_all is_digit ds ≡ true → length ds ≤ k → value_after 0 ds < 10 ^ k
few_digits ds k digits few =
    let all = value_after-below 0 0 ds (lit< tt) digits in
    let power : 10 ^ (0 + length ds) ≤ 10 ^ k = pow-le-pow_right (lit< tt) {i = 0 + length ds} {j = k} (omega arith) in omega arith

pub few_together : (xs ys : List ℕ) (k : ℕ) → list_all is_digit xs ≡ true → list_all is_digit ys ≡ true → length xs + length ys ≤ k → value_after (value_after 0 xs) ys < 10 ^ k
few_together xs ys k first second few =
    let digits : list_all is_digit (xs ++ ys) ≡ true = rw (list_all-append is_digit xs ys) (rw (first, second) refl) in
    rw (← value_after-append 0 xs ys) (few_digits (xs ++ ys) k digits (omega (arith, length-append xs ys)))
