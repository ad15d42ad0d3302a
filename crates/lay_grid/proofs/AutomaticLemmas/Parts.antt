-- Equal parts of a width come to the width.
use Rattle.std.proofs.Common.{◌≡◌, ◌⊎◌, inl, inr, ℕ, zero, suc, ◌+◌, ◌*◌, ◌<◌, ◌≤◌, ◌/◌, ◌%◌, min, arith}
use Rattle.std.proofs.lemmas.Bool.{cases_lt}
use Rattle.std.proofs.Math.Nat.{div-add-mod, mod-lt}
use Rattle.lay_grid.specs.Columns.{part_of}
use Rattle.lay_grid.proofs.Products.{greater_part, lesser_part}

-- m parts from the k-th on
abbrev pub parts_from : ℕ → ℕ → ℕ → ℕ → ℕ
parts_from width n k zero = 0
parts_from width n k (suc m) = part_of width n k + parts_from width n (k + 1) m

counted : (q r k m p t : ℕ) → ((k < r) × (p ≡ q + 1)) ⊎ ((r ≤ k) × (p ≡ q)) → t + min (k + 1) r ≡ m * q + min ((k + 1) + m) r
    → (p + t) + min k r ≡ suc m * q + min (k + suc m) r
counted q r k m p t (inl a) h = let less = a.0 in let e = a.1 in omega (arith, less, e, h)
counted q r k m p t (inr a) h = let not = a.0 in let e = a.1 in omega (arith, not, e, h)

parts_are : (width n k m : ℕ) → parts_from width n k m + min k (width % n) ≡ m * (width / n) + min (k + m) (width % n)
parts_are width n k zero = omega arith
parts_are width n k (suc m) = counted (width / n) (width % n) k m (part_of width n k) (parts_from width n (k + 1) m)
    (kind (cases_lt k (width % n))) (parts_are width n (k + 1) m)
  where
    kind : ((k < width % n) ⊎ (width % n ≤ k))
        → ((k < width % n) × (part_of width n k ≡ width / n + 1)) ⊎ ((width % n ≤ k) × (part_of width n k ≡ width / n))
    kind (inl less) = let e = greater_part width n k less in inl (less, omega (arith, e))
    kind (inr not) = let e = lesser_part width n k not in inr (not, omega (arith, e))

pub parts_sum : (width n : ℕ) → 1 ≤ n → parts_from width n 0 n ≡ width
parts_sum width n some =
    let h = parts_are width n 0 n in
    let d = div-add-mod width n in
    let m = mod-lt width some in
    omega (arith, h, d, m)
