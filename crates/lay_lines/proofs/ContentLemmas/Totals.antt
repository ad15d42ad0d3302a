-- Sums over the first elements of a list.
use Rattle.std.proofs.Common.{◌≡◌, ℕ, zero, suc, ◌+◌, ◌≤◌, List, [], ◌∷◌, drop, Option, Some, None, slice_get, refl, ap, arith}
use Rattle.lay_lines.specs.Content.LineContents.{total}

abbrev pub part_of : {X : Type 0} → (X → ℕ) → Option X → ℕ
part_of of None = 0
part_of of (Some x) = of x

abbrev pub total_to : {X : Type 0} → (X → ℕ) → List X → ℕ → ℕ
total_to of xs zero = 0
total_to of xs (suc k) = total_to of xs k + part_of of (slice_get xs k)

of_none : {X : Type 0} (of : X → ℕ) (k : ℕ) → total_to of [] k ≡ 0
of_none of zero = refl
of_none of (suc k) = let e = of_none of k in omega (arith, e)

first_more : {X : Type 0} (of : X → ℕ) (x : X) (xs : List X) (k : ℕ) → total_to of (x ∷ xs) (suc k) ≡ of x + total_to of xs k
first_more of x xs zero = omega arith
first_more of x xs (suc k) = let e = first_more of x xs k in omega (arith, e)

pub total_split : {X : Type 0} (of : X → ℕ) (xs : List X) (k : ℕ) → total_to of xs k + total of (drop k xs) ≡ total of xs
total_split of [] zero = refl
total_split of [] (suc k) = let e = of_none of (suc k) in omega (arith, e)
total_split of (x ∷ xs) zero = omega arith
total_split of (x ∷ xs) (suc k) = let e = first_more of x xs k in let f = total_split of xs k in omega (arith, e, f)

pub total_to_most : {X : Type 0} (of : X → ℕ) (xs : List X) (k : ℕ) → total_to of xs k ≤ total of xs
total_to_most of xs k = let e = total_split of xs k in omega (arith, e)

pub drop_less : {X : Type 0} (of : X → ℕ) (xs : List X) (k : ℕ) → total of (drop k xs) ≤ total of xs
drop_less of xs k = let e = total_split of xs k in omega (arith, e)

-- the first so many and one more
pub total_next : {X : Type 0} (of : X → ℕ) (xs : List X) (k : ℕ) (x : X) → slice_get xs k ≡ Some x → total_to of xs k + of x ≤ total of xs
total_next of xs k x is =
    let e = total_to_most of xs (suc k) in
    let f = ap (λ o. total_to of xs k + part_of of o) is in
    omega (arith, e, f)
