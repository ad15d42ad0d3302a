-- A list in which each element has what is asked of its place.
use Rattle.std.proofs.Common.{◌≡◌, ℕ, zero, suc, ◌<◌, ◌≤◌, List, [], ◌∷◌, ◌++◌, length, get_or, refl, sym, ◌∙◌, arith, inl, inr}
use Rattle.std.proofs.lemmas.Bool.{cases_lt}
use Rattle.std.proofs.lemmas.Grind.{elements}
use Rattle.std.proofs.lemmas.List.{length_push}

read_before : {X : Type 0} (d : X) (xs : List X) (x : X) (k : ℕ) → k < length xs → get_or (xs ++ x ∷ []) k d ≡ get_or xs k d
read_before d xs x k lt = grind (arith, elements)

read_last : {X : Type 0} (d : X) (xs : List X) (x : X) (k : ℕ) → k ≡ length xs → get_or (xs ++ x ∷ []) k d ≡ x
read_last d xs x k e = grind (arith, elements)

module _ {X : Type 0} (d : X) (P : ℕ → X → Type 0) (n : ℕ) (found : (k : ℕ) → k < n → (x : X) × P k x) where
  record First (m : ℕ) : Type 0 where
    items : List X
    count : length items ≡ m
    each : (k : ℕ) → k < m → P k (get_or items k d)

  first : (m : ℕ) → m ≤ n → First m
  first zero le = record { items = []; count = refl; each = λ k lt. absurd (omega (arith, lt)) }
  first (suc m) le =
      let so_far = first m (omega (arith, le)) in
      let xs = so_far.items in
      let counted = so_far.count in
      let next = found m (omega (arith, le)) in
      let longer = length_push xs next.0 in
      record {
        items = xs ++ next.0 ∷ [];
        count = omega (arith, counted, longer);
        each = λ k lt. elim (cases_lt k m) [
          | inl low ↦ (let e = read_before d xs next.0 k (omega (arith, counted, low)) in rw e (so_far.each k low))
          | inr high ↦ (let q : k ≡ m = omega (arith, lt, high) in let e = read_last d xs next.0 m (sym counted) in rw (q, e) next.1)
        ];
      }

  pub found_list : (xs : List X) × (length xs ≡ n) × ((k : ℕ) → k < n → P k (get_or xs k d))
  found_list = let all = first n (omega arith) in (all.items, all.count, all.each)
