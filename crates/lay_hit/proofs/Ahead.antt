-- Lists in which no a stands behind a b.
use Rattle.std.proofs.Common.{◌≡◌, ℕ, zero, suc, ◌+◌, ◌<◌, ◌⊎◌, inl, inr, List, [], ◌∷◌, ◌++◌, Bool, true, false, cond, slice_get, Some, refl, subst, arith}
use Rattle.std.proofs.lemmas.Bool.{cases_eq}
use Rattle.std.specs.List.{filter, flat_map, range_with_len, AllByRecursion}
use Rattle.lay_hit.specs.Sorting.{put_in_order, in_order}
use Rattle.lay_hit.specs.Stacking.{IsBehind}
use Rattle.lay_hit.proofs.Buckets.{all-append, all-more}
use Rattle.lay_hit.proofs.Rising.{IsOrder, all-put, all-in_order}
use Rattle.lay_hit.proofs.PaintedBy.{all-range, all-passing}

abbrev pub IsNone : ℕ → List ℕ → Type 0
IsNone a xs = AllByRecursion (λ x. x ≡ a → ⊥) xs

abbrev pub Ahead : ℕ → ℕ → List ℕ → Type 0
Ahead a b [] = Unit {0}
Ahead a b (x ∷ xs) = (x ≡ b → IsNone a xs) × Ahead a b xs

pub ahead_none : (a b : ℕ) (xs : List ℕ) → IsNone a xs → Ahead a b xs
ahead_none a b [] none = tt
ahead_none a b (x ∷ xs) none = (λ e. none.1, ahead_none a b xs none.1)

pub ahead_of_none : (a b : ℕ) (xs : List ℕ) → IsNone b xs → Ahead a b xs
ahead_of_none a b [] none = tt
ahead_of_none a b (x ∷ xs) none = (λ e. absurd (none.0 e), ahead_of_none a b xs none.1)

pub ahead_append : (a b : ℕ) (xs ys : List ℕ) → Ahead a b xs → Ahead a b ys → IsNone b xs ⊎ IsNone a ys → Ahead a b (xs ++ ys)
ahead_append a b [] ys p q either = q
ahead_append a b (x ∷ xs) ys p q (inl none) = (λ e. absurd (none.0 e), ahead_append a b xs ys p.1 q (inl none.1))
ahead_append a b (x ∷ xs) ys p q (inr none) = (λ e. all-append (λ y. y ≡ a → ⊥) xs ys (p.0 e) none, ahead_append a b xs ys p.1 q (inr none))

none_at : (a : ℕ) (xs : List ℕ) (m : ℕ) → IsNone a xs → slice_get xs m ≡ Some a → ⊥
none_at a [] m none is = absurd cc
none_at a (x ∷ xs) zero none is = none.0 cc
none_at a (x ∷ xs) (suc m) none is = none_at a xs m none.1 is

-- so where each of both stands, the first stands before
pub behind_from : (a b : ℕ) (xs : List ℕ) → (a ≡ b → ⊥) → Ahead a b xs → IsBehind xs a b
behind_from a b [] other p m n first second = absurd cc
behind_from a b (x ∷ xs) other p zero zero first second = absurd (other cc)
behind_from a b (x ∷ xs) other p zero (suc n) first second = omega arith
behind_from a b (x ∷ xs) other p (suc m) zero first second = absurd (let e : x ≡ b = cc in none_at a xs m (p.0 e) first)
behind_from a b (x ∷ xs) other p (suc m) (suc n) first second = let h = behind_from a b xs other p.1 m n first second in omega (arith, h)

-- a list in which each element is related to all behind it
abbrev pub Goes : {X : Type 0} → (X → X → Type 0) → List X → Type 0
Goes R [] = Unit {0}
Goes R (x ∷ xs) = AllByRecursion (R x) xs × Goes R xs

pub all_both : {X : Type 0} (P Q : X → Type 0) (xs : List X) → AllByRecursion P xs → AllByRecursion Q xs → AllByRecursion (λ x. P x × Q x) xs
all_both P Q [] p q = tt
all_both P Q (x ∷ xs) p q = ((p.0, q.0), all_both P Q xs p.1 q.1)

pub none_flat : (f : ℕ → List ℕ) (a : ℕ) (ks : List ℕ) → AllByRecursion (λ k. IsNone a (f k)) ks → IsNone a (flat_map f ks)
none_flat f a [] all = tt
none_flat f a (k ∷ ks) all = all-append (λ x. x ≡ a → ⊥) (f k) (flat_map f ks) all.0 (none_flat f a ks all.1)

-- lists one behind the other, of which one alone has b, and none behind that has a
pub ahead_flat : (f : ℕ → List ℕ) (R : ℕ → ℕ → Type 0) (P : ℕ → Type 0) (a b k : ℕ) → ((x : ℕ) → P x → Ahead a b (f x)) → ((x : ℕ) → P x → (x ≡ k → ⊥) → IsNone b (f x)) →
    ((y : ℕ) → P y → R k y → IsNone a (f y)) → (ks : List ℕ) → AllByRecursion P ks → Goes R ks → Ahead a b (flat_map f ks)
ahead_flat f R P a b k each other later [] all goes = tt
ahead_flat f R P a b k each other later (x ∷ xs) all goes =
    ahead_append a b (f x) (flat_map f xs) (each x all.0) (ahead_flat f R P a b k each other later xs all.1 goes.1) (by_eq (cases_eq x k))
  where
    by_eq : (x ≡ k) ⊎ (x ≡ k → ⊥) → IsNone b (f x) ⊎ IsNone a (flat_map f xs)
    by_eq (inl same) =
        inr (none_flat f a xs (all-more (λ y. P y × R x y) (λ y. IsNone a (f y)) (λ y h. later y h.0 (subst (λ z. R z y) same h.1)) xs (all_both P (R x) xs all.1 goes.0)))
    by_eq (inr o) = inl (other x all.0 o)

-- sorting numbers that rise keeps equal ones in their order
module _ (le : ℕ → ℕ → Bool) (o : IsOrder le) where
  pub record IsSortedFrom (j k : ℕ) : Type 0 where
    pub is : le j k ≡ true
    pub tie : le k j ≡ true → j < k

  goes_put : (x : ℕ) (ys : List ℕ) → AllByRecursion (λ y. x < y) ys → Goes IsSortedFrom ys → Goes IsSortedFrom (put_in_order le x ys)
  goes_put x [] low goes = (tt, tt)
  goes_put x (y ∷ ys) low goes = by_test (goes_put x ys low.1 goes.1) (le x y) refl
    where
      first : le x y ≡ true → AllByRecursion (IsSortedFrom x) (y ∷ ys)
      first is = (
        record { is = is; tie = λ e. low.0 },
        all-more (λ z. (x < z) × IsSortedFrom y z) (IsSortedFrom x) (λ z h. record { is = o.chain x y z is h.1.is; tie = λ e. h.0 }) ys (all_both (λ z. x < z) (IsSortedFrom y) ys low.1 goes.0),
      )

      not_so : le x y ≡ false → le x y ≡ true → y < x
      not_so is e = absurd cc

      by_test : Goes IsSortedFrom (put_in_order le x ys) → (b : Bool) → le x y ≡ b → Goes IsSortedFrom (cond b (x ∷ y ∷ ys) (y ∷ put_in_order le x ys))
      by_test rest true is = (first is, goes)
      by_test rest false is = (all-put le (IsSortedFrom y) x ys (record { is = o.either x y is; tie = not_so is }) goes.0, rest)

  pub goes_in_order : (xs : List ℕ) → Goes (λ x y. x < y) xs → Goes IsSortedFrom (in_order le xs)
  goes_in_order [] goes = tt
  goes_in_order (x ∷ xs) goes = goes_put x (in_order le xs) (all-in_order le (λ y. x < y) xs goes.0) (goes_in_order xs goes.1)

pub goes_filter : (R : ℕ → ℕ → Type 0) (p : ℕ → Bool) (xs : List ℕ) → Goes R xs → Goes R (filter p xs)
goes_filter R p [] goes = tt
goes_filter R p (x ∷ xs) goes = by_test (goes_filter R p xs goes.1) (p x)
  where
    by_test : Goes R (filter p xs) → (b : Bool) → Goes R (cond b (x ∷ filter p xs) (filter p xs))
    by_test rest true = (all-passing (R x) (R x) p xs goes.0 (λ y h is. h), rest)
    by_test rest false = rest

pub goes_range : (n a : ℕ) → Goes (λ x y. x < y) (range_with_len a n)
goes_range zero a = tt
goes_range (suc n) a = (all-range (λ k. a < k) (a + 1) n (λ k low high. omega (arith, low)), goes_range n (a + 1))
