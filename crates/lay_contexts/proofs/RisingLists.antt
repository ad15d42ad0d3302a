-- Lists of numbers that rise strictly.
use Rattle.std.proofs.Common.{◌≡◌, ◌⊎◌, inl, inr, ℕ, zero, suc, ◌+◌, ◌<◌, ◌≤◌, Bool, true, false, List, [], ◌∷◌, filter, map, refl, ap, sym, subst, ◌∙◌, arith, if◌then◌else◌}
use Rattle.std.proofs.lemmas.Bool.{cases_lt}
use Rattle.lay_contexts.specs.NodeTreeLaws.{places_from}

-- Rising lists with the same members are equal.
abbrev pub AllAbove : ℕ → List ℕ → Type 0
AllAbove x [] = Unit {0}
AllAbove x (y ∷ ys) = (x < y) × AllAbove x ys

abbrev pub Rises : List ℕ → Type 0
Rises [] = Unit {0}
Rises (x ∷ xs) = AllAbove x xs × Rises xs

abbrev pub Has : List ℕ → ℕ → Type 0
Has [] k = ⊥
Has (x ∷ xs) k = (x ≡ k) ⊎ Has xs k

above : (x : ℕ) (ys : List ℕ) (k : ℕ) → AllAbove x ys → Has ys k → x < k
above x [] k h m = absurd m
above x (y ∷ ys) k h (inl e) = let lt = h.0 in omega (arith, lt, e)
above x (y ∷ ys) k h (inr m) = above x ys k h.1 m

-- the first of both is one
first : (x y : ℕ) (xs ys : List ℕ) → AllAbove x xs → AllAbove y ys → Has (y ∷ ys) x → Has (x ∷ xs) y → x ≡ y
first x y xs ys h g (inl e) n = sym e
first x y xs ys h g (inr m) (inl e) = e
first x y xs ys h g (inr m) (inr n) = absurd (let p = above y ys x g m in let q = above x xs y h n in omega (arith, p, q))

rest : (x : ℕ) (xs ys : List ℕ) → AllAbove x xs → ((k : ℕ) → Has (x ∷ xs) k → Has (x ∷ ys) k) → (k : ℕ) → Has xs k → Has ys k
rest x xs ys h all k m = by (all k (inr m))
  where
    by : Has (x ∷ ys) k → Has ys k
    by (inl e) = absurd (let p = above x xs k h m in omega (arith, p, e))
    by (inr n) = n

pub one-rising : (xs ys : List ℕ) → Rises xs → Rises ys → ((k : ℕ) → Has xs k → Has ys k) → ((k : ℕ) → Has ys k → Has xs k) → xs ≡ ys
one-rising [] [] h g p q = refl
one-rising [] (y ∷ ys) h g p q = absurd (q y (inl refl))
one-rising (x ∷ xs) [] h g p q = absurd (p x (inl refl))
one-rising (x ∷ xs) (y ∷ ys) h g p q =
    let e = first x y xs ys h.0 g.0 (p x (inl refl)) (q y (inl refl)) in
    let p2 : (k : ℕ) → Has (x ∷ xs) k → Has (x ∷ ys) k = subst (λ (z : ℕ). (k : ℕ) → Has (x ∷ xs) k → Has (z ∷ ys) k) (sym e) p in
    let q2 : (k : ℕ) → Has (x ∷ ys) k → Has (x ∷ xs) k = subst (λ (z : ℕ). (k : ℕ) → Has (z ∷ ys) k → Has (x ∷ xs) k) (sym e) q in
    ap (λ (z : ℕ). z ∷ xs) e ∙ ap (λ zs. y ∷ zs) (one-rising xs ys h.1 g.1 (rest x xs ys h.0 p2) (rest x ys xs (subst (λ (z : ℕ). AllAbove z ys) (sym e) g.0) q2))

-- Some of so many numbers in a row.
above-from : (p : ℕ → Bool) (x at d : ℕ) → x < at → AllAbove x (filter p (places_from at d))
above-from p x at zero lt = tt
above-from p x at (suc d) lt = by (p at) (above-from p x (at + 1) d (omega (arith, lt)))
  where
    by : (b : Bool) → AllAbove x (filter p (places_from (at + 1) d)) → AllAbove x (if b then at ∷ filter p (places_from (at + 1) d) else filter p (places_from (at + 1) d))
    by true h = (lt, h)
    by false h = h

pub rises-from : (p : ℕ → Bool) (at d : ℕ) → Rises (filter p (places_from at d))
rises-from p at zero = tt
rises-from p at (suc d) = by (p at) (rises-from p (at + 1) d)
  where
    by : (b : Bool) → Rises (filter p (places_from (at + 1) d)) → Rises (if b then at ∷ filter p (places_from (at + 1) d) else filter p (places_from (at + 1) d))
    by true h = (above-from p at (at + 1) d (omega arith), h)
    by false h = h

pub has-from : (p : ℕ → Bool) (k at d : ℕ) → at ≤ k → k < at + d → p k ≡ true → Has (filter p (places_from at d)) k
has-from p k at zero le lt e = absurd (omega (arith, le, lt))
has-from p k at (suc d) le lt e = by (p at) refl (has-from p k (at + 1) d)
  where
    by : (b : Bool) → p at ≡ b → (at + 1 ≤ k → k < at + 1 + d → p k ≡ true → Has (filter p (places_from (at + 1) d)) k)
        → Has (if b then at ∷ filter p (places_from (at + 1) d) else filter p (places_from (at + 1) d)) k
    by true q rest = elim (cases_lt at k) [
      | inl more ↦ inr (rest (omega (arith, more)) (omega (arith, lt)) e)
      | inr same ↦ inl (omega (arith, le, same))
    ]
    by false q rest = elim (cases_lt at k) [
      | inl more ↦ rest (omega (arith, more)) (omega (arith, lt)) e
      | inr same ↦ absurd (let is : at ≡ k = omega (arith, le, same) in let z : p k ≡ false = ap p (sym is) ∙ q in cc)
    ]

pub from-has : (p : ℕ → Bool) (k at d : ℕ) → Has (filter p (places_from at d)) k → (at ≤ k) × (k < at + d) × (p k ≡ true)
from-has p k at zero h = absurd h
from-has p k at (suc d) h = by (p at) refl (from-has p k (at + 1) d) h
  where
    wider : (at + 1 ≤ k) × (k < at + 1 + d) × (p k ≡ true) → (at ≤ k) × (k < at + suc d) × (p k ≡ true)
    wider r = (let a = r.0 in omega (arith, a), let b = r.1 in omega (arith, b), r.2)

    by : (b : Bool) → p at ≡ b → (Has (filter p (places_from (at + 1) d)) k → (at + 1 ≤ k) × (k < at + 1 + d) × (p k ≡ true))
        → Has (if b then at ∷ filter p (places_from (at + 1) d) else filter p (places_from (at + 1) d)) k → (at ≤ k) × (k < at + suc d) × (p k ≡ true)
    by true q rest (inl is) = (omega (arith, is), omega (arith, is), ap p (sym is) ∙ q)
    by true q rest (inr more) = wider (rest more)
    by false q rest more = wider (rest more)

-- Numbers taken to others in order.
module _ (to : ℕ → ℕ) (n : ℕ) (rising : (i j : ℕ) → i < j → j < n → to i < to j) where
  abbrev AllBelow : List ℕ → Type 0
  AllBelow [] = Unit {0}
  AllBelow (x ∷ xs) = (x < n) × AllBelow xs

  above-map : (x : ℕ) (xs : List ℕ) → AllBelow xs → AllAbove x xs → AllAbove (to x) (map to xs)
  above-map x [] b h = tt
  above-map x (y ∷ ys) b h = (rising x y h.0 b.0, above-map x ys b.1 h.1)

  pub rises-map : (xs : List ℕ) → AllBelow xs → Rises xs → Rises (map to xs)
  rises-map [] b h = tt
  rises-map (x ∷ xs) b h = (above-map x xs b.1 h.0, rises-map xs b.1 h.1)

  pub below-from : (p : ℕ → Bool) (at d : ℕ) → at + d ≤ n → AllBelow (filter p (places_from at d))
  below-from p at zero le = tt
  below-from p at (suc d) le = by (p at) (below-from p (at + 1) d (omega (arith, le)))
    where
      by : (b : Bool) → AllBelow (filter p (places_from (at + 1) d)) → AllBelow (if b then at ∷ filter p (places_from (at + 1) d) else filter p (places_from (at + 1) d))
      by true h = (omega (arith, le), h)
      by false h = h

pub has-map : (to : ℕ → ℕ) (xs : List ℕ) (i k : ℕ) → Has xs i → to i ≡ k → Has (map to xs) k
has-map to [] i k h e = absurd h
has-map to (x ∷ xs) i k (inl is) e = inl (ap to is ∙ e)
has-map to (x ∷ xs) i k (inr h) e = inr (has-map to xs i k h e)

pub map-has : (to : ℕ → ℕ) (xs : List ℕ) (k : ℕ) → Has (map to xs) k → (i : ℕ) × Has xs i × (to i ≡ k)
map-has to [] k h = absurd h
map-has to (x ∷ xs) k (inl is) = (x, inl refl, is)
map-has to (x ∷ xs) k (inr h) = let r = map-has to xs k h in (r.0, inr r.1, r.2)
