-- The first place of a number in a list.
use Rattle.std.proofs.Common.{◌≡◌, ℕ, zero, suc, ◌<◌, List, [], ◌∷◌, length, get_or, refl, sym, ap, ◌∙◌, arith, Option, Some, None, option_map, inl, inr}
use Rattle.std.proofs.lemmas.Bool.{cases_eq, eq-eqb, ne_eqb}
use Rattle.lay_style.specs.Places.{place_of}

pub map_none : (o : Option ℕ) → option_map suc o ≡ None → o ≡ None
map_none None e = refl
map_none (Some p) e = absurd cc

pub record IsNext (o : Option ℕ) (k : ℕ) : Type 0 where
  pub before : ℕ
  pub is : o ≡ Some before
  pub next : k ≡ suc before

pub map_some : (o : Option ℕ) (k : ℕ) → option_map suc o ≡ Some k → IsNext o k
map_some None k e = absurd cc
map_some (Some p) k e = record { before = p; is = refl; next = cc }

-- the first of the list is it, or is another
pub place_here : (n x : ℕ) (xs : List ℕ) → x ≡ n → place_of n (x ∷ xs) ≡ Some 0
place_here n x xs same = let t = eq-eqb x n same in rw t refl

pub place_later : (n x : ℕ) (xs : List ℕ) → (x ≡ n → ⊥) → place_of n (x ∷ xs) ≡ option_map suc (place_of n xs)
place_later n x xs other = let t = ne_eqb x n other in rw t refl

pub place_none : (n : ℕ) (xs : List ℕ) → place_of n xs ≡ None → (k : ℕ) → k < length xs → get_or xs k 0 ≡ n → ⊥
place_none n [] e k lt is = omega arith
place_none n (x ∷ xs) e zero lt is = let h = sym (place_here n x xs is) ∙ e in absurd cc
place_none n (x ∷ xs) e (suc k) lt is = elim (cases_eq x n) [
  | inl same ↦ (let h = sym (place_here n x xs same) ∙ e in absurd cc)
  | inr other ↦ place_none n xs (map_none (place_of n xs) (sym (place_later n x xs other) ∙ e)) k (omega arith) is
]

pub place_fresh : (n : ℕ) (xs : List ℕ) → ((k : ℕ) → k < length xs → get_or xs k 0 ≡ n → ⊥) → place_of n xs ≡ None
place_fresh n [] fresh = refl
place_fresh n (x ∷ xs) fresh =
    let rest = place_fresh n xs (λ k lt. fresh (suc k) (omega arith)) in
    place_later n x xs (fresh 0 (omega arith)) ∙ ap (option_map suc) rest

pub place_within : (id : ℕ) (ids : List ℕ) (k : ℕ) → place_of id ids ≡ Some k → k < length ids
place_within id [] k e = absurd cc
place_within id (x ∷ xs) k e = elim (cases_eq x id) [
  | inl same ↦ (let h = sym (place_here id x xs same) ∙ e in let z : 0 ≡ k = cc in omega (arith, z))
  | inr other ↦ (let n = map_some (place_of id xs) k (sym (place_later id x xs other) ∙ e) in let within = place_within id xs n.before n.is in omega (arith, within, n.next))
]
