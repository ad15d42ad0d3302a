-- Lists that are taken apart, and lists that are filtered alike.
use Rattle.std.proofs.Common.{◌≡◌, ◌<◌, ℕ, suc, Bool, true, false, cond, List, [], ◌∷◌, ◌++◌, filter, map, length, slice_index, slice_index_or, refl, ap, ◌∙◌, arith}

module _ {X : Type 0} where
  pub heads : (x y : X) (xs ys : List X) → x ∷ xs ≡ y ∷ ys → x ≡ y
  heads x y xs ys e = ap (λ (l : List X). slice_index_or l 0 x) e

  abbrev behind : List X → List X
  behind [] = []
  behind (x ∷ xs) = xs

  pub tails : (x y : X) (xs ys : List X) → x ∷ xs ≡ y ∷ ys → xs ≡ ys
  tails x y xs ys e = ap behind e

module _ {X Y Z : Type 0} (f : X → Z) (g : Y → Z) where
  -- behind lists that give the same
  pub same_rest : (xs us : List X) (ys vs : List Y) → map f xs ≡ map g ys → map f (xs ++ us) ≡ map g (ys ++ vs) → map f us ≡ map g vs
  same_rest [] us [] vs same all = all
  same_rest [] us (y ∷ ys) vs same all = absurd cc
  same_rest (x ∷ xs) us [] vs same all = absurd cc
  same_rest (x ∷ xs) us (y ∷ ys) vs same all =
      same_rest xs us ys vs (tails (f x) (g y) (map f xs) (map g ys) same) (tails (f x) (g y) (map f (xs ++ us)) (map g (ys ++ vs)) all)

module _ {Y Z : Type 0} (p q : ℕ → Bool) (h : ℕ → Y) (f g : Y → Z) where
  -- elements at the same places pass alike, and those that do give the same
  pub filtered_alike : (xs ys : List ℕ) → length xs ≡ length ys
      → ((k : ℕ) → k < length xs → p (slice_index xs k) ≡ q (slice_index ys k))
      → ((k : ℕ) → k < length xs → p (slice_index xs k) ≡ true → f (h (slice_index xs k)) ≡ g (h (slice_index ys k)))
      → map f (map h (filter p xs)) ≡ map g (map h (filter q ys))
  filtered_alike [] [] count alike gives = refl
  filtered_alike [] (y ∷ ys) count alike gives = absurd cc
  filtered_alike (x ∷ xs) [] count alike gives = absurd cc
  filtered_alike (x ∷ xs) (y ∷ ys) count alike gives =
      by (p x) (q y) (alike 0 (omega arith)) (gives 0 (omega arith))
      (filtered_alike xs ys (omega (arith, count)) (λ k lt. alike (suc k) (omega (arith, lt))) (λ k lt passes. gives (suc k) (omega (arith, lt)) passes))
    where
      by : (b c : Bool) → b ≡ c → (b ≡ true → f (h x) ≡ g (h y)) → map f (map h (filter p xs)) ≡ map g (map h (filter q ys))
          → map f (map h (cond b (x ∷ filter p xs) (filter p xs))) ≡ map g (map h (cond c (y ∷ filter q ys) (filter q ys)))
      by true true e first rest = ap (λ (z : Z). z ∷ map f (map h (filter p xs))) (first refl) ∙ ap (λ (zs : List Z). g (h y) ∷ zs) rest
      by true false e first rest = absurd cc
      by false true e first rest = absurd cc
      by false false e first rest = rest
