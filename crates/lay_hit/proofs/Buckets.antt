-- A list in order of steps, and in each step by `le`, is the lists of the steps one behind the other.
use Rattle.std.proofs.Common.{◌≡◌, ℕ, zero, suc, ◌+◌, ◌<◌, ◌≤◌, Bool, true, false, cond, ◌&&◌, ◌||◌, List, [], ◌∷◌, ◌++◌, refl, sym, ap, ◌∙◌, arith}
use Rattle.std.proofs.lemmas.Bool.{eqb-true, eqb-false, eq-eqb, ne_eqb, lt-ltb, le-ltb}
use Rattle.std.specs.List.{filter, AllByRecursion}
use Rattle.std.specs.Prelude.{nat_lt, ◌==◌}
use Rattle.lay_hit.specs.Sorting.{put_in_order, in_order}
use Rattle.lay_hit.proofs.Rising.{all-in_order}

pub all-append : {X : Type 0} (P : X → Type 0) (xs ys : List X) → AllByRecursion P xs → AllByRecursion P ys → AllByRecursion P (xs ++ ys)
all-append P [] ys all also = also
all-append P (x ∷ xs) ys all also = (all.0, all-append P xs ys all.1 also)

pub all-more : {X : Type 0} (P Q : X → Type 0) → ((x : X) → P x → Q x) → (xs : List X) → AllByRecursion P xs → AllByRecursion Q xs
all-more P Q more [] all = tt
all-more P Q more (x ∷ xs) all = (more x all.0, all-more P Q more xs all.1)

-- what passes a filter
pub all-filter : {X : Type 0} (P : X → Type 0) (p : X → Bool) → ((x : X) → p x ≡ true → P x) → (xs : List X) → AllByRecursion P (filter p xs)
all-filter P p passes [] = tt
all-filter {X} P p passes (x ∷ xs) = by_test (all-filter P p passes xs) (p x) refl
  where
    by_test : AllByRecursion P (filter p xs) → (b : Bool) → p x ≡ b → AllByRecursion P (cond b (x ∷ filter p xs) (filter p xs))
    by_test rest true is = (passes x is, rest)
    by_test rest false is = rest

module _ {X : Type 0} (step : X → ℕ) (le : X → X → Bool) where
  abbrev pub rank_le : X → X → Bool
  rank_le x y = nat_lt (step x) (step y) || ((step x == step y) && le x y)

  abbrev pub in_step : ℕ → X → Bool
  in_step n x = step x == n

  abbrev pub steps_from : ℕ → ℕ → List X → List X
  steps_from low zero xs = []
  steps_from low (suc n) xs = in_order le (filter (in_step low) xs) ++ steps_from (low + 1) n xs

  put-over : (x : X) (ys zs : List X) → AllByRecursion (λ y. rank_le x y ≡ false) ys → put_in_order rank_le x (ys ++ zs) ≡ ys ++ put_in_order rank_le x zs
  put-over x [] zs all = refl
  put-over x (y ∷ ys) zs all = ap (λ (b : Bool). cond b (x ∷ y ∷ (ys ++ zs)) (y ∷ put_in_order rank_le x (ys ++ zs))) all.0 ∙ ap (λ (ws : List X). y ∷ ws) (put-over x ys zs all.1)

  put-first : (x : X) (zs : List X) → AllByRecursion (λ z. rank_le x z ≡ true) zs → put_in_order rank_le x zs ≡ x ∷ zs
  put-first x [] all = refl
  put-first x (z ∷ zs) all = ap (λ (b : Bool). cond b (x ∷ z ∷ zs) (z ∷ put_in_order rank_le x zs)) all.0

  put-within : (x : X) (ys zs : List X) → AllByRecursion (λ y. rank_le x y ≡ le x y) ys → AllByRecursion (λ z. rank_le x z ≡ true) zs → put_in_order rank_le x (ys ++ zs) ≡ put_in_order le x ys ++ zs
  put-within x [] zs all also = put-first x zs also
  put-within x (y ∷ ys) zs all also = ap (λ (b : Bool). cond b (x ∷ y ∷ (ys ++ zs)) (y ∷ put_in_order rank_le x (ys ++ zs))) all.0 ∙ by_test (put-within x ys zs all.1 also) (le x y)
    where
      by_test : put_in_order rank_le x (ys ++ zs) ≡ put_in_order le x ys ++ zs → (b : Bool) → cond b (x ∷ y ∷ (ys ++ zs)) (y ∷ put_in_order rank_le x (ys ++ zs)) ≡ cond b (x ∷ y ∷ ys) (y ∷ put_in_order le x ys) ++ zs
      by_test rest true = refl
      by_test rest false = ap (λ (ws : List X). y ∷ ws) rest

  in_step_all : (n : ℕ) (xs : List X) → AllByRecursion (λ y. step y ≡ n) (in_order le (filter (in_step n) xs))
  in_step_all n xs = all-in_order le (λ y. step y ≡ n) (filter (in_step n) xs) (all-filter (λ y. step y ≡ n) (in_step n) (λ y is. eqb-true (step y) n is) xs)

  from_all : (n low : ℕ) (xs : List X) → AllByRecursion (λ y. low ≤ step y) (steps_from low n xs)
  from_all zero low xs = tt
  from_all (suc n) low xs = all-append (λ y. low ≤ step y) (in_order le (filter (in_step low) xs)) (steps_from (low + 1) n xs)
      (all-more (λ y. step y ≡ low) (λ y. low ≤ step y) (λ y e. omega (arith, e)) (in_order le (filter (in_step low) xs)) (in_step_all low xs))
      (all-more (λ y. low + 1 ≤ step y) (λ y. low ≤ step y) (λ y e. omega (arith, e)) (steps_from (low + 1) n xs) (from_all n (low + 1) xs))

  -- an element of an earlier step is in none of these
  steps-skip : (n low : ℕ) (x : X) (xs : List X) → step x < low → steps_from low n (x ∷ xs) ≡ steps_from low n xs
  steps-skip zero low x xs less = refl
  steps-skip (suc n) low x xs less =
      let other = ne_eqb (step x) low (λ e. omega (arith, e, less)) in
      ap (λ (b : Bool). in_order le (cond b (x ∷ filter (in_step low) xs) (filter (in_step low) xs)) ++ steps_from (low + 1) n (x ∷ xs)) other
      ∙ ap (λ (ws : List X). in_order le (filter (in_step low) xs) ++ ws) (steps-skip n (low + 1) x xs (omega (arith, less)))

  -- the test of ranks at an equal step, and at other ones
  at_same : (x y : X) → step x ≡ step y → rank_le x y ≡ le x y
  at_same x y e = tests (nat_lt (step x) (step y)) (step x == step y) (le-ltb (step x) (step y) (omega (arith, e))) (eq-eqb (step x) (step y) e)
    where
      tests : (a b : Bool) → a ≡ false → b ≡ true → (a || (b && le x y)) ≡ le x y
      tests true b h i = absurd cc
      tests false true h i = refl
      tests false false h i = absurd cc

  at_later : (x y : X) → step x < step y → rank_le x y ≡ true
  at_later x y e = tests (nat_lt (step x) (step y)) (lt-ltb (step x) (step y) e)
    where
      tests : (a : Bool) → a ≡ true → (a || ((step x == step y) && le x y)) ≡ true
      tests true h = refl
      tests false h = absurd cc

  at_earlier : (x y : X) → step y < step x → rank_le x y ≡ false
  at_earlier x y e = tests (nat_lt (step x) (step y)) (step x == step y) (le-ltb (step x) (step y) (omega (arith, e))) (ne_eqb (step x) (step y) (λ h. omega (arith, e, h)))
    where
      tests : (a b : Bool) → a ≡ false → b ≡ false → (a || (b && le x y)) ≡ false
      tests true b h i = absurd cc
      tests false true h i = absurd cc
      tests false false h i = refl

  put-steps : (n low : ℕ) (x : X) (xs : List X) → low ≤ step x → step x < low + n → put_in_order rank_le x (steps_from low n xs) ≡ steps_from low n (x ∷ xs)
  put-steps zero low x xs some less = absurd (omega arith)
  put-steps (suc n) low x xs some less = by_test (put-steps n (low + 1) x xs) (step x == low) refl
    where
      here : List X
      here = in_order le (filter (in_step low) xs)

      behind : List X
      behind = steps_from (low + 1) n xs

      first : step x ≡ low → put_in_order rank_le x (here ++ behind) ≡ put_in_order le x here ++ steps_from (low + 1) n (x ∷ xs)
      first e =
          put-within x here behind
          (all-more (λ y. step y ≡ low) (λ y. rank_le x y ≡ le x y) (λ y h. at_same x y (e ∙ sym h)) here (in_step_all low xs))
          (all-more (λ y. low + 1 ≤ step y) (λ y. rank_le x y ≡ true) (λ y h. at_later x y (omega (arith, e, h))) behind (from_all n (low + 1) xs))
          ∙ ap (λ (ws : List X). put_in_order le x here ++ ws) (sym (steps-skip n (low + 1) x xs (omega (arith, e))))

      by_test : (low + 1 ≤ step x → step x < (low + 1) + n → put_in_order rank_le x behind ≡ steps_from (low + 1) n (x ∷ xs))
          → (b : Bool) → (step x == low) ≡ b → put_in_order rank_le x (here ++ behind) ≡ in_order le (cond b (x ∷ filter (in_step low) xs) (filter (in_step low) xs)) ++ steps_from (low + 1) n (x ∷ xs)
      by_test rest true is = first (eqb-true (step x) low is)
      by_test rest false is =
          let other = eqb-false (step x) low is in
          let over : low + 1 ≤ step x = omega (arith, other, some) in
          put-over x here behind (all-more (λ y. step y ≡ low) (λ y. rank_le x y ≡ false) (λ y h. at_earlier x y (omega (arith, over, h))) here (in_step_all low xs))
          ∙ ap (λ (ws : List X). here ++ ws) (rest over (omega (arith, less)))

  steps-none : (n low : ℕ) → steps_from low n [] ≡ []
  steps-none zero low = refl
  steps-none (suc n) low = steps-none n (low + 1)

  pub in_order-steps : (low n : ℕ) (xs : List X) → AllByRecursion (λ x. (low ≤ step x) × (step x < low + n)) xs → in_order rank_le xs ≡ steps_from low n xs
  in_order-steps low n [] all = sym (steps-none n low)
  in_order-steps low n (x ∷ xs) all = ap (put_in_order rank_le x) (in_order-steps low n xs all.1) ∙ put-steps n low x xs all.0.0 all.0.1
