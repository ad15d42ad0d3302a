-- The boxes at home in a root, and their places in its list.
use Rattle.std.proofs.Common.{◌≡◌, ℕ, zero, suc, ◌+◌, ◌-◌, ◌<◌, ◌≤◌, Bool, true, false, List, [], ◌∷◌, ◌++◌, add-one, append-nil, length, length-append, slice_index, refl, ap, sym, subst, ◌∙◌, arith, inl, inr}
use Rattle.std.specs.List.{filter, range_with_len}
use Rattle.std.proofs.lemmas.Bool.{cases_lt, eq-eqb, eqb-true}
use Rattle.std.proofs.lemmas.Grind.{elements}
use Rattle.std.proofs.lemmas.List.Elements.{filter-append}
use Rattle.std.proofs.lemmas.List.{map-id}
use Rattle.std.proofs.lemmas.List.FromFn.{map-range_with_len_more}
use Rattle.lay_contexts.specs.FormattingBoxes.{at_home_before, is_at_home}

front : (hs gs : List ℕ) (k : ℕ) → k < length hs → slice_index (hs ++ gs) k ≡ slice_index hs k
front hs gs k lt = grind (arith, elements)

read_last : (hs : List ℕ) (h k : ℕ) → k ≡ length hs → slice_index (hs ++ h ∷ []) k ≡ h
read_last hs h k e = grind (arith, elements)

-- what is at home in r
pub home_is : (homes : List ℕ) (r k : ℕ) → is_at_home homes r k ≡ true → (0 < k) × (slice_index homes k ≡ r)
home_is homes r zero e = absurd cc
home_is homes r (suc k) e = (omega arith, eqb-true (slice_index homes (suc k)) r e)

pub is_home : (homes : List ℕ) (r k : ℕ) → 0 < k → slice_index homes k ≡ r → is_at_home homes r k ≡ true
is_home homes r zero positive e = absurd (omega (arith, positive))
is_home homes r (suc k) positive e = eq-eqb (slice_index homes (suc k)) r e

counting_more : (n : ℕ) → range_with_len 0 (n + 1) ≡ range_with_len 0 n ++ n ∷ []
counting_more n =
    let more = map-range_with_len_more (λ (x : ℕ). x) 0 n n (omega arith) in
    sym (map-id (range_with_len 0 (n + 1))) ∙ more ∙ ap (λ (ks : List ℕ). ks ++ n ∷ []) (map-id (range_with_len 0 n))

module _ (homes : List ℕ) (r : ℕ) where
  one_of : (n : ℕ) → at_home_before homes r (n + 1) ≡ at_home_before homes r n ++ filter (is_at_home homes r) (n ∷ [])
  one_of n = ap (filter (is_at_home homes r)) (counting_more n) ∙ filter-append (is_at_home homes r) (range_with_len 0 n) (n ∷ [])

  pub more_yes : (n : ℕ) → is_at_home homes r n ≡ true → at_home_before homes r (n + 1) ≡ at_home_before homes r n ++ n ∷ []
  more_yes n e =
      let one : filter (is_at_home homes r) (n ∷ []) ≡ n ∷ [] = rw e refl in
      one_of n ∙ ap (λ (ks : List ℕ). at_home_before homes r n ++ ks) one

  pub more_no : (n : ℕ) → is_at_home homes r n ≡ false → at_home_before homes r (n + 1) ≡ at_home_before homes r n
  more_no n e =
      let none : filter (is_at_home homes r) (n ∷ []) ≡ [] = rw e refl in
      one_of n ∙ ap (λ (ks : List ℕ). at_home_before homes r n ++ ks) none ∙ append-nil (at_home_before homes r n)

  -- how many they are
  pub count_yes : (n : ℕ) → is_at_home homes r n ≡ true → length (at_home_before homes r (n + 1)) ≡ length (at_home_before homes r n) + 1
  count_yes n e = ap length (more_yes n e) ∙ length-append (at_home_before homes r n) (n ∷ [])

  -- not one for each box before, for the own box isn't at home anywhere
  few_by : (n m : ℕ) (b : Bool) → is_at_home homes r n ≡ b → length (at_home_before homes r n) ≤ m → length (at_home_before homes r (n + 1)) ≤ m + 1
  few_by n m true e le = omega (arith, count_yes n e, le)
  few_by n m false e le = omega (arith, ap length (more_no n e), le)

  pub count_few : (n : ℕ) → length (at_home_before homes r (n + 1)) ≤ n
  count_few zero = (let e = ap length (more_no 0 refl) in omega (arith, e))
  count_few (suc n) =
      let le = count_few n in
      let q = ap (λ (m : ℕ). length (at_home_before homes r m)) (add-one n) in
      let more = few_by (suc n) n (is_at_home homes r (suc n)) refl (omega (arith, le, q)) in
      omega (arith, more)

  count_step : (n : ℕ) (b : Bool) → is_at_home homes r n ≡ b → length (at_home_before homes r n) ≤ length (at_home_before homes r (n + 1))
  count_step n true e = omega (arith, count_yes n e)
  count_step n false e = omega (arith, ap length (more_no n e))

  count_above : (d j k : ℕ) → d + j ≡ k → length (at_home_before homes r j) ≤ length (at_home_before homes r k)
  count_above zero j k e = (let q : k ≡ j = omega (arith, e) in rw q (omega arith))
  count_above (suc d) j zero e = absurd (omega (arith, e))
  count_above (suc d) j (suc k) e =
      let a = count_above d j k (omega (arith, e)) in
      let s = count_step k (is_at_home homes r k) refl in
      let q = ap (λ (n : ℕ). length (at_home_before homes r n)) (add-one k) in
      omega (arith, a, s, q)

  pub count_le : (j k : ℕ) → j ≤ k → length (at_home_before homes r j) ≤ length (at_home_before homes r k)
  count_le j k le = count_above (k - j) j k (omega (arith, le))

  pub count_lt : (j k : ℕ) → is_at_home homes r j ≡ true → j < k → length (at_home_before homes r j) < length (at_home_before homes r k)
  count_lt j k e lt = (let a = count_le (j + 1) k (omega (arith, lt)) in omega (arith, a, count_yes j e))

  -- the one at the place a of the list
  pub record Stands (n a k : ℕ) : Type 0 where
    pub inside : a < length (at_home_before homes r n)
    pub is : slice_index (at_home_before homes r n) a ≡ k
    pub before : k < n
    pub home : is_at_home homes r k ≡ true
    pub place : length (at_home_before homes r k) ≡ a

  longer : (n a k : ℕ) → Stands n a k → Stands (n + 1) a k
  longer n a k s = record {
    inside = (let le = count_le n (n + 1) (omega arith) in omega (arith, le, s.inside));
    is = ap (λ (ks : List ℕ). slice_index ks a) (one_of n) ∙ front (at_home_before homes r n) (filter (is_at_home homes r) (n ∷ [])) a s.inside ∙ s.is;
    before = omega (arith, s.before);
    home = s.home;
    place = s.place;
  }

  newest : (n : ℕ) → is_at_home homes r n ≡ true → Stands (n + 1) (length (at_home_before homes r n)) n
  newest n e = record {
    inside = omega (arith, count_yes n e);
    is = ap (λ (ks : List ℕ). slice_index ks (length (at_home_before homes r n))) (more_yes n e) ∙ read_last (at_home_before homes r n) n (length (at_home_before homes r n)) refl;
    before = omega arith;
    home = e;
    place = refl;
  }

  last_there : (n a : ℕ) (b : Bool) → is_at_home homes r n ≡ b → a < length (at_home_before homes r (n + 1)) → length (at_home_before homes r n) ≤ a → Stands (n + 1) a (slice_index (at_home_before homes r (n + 1)) a)
  last_there n a true e lt high =
      let new = newest n e in
      let q : length (at_home_before homes r n) ≡ a = omega (arith, lt, high, count_yes n e) in
      let at = subst (λ (p : ℕ). Stands (n + 1) p n) q new in
      subst (Stands (n + 1) a) (sym at.is) at
  last_there n a false e lt high = absurd (omega (arith, lt, high, ap length (more_no n e)))

  pub place_there : (n a : ℕ) → a < length (at_home_before homes r n) → Stands n a (slice_index (at_home_before homes r n) a)
  place_there zero a lt = absurd (omega (arith, lt))
  place_there (suc n) a lt =
      let within : a < length (at_home_before homes r (n + 1)) = rw (add-one n) lt in
      subst (λ (m : ℕ). Stands m a (slice_index (at_home_before homes r m) a)) (add-one n) (elim (cases_lt a (length (at_home_before homes r n))) [
        | inl low ↦ (let old = longer n a (slice_index (at_home_before homes r n) a) (place_there n a low) in subst (Stands (n + 1) a) (sym old.is) old)
        | inr high ↦ last_there n a (is_at_home homes r n) refl within high
      ])

  pub stands_there : (n k : ℕ) → k < n → is_at_home homes r k ≡ true → Stands n (length (at_home_before homes r k)) k
  stands_there zero k lt home = absurd (omega (arith, lt))
  stands_there (suc n) k lt home = subst (λ (m : ℕ). Stands m (length (at_home_before homes r k)) k) (add-one n) (elim (cases_lt k n) [
    | inl low ↦ longer n (length (at_home_before homes r k)) k (stands_there n k low home)
    | inr high ↦ (let q : n ≡ k = omega (arith, high, lt) in subst (λ (m : ℕ). Stands (n + 1) (length (at_home_before homes r m)) m) q (newest n (rw q home)))
  ])
