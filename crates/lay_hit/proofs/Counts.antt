-- How often a number stands in a list, and that lists in which each stands as often hold the same.
use Rattle.std.proofs.Common.{◌≡◌, ℕ, zero, suc, ◌+◌, ◌<◌, ◌≤◌, Bool, true, false, cond, List, [], ◌∷◌, ◌++◌, refl, sym, ap, ◌∙◌, subst, arith, append_assoc}
use Rattle.std.proofs.lemmas.Bool.{eqb-true, eq-eqb, ne_eqb, eqb-false}
use Rattle.std.proofs.lemmas.Grind.{flat_map-append}
use Rattle.std.proofs.lemmas.List.Sorted.{IsPermutation-refl, IsPermutation-sym, IsPermutation-cons, IsPermutation-trans, IsPermutation-append_left, IsPermutation-append_right, IsPermutation-append_comm, IsPermutation-middle}
use Rattle.std.specs.Prelude.{◌==◌, IsPermutation}
use Rattle.std.specs.List.{filter, flat_map, range_with_len}
use Rattle.lay_hit.specs.Sorting.{put_in_order, in_order}

abbrev pub one_if : Bool → ℕ
one_if b = cond b 1 0

abbrev pub times : ℕ → List ℕ → ℕ
times j [] = 0
times j (k ∷ ks) = one_if (k == j) + times j ks

pub times-append : (j : ℕ) (ks ls : List ℕ) → times j (ks ++ ls) ≡ times j ks + times j ls
times-append j [] ls = omega arith
times-append j (k ∷ ks) ls = let e = times-append j ks ls in omega (arith, e)

-- a number that is there
record Stands (j : ℕ) (ks : List ℕ) : Type 0 where
  before : List ℕ
  behind : List ℕ
  is : ks ≡ before ++ j ∷ behind

stands : (j : ℕ) (ks : List ℕ) → 0 < times j ks → Stands j ks
stands j [] some = absurd (omega arith)
stands j (k ∷ ks) some = by_test (stands j ks) (k == j) refl some
  where
    by_test : (0 < times j ks → Stands j ks) → (b : Bool) → (k == j) ≡ b → 0 < one_if b + times j ks → Stands j (k ∷ ks)
    by_test rest true e more = record { before = []; behind = ks; is = ap (λ (n : ℕ). n ∷ ks) (eqb-true k j e) }
    by_test rest false e more = let r = rest (omega arith) in record { before = k ∷ r.before; behind = r.behind; is = ap (λ (ns : List ℕ). k ∷ ns) r.is }

none_left : (ks : List ℕ) → ((j : ℕ) → times j ks ≡ 0) → ks ≡ []
none_left [] each = refl
none_left (k ∷ ks) each = absurd (let e = each k in let h = eq-eqb k k refl in let f : one_if (k == k) + times k ks ≡ 1 + times k ks = ap (λ (b : Bool). one_if b + times k ks) h in omega (arith, e, f))

-- lists of what these numbers stand for hold the same
pub same_times : {X : Type 0} (f : ℕ → List X) (ks ls : List ℕ) → ((j : ℕ) → times j ks ≡ times j ls) → IsPermutation (flat_map f ks) (flat_map f ls)
same_times {X} f [] ls each = let e = none_left ls (λ j. sym (each j)) in subst (λ (ms : List ℕ). IsPermutation [] (flat_map f ms)) (sym e) (IsPermutation-refl [])
same_times {X} f (k ∷ ks) ls each =
    let h = eq-eqb k k refl in
    let first : one_if (k == k) + times k ks ≡ 1 + times k ks = ap (λ (b : Bool). one_if b + times k ks) h in
    let here = each k in
    let s = stands k ls (omega (arith, first, here)) in
    subst (λ (ms : List ℕ). IsPermutation (f k ++ flat_map f ks) (flat_map f ms)) (sym s.is) (moved s.before s.behind (same_times f ks (s.before ++ s.behind) (rest s.before s.behind s.is)))
  where
    rest : (us vs : List ℕ) → ls ≡ us ++ k ∷ vs → (j : ℕ) → times j ks ≡ times j (us ++ vs)
    rest us vs e j =
        let a = each j in
        let b = ap (times j) e in
        let c = times-append j us (k ∷ vs) in
        let d = times-append j us vs in
        omega (arith, a, b, c, d)

    moved : (us vs : List ℕ) → IsPermutation (flat_map f ks) (flat_map f (us ++ vs)) → IsPermutation (f k ++ flat_map f ks) (flat_map f (us ++ k ∷ vs))
    moved us vs inner =
        subst (λ (ws : List X). IsPermutation (f k ++ flat_map f ks) ws) (sym (flat_map-append f us (k ∷ vs)))
        (IsPermutation-trans (f k ++ flat_map f ks) (f k ++ flat_map f (us ++ vs)) (flat_map f us ++ (f k ++ flat_map f vs))
        (IsPermutation-append_right (f k) (flat_map f ks) (flat_map f (us ++ vs)) inner)
        (subst (λ (ws : List X). IsPermutation (f k ++ ws) (flat_map f us ++ (f k ++ flat_map f vs))) (sym (flat_map-append f us vs))
        (subst (λ (ws : List X). IsPermutation ws (flat_map f us ++ (f k ++ flat_map f vs))) (append_assoc (f k) (flat_map f us) (flat_map f vs))
        (subst (λ (ws : List X). IsPermutation ((f k ++ flat_map f us) ++ flat_map f vs) ws) (append_assoc (flat_map f us) (f k) (flat_map f vs))
        (IsPermutation-append_left (flat_map f vs) (f k ++ flat_map f us) (flat_map f us ++ f k) (IsPermutation-append_comm (f k) (flat_map f us)))))))

-- a list in order holds the same
pub put-same : {X : Type 0} (le : X → X → Bool) (x : X) (ys : List X) → IsPermutation (x ∷ ys) (put_in_order le x ys)
put-same le x [] = IsPermutation-refl (x ∷ [])
put-same {X} le x (y ∷ ys) = by_test (put-same le x ys) (le x y)
  where
    by_test : IsPermutation (x ∷ ys) (put_in_order le x ys) → (b : Bool) → IsPermutation (x ∷ y ∷ ys) (cond b (x ∷ y ∷ ys) (y ∷ put_in_order le x ys))
    by_test rest true = IsPermutation-refl (x ∷ y ∷ ys)
    by_test rest false = IsPermutation-trans (x ∷ y ∷ ys) (y ∷ x ∷ ys) (y ∷ put_in_order le x ys) (IsPermutation-sym (y ∷ x ∷ ys) (x ∷ y ∷ ys) (IsPermutation-middle (y ∷ []) x ys)) (IsPermutation-cons y (x ∷ ys) (put_in_order le x ys) rest)

pub in_order-same : {X : Type 0} (le : X → X → Bool) (xs : List X) → IsPermutation xs (in_order le xs)
in_order-same le [] = IsPermutation-refl []
in_order-same le (x ∷ xs) = IsPermutation-trans (x ∷ xs) (x ∷ in_order le xs) (put_in_order le x (in_order le xs)) (IsPermutation-cons x xs (in_order le xs) (in_order-same le xs)) (put-same le x (in_order le xs))

put-times : (le : ℕ → ℕ → Bool) (j k : ℕ) (ks : List ℕ) → times j (put_in_order le k ks) ≡ one_if (k == j) + times j ks
put-times le j k [] = refl
put-times le j k (l ∷ ls) = by_test (put-times le j k ls) (le k l)
  where
    by_test : times j (put_in_order le k ls) ≡ one_if (k == j) + times j ls → (b : Bool) → times j (cond b (k ∷ l ∷ ls) (l ∷ put_in_order le k ls)) ≡ one_if (k == j) + (one_if (l == j) + times j ls)
    by_test rest true = refl
    by_test rest false = omega (arith, rest)

pub in_order-times : (le : ℕ → ℕ → Bool) (j : ℕ) (ks : List ℕ) → times j (in_order le ks) ≡ times j ks
in_order-times le j [] = refl
in_order-times le j (k ∷ ks) = put-times le j k (in_order le ks) ∙ ap (λ (n : ℕ). one_if (k == j) + n) (in_order-times le j ks)

-- in a filter, and in a row
pub filter-times : (p : ℕ → Bool) (j : ℕ) (ks : List ℕ) → times j (filter p ks) ≡ cond (p j) (times j ks) 0
filter-times p j [] = none (p j)
  where
    none : (b : Bool) → times j [] ≡ cond b 0 0
    none true = refl
    none false = refl
filter-times p j (k ∷ ks) = by_test (filter-times p j ks) (k == j) refl (p k) refl
  where
    by_test : times j (filter p ks) ≡ cond (p j) (times j ks) 0 → (b : Bool) → (k == j) ≡ b → (c : Bool) → p k ≡ c → times j (cond c (k ∷ filter p ks) (filter p ks)) ≡ cond (p j) (one_if b + times j ks) 0
    by_test rest true e true h =
        let same = eqb-true k j e in
        let pj : p j ≡ true = ap p (sym same) ∙ h in
        let r : times j (filter p ks) ≡ times j ks = rest ∙ ap (λ (d : Bool). cond d (times j ks) 0) pj in
        ap (λ (d : Bool). one_if d + times j (filter p ks)) e ∙ ap (λ (n : ℕ). 1 + n) r ∙ ap (λ (d : Bool). cond d (1 + times j ks) 0) (sym pj)
    by_test rest true e false h =
        let same = eqb-true k j e in
        let pj : p j ≡ false = ap p (sym same) ∙ h in
        rest ∙ ap (λ (d : Bool). cond d (times j ks) 0) pj ∙ ap (λ (d : Bool). cond d (1 + times j ks) 0) (sym pj)
    by_test rest false e true h = ap (λ (d : Bool). one_if d + times j (filter p ks)) e ∙ (let z : 0 + times j (filter p ks) ≡ times j (filter p ks) = omega arith in z) ∙ rest ∙ (let z : times j ks ≡ 0 + times j ks = omega arith in ap (λ (n : ℕ). cond (p j) n 0) z)
    by_test rest false e false h = rest ∙ (let z : times j ks ≡ 0 + times j ks = omega arith in ap (λ (n : ℕ). cond (p j) n 0) z)

pub range-times : (n a j : ℕ) → a ≤ j → j < a + n → times j (range_with_len a n) ≡ 1
range-times zero a j low high = absurd (omega arith)
range-times (suc n) a j low high = by_test (range-times n (a + 1) j) (a == j) refl
  where
    outside : (m b : ℕ) → j < b → times j (range_with_len b m) ≡ 0
    outside zero b less = refl
    outside (suc m) b less = let e = ne_eqb b j (λ h. omega (arith, h, less)) in ap (λ (d : Bool). one_if d + times j (range_with_len (b + 1) m)) e ∙ (let r = outside m (b + 1) (omega (arith, less)) in omega (arith, r))

    by_test : (a + 1 ≤ j → j < (a + 1) + n → times j (range_with_len (a + 1) n) ≡ 1) → (b : Bool) → (a == j) ≡ b → one_if b + times j (range_with_len (a + 1) n) ≡ 1
    by_test rest true e = let same = eqb-true a j e in let r = outside n (a + 1) (omega (arith, same)) in omega (arith, r)
    by_test rest false e = let other = eqb-false a j e in let less : a + 1 ≤ j = omega (arith, other, low) in let r = rest less (omega (arith, high)) in omega (arith, r)

pub range-none : (n a j : ℕ) → a + n ≤ j → times j (range_with_len a n) ≡ 0
range-none zero a j high = refl
range-none (suc n) a j high = let e = ne_eqb a j (λ h. omega (arith, h, high)) in ap (λ (d : Bool). one_if d + times j (range_with_len (a + 1) n)) e ∙ (let r = range-none n (a + 1) j (omega (arith, high)) in omega (arith, r))
