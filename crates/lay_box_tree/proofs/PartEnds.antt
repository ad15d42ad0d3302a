-- Parts of inline boxes before and behind a place.
use Rattle.std.proofs.Common.{◌≡◌, ◌≢◌, inl, inr, ℕ, zero, suc, ◌+◌, ◌<◌, ◌≤◌, ◌==◌, Bool, true, false, ◌&&◌, ◌||◌, not, List, [], ◌∷◌, length, take, drop, refl, ap, sym, ◌∙◌, subst, arith, Option, None, Some}
use Rattle.std.specs.List.{list_any}
use Rattle.std.specs.Option.{is_some}
use Rattle.std.proofs.lemmas.Bool.{cases_lt, cases_eq, or_right, and_parts, eqb-true}
use Rattle.lay_box_tree.specs.Kinds.{is_inline}
use Rattle.lay_box_tree.specs.declared.box_tree.BoxNode.{BoxNode}
use Rattle.lay_box_tree.specs.InlineParts.{id_at, is_first_part, is_inline_at, is_last_part, is_part_at, is_part_of}
use Rattle.lay_box_tree.specs.LatestParts.{IsLatest}

pub none-before : (xs : List BoxNode) (id n : ℕ) → ((j : ℕ) → j < n → is_part_at xs id j ≡ false) → list_any (is_part_of id) (take n xs) ≡ false
none-before xs id zero h = refl
none-before [] id (suc n) h = refl
none-before (x ∷ xs) id (suc n) h = simp (h 0 (omega arith)) (none-before xs id n (λ j lt. h (suc j) (omega (arith, lt))))

pub some-before : (xs : List BoxNode) (id n j : ℕ) → j < n → is_part_at xs id j ≡ true → list_any (is_part_of id) (take n xs) ≡ true
some-before xs id zero j lt h = absurd (omega (arith, lt))
some-before [] id (suc n) j lt h = cc
some-before (x ∷ xs) id (suc n) zero lt h = simp h refl
some-before (x ∷ xs) id (suc n) (suc j) lt h =
    ap (λ b. is_part_of id x || b) (some-before xs id n j (omega (arith, lt)) h) ∙ or_right (is_part_of id x) true refl

pub none-behind : (xs : List BoxNode) (id n : ℕ) → ((j : ℕ) → n ≤ j → j < length xs → is_part_at xs id j ≡ false) → list_any (is_part_of id) (drop n xs) ≡ false
none-behind [] id zero h = refl
none-behind [] id (suc n) h = refl
none-behind (x ∷ xs) id zero h = simp (h 0 (omega arith) (omega arith)) (none-behind xs id zero (λ j le lt. h (suc j) (omega arith) (omega (arith, lt))))
none-behind (x ∷ xs) id (suc n) h = none-behind xs id n (λ j le lt. h (suc j) (omega (arith, le)) (omega (arith, lt)))

pub some-behind : (xs : List BoxNode) (id n j : ℕ) → n ≤ j → is_part_at xs id j ≡ true → list_any (is_part_of id) (drop n xs) ≡ true
some-behind [] id zero j le h = cc
some-behind [] id (suc n) j le h = cc
some-behind (x ∷ xs) id zero zero le h = simp h refl
some-behind (x ∷ xs) id zero (suc j) le h =
    ap (λ b. is_part_of id x || b) (some-behind xs id zero j (omega arith) h) ∙ or_right (is_part_of id x) true refl
some-behind (x ∷ xs) id (suc n) zero le h = absurd (omega (arith, le))
some-behind (x ∷ xs) id (suc n) (suc j) le h = some-behind xs id n j (omega (arith, le)) h

same : (n : ℕ) → (n == n) ≡ true
same n = grind (arith)

by-kind : (a b c : Bool) → b ≡ true → (a && b) ≡ false → (a && c) ≡ false
by-kind true true c e h = cc
by-kind true false c e h = cc
by-kind false b c e h = refl

-- what is no inline box is a part of none
pub no-part : (xs : List BoxNode) (id k : ℕ) → is_inline_at xs k ≡ false → is_part_at xs id k ≡ false
no-part [] id k h = refl
no-part (x ∷ xs) id zero h = by-kind (is_inline x.kind) (x.node.0 == x.node.0) (x.node.0 == id) (same x.node.0) h
no-part (x ∷ xs) id (suc k) h = no-part xs id k h

pub named : (xs : List BoxNode) (id k : ℕ) → is_part_at xs id k ≡ true → id_at xs k ≡ id
named [] id k h = cc
named (x ∷ xs) id zero h = eqb-true x.node.0 id (and_parts (is_inline x.kind) (x.node.0 == id) h).1
named (x ∷ xs) id (suc k) h = named xs id k h

pub other-part : (xs : List BoxNode) (id k : ℕ) → (id_at xs k ≡ id → ⊥) → is_part_at xs id k ≡ false
other-part xs id k ne = by (is_part_at xs id k) refl
  where
    by : (b : Bool) → is_part_at xs id k ≡ b → is_part_at xs id k ≡ false
    by true e = absurd (ne (named xs id k e))
    by false e = e

-- a box more, which is no part of this inline box, or is one
pub one-more : (xs : List BoxNode) (k id : ℕ) (o : Option ℕ) → IsLatest xs k id o → is_part_at xs id k ≡ false → IsLatest xs (k + 1) id o
one-more xs k id None h isnt = λ j lt. elim (cases_lt j k) [
  | inl low ↦ h j low
  | inr high ↦ (let e : j ≡ k = omega (arith, lt, high) in rw e isnt)
]
one-more xs k id (Some p) h isnt = (
  omega (arith, h.0),
  h.1,
  λ j after lt. elim (cases_lt j k) [
    | inl low ↦ h.2 j after low
    | inr high ↦ (let e : j ≡ k = omega (arith, lt, high) in rw e isnt)
  ],
)

pub latest-now : (xs : List BoxNode) (k id : ℕ) → is_part_at xs id k ≡ true → IsLatest xs (k + 1) id (Some k)
latest-now xs k id is = (omega arith, is, λ j after lt. absurd (omega (arith, after, lt)))

pub noted : (xs : List BoxNode) (k : ℕ) (f g : ℕ → Option ℕ) → is_inline_at xs k ≡ true → ((q : ℕ) → IsLatest xs k q (f q))
    → g (id_at xs k) ≡ Some k → ((q : ℕ) → q ≢ id_at xs k → g q ≡ f q) → (q : ℕ) → IsLatest xs (k + 1) q (g q)
noted xs k f g is before here others q = elim (cases_eq q (id_at xs k)) [
  | inl e ↦ subst (IsLatest xs (k + 1) q) (sym (ap g e ∙ here)) (latest-now xs k q (rw e is))
  | inr ne ↦ subst (IsLatest xs (k + 1) q) (sym (others q ne)) (one-more xs k q (f q) (before q) (other-part xs q k (λ e. ne (sym e))))
]

-- what the latest part before says of the box
pub is-first : (xs : List BoxNode) (k : ℕ) (o : Option ℕ) (r : Bool) → is_inline_at xs k ≡ true → IsLatest xs k (id_at xs k) o → is_some o ≡ not r → r ≡ is_first_part xs k
is-first xs k None true is h e = let f = none-before xs (id_at xs k) k h in rw (is, f) refl
is-first xs k None false is h e = cc
is-first xs k (Some p) true is h e = cc
is-first xs k (Some p) false is h e = let f = some-before xs (id_at xs k) k p h.0 h.1 in rw (is, f) refl

abbrev pub is_there : Option ℕ → ℕ → Bool
is_there None k = false
is_there (Some p) k = p == k

pub is-last : (xs : List BoxNode) (k : ℕ) (o : Option ℕ) → k < length xs → is_inline_at xs k ≡ true → IsLatest xs (length xs) (id_at xs k) o → is_there o k ≡ is_last_part xs k
is-last xs k None within is h = let isnt = h k within in cc
is-last xs k (Some p) within is h = elim (cases_eq p k) [
  | inl e ↦ (let isnt = none-behind xs (id_at xs k) (k + 1) (λ j le lt. h.2 j (omega (arith, e, le)) lt) in rw (is, isnt, e) (same k))
  | inr ne ↦ (let some = some-behind xs (id_at xs k) (k + 1) p (later ne) h.1 in rw (is, some) (differs p k ne))
]
  where
    differs : (a b : ℕ) → (a ≡ b → ⊥) → (a == b) ≡ false
    differs a b n = grind (arith, n)

    both : (b : Bool) → b ≡ true → b ≡ false → ⊥
    both true e f = cc
    both false e f = cc

    later : (p ≡ k → ⊥) → k + 1 ≤ p
    later ne = elim (cases_lt p k) [
      | inl low ↦ absurd (both (is_inline_at xs k) is (h.2 k low within))
      | inr high ↦ omega (arith, high, ne)
    ]
