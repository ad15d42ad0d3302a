-- Each inline box has one first and one last part.
use Rattle.std.proofs.Common.{◌≡◌, inl, inr, ℕ, zero, suc, ◌+◌, ◌<◌, Bool, true, false, ◌&&◌, ◌||◌, not, List, [], ◌∷◌, length, take, drop, refl, subst, arith}
use Rattle.std.specs.List.{list_any}
use Rattle.std.proofs.lemmas.Bool.{cases_lt, both_ways}
use Rattle.lay_box_tree.specs.declared.box_tree.BoxNode.{BoxNode}
use Rattle.lay_box_tree.specs.InlineParts.{id_at, is_first_part, is_inline_at, is_last_part, is_part_at, is_part_of}
use Rattle.lay_box_tree.specs.PartLaws.{EndsAreOne, HasOne}
use Rattle.lay_box_tree.proofs.PartEnds.{named, none-before, none-behind, some-before, some-behind}

-- a part that no part stands before
abbrev IsFront : List BoxNode → (id p : ℕ) → Type 0
IsFront xs id p = (p < length xs) × (is_part_at xs id p ≡ true) × ((j : ℕ) → j < p → is_part_at xs id j ≡ false)

-- a part that no part stands behind
abbrev IsBack : List BoxNode → (id p : ℕ) → Type 0
IsBack xs id p = (p < length xs) × (is_part_at xs id p ≡ true) × ((j : ℕ) → p < j → j < length xs → is_part_at xs id j ≡ false)

or-right : (a b : Bool) → a ≡ false → (a || b) ≡ true → b ≡ true
or-right true b e h = cc
or-right false b e h = h

front-of : (x : BoxNode) (xs : List BoxNode) (id : ℕ) → (list_any (is_part_of id) xs ≡ true → (p : ℕ) × IsFront xs id p) → list_any (is_part_of id) (x ∷ xs) ≡ true
    → (b : Bool) → is_part_of id x ≡ b → (p : ℕ) × IsFront (x ∷ xs) id p
front-of x xs id rest h true e = (0, (omega arith, e, λ j lt. absurd (omega (arith, lt))))
front-of x xs id rest h false e = let f = rest (or-right (is_part_of id x) (list_any (is_part_of id) xs) e h) in (suc f.0, (let lt = f.1.0 in omega (arith, lt), f.1.1, before f.0 f.1))
  where
    before : (p : ℕ) → IsFront xs id p → (j : ℕ) → j < suc p → is_part_at (x ∷ xs) id j ≡ false
    before p f zero lt = e
    before p f (suc j) lt = f.2 j (omega (arith, lt))

front : (xs : List BoxNode) (id : ℕ) → list_any (is_part_of id) xs ≡ true → (p : ℕ) × IsFront xs id p
front [] id h = cc
front (x ∷ xs) id h = front-of x xs id (front xs id) h (is_part_of id x) refl

none-in : (xs : List BoxNode) (id j : ℕ) → list_any (is_part_of id) xs ≡ false → is_part_at xs id j ≡ false
none-in [] id j h = refl
none-in (x ∷ xs) id zero h = left (is_part_of id x) (list_any (is_part_of id) xs) h
  where
    left : (a b : Bool) → (a || b) ≡ false → a ≡ false
    left true b e = cc
    left false b e = refl
none-in (x ∷ xs) id (suc j) h = none-in xs id j (right (is_part_of id x) (list_any (is_part_of id) xs) h)
  where
    right : (a b : Bool) → (a || b) ≡ false → b ≡ false
    right true b e = cc
    right false b e = e

or-left : (a b : Bool) → b ≡ false → (a || b) ≡ true → a ≡ true
or-left true b e f = refl
or-left false b e f = cc

back-of : (x : BoxNode) (xs : List BoxNode) (id : ℕ) → (list_any (is_part_of id) xs ≡ true → (p : ℕ) × IsBack xs id p) → list_any (is_part_of id) (x ∷ xs) ≡ true
    → (b : Bool) → list_any (is_part_of id) xs ≡ b → (p : ℕ) × IsBack (x ∷ xs) id p
back-of x xs id rest h true e = let f = rest e in (suc f.0, (let lt = f.1.0 in omega (arith, lt), f.1.1, behind f.0 f.1))
  where
    behind : (p : ℕ) → IsBack xs id p → (j : ℕ) → suc p < j → j < length (x ∷ xs) → is_part_at (x ∷ xs) id j ≡ false
    behind p b zero after lt = absurd (omega (arith, after))
    behind p b (suc j) after lt = b.2 j (omega (arith, after)) (omega (arith, lt))
back-of x xs id rest h false e = (0, (omega arith, or-left (is_part_of id x) (list_any (is_part_of id) xs) e h, other))
  where
    other : (j : ℕ) → 0 < j → j < length (x ∷ xs) → is_part_at (x ∷ xs) id j ≡ false
    other zero after lt = absurd (omega (arith, after))
    other (suc j) after lt = none-in xs id j e

back : (xs : List BoxNode) (id : ℕ) → list_any (is_part_of id) xs ≡ true → (p : ℕ) × IsBack xs id p
back [] id h = cc
back (x ∷ xs) id h = back-of x xs id (back xs id) h (list_any (is_part_of id) xs) refl

-- what an end's flag says
both : (a b : Bool) → (a && not b) ≡ true → (a ≡ true) × (b ≡ false)
both true true h = cc
both true false h = (refl, refl)
both false b h = cc

one-first : (xs : List BoxNode) (id p : ℕ) → IsFront xs id p → HasOne is_first_part xs id
one-first xs id p f = record { at = p; within = f.0; of = of; is = is; only = only }
  where
    of : id_at xs p ≡ id
    of = named xs id p f.1

    is : is_first_part xs p ≡ true
    is = rw (of, f.1, none-before xs id p f.2) refl

    only : (k : ℕ) → k < length xs → id_at xs k ≡ id → is_first_part xs k ≡ true → k ≡ p
    only k within e h =
        let flags = both (is_inline_at xs k) (list_any (is_part_of (id_at xs k)) (take k xs)) h in
        let part : is_part_at xs id k ≡ true = subst (λ (i : ℕ). is_part_at xs i k ≡ true) e flags.0 in
        let none : list_any (is_part_of id) (take k xs) ≡ false = subst (λ (i : ℕ). list_any (is_part_of i) (take k xs) ≡ false) e flags.1 in
        elim (cases_lt k p) [
          | inl low ↦ absurd (both_ways (is_part_at xs id k) (f.2 k low) part)
          | inr high ↦ elim (cases_lt p k) [
            | inl under ↦ absurd (both_ways (list_any (is_part_of id) (take k xs)) none (some-before xs id k p under f.1))
            | inr over ↦ omega (arith, high, over)
          ]
        ]

one-last : (xs : List BoxNode) (id p : ℕ) → IsBack xs id p → HasOne is_last_part xs id
one-last xs id p f = record { at = p; within = f.0; of = of; is = is; only = only }
  where
    of : id_at xs p ≡ id
    of = named xs id p f.1

    is : is_last_part xs p ≡ true
    is = rw (of, f.1, none-behind xs id (p + 1) (λ j le lt. f.2 j (omega (arith, le)) lt)) refl

    only : (k : ℕ) → k < length xs → id_at xs k ≡ id → is_last_part xs k ≡ true → k ≡ p
    only k within e h =
        let flags = both (is_inline_at xs k) (list_any (is_part_of (id_at xs k)) (drop (k + 1) xs)) h in
        let part : is_part_at xs id k ≡ true = subst (λ (i : ℕ). is_part_at xs i k ≡ true) e flags.0 in
        let none : list_any (is_part_of id) (drop (k + 1) xs) ≡ false = subst (λ (i : ℕ). list_any (is_part_of i) (drop (k + 1) xs) ≡ false) e flags.1 in
        elim (cases_lt p k) [
          | inl under ↦ absurd (both_ways (is_part_at xs id k) (f.2 k under within) part)
          | inr high ↦ elim (cases_lt k p) [
            | inl low ↦ absurd (both_ways (list_any (is_part_of id) (drop (k + 1) xs)) none (some-behind xs id (k + 1) p (omega (arith, low)) f.1))
            | inr over ↦ omega (arith, high, over)
          ]
        ]

pub ends_are_one : EndsAreOne
ends_are_one xs id some = (let f = front xs id some in one-first xs id f.0 f.1, let b = back xs id some in one-last xs id b.0 b.1)
