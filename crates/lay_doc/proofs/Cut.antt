-- A list without a stretch: what stands at each place, and the index of its ids.
use Rattle.std.proofs.Common.{◌≡◌, ℕ, ◌+◌, ◌-◌, ◌<◌, ◌≤◌, List, length, get_or, refl, sym, ap, ◌∙◌, arith, inl, inr, take, drop, map, cond, Option, Some, None, option_map}
use Rattle.std.specs.Prelude.{nat_lt}
use Rattle.std.specs.List.{remove_range, insert}
use Rattle.std.proofs.lemmas.Bool.{cases_lt, lt-ltb, le-ltb}
use Rattle.std.proofs.lemmas.List.{length-append, length-drop, length-take-le, get_or_append_left, get_or-append_right, get_or-take, get_or-drop, map-append, take-map, drop-map, take_more, take_all, drop_all}
use Rattle.lay_style.specs.Places.{place_of}
use Rattle.lay_doc.proofs.Cited.{place_fresh}
use Rattle.lay_doc.specs.declared.index.IdIndex.{IdIndex}
use Rattle.lay_doc.specs.Index.{number_in, IsIndexOf}

pub length-cut : {X : Type 0} (xs : List X) (i j : ℕ) → i ≤ j → j ≤ length xs → length (remove_range xs i j) + (j - i) ≡ length xs
length-cut xs i j le within =
    let a = length-append (take i xs) (drop j xs) in
    let b = length-take-le i xs (omega arith) in
    let c = length-drop j xs in
    omega arith

pub map-cut : {X Y : Type 0} (f : X → Y) (xs : List X) (i j : ℕ) → map f (remove_range xs i j) ≡ remove_range (map f xs) i j
map-cut f xs i j = map-append f (take i xs) (drop j xs) ∙ rw (take-map f i xs, drop-map f j xs) refl

-- where the element at a place of the shorter list stood before
abbrev pub old_place : ℕ → ℕ → ℕ → ℕ
old_place i j k = cond (nat_lt k i) k (k + (j - i))

pub old_low : (i j k : ℕ) → k < i → old_place i j k ≡ k
old_low i j k low = let t = lt-ltb k i low in rw t refl

pub old_high : (i j k : ℕ) → i ≤ k → old_place i j k ≡ k + (j - i)
old_high i j k high = let t = le-ltb k i high in rw t refl

pub cut_read : {X : Type 0} (xs : List X) (i j k : ℕ) (d : X) → i ≤ j → j ≤ length xs → get_or (remove_range xs i j) k d ≡ get_or xs (old_place i j k) d
cut_read xs i j k d le within =
    let len = length-take-le i xs (omega arith) in
    elim (cases_lt k i) [
      | inl low ↦ get_or_append_left (take i xs) (drop j xs) d k (omega arith) ∙ get_or-take i xs k d low ∙ ap (λ (m : ℕ). get_or xs m d) (sym (old_low i j k low))
      | inr high ↦ (let q : j + (k - i) ≡ k + (j - i) = omega arith in
          get_or-append_right (take i xs) (drop j xs) i k d len high ∙ get_or-drop j xs (k - i) d
          ∙ ap (λ (m : ℕ). get_or xs m d) (q ∙ sym (old_high i j k high)))
    ]

pub old_less : (i j k m : ℕ) → k < m → old_place i j k < old_place i j m
old_less i j k m less = elim (cases_lt m i) [
  | inl low ↦ (let a = old_low i j m low in let b = old_low i j k (omega arith) in omega arith)
  | inr high ↦ (let a = old_high i j m high in elim (cases_lt k i) [
    | inl low ↦ (let b = old_low i j k low in omega arith)
    | inr over ↦ (let b = old_high i j k over in omega arith)
  ])
]

pub old_within : {X : Type 0} (xs : List X) (i j k : ℕ) → i ≤ j → j ≤ length xs → k < length (remove_range xs i j) → old_place i j k < length xs
old_within xs i j k le within lt =
    let len = length-cut xs i j le within in
    elim (cases_lt k i) [
      | inl low ↦ (let a = old_low i j k low in omega arith)
      | inr high ↦ (let a = old_high i j k high in omega arith)
    ]

-- numbers that differ do so without a stretch too
pub distinct_cut : (xs : List ℕ) (i j : ℕ) → i ≤ j → j ≤ length xs → ((a b : ℕ) → a < b → b < length xs → get_or xs a 0 ≡ get_or xs b 0 → ⊥)
    → (a b : ℕ) → a < b → b < length (remove_range xs i j) → get_or (remove_range xs i j) a 0 ≡ get_or (remove_range xs i j) b 0 → ⊥
distinct_cut xs i j le within apart a b less lt same =
    apart (old_place i j a) (old_place i j b) (old_less i j a b less) (old_within xs i j b le within lt)
    (sym (cut_read xs i j a 0 le within) ∙ same ∙ cut_read xs i j b 0 le within)

-- the next of numbers that differ isn't among those before it
pub next_fresh : (xs : List ℕ) (k : ℕ) → ((a b : ℕ) → a < b → b < length xs → get_or xs a 0 ≡ get_or xs b 0 → ⊥) → k < length xs → place_of (get_or xs k 0) (take k xs) ≡ None
next_fresh xs k apart lt =
    let len = length-take-le k xs (omega arith) in
    place_fresh (get_or xs k 0) (take k xs) (λ m less is. apart m k (omega arith) lt (sym (get_or-take k xs m 0 (omega arith)) ∙ is))

pub no_number : (index : IdIndex) (ids : List ℕ) (id : ℕ) → IsIndexOf index ids → place_of id ids ≡ None → number_in index id ≡ None
no_number index ids id is none = unmapped (number_in index id) (is.found id ∙ none)
  where
    unmapped : (o : Option ℕ) → option_map (λ n. get_or index.places.items n 0) o ≡ None → o ≡ None
    unmapped None e = refl
    unmapped (Some n) e = absurd cc

-- a list up to a place, and the element there put at its end
pub insert_next : (xs : List ℕ) (k : ℕ) → k < length xs → insert (take k xs) k (get_or xs k 0) ≡ take (k + 1) xs
insert_next xs k lt =
    let len = length-take-le k xs (omega arith) in
    rw (take_all_of (take k xs) k (omega arith), drop_all k (take k xs) (omega arith)) (sym (take_more xs k 0 lt))
  where
    take_all_of : (ys : List ℕ) (n : ℕ) → length ys ≤ n → take n ys ≡ ys
    take_all_of ys n h = take_all n ys h

pub old_inside : (i j k n : ℕ) → k + (j - i) < n → old_place i j k < n
old_inside i j k n lt = elim (cases_lt k i) [
  | inl low ↦ (let a = old_low i j k low in omega arith)
  | inr high ↦ (let a = old_high i j k high in omega arith)
]

pub old_more : (i j k : ℕ) → k ≤ old_place i j k
old_more i j k = elim (cases_lt k i) [
  | inl low ↦ (let a = old_low i j k low in omega arith)
  | inr high ↦ (let a = old_high i j k high in omega arith)
]

-- no old place lies in the stretch
pub old_outside : (i j k : ℕ) → i ≤ j → i ≤ old_place i j k → j ≤ old_place i j k
old_outside i j k le from = elim (cases_lt k i) [
  | inl low ↦ (let a = old_low i j k low in absurd (omega arith))
  | inr high ↦ (let a = old_high i j k high in omega arith)
]

-- places whose old ones stand in an order stand in it too
pub old_less_back : (i j k m : ℕ) → old_place i j k < old_place i j m → k < m
old_less_back i j k m less = elim (cases_lt k m) [
  | inl low ↦ low
  | inr high ↦ elim (cases_lt m k) [
    | inl over ↦ (let a = old_less i j m k over in absurd (omega arith))
    | inr same ↦ (let q : k ≡ m = omega arith in let a : old_place i j k ≡ old_place i j m = ap (old_place i j) q in absurd (omega arith))
  ]
]

pub old_le_back : (i j k m : ℕ) → old_place i j k ≤ old_place i j m → k ≤ m
old_le_back i j k m le = elim (cases_lt m k) [
  | inl over ↦ (let a = old_less i j m k over in absurd (omega arith))
  | inr high ↦ high
]
