-- The places of listed nodes after one more was put before the place `at`.
use Rattle.std.proofs.Common.{◌≡◌, ℕ, ◌+◌, ◌-◌, ◌<◌, ◌≤◌, List, [], ◌∷◌, ◌++◌, length, get_or, map, refl, sym, ap, ◌∙◌, arith, inl, inr, Option, Some, None, option_map, IfSome}
use Rattle.std.proofs.lemmas.Bool.{cases_lt}
use Rattle.std.proofs.lemmas.Grind.{elements}
use Rattle.std.proofs.lemmas.List.{get_or-map, length-append, length-map}
use Rattle.lay_doc.specs.Tree.{shifted}
use Rattle.lay_run.proofs.Cited.{shifted_high, shifted_low}
use Rattle.lay_run.specs.Gathered.Standing.{IsOrder}

abbrev pub more_places : List ℕ → ℕ → List ℕ
more_places places at = map (shifted at) places ++ at ∷ []

pub length-more : (places : List ℕ) (at : ℕ) → length (more_places places at) ≡ length places + 1
length-more places at = length-append (map (shifted at) places) (at ∷ []) ∙ ap (λ (m : ℕ). m + 1) (length-map places (shifted at))

pub more_old : (places : List ℕ) (at i : ℕ) → i < length places → get_or (more_places places at) i 0 ≡ shifted at (get_or places i 0)
more_old places at i lt =
    let len = length-map places (shifted at) in
    let front : get_or (map (shifted at) places ++ at ∷ []) i 0 ≡ get_or (map (shifted at) places) i 0 = grind (arith, elements) in
    front ∙ get_or-map (shifted at) places i 0 0 lt

pub more_new : (places : List ℕ) (at i : ℕ) → i ≡ length places → get_or (more_places places at) i 0 ≡ at
more_new places at i is =
    let len = length-map places (shifted at) in
    grind (arith, elements)

pub data Shifts (at x : ℕ) : Type 0 where
  stays : x < at → shifted at x ≡ x → Shifts at x
  moves : at ≤ x → shifted at x ≡ x + 1 → Shifts at x

pub shifts : (at x : ℕ) → Shifts at x
shifts at x = elim (cases_lt x at) [
  | inl low ↦ stays low (shifted_low at x low)
  | inr high ↦ moves high (shifted_high at x high)
]

shifted_one : (at x y : ℕ) → shifted at x ≡ shifted at y → x ≡ y
shifted_one at x y same = elim (shifts at x) [
  | stays a b ↦ elim (shifts at y) [ stays c d ↦ omega arith | moves c d ↦ omega arith ]
  | moves a b ↦ elim (shifts at y) [ stays c d ↦ omega arith | moves c d ↦ omega arith ]
]

shifted_never : (at x : ℕ) → shifted at x ≡ at → ⊥
shifted_never at x same = elim (shifts at x) [ stays a b ↦ omega arith | moves a b ↦ omega arith ]

pub shifted_rises : (at x y : ℕ) → x ≤ y → shifted at x ≤ shifted at y
shifted_rises at x y le = elim (shifts at x) [
  | stays a b ↦ elim (shifts at y) [ stays c d ↦ omega arith | moves c d ↦ omega arith ]
  | moves a b ↦ elim (shifts at y) [ stays c d ↦ omega arith | moves c d ↦ omega arith ]
]

pub order_more : (places : List ℕ) (at : ℕ) → at ≤ length places → IsOrder places → IsOrder (more_places places at)
order_more places at within is =
    let len = length-more places at in
    record {
      within = λ i lt. elim (cases_lt i (length places)) [
        | inl old ↦ (let e = more_old places at i old in
            let w = is.within i old in
            elim (shifts at (get_or places i 0)) [ stays a b ↦ omega arith | moves a b ↦ omega arith ])
        | inr new ↦ (let e = more_new places at i (omega arith) in omega arith)
      ];
      apart = λ i j il jl same. elim (cases_lt i (length places)) [
        | inl oi ↦ elim (cases_lt j (length places)) [
          | inl oj ↦ is.apart i j oi oj (shifted_one at (get_or places i 0) (get_or places j 0) (sym (more_old places at i oi) ∙ same ∙ more_old places at j oj))
          | inr nj ↦ absurd (shifted_never at (get_or places i 0) (sym (more_old places at i oi) ∙ same ∙ more_new places at j (omega arith)))
        ]
        | inr ni ↦ elim (cases_lt j (length places)) [
          | inl oj ↦ absurd (shifted_never at (get_or places j 0) (sym (more_old places at j oj) ∙ sym same ∙ more_new places at i (omega arith)))
          | inr nj ↦ omega arith
        ]
      ];
      each = λ k lt. elim (cases_lt k at) [
        | inl low ↦ (let a = is.each k (omega arith) in record {
          number = a.number;
          within = omega (arith, a.within);
          stands = more_old places at a.number a.within ∙ ap (shifted at) a.stands ∙ shifted_low at k low;
        })
        | inr high ↦ elim (cases_lt at k) [
          | inl over ↦ (let a = is.each (k - 1) (omega arith) in
              let q : k - 1 + 1 ≡ k = omega arith in
              record {
                number = a.number;
                within = omega (arith, a.within);
                stands = more_old places at a.number a.within ∙ ap (shifted at) a.stands ∙ shifted_high at (k - 1) (omega arith) ∙ q;
              })
          | inr same ↦ (let q : at ≡ k = omega arith in record { number = length places; within = omega arith; stands = more_new places at (length places) refl ∙ q })
        ]
      ];
    }

-- places by number, after one more
pub places_more : (places : List ℕ) (at : ℕ) (o : Option ℕ) → IfSome o (λ i. i < length places)
    → option_map (λ i. get_or (more_places places at) i 0) o ≡ option_map (shifted at) (option_map (λ i. get_or places i 0) o)
places_more places at None known = refl
places_more places at (Some i) known = ap (λ m. Some m) (more_old places at i known)
