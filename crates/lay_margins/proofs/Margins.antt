-- Margins as two numbers.
use Rattle.std.proofs.Common.{◌≡◌, ℤ, pos, ◌≤ℤ◌, List, [], ◌∷◌, ◌++◌, arith, ap, sym, refl, ◌∙◌}
use Rattle.std.proofs.lemmas.Int.{ints, clamps}
use Rattle.std.specs.Int.{int_max, int_min}
use Rattle.lay_margins.specs.StrutValue.{StrutValue}
use Rattle.lay_margins.specs.Collapse.{Holds, greatest_margin, least}
use Rattle.lay_margins.specs.Laws.{OneStrut}

max_assoc : (a b c : ℤ) → int_max (int_max a b) c ≡ int_max a (int_max b c)
max_assoc a b c = omega (arith, ints, clamps)

min_assoc : (a b c : ℤ) → int_min (int_min a b) c ≡ int_min a (int_min b c)
min_assoc a b c = omega (arith, ints, clamps)

max_zero : (a : ℤ) → pos 0 ≤ℤ a → a ≡ int_max (pos 0) a
max_zero a up = omega (arith, ints, clamps, up)

min_zero : (a : ℤ) → a ≤ℤ pos 0 → a ≡ int_min (pos 0) a
min_zero a down = omega (arith, ints, clamps, down)

greatest_up : (ms : List ℤ) → pos 0 ≤ℤ greatest_margin ms
greatest_up [] = omega (arith, ints)
greatest_up (m ∷ ms) = let up = greatest_up ms in omega (arith, ints, clamps, up)

least_down : (ms : List ℤ) → least ms ≤ℤ pos 0
least_down [] = omega (arith, ints)
least_down (m ∷ ms) = let down = least_down ms in omega (arith, ints, clamps, down)

greatest-append : (ms ns : List ℤ) → greatest_margin (ms ++ ns) ≡ int_max (greatest_margin ms) (greatest_margin ns)
greatest-append [] ns = max_zero (greatest_margin ns) (greatest_up ns)
greatest-append (m ∷ ms) ns = ap (int_max m) (greatest-append ms ns) ∙ sym (max_assoc m (greatest_margin ms) (greatest_margin ns))

least-append : (ms ns : List ℤ) → least (ms ++ ns) ≡ int_min (least ms) (least ns)
least-append [] ns = min_zero (least ns) (least_down ns)
least-append (m ∷ ms) ns = ap (int_min m) (least-append ms ns) ∙ sym (min_assoc m (least ms) (least ns))

max_last : (a m : ℤ) → pos 0 ≤ℤ a → int_max a m ≡ int_max a (int_max m (pos 0))
max_last a m up = omega (arith, ints, clamps, up)

min_last : (a m : ℤ) → a ≤ℤ pos 0 → int_min a m ≡ int_min a (int_min m (pos 0))
min_last a m down = omega (arith, ints, clamps, down)

pub holds_one_more : (s t : StrutValue) (ms : List ℤ) (m : ℤ) → Holds s ms → t.positive ≡ int_max s.positive m → t.negative ≡ int_min s.negative m → Holds t (ms ++ m ∷ [])
holds_one_more s t ms m holds p n = record {
  positive_is = p ∙ ap (λ v. int_max v m) holds.positive_is ∙ max_last (greatest_margin ms) m (greatest_up ms) ∙ sym (greatest-append ms (m ∷ []));
  negative_is = n ∙ ap (λ v. int_min v m) holds.negative_is ∙ min_last (least ms) m (least_down ms) ∙ sym (least-append ms (m ∷ []));
}

pub holds_both : (s t u : StrutValue) (ms ns : List ℤ) → Holds s ms → Holds t ns → u.positive ≡ int_max s.positive t.positive → u.negative ≡ int_min s.negative t.negative → Holds u (ms ++ ns)
holds_both s t u ms ns hs ht p n = record {
  positive_is = p ∙ ap (λ v. int_max v t.positive) hs.positive_is ∙ ap (int_max (greatest_margin ms)) ht.positive_is ∙ sym (greatest-append ms ns);
  negative_is = n ∙ ap (λ v. int_min v t.negative) hs.negative_is ∙ ap (int_min (least ms)) ht.negative_is ∙ sym (least-append ms ns);
}

abbrev strut_of : ℤ → ℤ → StrutValue
strut_of positive negative = record { positive = positive; negative = negative }

pub one_strut_lem : OneStrut
one_strut_lem margins s t p q =
    let positive = p.positive_is ∙ sym q.positive_is in
    let negative = p.negative_is ∙ sym q.negative_is in
    let e : strut_of s.positive s.negative ≡ strut_of t.positive t.negative = rw (positive, negative) refl in
    e
