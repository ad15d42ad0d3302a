-- The digits of a fraction.
use Rattle.std.proofs.Common.{◌≡◌, ℕ, zero, suc, ◌+◌, ◌*◌, ◌/◌, ◌%◌, ◌^◌, ◌<◌, ◌==◌, ◌&&◌, Bool, true, false, List, [], ◌∷◌, ◌++◌, length, refl, sym, ap, ◌∙◌, arith, append_assoc, append-nil, inl, inr}
use Rattle.std.specs.Fmt.{decimal}
use Rattle.std.specs.Str.Parse.{digits_value}
use Rattle.std.proofs.lemmas.Bool.{ne_eqb, eqb-true, cases_lt, and_parts}
use Rattle.std.proofs.lemmas.Fmt.{decimal_digit}
use Rattle.lay_drawing.specs.Pixels.{fraction_digits, FractionsAreExact}

pub none_left : (most : ℕ) → fraction_digits most 0 ≡ []
unfolding fraction_digits
none_left zero = refl
none_left (suc most) = refl

pub none_more : (left : ℕ) → fraction_digits 0 left ≡ []
unfolding fraction_digits
none_more left = refl

step : (most left : ℕ) → 0 < left → fraction_digits (suc most) left ≡ (48 + left * 10 / 64) ∷ fraction_digits most (left * 10 % 64)
unfolding fraction_digits
step most left some = let other : (left == 0) ≡ false = ne_eqb left 0 (λ e. omega arith) in rw other refl

-- one more digit is written
pub one_more : (text out : List ℕ) (most counter left : ℕ) → most + counter ≡ 6 → counter < 6 → left < 64 → 0 < left → text ++ fraction_digits most left ≡ out
    → (m : ℕ) × (m + (counter + 1) ≡ 6) × ((text ++ decimal (left * 10 / 64)) ++ fraction_digits m (left * 10 % 64) ≡ out)
one_more text out zero counter left is low small some e = absurd (omega arith)
one_more text out (suc m) counter left is low small some e =
    let digit : decimal (left * 10 / 64) ≡ (48 + left * 10 / 64) ∷ [] = decimal_digit (left * 10 / 64) (omega arith) in
    (m, omega arith, rw digit (append_assoc text ((48 + left * 10 / 64) ∷ []) (fraction_digits m (left * 10 % 64)) ∙ ap (λ (ys : List ℕ). text ++ ys) (sym (step m left some)) ∙ e))

pub zero_left : (text out : List ℕ) (most left : ℕ) → left ≡ 0 → text ++ fraction_digits most left ≡ out → text ≡ out
zero_left text out most left is e = sym (append-nil text) ∙ ap (λ (ys : List ℕ). text ++ ys) (sym (ap (fraction_digits most) is ∙ none_left most)) ∙ e

pub all_written : (text out : List ℕ) (most left : ℕ) → most ≡ 0 → text ++ fraction_digits most left ≡ out → text ≡ out
all_written text out most left is e = sym (append-nil text) ∙ ap (λ (ys : List ℕ). text ++ ys) (sym (ap (λ (m : ℕ). fraction_digits m left) is ∙ none_more left)) ∙ e

exact : ℕ → Bool
exact rest = (digits_value 10 (fraction_digits 6 rest) * 64) == (rest * 10 ^ length (fraction_digits 6 rest))

all_exact : ℕ → Bool
all_exact zero = true
all_exact (suc n) = exact n && all_exact n

below : (n : ℕ) → all_exact n ≡ true → (rest : ℕ) → rest < n → exact rest ≡ true
unfolding all_exact
below zero e rest low = absurd (omega arith)
below (suc n) e rest low = elim (cases_lt rest n) [
  | inl less ↦ below n (and_parts (exact n) (all_exact n) e).1 rest less
  | inr high ↦ (let q : rest ≡ n = omega arith in ap exact q ∙ (and_parts (exact n) (all_exact n) e).0)
]

sixty_four : all_exact 64 ≡ true
unfolding all_exact exact fraction_digits
sixty_four = refl

pub exact_lem : FractionsAreExact
unfolding exact
exact_lem rest low = eqb-true (digits_value 10 (fraction_digits 6 rest) * 64) (rest * 10 ^ length (fraction_digits 6 rest)) (below 64 sixty_four rest low)
