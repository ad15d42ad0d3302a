-- Numerals: digits without leading zeros, and the numbers that they write.
use Rattle.std.proofs.Common.{◌≡◌, ℕ, zero, suc, ◌^◌, ◌<◌, ◌==◌, ◌&&◌, ◌||◌, Bool, true, false, not, List, [], ◌∷◌, length, get_or, refl, sym, ap, ◌∙◌, arith, rules, subst, Some, None, Err, nat_lt, if◌then◌else◌}
use Rattle.std.specs.List.{list_all}
use Rattle.std.specs.Char.{is_ascii_digit}
use Rattle.std.specs.Str.{IsUtf8}
use Rattle.std.specs.Str.Parse.{digits_value, ParsesUnsigned}
use Rattle.std.specs.Fmt.{decimal}
use Rattle.std.proofs.lemmas.Str.{IsUtf8-from_ascii}
use Rattle.std.proofs.lemmas.Str.Parse.{IsNumeralModel, numerals_by_value, parse_digits}
use Rattle.std.proofs.lemmas.Fmt.{decimal-digits_value, IsAscii-from_digits, digits_decimal, digits_value-decimal, decimal_nonempty, first_decimal, decimal_digit}
use Rattle.std.proofs.lemmas.Bool.{ltb-true, lt-ltb, ne_eqb, and_parts}
use Rattle.lay_drawing.specs.Reading.{is_numeral, number_of}

abbrev Digits : List ℕ → Type 0
Digits ds = list_all is_ascii_digit ds ≡ true

pub own : IsNumeralModel Digits (digits_value 10)
own = numerals_by_value Digits (search rules)

pub by_bool : {P : Type 0} (b : Bool) → (b ≡ true → P) → (b ≡ false → P) → P
by_bool true when other = when refl
by_bool false when other = other refl

lead : (first : ℕ) (rest : List ℕ) → (length rest == 0) || not (first == 48) ≡ true → first ≡ 48 → length (first ∷ rest) ≡ 1
lead first [] e is = refl
lead first (x ∷ xs) e is = let q : (first == 48) ≡ true = rw is refl in let none : (suc (length xs) == 0) ≡ false = ne_eqb (suc (length xs)) 0 (λ z. omega arith) in let z = rw (none, q) at e in absurd cc

-- what a numeral is
pub numeral_is : (text : List ℕ) → is_numeral text ≡ true → Digits text × (0 < length text) × (get_or text 0 0 ≡ 48 → length text ≡ 1)
numeral_is [] e = absurd cc
numeral_is (x ∷ xs) e =
    let parts = and_parts (list_all is_ascii_digit (x ∷ xs)) ((length xs == 0) || not (x == 48)) e in
    (parts.0, omega arith, lead x xs parts.1)

pub numeral_utf8 : (text : List ℕ) → is_numeral text ≡ true → IsUtf8 text
numeral_utf8 text e = IsUtf8-from_ascii text (IsAscii-from_digits text (own.to text (numeral_is text e).0))

-- a numeral that isn't parsed writes too great a number
pub unread : {E : Type 0} (text : List ℕ) (e : E) → is_numeral text ≡ true → ParsesUnsigned 64 10 text (Err e) → number_of text ≡ None
unread text e is parses =
    let parts = numeral_is text is in
    let never = parse_digits own 64 text (Err e) parses parts.0 in
    let over : nat_lt (digits_value 10 text) (2 ^ 64) ≡ false = by_bool (nat_lt (digits_value 10 text) (2 ^ 64)) (λ less. absurd (never (parts.1, ltb-true _ _ less))) (λ more. more) in
    rw (is, over) refl

-- a number that is read is written so
pub number_sound : (text : List ℕ) (n : ℕ) → number_of text ≡ Some n → (text ≡ decimal n) × (n < 2 ^ 64)
number_sound text n e = read (is_numeral text) (nat_lt (digits_value 10 text) (2 ^ 64)) refl refl e
  where
    read : (a b : Bool) → is_numeral text ≡ a → nat_lt (digits_value 10 text) (2 ^ 64) ≡ b → (if a && b then Some (digits_value 10 text) else None) ≡ Some n → (text ≡ decimal n) × (n < 2 ^ 64)
    read true true is less e =
        let q : digits_value 10 text ≡ n = cc in
        let parts = numeral_is text is in
        let small : digits_value 10 text < 2 ^ 64 = ltb-true _ _ less in
        (sym (decimal-digits_value own text parts.0 parts.1 parts.2 small) ∙ ap decimal q, omega (arith, small, q))
    read true false is less e = absurd cc
    read false b is less e = absurd cc

digits_of : (n : ℕ) → n < 2 ^ 64 → Digits (decimal n)
digits_of n small = digits_decimal own n small

no_zero : (n : ℕ) → n < 2 ^ 64 → (text : List ℕ) → decimal n ≡ text → is_numeral text ≡ true
no_zero n small [] e = absurd (omega (arith, decimal_nonempty n small, ap length e))
no_zero n small (x ∷ xs) e =
    let digits : list_all is_ascii_digit (x ∷ xs) ≡ true = subst Digits e (digits_of n small) in
    let first : get_or (decimal n) 0 0 ≡ x = ap (λ (t : List ℕ). get_or t 0 0) e in
    let lead : (length xs == 0) || not (x == 48) ≡ true = by_nat n
    (λ zero_is. let one : length (decimal n) ≡ 1 = ap (λ m. length (decimal m)) zero_is ∙ ap length (decimal_digit 0 (omega arith)) in let none : length xs ≡ 0 = omega (arith, one, ap length e) in rw none refl)
    (λ some. let more = first_decimal n some small in let other : (x == 48) ≡ false = ne_eqb x 48 (λ q. omega (arith, more, first)) in rw other (or_true (length xs == 0)))
    in
    rw (digits, lead) refl
  where
    or_true : (b : Bool) → b || true ≡ true
    or_true true = refl
    or_true false = refl

    by_nat : {P : Type 0} (m : ℕ) → (m ≡ 0 → P) → (0 < m → P) → P
    by_nat zero a b = a refl
    by_nat (suc m) a b = b (omega arith)

-- a number that is written is read
pub number_complete : (n : ℕ) → n < 2 ^ 64 → number_of (decimal n) ≡ Some n
number_complete n small =
    let numeral = no_zero n small (decimal n) refl in
    let value : digits_value 10 (decimal n) ≡ n = digits_value-decimal own n small in
    let less : nat_lt n (2 ^ 64) ≡ true = lt-ltb n (2 ^ 64) small in
    rw (numeral, value, less) refl
