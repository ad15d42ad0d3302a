-- Numbers that are read back.
use Rattle.std.proofs.Common.{◌≡◌, ℕ, ◌<◌, ◌^◌, List, true, Some, Ok, Err, Result, sym, ap, ◌∙◌, subst, rules}
use Rattle.std.specs.List.{list_all}
use Rattle.std.specs.Char.{is_ascii_digit}
use Rattle.std.specs.Str.{IsUtf8}
use Rattle.std.specs.Str.Parse.{digits_value, ParsesUnsigned}
use Rattle.std.specs.Fmt.{decimal}
use Rattle.std.proofs.lemmas.Str.{IsUtf8-from_ascii}
use Rattle.std.proofs.lemmas.Str.Parse.{IsNumeralModel, numerals_by_value, parse_gives}
use Rattle.std.proofs.lemmas.Fmt.{IsAscii-from_digits, decimal_nonempty, digits_decimal, digits_value-decimal}

abbrev Digits : List ℕ → Type 0
Digits ds = list_all is_ascii_digit ds ≡ true

own : IsNumeralModel Digits (digits_value 10)
own = numerals_by_value Digits (search rules)

pub decimal_utf8 : (n : ℕ) → n < 2 ^ 64 → IsUtf8 (decimal n)
decimal_utf8 n small = IsUtf8-from_ascii (decimal n) (IsAscii-from_digits (decimal n) (own.to (decimal n) (digits_decimal own n small)))

pub read_back : {E : Type 0} (n : ℕ) (text : List ℕ) (r : Result ℕ E) → n < 2 ^ 64 → text ≡ decimal n → ParsesUnsigned 64 10 text r → r ≡ Ok n
read_back n text r small is parses =
    parse_gives own 64 (decimal n) r (subst (λ t. ParsesUnsigned 64 10 t r) is parses) (digits_decimal own n small) (decimal_nonempty n small)
    (subst (λ v. v < 2 ^ 64) (sym (digits_value-decimal own n small)) small)
    ∙ ap Ok (digits_value-decimal own n small)

pub read_ok : {E : Type 0} (n m : ℕ) (text : List ℕ) (r : Result ℕ E) → r ≡ Ok m → n < 2 ^ 64 → text ≡ decimal n → ParsesUnsigned 64 10 text r → Some m ≡ Some n
read_ok n m text r is small e parses = let q = read_back n text r small e parses in ok_same m n r is q
  where
    ok_same : {E : Type 0} (m n : ℕ) (r : Result ℕ E) → r ≡ Ok m → r ≡ Ok n → Some m ≡ Some n
    ok_same m n (Ok x) a b = cc
    ok_same m n (Err x) a b = cc
