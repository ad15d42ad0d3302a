-- A number and a suffix are parted where the number ends.
use Rattle.std.proofs.Common.{◌≡◌, ℕ, refl, ap, ◌∙◌, Bool, true, false, List, [], ◌∷◌, ◌++◌, Option, Some, None, option_map, append-nil, ◌==◌, if◌then◌else◌, arith}
use Rattle.std.specs.List.{list_all}
use Rattle.std.proofs.lemmas.List.Folds.{list_all-append}
use Rattle.std.proofs.lemmas.Grind.{common_steps}
use Rattle.lay_style.specs.declared.property.Property.{Property}
use Rattle.lay_values.specs.declared.numbers.Decimal.{Decimal}
use Rattle.lay_values.specs.declared.lengths.Suffix.{Suffix}
use Rattle.lay_values.specs.declared.lengths.Suffix.TheVariants.{Nothing, Percent, Em, Px, In, Cm, Mm, Pt, Pc}
use Rattle.lay_values.specs.Numbers.{is_digit, leading, behind, decimal_of, unsigned_of, negated, number_of}
use Rattle.lay_values.specs.Lengths.{suffix_name, all_suffixes, suffix_of, value_with}
use Rattle.lay_values.specs.Reading.{is_of_number, measure_of}
use Rattle.lay_values.proofs.Digits.{leading_digits-are}

pub joined : (kind : ℕ → Bool) (xs : List ℕ) → leading kind xs ++ behind kind xs ≡ xs
joined kind [] = refl
joined kind (x ∷ xs) = grind (arith, common_steps, joined kind xs)

leading-append : (kind : ℕ → Bool) (xs ys : List ℕ) → list_all kind xs ≡ true → leading kind (xs ++ ys) ≡ xs ++ leading kind ys
leading-append kind [] ys all = refl
leading-append kind (x ∷ xs) ys all = grind (arith, common_steps, leading-append kind xs ys)

behind-append : (kind : ℕ → Bool) (xs ys : List ℕ) → list_all kind xs ≡ true → behind kind (xs ++ ys) ≡ behind kind ys
behind-append kind [] ys all = refl
behind-append kind (x ∷ xs) ys all = grind (arith, common_steps, behind-append kind xs ys)

digits-of_number : (xs : List ℕ) → list_all is_digit xs ≡ true → list_all is_of_number xs ≡ true
digits-of_number [] all = refl
digits-of_number (x ∷ xs) all = grind (arith, common_steps, digits-of_number xs)

rest-of_number : (whole rest : List ℕ) (d : Decimal) → decimal_of whole rest ≡ Some d → list_all is_of_number rest ≡ true
rest-of_number whole [] d is = refl
rest-of_number whole (b ∷ fraction) d is = grind (arith, common_steps, digits-of_number fraction)

unsigned-of_number : (text : List ℕ) (d : Decimal) → unsigned_of text ≡ Some d → list_all is_of_number text ≡ true
unsigned-of_number text d is =
    let front = digits-of_number (leading is_digit text) (leading_digits-are text) in
    let rest = rest-of_number (leading is_digit text) (behind is_digit text) d is in
    let both : list_all is_of_number (leading is_digit text ++ behind is_digit text) ≡ true =
    rw (list_all-append is_of_number (leading is_digit text) (behind is_digit text)) (rw (front, rest) refl) in
    rw (joined is_digit text) at both

negated-of_number : (text : List ℕ) (o : Option Decimal) (d : Decimal) → unsigned_of text ≡ o → option_map negated o ≡ Some d → list_all is_of_number text ≡ true
negated-of_number text None d is some = grind (arith, common_steps)
negated-of_number text (Some e) d is some = unsigned-of_number text e is

signed-of_number : (b : ℕ) (bs : List ℕ) (d : Decimal) (plus minus : Bool) → (b == 43) ≡ plus → (b == 45) ≡ minus
    → (if plus then unsigned_of bs else (if minus then option_map negated (unsigned_of bs) else unsigned_of (b ∷ bs))) ≡ Some d
    → list_all is_of_number (b ∷ bs) ≡ true
signed-of_number b bs d true minus plus_is minus_is is =
    let rest = unsigned-of_number bs d is in grind (arith, common_steps)
signed-of_number b bs d false true plus_is minus_is is =
    let rest = negated-of_number bs (unsigned_of bs) d refl is in grind (arith, common_steps)
signed-of_number b bs d false false plus_is minus_is is = unsigned-of_number (b ∷ bs) d is

number-of_number : (text : List ℕ) (d : Decimal) → number_of text ≡ Some d → list_all is_of_number text ≡ true
number-of_number [] d is = refl
number-of_number (b ∷ bs) d is = signed-of_number b bs d (b == 43) (b == 45) refl refl is

leading-suffix : (s : Suffix) → leading is_of_number (suffix_name s) ≡ []
leading-suffix Nothing = refl
leading-suffix Percent = refl
leading-suffix Em = refl
leading-suffix Px = refl
leading-suffix In = refl
leading-suffix Cm = refl
leading-suffix Mm = refl
leading-suffix Pt = refl
leading-suffix Pc = refl

behind-suffix : (s : Suffix) → behind is_of_number (suffix_name s) ≡ suffix_name s
behind-suffix Nothing = refl
behind-suffix Percent = refl
behind-suffix Em = refl
behind-suffix Px = refl
behind-suffix In = refl
behind-suffix Cm = refl
behind-suffix Mm = refl
behind-suffix Pt = refl
behind-suffix Pc = refl

own_suffix : (s : Suffix) → suffix_of (suffix_name s) ≡ Some s
unfolding all_suffixes
own_suffix Nothing = refl
own_suffix Percent = refl
own_suffix Em = refl
own_suffix Px = refl
own_suffix In = refl
own_suffix Cm = refl
own_suffix Mm = refl
own_suffix Pt = refl
own_suffix Pc = refl

pub one_measure_lem : (p : Property) (text : List ℕ) (d : Decimal) (s : Suffix) → number_of text ≡ Some d → measure_of p (text ++ suffix_name s) ≡ value_with p d s
one_measure_lem p text d s is =
    let all = number-of_number text d is in
    let front : leading is_of_number (text ++ suffix_name s) ≡ text =
    leading-append is_of_number text (suffix_name s) all ∙ ap (λ xs. text ++ xs) (leading-suffix s) ∙ append-nil text in
    let rest : behind is_of_number (text ++ suffix_name s) ≡ suffix_name s =
    behind-append is_of_number text (suffix_name s) all ∙ behind-suffix s in
    rw (front, rest, is, own_suffix s) refl
