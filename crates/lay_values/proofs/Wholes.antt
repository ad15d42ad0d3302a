-- A number that is digits alone.
use Rattle.std.proofs.Common.{◌≡◌, ◌∙◌, ℕ, refl, sym, ap, Bool, true, false, List, [], ◌∷◌, Option, Some, None, option_map, IfSome, arith}
use Rattle.std.specs.List.{list_all}
use Rattle.std.proofs.lemmas.Grind.{common_steps}
use Rattle.lay_values.specs.declared.numbers.Decimal.{Decimal}
use Rattle.lay_values.specs.Numbers.{is_digit, leading, behind, decimal_of, number_of}
use Rattle.lay_values.specs.Reading.{is_of_number}
use Rattle.lay_values.proofs.Digits.{leading_digits-are}

digits-leading : (text : List ℕ) → leading is_of_number (behind is_digit text) ≡ [] → leading is_of_number text ≡ leading is_digit text
digits-leading [] ends = refl
digits-leading (b ∷ bs) ends = grind (arith, common_steps, digits-leading bs)

pub digits_behind : (text : List ℕ) → leading is_of_number (behind is_digit text) ≡ [] → behind is_of_number text ≡ behind is_digit text
digits_behind [] ends = refl
digits_behind (b ∷ bs) ends = grind (arith, common_steps, digits_behind bs)

all-leading : (ds : List ℕ) → list_all is_digit ds ≡ true → leading is_digit ds ≡ ds
all-leading [] all = refl
all-leading (d ∷ ds) all = grind (arith, common_steps, all-leading ds)

none-behind : (ds : List ℕ) → list_all is_digit ds ≡ true → behind is_digit ds ≡ []
none-behind [] all = refl
none-behind (d ∷ ds) all = grind (arith, common_steps, none-behind ds)

digits-number : (ds : List ℕ) → list_all is_digit ds ≡ true → number_of ds ≡ decimal_of ds []
digits-number [] all = refl
digits-number (d ∷ ds) all =
    let first : is_digit d ≡ true = grind (arith, common_steps) in
    grind (arith, common_steps, first, all-leading (d ∷ ds) all, none-behind (d ∷ ds) all)

pub whole_number_is : (text digits : List ℕ) → digits ≡ leading is_digit text → leading is_of_number (behind is_digit text) ≡ [] → decimal_of digits [] ≡ number_of (leading is_of_number text)
whole_number_is text digits is ends =
    ap (λ ds. decimal_of ds []) is ∙ sym (digits-number (leading is_digit text) (leading_digits-are text)) ∙ ap number_of (sym (digits-leading text ends))
