-- A text that gives a value is ASCII, and so UTF-8; a property's name has no capital.
use Rattle.std.proofs.Common.{◌≡◌, ◌+◌, cond, one-add, ℕ, zero, suc, ◌<◌, ◌≤◌, refl, sym, subst, Bool, true, false, List, [], ◌∷◌, ◌++◌, map, drop, take, length, find, Option, Some, None, option_map, nat_le, ◌||◌, codes, if◌then◌else◌, IfSome, arith}
use Rattle.std.specs.Prelude.{option_and_then}
use Rattle.std.specs.List.{list_all, prefix_len}
use Rattle.std.specs.Str.{IsAscii, IsAsciiWhitespaceBelow, IsAsciiWhitespaceFrom, IsTrimAsciiStart, IsTrimAsciiEnd, is_utf8, bytes_eq, str_eq_ignore_ascii_case}
use Rattle.std.specs.Char.{to_ascii_lowercase, is_ascii_whitespace}
use Rattle.std.proofs.lemmas.Str.{is_utf8-from_IsUtf8, IsUtf8-from_ascii}
use Rattle.std.proofs.lemmas.Str.Ascii.{IsAscii-nil, IsAscii-cons}
use Rattle.std.proofs.lemmas.List.Folds.{list_all-append}
use Rattle.std.proofs.lemmas.Option.{none-some}
use Rattle.std.proofs.lemmas.Grind.{common_steps}
use Rattle.lay_style.specs.declared.property.Property.{Property}
use Rattle.lay_style.specs.declared.property.Property.TheVariants.{Display, Position, Float, Clear, Top, Right, Bottom, Left, ZIndex, Width, Height, MinWidth, MinHeight, MaxWidth, MaxHeight, MarginTop, MarginRight, MarginBottom, MarginLeft, PaddingTop, PaddingRight, PaddingBottom, PaddingLeft, BorderTopWidth, BorderRightWidth, BorderBottomWidth, BorderLeftWidth, BorderTopStyle, BorderRightStyle, BorderBottomStyle, BorderLeftStyle, Overflow, FontSize, LineHeight, TextIndent, TextAlign, WhiteSpace, LetterSpacing, WordSpacing, VerticalAlign, TableLayout, BorderCollapse, BorderSpacing, CaptionSide, Visibility, EmptyCells}
use Rattle.lay_style.specs.declared.property.Word.{Word}
use Rattle.lay_style.specs.declared.property.Given.{Given}
use Rattle.lay_style.specs.declared.property.Given.TheVariants.{Keyword, Inherit, Pair}
use Rattle.lay_style.specs.declared.property.OneLength.{OneLength}
use Rattle.lay_values.specs.declared.numbers.Decimal.{Decimal}
use Rattle.lay_values.specs.declared.lengths.Suffix.{Suffix}
use Rattle.lay_values.specs.Names.{name_of, all_properties, property_of}
use Rattle.lay_values.specs.Words.{word_name, all_words, word_of, keyword_of}
use Rattle.lay_values.specs.Numbers.{leading, behind, number_of}
use Rattle.lay_values.specs.Lengths.{suffix_name, all_suffixes, suffix_of, value_with}
use Rattle.lay_values.specs.Reading.{is_of_number, is_of_word, without_front, measure_of, one_length_of, one_spacing, spacings_of, numeric_of, begins_with_letter, value_of}
use Rattle.lay_values.proofs.OneName.{find-passes, property_named}
use Rattle.lay_values.proofs.Measures.{joined}

-- a byte of ASCII, and a byte that is no capital
abbrev is_low : ℕ → Bool
is_low b = nat_le b 127

abbrev is_small : ℕ → Bool
is_small b = nat_le b 64 || nat_le 91 b

low-ascii : (bs : List ℕ) → list_all is_low bs ≡ true → IsAscii bs
low-ascii [] all = IsAscii-nil
low-ascii (b ∷ bs) all =
    let first : b < 128 = grind (arith, common_steps) in
    let others : list_all is_low bs ≡ true = grind (arith, common_steps) in
    IsAscii-cons b bs first (low-ascii bs others)

small-same : (bs : List ℕ) → list_all is_small bs ≡ true → map to_ascii_lowercase bs ≡ bs
small-same [] all = refl
small-same (b ∷ bs) all = grind (arith, common_steps, small-same bs)

-- what holds of all is so of one that is found
find-good : {X : Type 0} (test good : X → Bool) (xs : List X) (x : X) → find test xs ≡ Some x → list_all good xs ≡ true → good x ≡ true
find-good test good [] x found all = grind (arith, common_steps)
find-good test good (y ∷ ys) x found all = grind (arith, common_steps, find-good test good ys x)

names-small : list_all (λ p. list_all is_small (name_of p)) all_properties ≡ true
unfolding all_properties
names-small = refl

property-small : (name : List ℕ) (p : Property) → property_of name ≡ Some p → list_all is_small name ≡ true
property-small name p found =
    subst (λ n. list_all is_small n ≡ true) (property_named name p found)
    (find-good (λ q. bytes_eq (name_of q) name) (λ q. list_all is_small (name_of q)) all_properties p found names-small)

utf8 : (bs : List ℕ) → IsAscii bs → is_utf8 bs ≡ true
utf8 bs low = is_utf8-from_IsUtf8 bs (IsUtf8-from_ascii bs low)

pub property_same : (name : List ℕ) (p : Property) → property_of name ≡ Some p → map to_ascii_lowercase name ≡ name
property_same name p found = small-same name (property-small name p found)

spelled-low : (word text : List ℕ) → list_all is_low word ≡ true → str_eq_ignore_ascii_case word text ≡ true → list_all is_low text ≡ true
spelled-low [] [] low same = refl
spelled-low [] (y ∷ ys) low same = grind (arith, common_steps)
spelled-low (x ∷ xs) [] low same = refl
spelled-low (x ∷ xs) (y ∷ ys) low same = grind (arith, common_steps, spelled-low xs ys)

words-low : list_all (λ w. list_all is_low (word_name w)) all_words ≡ true
unfolding all_words
words-low = refl

word-low : (text : List ℕ) (w : Word) → word_of text ≡ Some w → list_all is_low text ≡ true
word-low text w found =
    let test : Word → Bool = λ v. str_eq_ignore_ascii_case (word_name v) text in
    spelled-low (word_name w) text (find-good test (λ v. list_all is_low (word_name v)) all_words w found words-low) (find-passes test all_words w found)

keyword-by : (text : List ℕ) (b : Bool) (o : Option Word) (g : Given) → str_eq_ignore_ascii_case (codes "inherit") text ≡ b → word_of text ≡ o → (if b then Some Inherit else option_map Keyword o) ≡ Some g →
    list_all is_low text ≡ true
keyword-by text true o g spelled word is = spelled-low (codes "inherit") text refl spelled
keyword-by text false None g spelled word is = absurd (none-some g is)
keyword-by text false (Some w) g spelled word is = word-low text w word

keyword-low : (text : List ℕ) (g : Given) → keyword_of text ≡ Some g → list_all is_low text ≡ true
keyword-low text g is = keyword-by text (str_eq_ignore_ascii_case (codes "inherit") text) (word_of text) g refl refl is

suffixes-low : list_all (λ s. list_all is_low (suffix_name s)) all_suffixes ≡ true
unfolding all_suffixes
suffixes-low = refl

suffix-low : (text : List ℕ) (s : Suffix) → suffix_of text ≡ Some s → list_all is_low text ≡ true
suffix-low text s found =
    let test : Suffix → Bool = λ v. str_eq_ignore_ascii_case (suffix_name v) text in
    spelled-low (suffix_name s) text (find-good test (λ v. list_all is_low (suffix_name v)) all_suffixes s found suffixes-low) (find-passes test all_suffixes s found)

numbers-low : (text : List ℕ) → list_all is_low (leading is_of_number text) ≡ true
numbers-low [] = refl
numbers-low (b ∷ bs) = grind (arith, common_steps, numbers-low bs)

both-low : (kind : ℕ → Bool) (text : List ℕ) → list_all is_low (leading kind text) ≡ true → list_all is_low (behind kind text) ≡ true → list_all is_low text ≡ true
both-low kind text front rest =
    let both : list_all is_low (leading kind text ++ behind kind text) ≡ true =
    rw (list_all-append is_low (leading kind text) (behind kind text)) (rw (front, rest) refl) in
    rw (joined kind text) at both

measure-by : (p : Property) (text : List ℕ) (n : Option Decimal) (o : Option Suffix) (g : Given) → suffix_of (behind is_of_number text) ≡ o → option_and_then (λ d. option_and_then (value_with p d) o) n ≡ Some g →
    list_all is_low text ≡ true
measure-by p text None o g suffix is = absurd (none-some g is)
measure-by p text (Some d) None g suffix is = absurd (none-some g is)
measure-by p text (Some d) (Some s) g suffix is = both-low is_of_number text (numbers-low text) (suffix-low (behind is_of_number text) s suffix)

measure-low : (p : Property) (text : List ℕ) (g : Given) → measure_of p text ≡ Some g → list_all is_low text ≡ true
measure-low p text g is = measure-by p text (number_of (leading is_of_number text)) (suffix_of (behind is_of_number text)) g refl is

spacing-by : (text : List ℕ) (o : Option Given) (l : OneLength) → measure_of BorderSpacing text ≡ o → option_and_then one_length_of o ≡ Some l → list_all is_low text ≡ true
spacing-by text None l measured is = absurd (none-some l is)
spacing-by text (Some g) l measured is = measure-low BorderSpacing text g measured

spacing-low : (text : List ℕ) (l : OneLength) → one_spacing text ≡ Some l → list_all is_low text ≡ true
spacing-low text l is = spacing-by text (measure_of BorderSpacing text) l refl is

spacings-by : (first second : List ℕ) (a b : Option OneLength) (g : Given) → one_spacing first ≡ a → one_spacing second ≡ b → option_and_then (λ x. option_map (Pair x) b) a ≡ Some g →
    (list_all is_low first ≡ true) × (list_all is_low second ≡ true)
spacings-by first second None b g one two is = absurd (none-some g is)
spacings-by first second (Some x) None g one two is = absurd (none-some g is)
spacings-by first second (Some x) (Some y) g one two is = (spacing-low first x one, spacing-low second y two)

spacings-low : (first second : List ℕ) (g : Given) → spacings_of first second ≡ Some g → (list_all is_low first ≡ true) × (list_all is_low second ≡ true)
spacings-low first [] g is = (measure-low BorderSpacing first g is, refl)
spacings-low first (b ∷ bs) g is = spacings-by first (b ∷ bs) (one_spacing first) (one_spacing (b ∷ bs)) g refl refl is

front-by : (b : ℕ) (bs : List ℕ) (space : Bool) → is_ascii_whitespace b ≡ space → (list_all is_low (without_front bs) ≡ true → list_all is_low bs ≡ true) →
    list_all is_low (drop (cond space (1 + prefix_len is_ascii_whitespace bs) 0) (b ∷ bs)) ≡ true → list_all is_low (b ∷ bs) ≡ true
front-by b bs true is others low =
    let rest : list_all is_low bs ≡ true = others (subst (λ n. list_all is_low (drop n (b ∷ bs)) ≡ true) (one-add (prefix_len is_ascii_whitespace bs)) low) in
    let first : is_low b ≡ true = grind (arith, common_steps) in
    grind (arith, common_steps, first, rest)
front-by b bs false is others low = low

front-low : (text : List ℕ) → list_all is_low (without_front text) ≡ true → list_all is_low text ≡ true
front-low [] low = refl
front-low (b ∷ bs) low = front-by b bs (is_ascii_whitespace b) refl (front-low bs) low

numeric-low : (p : Property) (text : List ℕ) (g : Given) → numeric_of p text ≡ Some g → list_all is_low text ≡ true
numeric-low BorderSpacing text g is =
    let both = spacings-low (leading is_of_word text) (without_front (behind is_of_word text)) g is in
    both-low is_of_word text both.0 (front-low (behind is_of_word text) both.1)
numeric-low Display text g is = measure-low Display text g is
numeric-low Position text g is = measure-low Position text g is
numeric-low Float text g is = measure-low Float text g is
numeric-low Clear text g is = measure-low Clear text g is
numeric-low Top text g is = measure-low Top text g is
numeric-low Right text g is = measure-low Right text g is
numeric-low Bottom text g is = measure-low Bottom text g is
numeric-low Left text g is = measure-low Left text g is
numeric-low ZIndex text g is = measure-low ZIndex text g is
numeric-low Width text g is = measure-low Width text g is
numeric-low Height text g is = measure-low Height text g is
numeric-low MinWidth text g is = measure-low MinWidth text g is
numeric-low MinHeight text g is = measure-low MinHeight text g is
numeric-low MaxWidth text g is = measure-low MaxWidth text g is
numeric-low MaxHeight text g is = measure-low MaxHeight text g is
numeric-low MarginTop text g is = measure-low MarginTop text g is
numeric-low MarginRight text g is = measure-low MarginRight text g is
numeric-low MarginBottom text g is = measure-low MarginBottom text g is
numeric-low MarginLeft text g is = measure-low MarginLeft text g is
numeric-low PaddingTop text g is = measure-low PaddingTop text g is
numeric-low PaddingRight text g is = measure-low PaddingRight text g is
numeric-low PaddingBottom text g is = measure-low PaddingBottom text g is
numeric-low PaddingLeft text g is = measure-low PaddingLeft text g is
numeric-low BorderTopWidth text g is = measure-low BorderTopWidth text g is
numeric-low BorderRightWidth text g is = measure-low BorderRightWidth text g is
numeric-low BorderBottomWidth text g is = measure-low BorderBottomWidth text g is
numeric-low BorderLeftWidth text g is = measure-low BorderLeftWidth text g is
numeric-low BorderTopStyle text g is = measure-low BorderTopStyle text g is
numeric-low BorderRightStyle text g is = measure-low BorderRightStyle text g is
numeric-low BorderBottomStyle text g is = measure-low BorderBottomStyle text g is
numeric-low BorderLeftStyle text g is = measure-low BorderLeftStyle text g is
numeric-low Overflow text g is = measure-low Overflow text g is
numeric-low FontSize text g is = measure-low FontSize text g is
numeric-low LineHeight text g is = measure-low LineHeight text g is
numeric-low TextIndent text g is = measure-low TextIndent text g is
numeric-low TextAlign text g is = measure-low TextAlign text g is
numeric-low WhiteSpace text g is = measure-low WhiteSpace text g is
numeric-low LetterSpacing text g is = measure-low LetterSpacing text g is
numeric-low WordSpacing text g is = measure-low WordSpacing text g is
numeric-low VerticalAlign text g is = measure-low VerticalAlign text g is
numeric-low TableLayout text g is = measure-low TableLayout text g is
numeric-low BorderCollapse text g is = measure-low BorderCollapse text g is
numeric-low CaptionSide text g is = measure-low CaptionSide text g is
numeric-low Visibility text g is = measure-low Visibility text g is
numeric-low EmptyCells text g is = measure-low EmptyCells text g is

value-by : (p : Property) (text : List ℕ) (b : Bool) (g : Given) → (if b then keyword_of text else numeric_of p text) ≡ Some g → list_all is_low text ≡ true
value-by p text true g is = keyword-low text g is
value-by p text false g is = numeric-low p text g is

value-ascii : (p : Property) (text : List ℕ) (g : Given) → value_of p text ≡ Some g → IsAscii text
value-ascii p text g is = low-ascii text (value-by p text (begins_with_letter text) g is)

space-ascii : (b : ℕ) → is_ascii_whitespace b ≡ true → b < 128
space-ascii b space = grind (arith, common_steps)

start-ascii : (text : List ℕ) (n : ℕ) → IsAsciiWhitespaceBelow text n → IsAscii (drop n text) → IsAscii text
start-ascii text zero space rest = rest
start-ascii [] (suc n) space rest = IsAscii-nil
start-ascii (b ∷ bs) (suc n) space rest = IsAscii-cons b bs (space-ascii b (space zero (omega arith))) (start-ascii bs n (λ i below. space (suc i) (omega (arith, below))) rest)

end-ascii : (text : List ℕ) (n : ℕ) → IsAsciiWhitespaceFrom text n → IsAscii (take n text) → IsAscii text
end-ascii [] n space front = IsAscii-nil
end-ascii (b ∷ bs) zero space front =
    IsAscii-cons b bs (space-ascii b (space zero (omega arith) (omega arith))) (end-ascii bs zero (λ i from below. space (suc i) (omega arith) (omega (arith, below))) IsAscii-nil)
end-ascii (b ∷ bs) (suc n) space front =
    IsAscii-cons b bs (front zero) (end-ascii bs n (λ i from below. space (suc i) (omega (arith, from)) (omega (arith, below))) (λ i. front (suc i)))

-- a text is ASCII where it is so without the white space at its ends
pub trimmed-ascii : (text rest all : List ℕ) → IsTrimAsciiStart text rest → IsTrimAsciiEnd rest all → IsAscii all → IsAscii text
trimmed-ascii text rest all start end low =
    let inner : IsAscii rest = end-ascii rest end.0 end.4 (subst IsAscii end.1 low) in
    start-ascii text start.0 start.3 (subst IsAscii start.1 inner)

always : {X : Type 0} (Q : Type 0) (o : Option X) → Q → IfSome o (λ _. Q)
always Q None q = tt
always Q (Some x) q = q

pub declared_utf8 : {X : Type 0} (p : Property) (text inner : List ℕ) (g : Given) (o : Option X) → value_of p inner ≡ Some g → (IsAscii inner → IsAscii text) → IfSome o (λ _. is_utf8 text ≡ true)
declared_utf8 p text inner g o is outer = always (is_utf8 text ≡ true) o (utf8 text (outer (value-ascii p inner g is)))
