-- Which bytes a printed sheet has, and which it hasn't.
use Rattle.std.proofs.Common.{◌≡◌, ◌∙◌, ℕ, ◌<◌, List, [], ◌∷◌, Bool, true, false, not, refl, sym, ap, subst, arith}
use Rattle.std.specs.Prelude.{◌==◌, ◌||◌}
use Rattle.std.specs.Char.{is_ascii_whitespace}
use Rattle.std.specs.List.{list_all}
use Rattle.std.specs.Str.{IsAscii, is_utf8}
use Rattle.std.proofs.lemmas.Bool.{and_parts, true≢false, ne_eqb, false_from_ne_true}
use Rattle.std.proofs.lemmas.Grind.{common_steps}
use Rattle.std.proofs.lemmas.Str.{is_utf8-from_IsUtf8, IsUtf8-from_ascii}
use Rattle.std.proofs.lemmas.Str.Ascii.{IsAscii-nil, IsAscii-cons}
use Rattle.lay_sheet.specs.Pieces.{is_other}
use Rattle.lay_sheet.specs.PlainText.{may_open, plain_text}
use Rattle.lay_sheet.specs.SelectorTexts.{is_name_part}
use Rattle.lay_sheet.specs.Printing.{is_of_name, is_of_property, is_of_value}
use Rattle.lay_sheet.proofs.Trimming.{all_such, is_solid, solid_from}

-- a byte of a kind isn't one that is not of that kind
pub avoids : (kind : ℕ → Bool) (k : ℕ) → kind k ≡ false → (b : ℕ) → kind b ≡ true → (b == k) ≡ false
avoids kind k never b is = ne_eqb b k (λ e. true≢false (sym (subst (λ z. kind z ≡ true) e is) ∙ never))

other_is : (c b : ℕ) → (b == c) ≡ false → is_other c b ≡ true
other_is c b e = rw e refl

pub all_other : (kind : ℕ → Bool) (c : ℕ) → kind c ≡ false → (xs : List ℕ) → list_all kind xs ≡ true → list_all (is_other c) xs ≡ true
all_other kind c never xs h = all_such kind (is_other c) (λ b is. other_is c b (avoids kind c never b is)) xs h

-- a byte that begins no string, escape or comment, and parts nothing
abbrev pub is_clean : ℕ → Bool
is_clean b = not ((b == 34) || ((b == 39) || ((b == 92) || ((b == 47) || ((b == 123) || ((b == 125) || ((b == 44) || (b == 59))))))))

abbrev pub is_quiet : ℕ → Bool
is_quiet b = not (may_open b)

-- a kind of bytes without those
pub record IsCleanKind (kind : ℕ → Bool) : Type 0 where
  pub quote : kind 34 ≡ false
  pub apostrophe : kind 39 ≡ false
  pub backslash : kind 92 ≡ false
  pub slash : kind 47 ≡ false
  pub opening : kind 123 ≡ false
  pub closing : kind 125 ≡ false
  pub comma : kind 44 ≡ false
  pub semicolon : kind 59 ≡ false

clean_is : (kind : ℕ → Bool) → IsCleanKind kind → (b : ℕ) → kind b ≡ true → is_clean b ≡ true
clean_is kind k b h =
    let quote = avoids kind 34 k.quote b h in
    let apostrophe = avoids kind 39 k.apostrophe b h in
    let backslash = avoids kind 92 k.backslash b h in
    let slash = avoids kind 47 k.slash b h in
    let opening = avoids kind 123 k.opening b h in
    let closing = avoids kind 125 k.closing b h in
    let comma = avoids kind 44 k.comma b h in
    let semicolon = avoids kind 59 k.semicolon b h in
    rw (quote, apostrophe, backslash, slash, opening, closing, comma, semicolon) refl

all_clean : (kind : ℕ → Bool) → IsCleanKind kind → (xs : List ℕ) → list_all kind xs ≡ true → list_all is_clean xs ≡ true
all_clean kind k xs h = all_such kind is_clean (clean_is kind k) xs h

name_kind : IsCleanKind is_of_name
name_kind = record { quote = refl; apostrophe = refl; backslash = refl; slash = refl; opening = refl; closing = refl; comma = refl; semicolon = refl }

property_kind : IsCleanKind is_of_property
property_kind = record { quote = refl; apostrophe = refl; backslash = refl; slash = refl; opening = refl; closing = refl; comma = refl; semicolon = refl }

value_kind : IsCleanKind is_of_value
value_kind = record { quote = refl; apostrophe = refl; backslash = refl; slash = refl; opening = refl; closing = refl; comma = refl; semicolon = refl }

space_kind : IsCleanKind is_ascii_whitespace
space_kind = record { quote = refl; apostrophe = refl; backslash = refl; slash = refl; opening = refl; closing = refl; comma = refl; semicolon = refl }

pub name_clean : (xs : List ℕ) → list_all is_of_name xs ≡ true → list_all is_clean xs ≡ true
name_clean xs h = all_clean is_of_name name_kind xs h

pub property_clean : (xs : List ℕ) → list_all is_of_property xs ≡ true → list_all is_clean xs ≡ true
property_clean xs h = all_clean is_of_property property_kind xs h

pub value_clean : (xs : List ℕ) → list_all is_of_value xs ≡ true → list_all is_clean xs ≡ true
value_clean xs h = all_clean is_of_value value_kind xs h

pub space_clean : (xs : List ℕ) → list_all is_ascii_whitespace xs ≡ true → list_all is_clean xs ≡ true
space_clean xs h = all_clean is_ascii_whitespace space_kind xs h

-- a byte of a kind without white space is none
pub solid_kind : (kind : ℕ → Bool) → kind 9 ≡ false → kind 10 ≡ false → kind 12 ≡ false → kind 13 ≡ false → kind 32 ≡ false →
    (b : ℕ) → kind b ≡ true → is_ascii_whitespace b ≡ false
solid_kind kind tab lf ff cr blank b h =
    let a = avoids kind 9 tab b h in
    let c = avoids kind 10 lf b h in
    let d = avoids kind 12 ff b h in
    let e = avoids kind 13 cr b h in
    let f = avoids kind 32 blank b h in
    grind (arith, common_steps, a, c, d, e, f)

pub name_solid : (xs : List ℕ) → list_all is_of_name xs ≡ true → list_all is_solid xs ≡ true
name_solid xs h = all_such is_of_name is_solid (λ b is. solid_from b (solid_kind is_of_name refl refl refl refl refl b is)) xs h

pub property_solid : (xs : List ℕ) → list_all is_of_property xs ≡ true → list_all is_solid xs ≡ true
property_solid xs h = all_such is_of_property is_solid (λ b is. solid_from b (solid_kind is_of_property refl refl refl refl refl b is)) xs h

-- white space goes on with no name
pub space_is_no_part : (b : ℕ) → is_ascii_whitespace b ≡ true → is_name_part b ≡ false
space_is_no_part b h =
    false_from_ne_true (is_name_part b) (λ part. true≢false (sym h ∙ solid_kind is_name_part refl refl refl refl refl b part))

-- what is seen of a text without strings, escapes and comments is the text
quiet_is : (b : ℕ) → is_clean b ≡ true → is_quiet b ≡ true
quiet_is b h =
    let quote = avoids is_clean 34 refl b h in
    let apostrophe = avoids is_clean 39 refl b h in
    let backslash = avoids is_clean 92 refl b h in
    let slash = avoids is_clean 47 refl b h in
    rw (quote, apostrophe, backslash, slash) refl

pub clean_quiet : (xs : List ℕ) → list_all is_clean xs ≡ true → list_all is_quiet xs ≡ true
clean_quiet xs h = all_such is_clean is_quiet quiet_is xs h

pub plain_same : (xs : List ℕ) → list_all is_quiet xs ≡ true → plain_text xs ≡ xs
plain_same [] h = refl
plain_same (b ∷ bs) h =
    let parts = and_parts (is_quiet b) (list_all is_quiet bs) h in
    let quote = avoids is_quiet 34 refl b parts.0 in
    let apostrophe = avoids is_quiet 39 refl b parts.0 in
    let backslash = avoids is_quiet 92 refl b parts.0 in
    let slash = avoids is_quiet 47 refl b parts.0 in
    let rest = plain_same bs parts.1 in
    rw (quote, apostrophe, backslash, slash) (ap (λ z. b ∷ z) rest)

-- printed declarations are UTF-8
ascii_of : (kind : ℕ → Bool) → ((b : ℕ) → kind b ≡ true → b < 128) → (xs : List ℕ) → list_all kind xs ≡ true → IsAscii xs
ascii_of kind low [] h = IsAscii-nil
ascii_of kind low (b ∷ bs) h = let parts = and_parts (kind b) (list_all kind bs) h in IsAscii-cons b bs (low b parts.0) (ascii_of kind low bs parts.1)

property_low : (b : ℕ) → is_of_property b ≡ true → b < 128
property_low b h = grind (arith, common_steps)

value_low : (b : ℕ) → is_of_value b ≡ true → b < 128
value_low b h = grind (arith, common_steps)

pub property_utf8 : (xs : List ℕ) → list_all is_of_property xs ≡ true → is_utf8 xs ≡ true
property_utf8 xs h = is_utf8-from_IsUtf8 xs (IsUtf8-from_ascii xs (ascii_of is_of_property property_low xs h))

pub value_utf8 : (xs : List ℕ) → list_all is_of_value xs ≡ true → is_utf8 xs ≡ true
value_utf8 xs h = is_utf8-from_IsUtf8 xs (IsUtf8-from_ascii xs (ascii_of is_of_value value_low xs h))

space_of_value : (b : ℕ) → is_ascii_whitespace b ≡ true → is_of_value b ≡ true
space_of_value b h = grind (arith, common_steps)

pub spaces_of_value : (xs : List ℕ) → list_all is_ascii_whitespace xs ≡ true → list_all is_of_value xs ≡ true
spaces_of_value xs h = all_such is_ascii_whitespace is_of_value space_of_value xs h
