-- Fields of a line: parted by spaces, and without any in them.
use Rattle.std.proofs.Common.{◌≡◌, ℕ, ◌^◌, ◌<◌, ◌≤◌, ◌==◌, Bool, false, List, [], ◌∷◌, ◌++◌, length, refl, ap, ◌∙◌, arith, cond}
use Rattle.std.specs.List.{list_any, join_with_byte, onto_first}
use Rattle.std.specs.Str.Parse.{AllDigits}
use Rattle.std.specs.Fmt.{decimal}
use Rattle.std.proofs.lemmas.Bool.{ne_eqb, eqb-false, or_parts}
use Rattle.std.proofs.lemmas.Str.Parse.{digit_from_value}
use Rattle.std.proofs.lemmas.Fmt.{decimal_is_IsNumeral}
use Rattle.lay_drawing.specs.Reading.{fields_in}

-- the byte isn't in the text
abbrev pub Lacks : ℕ → List ℕ → Type 0
Lacks c text = list_any (λ b. b == c) text ≡ false

abbrev pub AllLack : ℕ → List (List ℕ) → Type 0
AllLack c [] = Unit {0}
AllLack c (field ∷ fields) = Lacks c field × AllLack c fields

pub lacks_parts : (c b : ℕ) (bs : List ℕ) → Lacks c (b ∷ bs) → ((b == c) ≡ false) × Lacks c bs
lacks_parts c b bs lacks = or_parts (b == c) (list_any (λ x. x == c) bs) lacks

pub lacks_more : (c b : ℕ) (bs : List ℕ) → (b == c) ≡ false → Lacks c bs → Lacks c (b ∷ bs)
lacks_more c b bs first rest = rw (first, rest) refl

pub lacks_append : (c : ℕ) (xs ys : List ℕ) → Lacks c xs → Lacks c ys → Lacks c (xs ++ ys)
lacks_append c [] ys a b = b
lacks_append c (x ∷ xs) ys a b = let parts = lacks_parts c x xs a in lacks_more c x (xs ++ ys) parts.0 (lacks_append c xs ys parts.1 b)

digits_lack : (c : ℕ) (ds : List ℕ) → c < 48 → AllDigits 10 ds → Lacks c ds
digits_lack c [] low digits = refl
digits_lack c (d ∷ ds) low digits =
    let range = digit_from_value d digits.0 in
    lacks_more c d ds (ne_eqb d c (λ e. omega (arith, range.0, e))) (digits_lack c ds low digits.1)

pub decimal_lacks : (c n : ℕ) → c < 48 → n < 2 ^ 64 → Lacks c (decimal n)
decimal_lacks c n low small = digits_lack c (decimal n) low (decimal_is_IsNumeral n small).0.1

-- one field, and the rest
split_at : (x ys : List ℕ) → Lacks 32 x → fields_in (x ++ 32 ∷ ys) ≡ x ∷ fields_in ys
split_at [] ys lacks = refl
split_at (b ∷ bs) ys lacks =
    let parts = lacks_parts 32 b bs lacks in
    ap (λ (t : Bool). cond t ([] ∷ fields_in (bs ++ 32 ∷ ys)) (onto_first b (fields_in (bs ++ 32 ∷ ys)))) parts.0 ∙ ap (onto_first b) (split_at bs ys parts.1)

split_one : (x : List ℕ) → Lacks 32 x → fields_in x ≡ x ∷ []
split_one [] lacks = refl
split_one (b ∷ bs) lacks =
    let parts = lacks_parts 32 b bs lacks in
    ap (λ (t : Bool). cond t ([] ∷ fields_in bs) (onto_first b (fields_in bs))) parts.0 ∙ ap (onto_first b) (split_one bs parts.1)

-- fields that are joined are parted again
pub fields_back : (field : List ℕ) (fields : List (List ℕ)) → AllLack 32 (field ∷ fields) → fields_in (join_with_byte 32 (field ∷ fields)) ≡ field ∷ fields
fields_back field [] lack = split_one field lack.0
fields_back field (next ∷ more) lack = split_at field (join_with_byte 32 (next ∷ more)) lack.0 ∙ ap (λ (fs : List (List ℕ)). field ∷ fs) (fields_back next more lack.1)

-- what no field has, and isn't a space, the line hasn't
pub joined_lack : (c : ℕ) (fields : List (List ℕ)) → (32 == c) ≡ false → AllLack c fields → Lacks c (join_with_byte 32 fields)
joined_lack c [] other lack = refl
joined_lack c (x ∷ []) other lack = lack.0
joined_lack c (x ∷ y ∷ more) other lack = lacks_append c x (32 ∷ join_with_byte 32 (y ∷ more)) lack.0 (lacks_more c 32 (join_with_byte 32 (y ∷ more)) other (joined_lack c (y ∷ more) other lack.1))

-- two lines that lack the byte which ends them are the same
pub same_front : (c : ℕ) (xs ys us vs : List ℕ) → Lacks c xs → Lacks c ys → xs ++ c ∷ us ≡ ys ++ c ∷ vs → (xs ≡ ys) × (us ≡ vs)
same_front c [] [] us vs a b e = (refl, cc)
same_front c [] (y ∷ ys) us vs a b e = let q : c ≡ y = cc in absurd (let parts = lacks_parts c y ys b in lacks_self c y q parts.0)
  where
    lacks_self : (c y : ℕ) → c ≡ y → (y == c) ≡ false → ⊥
    lacks_self c y q e = omega (arith, eqb-false y c e)
same_front c (x ∷ xs) [] us vs a b e = let q : x ≡ c = cc in absurd (let parts = lacks_parts c x xs a in omega (arith, eqb-false x c parts.0))
same_front c (x ∷ xs) (y ∷ ys) us vs a b e =
    let first : x ≡ y = cc in
    let later : xs ++ c ∷ us ≡ ys ++ c ∷ vs = cc in
    let rest = same_front c xs ys us vs (lacks_parts c x xs a).1 (lacks_parts c y ys b).1 later in
    ((let same = rest.0 in cc), rest.1)

-- a front that lacks the byte is no longer than what stands before it
pub front_within : (c : ℕ) (xs ys us vs : List ℕ) → Lacks c xs → xs ++ us ≡ ys ++ c ∷ vs → length xs ≤ length ys
front_within c [] ys us vs a e = omega arith
front_within c (x ∷ xs) [] us vs a e = let q : x ≡ c = cc in absurd (omega (arith, eqb-false x c (lacks_parts c x xs a).0))
front_within c (x ∷ xs) (y ∷ ys) us vs a e =
    let later : xs ++ us ≡ ys ++ c ∷ vs = cc in
    omega (arith, front_within c xs ys us vs (lacks_parts c x xs a).1 later)

-- what lacks the byte doesn't have it
pub no_such : (c : ℕ) (xs ys vs : List ℕ) → Lacks c xs → xs ≡ ys ++ c ∷ vs → ⊥
no_such c [] [] vs a e = absurd cc
no_such c [] (y ∷ ys) vs a e = absurd cc
no_such c (x ∷ xs) [] vs a e = let q : x ≡ c = cc in omega (arith, eqb-false x c (lacks_parts c x xs a).0)
no_such c (x ∷ xs) (y ∷ ys) vs a e = let later : xs ≡ ys ++ c ∷ vs = cc in no_such c xs ys vs (lacks_parts c x xs a).1 later
