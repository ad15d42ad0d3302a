-- The tokens that come next, by the bytes of the text.
use Rattle.std.proofs.Common.{◌≡◌, ℕ, ◌+◌, ◌<◌, length, arith, Bool, true, false, cond, ◌||◌, ◌==◌, nat_lt, List, [], ◌∷◌, ◌++◌, Option, Some, None, ◌⊎◌, inl, inr, refl, sym, ap, ◌∙◌, subst, append_assoc}
use Rattle.std.proofs.lemmas.Bool.{true≢false, false≢true, eqb-true, or_cases}
use Rattle.json.specs.Token.{begin_object, end_object, begin_array, end_array, key, string}
use Rattle.json.specs.Text.{content, plain, after_backslash, prepend}
use Rattle.json.specs.Word.{is_operator, is_space}
use Rattle.json.specs.Lex.{Lexeme, token, colon, quote, backslash, operator, space, other, class, string_token, Mode, between, in_string, lex_byte, lex, Place, fresh, after_value, after_comma, after_key, may_begin, may_close, punctuate}
use Rattle.serde_json.specs.Data.{Data, null, boolean, number, string as told_text, array, object, Items, item}
use Rattle.serde_json.specs.Find.{as_array}
use Rattle.serde_json.specs.View.{view, items_view}
use Rattle.serde_json.specs.declared.value.Value.{Value}
use Rattle.lay_json.specs.declared.spans.cursor.Place.{Place as ReaderPlace}
use Rattle.lay_json.specs.declared.spans.cursor.Place.TheVariants.{Fresh, AfterValue, AfterComma}
use Rattle.lay_json.specs.Spans.Modes.{behind_byte, behind}
use Rattle.lay_json.specs.Spans.Scans.{place_of}
use Rattle.lay_json.specs.Spans.Readings.{tokens_at, EndsValue}

or_last : (P : ℕ → Type 0) (x c : ℕ) (b : Bool) → P c → (b ≡ true → P x) → (b ≡ true) ⊎ ((x == c) ≡ true) → P x
or_last P x c b p f (inl e) = f e
or_last P x c b p f (inr e) = subst P (sym (eqb-true x c e)) p

four : (P : ℕ → Type 0) → P 32 → P 9 → P 10 → P 13 → (x : ℕ) → is_space x ≡ true → P x
four P a b c d x h =
    or_last P x 13 ((x == 32) || (x == 9) || (x == 10)) d (λ g. or_last P x 10 ((x == 32) || (x == 9)) c (λ f. or_last P x 9 (x == 32) b (λ e. subst P (sym (eqb-true x 32 e)) a) (or_cases _ _ f)) (or_cases _ _ g)) (or_cases _ _ h)

pub space_passed : (x : ℕ) (xs : List ℕ) → is_space x ≡ true → lex between (x ∷ xs) ≡ lex between xs
unfolding lex
space_passed x xs h = four (λ y. lex between (y ∷ xs) ≡ lex between xs) refl refl refl refl x h

pub comma_passed : (xs : List ℕ) → punctuate after_value (lex between (44 ∷ xs)) ≡ punctuate after_comma (lex between xs)
unfolding lex punctuate
comma_passed xs = refl

pub object_opened : (p : Place) (xs : List ℕ) → may_begin p ≡ true → punctuate p (lex between (123 ∷ xs)) ≡ begin_object ∷ punctuate fresh (lex between xs)
unfolding lex punctuate
object_opened fresh xs h = refl
object_opened after_value xs h = absurd (false≢true h)
object_opened after_comma xs h = refl
object_opened after_key xs h = absurd (false≢true h)

pub array_opened : (p : Place) (xs : List ℕ) → may_begin p ≡ true → punctuate p (lex between (91 ∷ xs)) ≡ begin_array ∷ punctuate fresh (lex between xs)
unfolding lex punctuate
array_opened fresh xs h = refl
array_opened after_value xs h = absurd (false≢true h)
array_opened after_comma xs h = refl
array_opened after_key xs h = absurd (false≢true h)

pub object_closed : (p : Place) (xs : List ℕ) → may_close p ≡ true → punctuate p (lex between (125 ∷ xs)) ≡ end_object ∷ punctuate after_value (lex between xs)
unfolding lex punctuate
object_closed fresh xs h = refl
object_closed after_value xs h = refl
object_closed after_comma xs h = absurd (false≢true h)
object_closed after_key xs h = absurd (false≢true h)

pub array_closed : (p : Place) (xs : List ℕ) → may_close p ≡ true → punctuate p (lex between (93 ∷ xs)) ≡ end_array ∷ punctuate after_value (lex between xs)
unfolding lex punctuate
array_closed fresh xs h = refl
array_closed after_value xs h = refl
array_closed after_comma xs h = absurd (false≢true h)
array_closed after_key xs h = absurd (false≢true h)

quoted : (xs : List ℕ) → lex between (34 ∷ xs) ≡ token (string_token (content plain xs)) ∷ lex in_string xs
unfolding lex
quoted xs = refl

parted : (xs : List ℕ) → lex between (58 ∷ xs) ≡ colon ∷ lex between xs
unfolding lex
parted xs = refl

named : (p : Place) (s : List ℕ) (ls : List Lexeme) → may_begin p ≡ true → punctuate p (token (string s) ∷ colon ∷ ls) ≡ key s ∷ punctuate fresh ls
unfolding punctuate
named fresh s ls h = refl
named after_value s ls h = absurd (false≢true h)
named after_comma s ls h = refl
named after_key s ls h = absurd (false≢true h)

-- a plain name with a colon after it
pub key_read : (p : Place) (text name rest more : List ℕ) → may_begin p ≡ true → content plain text ≡ Some name → lex in_string text ≡ lex between rest → lex between rest ≡ lex between (58 ∷ more)
    → punctuate p (lex between (34 ∷ text)) ≡ key name ∷ punctuate fresh (lex between more)
key_read p text name rest more h said ends colon_next =
    ap (punctuate p) (quoted text ∙ ap (λ o. token (string_token o) ∷ lex in_string text) said ∙ ap (λ ls. token (string name) ∷ ls) (ends ∙ colon_next ∙ parted more)) ∙ named p name (lex between more) h

pub nothing_left : (p : Place) → may_close p ≡ true → punctuate p (lex between []) ≡ []
unfolding lex punctuate
nothing_left fresh h = refl
nothing_left after_value h = refl
nothing_left after_comma h = absurd (false≢true h)
nothing_left after_key h = absurd (false≢true h)

-- ---- the scan

pub behind_more : (m : Mode) (xs : List ℕ) (x : ℕ) → behind m (xs ++ x ∷ []) ≡ behind_byte (behind m xs) (class x)
behind_more m [] x = refl
behind_more m (y ∷ ys) x = behind_more (behind_byte m (class y)) ys x

pub ends_at_comma : (xs : List ℕ) → EndsValue (44 ∷ xs)
unfolding lex
ends_at_comma xs = (refl, refl)

pub ends_at_bracket : (xs : List ℕ) → EndsValue (93 ∷ xs)
unfolding lex
ends_at_bracket xs = (refl, refl)

pub ends_at_brace : (xs : List ℕ) → EndsValue (125 ∷ xs)
unfolding lex
ends_at_brace xs = (refl, refl)

-- ---- plain names

prepend_twice : (a b : List ℕ) (r : Option (List ℕ)) → prepend a (prepend b r) ≡ prepend (a ++ b) r
prepend_twice a b None = refl
prepend_twice a b (Some s) = ap Some (sym (append_assoc a b s))

plain_class : (q b o s : Bool) (x : ℕ) (xs : List ℕ) (k : Mode → List Lexeme) → q ≡ false → b ≡ false → lex_byte in_string (cond q quote (cond b backslash (cond o operator (cond s space other)))) x xs k ≡ k in_string
plain_class true b o s x xs k h g = absurd (true≢false h)
plain_class false true o s x xs k h g = absurd (true≢false g)
plain_class false false true s x xs k h g = refl
plain_class false false false true x xs k h g = refl
plain_class false false false false x xs k h g = refl

pub plain_passed : (x : ℕ) (xs : List ℕ) → (x == 34) ≡ false → (x == 92) ≡ false → lex in_string (x ∷ xs) ≡ lex in_string xs
unfolding lex
plain_passed x xs q b = plain_class (x == 34) (x == 92) (is_operator x) (is_space x) x xs (λ n. lex n xs) q b

plain_cond : (q b c : Bool) (x y u : Option (List ℕ)) → q ≡ false → b ≡ false → c ≡ false → cond q x (cond b y (cond c None u)) ≡ u
plain_cond true b c x y u h g f = absurd (true≢false h)
plain_cond false true c x y u h g f = absurd (true≢false g)
plain_cond false false true x y u h g f = absurd (true≢false f)
plain_cond false false false x y u h g f = refl

pub plain_read : (front : List ℕ) (x : ℕ) (xs : List ℕ) → (x == 34) ≡ false → (x == 92) ≡ false → nat_lt x 32 ≡ false → prepend front (content plain (x ∷ xs)) ≡ prepend (front ++ x ∷ []) (content plain xs)
unfolding content
plain_read front x xs q b c =
    ap (prepend front) (plain_cond (x == 34) (x == 92) (nat_lt x 32) (Some []) (content after_backslash xs) (prepend (x ∷ []) (content plain xs)) q b c) ∙ prepend_twice front (x ∷ []) (content plain xs)

pub quote_read : (front xs : List ℕ) → prepend front (content plain (34 ∷ xs)) ≡ Some (front ++ [])
unfolding content
quote_read front xs = refl

pub quote_passed : (xs : List ℕ) → lex in_string (34 ∷ xs) ≡ lex between xs
unfolding lex
quote_passed xs = refl

-- ---- lists that are filled

list_alone : (d : Data) (ds : Items) → as_array d ≡ Some ds → d ≡ array ds
list_alone null ds e = absurd (cc)
list_alone (boolean b) ds e = absurd (cc)
list_alone (number n) ds e = absurd (cc)
list_alone (told_text s) ds e = absurd (cc)
list_alone (array es) ds e = ap (λ (o : Option Items). array (or_these es o)) e
  where
    or_these : Items → Option Items → Items
    or_these es None = es
    or_these es (Some fs) = fs
list_alone (object ms) ds e = absurd (cc)

pub filled : (d : Data) (vs : List Value) → as_array d ≡ Some (items_view vs) → 0 < length vs → (first : Data) × (rest : Items) × (d ≡ array (item first rest))
filled d [] e some = absurd (omega arith)
filled d (v ∷ vs) e some = (view v, items_view vs, list_alone d (items_view (v ∷ vs)) e)

pub nothing : (xs : List ℕ) → length xs ≡ 0 → xs ≡ []
nothing [] e = refl
nothing (x ∷ xs) e = absurd (omega (arith, e))

pub at_end : (place : ReaderPlace) (rest : List ℕ) → (place ≡ AfterComma → ⊥) → rest ≡ [] → tokens_at place rest ≡ []
at_end Fresh rest apart none = ap (λ t. punctuate fresh (lex between t)) none ∙ nothing_left fresh refl
at_end AfterValue rest apart none = ap (λ t. punctuate after_value (lex between t)) none ∙ nothing_left after_value refl
at_end AfterComma rest apart none = absurd (apart refl)

pub begins_there : (place : ReaderPlace) → (place ≡ AfterValue → ⊥) → may_begin (place_of place) ≡ true
begins_there Fresh apart = refl
begins_there AfterValue apart = absurd (apart refl)
begins_there AfterComma apart = refl

pub ends_at : (x : ℕ) (xs : List ℕ) → (x ≡ 93) ⊎ (x ≡ 125) → EndsValue (x ∷ xs)
ends_at x xs (inl e) = subst (λ y. EndsValue (y ∷ xs)) (sym e) (ends_at_bracket xs)
ends_at x xs (inr e) = subst (λ y. EndsValue (y ∷ xs)) (sym e) (ends_at_brace xs)
