-- The lexemes of a text in which no string is left open are the same before any two others, where each begins with an operator or a
-- space or is empty.
use Rattle.std.proofs.Common.{◌≡◌, ℕ, zero, suc, ◌+◌, ◌-◌, ◌≤◌, Bool, true, false, cond, ◌&&◌, ◌||◌, ◌==◌, List, [], ◌∷◌, ◌++◌, length, take, drop, nat_eq, Option, Some, None, option_and_then, refl, sym, ap, ap₂, ◌∙◌, arith, length-append}
use Rattle.std.proofs.lemmas.Bool.{true≢false, false≢true, eqb-true, and_parts, ne_eqb}
use Rattle.std.proofs.lemmas.List.{take-append-le, drop-append-le}
use Rattle.std.proofs.lemmas.Slice.Eq.{bytes_eq-Decides}
use Rattle.std.specs.List.{starts_with}
use Rattle.std.specs.Str.{bytes_eq}
use Rattle.std.specs.Prelude.{⊤}
use Rattle.std.specs.Char.{is_digit}
use Rattle.json.specs.Ascii as ascii
use Rattle.json.specs.Token.{Token, number, boolean, null, bad}
use Rattle.json.specs.Align.{is_good}
use Rattle.json.specs.Text.{Within, plain, after_backslash, after_u, after_high, content, prepend, code_unit, short_escape}
use Rattle.json.specs.Word.{is_operator, is_space, ends_word, after_number, number_before, literal, word}
use Rattle.json.specs.Lex.{Lexeme, token, comma, colon, Class, quote, backslash, operator, space, other, class, string_token, Mode, between, in_word, in_string, in_escape, lex_byte, lex}
use Rattle.json.proofs.Printed.Numbers.{in_word-ended}
use Rattle.lay_json.specs.Spans.Modes.{behind_byte, behind, is_closed}
use Rattle.lay_json.proofs.SpansLemmas.Words.{whole_number, Extends}

-- ---- what some text says is said where other texts follow

abbrev Stays : {A : Type 0} → Option A → Option A → Type 0
Stays {A} o p = (r : A) → o ≡ Some r → p ≡ Some r

none_stays : {A : Type 0} (p : Option A) → Stays None p
none_stays p r e = absurd (cc)

cond_stays : {A : Type 0} (b : Bool) (o p x y : Option A) → Stays o p → Stays x y → Stays (cond b o x) (cond b p y)
cond_stays true o p x y f g r e = f r e
cond_stays false o p x y f g r e = g r e

prepend_stays : (front : List ℕ) (o p : Option (List ℕ)) → Stays o p → Stays (prepend front o) (prepend front p)
prepend_stays front None p f r e = absurd (cc)
prepend_stays front (Some s) p f r e = ap (prepend front) (f s refl) ∙ e

then_stays : {A B : Type 0} (f g : A → Option B) (o : Option A) → ((a : A) → Stays (f a) (g a)) → Stays (option_and_then f o) (option_and_then g o)
then_stays f g None h r e = absurd (cc)
then_stays f g (Some a) h r e = h a r e

-- ---- digits of an escape

abbrev is_found : {A : Type 0} → Option A → Bool
is_found None = false
is_found (Some a) = true

all_hex : (b : Bool) (u : ℕ) → is_found (cond b (Some u) None) ≡ true → b ≡ true
all_hex true u h = refl
all_hex false u h = absurd (false≢true h)

not_this : (c x : ℕ) (t : Bool) → (t ≡ true → x ≡ c) → is_digit c 16 ≡ false → is_digit x 16 ≡ true → t ≡ false
not_this c x false e never h = refl
not_this c x true e never h = absurd (false≢true (sym never ∙ ap (λ y. is_digit y 16) (sym (e refl)) ∙ h))

plain_passes : (q b o s : Bool) → q ≡ false → b ≡ false → behind_byte in_string (cond q quote (cond b backslash (cond o operator (cond s space other)))) ≡ in_string
plain_passes true b o s h k = absurd (true≢false h)
plain_passes false true o s h k = absurd (true≢false k)
plain_passes false false true s h k = refl
plain_passes false false false true h k = refl
plain_passes false false false false h k = refl

pub string_byte : (x : ℕ) → (x ≡ 34 → ⊥) → (x ≡ 92 → ⊥) → behind_byte in_string (class x) ≡ in_string
string_byte x q b = plain_passes (x == 34) (x == 92) (is_operator x) (is_space x) (ne_eqb x 34 q) (ne_eqb x 92 b)

hex_passes : (x : ℕ) → is_digit x 16 ≡ true → behind_byte in_string (class x) ≡ in_string
hex_passes x h = plain_passes (x == 34) (x == 92) (is_operator x) (is_space x) (not_this 34 x (x == 34) (eqb-true x 34) refl h) (not_this 92 x (x == 92) (eqb-true x 92) refl h)

-- so many hex digits come first
abbrev FirstHex : ℕ → List ℕ → Type 0
FirstHex zero ts = ⊤
FirstHex (suc n) [] = ⊥
FirstHex (suc n) (x ∷ xs) = (is_digit x 16 ≡ true) × FirstHex n xs

found_first : {A B : Type 0} (f : A → Option B) (o : Option A) (r : B) → option_and_then f o ≡ Some r → is_found o ≡ true
found_first f None r e = absurd (cc)
found_first f (Some a) r e = refl

unit_hex : (a b c d : ℕ) (xs : List ℕ) → is_found (code_unit a b c d) ≡ true → FirstHex 4 (a ∷ b ∷ c ∷ d ∷ xs)
unfolding code_unit
unit_hex a b c d xs h =
    let p = and_parts (is_digit a 16 && is_digit b 16 && is_digit c 16) (is_digit d 16) (all_hex _ _ h) in
    let q = and_parts (is_digit a 16 && is_digit b 16) (is_digit c 16) p.0 in
    let r = and_parts (is_digit a 16) (is_digit b 16) q.0 in
    (r.0, (r.1, (q.1, (p.1, tt))))

u_hex : (ts r : List ℕ) → content after_u ts ≡ Some r → FirstHex 4 ts
unfolding content
u_hex [] r e = absurd (cc)
u_hex (a ∷ []) r e = absurd (cc)
u_hex (a ∷ b ∷ []) r e = absurd (cc)
u_hex (a ∷ b ∷ c ∷ []) r e = absurd (cc)
u_hex (a ∷ b ∷ c ∷ d ∷ xs) r e = unit_hex a b c d xs (found_first _ (code_unit a b c d) r e)

-- a backslash, any byte and four hex digits come first
abbrev FirstHigh : List ℕ → Type 0
FirstHigh [] = ⊥
FirstHigh (s ∷ []) = ⊥
FirstHigh (s ∷ u ∷ us) = (s ≡ 92) × FirstHex 4 us

either_some : {A : Type 0} (b : Bool) (o : Option A) (r : A) → cond b o None ≡ Some r → (b ≡ true) × (o ≡ Some r)
either_some true o r e = (refl, e)
either_some false o r e = absurd (cc)

high_first : (h : ℕ) (ts r : List ℕ) → content (after_high h) ts ≡ Some r → FirstHigh ts
unfolding content
high_first h [] r e = absurd (cc)
high_first h (s ∷ []) r e = absurd (cc)
high_first h (s ∷ u ∷ []) r e = absurd (cc)
high_first h (s ∷ u ∷ a ∷ []) r e = absurd (cc)
high_first h (s ∷ u ∷ a ∷ b ∷ []) r e = absurd (cc)
high_first h (s ∷ u ∷ a ∷ b ∷ c ∷ []) r e = absurd (cc)
high_first h (s ∷ u ∷ a ∷ b ∷ c ∷ d ∷ xs) r e =
    let both = either_some ((s == 92) && (u == 117)) _ r e in
    (eqb-true s 92 (and_parts _ _ both.0).0, unit_hex a b c d xs (found_first _ (code_unit a b c d) r both.1))

four_passed : (a b c d : ℕ) (xs ts : List ℕ) → FirstHex 4 (a ∷ b ∷ c ∷ d ∷ ts) → behind in_string (a ∷ b ∷ c ∷ d ∷ xs) ≡ behind in_string xs
four_passed a b c d xs ts h =
    ap (λ m. behind (behind_byte (behind_byte (behind_byte m (class b)) (class c)) (class d)) xs) (hex_passes a h.0)
    ∙ ap (λ m. behind (behind_byte (behind_byte m (class c)) (class d)) xs) (hex_passes b h.1.0)
    ∙ ap (λ m. behind (behind_byte m (class d)) xs) (hex_passes c h.1.1.0)
    ∙ ap (λ m. behind m xs) (hex_passes d h.1.1.1.0)

high_passed : (s u : ℕ) (xs : List ℕ) → s ≡ 92 → behind in_string (s ∷ u ∷ xs) ≡ behind in_string xs
high_passed s u xs e = ap (λ y. behind in_string (y ∷ u ∷ xs)) e

module _ (r1 r2 : List ℕ) where
  -- digits alone leave the string open
  hex_run : (n : ℕ) (xs : List ℕ) → FirstHex n (xs ++ r1) → length xs ≤ n → behind in_string xs ≡ in_string
  hex_run n [] h le = refl
  hex_run zero (x ∷ xs) h le = absurd (omega arith)
  hex_run (suc n) (x ∷ xs) h le = ap (λ m. behind m xs) (hex_passes x h.0) ∙ hex_run n xs h.1 (omega arith)

  open_hex : (xs : List ℕ) → is_closed (behind in_string xs) ≡ true → length xs ≤ 4 → FirstHex 4 (xs ++ r1) → ⊥
  open_hex xs k le h = false≢true (ap is_closed (sym (hex_run 4 xs h le)) ∙ k)

  open_high : (xs : List ℕ) → is_closed (behind in_string xs) ≡ true → length xs ≤ 6 → FirstHigh (xs ++ r1) → ⊥
  open_high [] k le h = false≢true k
  open_high (s ∷ []) k le h = open_first s r1 k h
    where
      open_first : (s : ℕ) (ts : List ℕ) → is_closed (behind in_string (s ∷ [])) ≡ true → FirstHigh (s ∷ ts) → ⊥
      open_first s [] k h = h
      open_first s (t ∷ ts) k h = false≢true (ap (λ y. is_closed (behind in_string (y ∷ []))) (sym h.0) ∙ k)
  open_high (s ∷ u ∷ us) k le h = open_hex us (ap is_closed (sym (high_passed s u us h.0)) ∙ k) (omega arith) h.1

  plain_case : (q b o s : Bool) (xs : List ℕ) (x y u v : Option (List ℕ)) → is_closed (behind (behind_byte in_string (cond q quote (cond b backslash (cond o operator (cond s space other))))) xs) ≡ true
      → (is_closed (behind in_escape xs) ≡ true → Stays x y) → (is_closed (behind in_string xs) ≡ true → Stays u v) → Stays (cond q (Some []) (cond b x u)) (cond q (Some []) (cond b y v))
  plain_case true b o s xs x y u v k f g r e = e
  plain_case false true o s xs x y u v k f g r e = f k r e
  plain_case false false true s xs x y u v k f g r e = g k r e
  plain_case false false false true xs x y u v k f g r e = g k r e
  plain_case false false false false xs x y u v k f g r e = g k r e

  abbrev mode : Within → Mode
  mode plain = in_string
  mode after_backslash = in_escape
  mode after_u = in_string
  mode (after_high h) = in_string

  -- a string that is closed in the text has the same content before others
  content_same : (w : Within) (xs : List ℕ) → is_closed (behind (mode w) xs) ≡ true → Stays (content w (xs ++ r1)) (content w (xs ++ r2))
  unfolding content
  content_same plain [] k = absurd (false≢true k)
  content_same plain (x ∷ xs) k =
      plain_case (x == 34) (x == 92) (is_operator x) (is_space x) xs _ _ _ _ k (λ c. content_same after_backslash xs c)
      (λ c. cond_stays _ None None _ _ (λ r e. e) (prepend_stays (x ∷ []) _ _ (content_same plain xs c)))
  content_same after_backslash [] k = absurd (false≢true k)
  content_same after_backslash (x ∷ xs) k =
      cond_stays (x == ascii.lower_u) _ _ _ _ (content_same after_u xs k) (then_stays _ _ (short_escape x) (λ c. prepend_stays (c ∷ []) _ _ (content_same plain xs k)))
  content_same after_u [] k = absurd (false≢true k)
  content_same after_u (a ∷ []) k = λ r e. absurd (open_hex (a ∷ []) k (omega arith) (u_hex (a ∷ r1) r e))
  content_same after_u (a ∷ b ∷ []) k = λ r e. absurd (open_hex (a ∷ b ∷ []) k (omega arith) (u_hex (a ∷ b ∷ r1) r e))
  content_same after_u (a ∷ b ∷ c ∷ []) k = λ r e. absurd (open_hex (a ∷ b ∷ c ∷ []) k (omega arith) (u_hex (a ∷ b ∷ c ∷ r1) r e))
  content_same after_u (a ∷ b ∷ c ∷ d ∷ xs) k = λ r e.
      let c2 : is_closed (behind in_string xs) ≡ true = ap is_closed (sym (four_passed a b c d xs (xs ++ r1) (u_hex (a ∷ b ∷ c ∷ d ∷ (xs ++ r1)) r e))) ∙ k in
      then_stays _ _ (code_unit a b c d) (λ u. cond_stays _ _ _ _ _ (content_same (after_high u) xs c2) (cond_stays _ None None _ _ (λ q f. f) (prepend_stays _ _ _ (content_same plain xs c2)))) r e
  content_same (after_high h) [] k = absurd (false≢true k)
  content_same (after_high h) (s ∷ []) k = λ r e. absurd (open_high (s ∷ []) k (omega arith) (high_first h (s ∷ r1) r e))
  content_same (after_high h) (s ∷ u ∷ []) k = λ r e. absurd (open_high (s ∷ u ∷ []) k (omega arith) (high_first h (s ∷ u ∷ r1) r e))
  content_same (after_high h) (s ∷ u ∷ a ∷ []) k = λ r e. absurd (open_high (s ∷ u ∷ a ∷ []) k (omega arith) (high_first h (s ∷ u ∷ a ∷ r1) r e))
  content_same (after_high h) (s ∷ u ∷ a ∷ b ∷ []) k = λ r e. absurd (open_high (s ∷ u ∷ a ∷ b ∷ []) k (omega arith) (high_first h (s ∷ u ∷ a ∷ b ∷ r1) r e))
  content_same (after_high h) (s ∷ u ∷ a ∷ b ∷ c ∷ []) k = λ r e. absurd (open_high (s ∷ u ∷ a ∷ b ∷ c ∷ []) k (omega arith) (high_first h (s ∷ u ∷ a ∷ b ∷ c ∷ r1) r e))
  content_same (after_high h) (s ∷ u ∷ a ∷ b ∷ c ∷ d ∷ xs) k = λ r e.
      let first = high_first h (s ∷ u ∷ a ∷ b ∷ c ∷ d ∷ (xs ++ r1)) r e in
      let c2 : is_closed (behind in_string xs) ≡ true =
      ap is_closed (sym (high_passed s u (a ∷ b ∷ c ∷ d ∷ xs) first.0 ∙ four_passed a b c d xs (xs ++ r1) first.1)) ∙ k in
      cond_stays _ _ _ None None (then_stays _ _ (code_unit a b c d) (λ l. cond_stays _ _ _ None None (prepend_stays _ _ _ (content_same plain xs c2)) (λ q f. f))) (λ q f. f) r e

good_string : (o p : Option (List ℕ)) → Stays o p → is_good (string_token o) ≡ true → string_token p ≡ string_token o
good_string None p f e = absurd (false≢true e)
good_string (Some s) p f e = ap string_token (f s refl)

-- ---- words

abbrev is_letter : ℕ → Bool
is_letter x = is_operator x || is_space x

abbrev Letters : List ℕ → Type 0
Letters [] = ⊤
Letters (x ∷ xs) = (is_letter x ≡ false) × Letters xs

abbrev pub good : Lexeme → Bool
good (token t) = is_good t
good comma = true
good colon = true

abbrev pub AllGood : List Lexeme → Type 0
AllGood [] = ⊤
AllGood (l ∷ ls) = (good l ≡ true) × AllGood ls

abbrev first_or : ℕ → List ℕ → ℕ
first_or d [] = d
first_or d (x ∷ xs) = x

abbrev tail_of : List ℕ → List ℕ
tail_of [] = []
tail_of (x ∷ xs) = xs

ends_before : (n : ℕ) (ns r : List ℕ) → ends_word r ≡ true → is_letter n ≡ false → n ∷ ns ≡ take (suc (length ns)) r → ⊥
ends_before n ns [] ended l e = absurd (cc)
ends_before n ns (y ∷ ys) ended l e = true≢false (sym ended ∙ ap is_letter (sym (ap (first_or n) e)) ∙ l)

long : (name t r : List ℕ) → ends_word r ≡ true → Letters name → name ≡ take (length name) (t ++ r) → length name ≤ length t
long [] t r ended l e = omega arith
long (n ∷ ns) [] r ended l e = absurd (ends_before n ns r ended l.0 e)
long (n ∷ ns) (x ∷ xs) r ended l e = omega (arith, long ns xs r ended l.1 (ap tail_of e))

ends_alike : (u r1 r2 : List ℕ) → ends_word r1 ≡ true → ends_word r2 ≡ true → ends_word (u ++ r2) ≡ ends_word (u ++ r1)
ends_alike [] r1 r2 e1 e2 = e2 ∙ sym e1
ends_alike (x ∷ xs) r1 r2 e1 e2 = refl

good_or_bad : (b : Bool) (t : Token) → is_good (cond b t bad) ≡ true → b ≡ true
good_or_bad true t e = refl
good_or_bad false t e = absurd (false≢true e)

number_taken : (t r rest : List ℕ) → number_before (t ++ rest) (Some (r ++ rest)) ≡ cond (ends_word (r ++ rest)) (number (take (length t - length r) t)) bad
number_taken t r rest =
    let count : length (t ++ rest) - length (r ++ rest) ≡ length t - length r = omega (arith, length-append t rest, length-append r rest) in
    ap (λ (l : List ℕ). cond (ends_word (r ++ rest)) (number l) bad) (ap (λ k. take k (t ++ rest)) count ∙ take-append-le (length t - length r) t rest (omega arith))

module _ (r1 r2 : List ℕ) (e1 : ends_word r1 ≡ true) (e2 : ends_word r2 ≡ true) where
  literal_same : (name t : List ℕ) (tok : Token) → Letters name → is_good (literal name tok (t ++ r1)) ≡ true → literal name tok (t ++ r2) ≡ literal name tok (t ++ r1)
  literal_same name t tok l g =
      let both = and_parts _ _ (good_or_bad (starts_with nat_eq (t ++ r1) name && ends_word (drop (length name) (t ++ r1))) tok g) in
      let is : name ≡ take (length name) (t ++ r1) = (bytes_eq-Decides name (take (length name) (t ++ r1))).0 both.0 in
      let enough = long name t r1 e1 l is in
      let taken : take (length name) (t ++ r2) ≡ take (length name) (t ++ r1) = take-append-le (length name) t r2 enough ∙ sym (take-append-le (length name) t r1 enough) in
      let ends : ends_word (drop (length name) (t ++ r2)) ≡ ends_word (drop (length name) (t ++ r1)) =
      ap ends_word (drop-append-le (length name) t r2 enough) ∙ ends_alike (drop (length name) t) r1 r2 e1 e2 ∙ sym (ap ends_word (drop-append-le (length name) t r1 enough)) in
      ap₂ (λ (u : List ℕ) (b : Bool). cond (bytes_eq name u && b) tok bad) taken ends

  number_same : (t : List ℕ) (o p q : Option (List ℕ)) → after_number t ≡ o → Extends r1 e1 t o p → Extends r2 e2 t o q → is_good (number_before (t ++ r1) p) ≡ true
      → number_before (t ++ r2) q ≡ number_before (t ++ r1) p
  number_same t None p q is h k g = absurd (false≢true (sym (ap (λ o. is_good (number_before (t ++ r1) o)) h) ∙ g))
  number_same t (Some r) p q is h k g =
      ap (number_before (t ++ r2)) k.0 ∙ number_taken t r r2 ∙ ap (λ b. cond b (number (take (length t - length r) t)) bad) (ends_alike r r1 r2 e1 e2)
      ∙ sym (ap (number_before (t ++ r1)) h.0 ∙ number_taken t r r1)

  either_good : (b : Bool) (u v x y : Token) → (is_good u ≡ true → v ≡ u) → (is_good x ≡ true → y ≡ x) → is_good (cond b u x) ≡ true → cond b v y ≡ cond b u x
  either_good true u v x y f g e = f e
  either_good false u v x y f g e = g e

  word_same : (x : ℕ) (xs : List ℕ) → is_good (word ((x ∷ xs) ++ r1)) ≡ true → word ((x ∷ xs) ++ r2) ≡ word ((x ∷ xs) ++ r1)
  unfolding word
  word_same x xs =
      either_good (x == ascii.lower_t) _ _ _ _ (literal_same ascii.true_text (x ∷ xs) (boolean true) (refl, (refl, (refl, (refl, tt)))))
      (either_good (x == ascii.lower_f) _ _ _ _ (literal_same ascii.false_text (x ∷ xs) (boolean false) (refl, (refl, (refl, (refl, (refl, tt))))))
      (either_good (x == ascii.lower_n) _ _ _ _ (literal_same ascii.null_text (x ∷ xs) null (refl, (refl, (refl, (refl, tt)))))
      (number_same (x ∷ xs) (after_number (x ∷ xs)) (after_number ((x ∷ xs) ++ r1)) (after_number ((x ∷ xs) ++ r2)) refl (whole_number r1 e1 (x ∷ xs)) (whole_number r2 e2 (x ∷ xs)))))

  -- ---- the lexer

  -- the lexemes of a text, before both others
  abbrev pub Front : Mode → List ℕ → Type 0
  Front n xs = (front : List Lexeme) × (lex n (xs ++ r1) ≡ front ++ lex between r1) × (lex n (xs ++ r2) ≡ front ++ lex between r2)

  abbrev Joins : List ℕ → Type 0
  Joins xs = (n : Mode) → is_closed (behind n xs) ≡ true → AllGood (lex n (xs ++ r1)) → Front n xs

  -- the same lexeme comes before both
  abbrev Both : (Mode → List Lexeme) → (Mode → List Lexeme) → Mode → Type 0
  Both k1 k2 n = (front : List Lexeme) × (k1 n ≡ front ++ lex between r1) × (k2 n ≡ front ++ lex between r2)

  before : (l : Lexeme) (a b : List Lexeme) → ((front : List Lexeme) × (a ≡ front ++ lex between r1) × (b ≡ front ++ lex between r2))
      → (front : List Lexeme) × (l ∷ a ≡ front ++ lex between r1) × (l ∷ b ≡ front ++ lex between r2)
  before l a b f = (l ∷ f.0, ap (λ ls. l ∷ ls) f.1, ap (λ ls. l ∷ ls) f.2)

  alike : (l m : Lexeme) (a b : List Lexeme) → m ≡ l → ((front : List Lexeme) × (a ≡ front ++ lex between r1) × (b ≡ front ++ lex between r2))
      → (front : List Lexeme) × (l ∷ a ≡ front ++ lex between r1) × (m ∷ b ≡ front ++ lex between r2)
  alike l m a b e f = (l ∷ f.0, ap (λ ls. l ∷ ls) f.1, ap₂ (λ n ls. n ∷ ls) e f.2)

  one_byte : (m : Mode) (c : Class) (x : ℕ) (xs : List ℕ) → Joins xs → is_closed (behind (behind_byte m c) xs) ≡ true → AllGood (lex_byte m c x (xs ++ r1) (λ n. lex n (xs ++ r1)))
      → (front : List Lexeme) × (lex_byte m c x (xs ++ r1) (λ n. lex n (xs ++ r1)) ≡ front ++ lex between r1) × (lex_byte m c x (xs ++ r2) (λ n. lex n (xs ++ r2)) ≡ front ++ lex between r2)
  one_byte between quote x xs f k g =
      alike _ _ _ _ (ap token (good_string (content plain (xs ++ r1)) (content plain (xs ++ r2)) (content_same r1 r2 plain xs k) g.0)) (f in_string k g.1)
  one_byte between backslash x xs f k g = absurd (false≢true g.0)
  one_byte between operator x xs f k g = before _ _ _ (f between k g.1)
  one_byte between space x xs f k g = f between k g
  one_byte between other x xs f k g = alike _ _ _ _ (ap token (word_same x xs g.0)) (f in_word k g.1)
  one_byte in_word quote x xs f k g = f in_word k g
  one_byte in_word backslash x xs f k g = f in_word k g
  one_byte in_word operator x xs f k g = before _ _ _ (f between k g.1)
  one_byte in_word space x xs f k g = f between k g
  one_byte in_word other x xs f k g = f in_word k g
  one_byte in_string quote x xs f k g = f between k g
  one_byte in_string backslash x xs f k g = f in_escape k g
  one_byte in_string operator x xs f k g = f in_string k g
  one_byte in_string space x xs f k g = f in_string k g
  one_byte in_string other x xs f k g = f in_string k g
  one_byte in_escape c x xs f k g = f in_string k g

  pub lexed : (xs : List ℕ) → Joins xs
  unfolding lex
  lexed [] between k g = ([], refl, refl)
  lexed [] in_word k g = ([], in_word-ended r1 e1, in_word-ended r2 e2)
  lexed [] in_string k g = absurd (false≢true k)
  lexed [] in_escape k g = absurd (false≢true k)
  lexed (x ∷ xs) m k g = one_byte m (class x) x xs (lexed xs) k g
