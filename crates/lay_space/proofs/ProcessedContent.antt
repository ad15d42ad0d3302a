-- White space of whole contents.
use Rattle.std.proofs.Common.{◌≡◌, ◌≢◌, ℕ, ◌==◌, ◌&&◌, ◌||◌, Bool, true, false, if◌then◌else◌, List, [], ◌∷◌, map, length, refl, sym, ap, ◌∙◌, subst, chars, encode_utf8_all, arith}
use Rattle.std.specs.Str.{IsUtf8}
use Rattle.std.proofs.lemmas.Bool.{and_parts, and_from, eqb-true, eq-eqb, true≢false}
use Rattle.std.proofs.lemmas.Str.{chars-nil, chars-encodes, scalars-chars}
use lib.Utf8.{scalar, scalars}
use Rattle.lay_space.specs.declared.item.Mode.{Mode}
use Rattle.lay_space.specs.declared.item.Mode.TheVariants.{Normal, Pre, NoWrap, PreWrap, PreLine}
use Rattle.lay_space.specs.declared.item.Item.{Item}
use Rattle.lay_space.specs.declared.item.Item.TheVariants.{Text, Atomic, Start, End, Float, Anchor}
use Rattle.lay_space.specs.Modes.{collapses, joins_lines}
use Rattle.lay_space.specs.WhiteSpace.{is_blank, runs_to_linefeed, strip, as_space, squeeze, left_over, ends_in_space, text_left, space_after, processed}
use Rattle.lay_space.specs.Laws.{IsSpaceCollapsed}
use Rattle.lay_space.specs.WhiteSpaceLaws.{AreUtf8, words, ends_in_white, with_words, OnlyWhiteSpaceGoes, HasNoLinefeed, ends_in_collapsible, IsCollapsedText, IsCollapsedContent, ContentCollapses}
use Rattle.lay_space.proofs.Collapsed.{no_space_after_space_lem}
use Rattle.lay_space.proofs.Words.{Same, left_same, ends_white}

-- What is left are scalar values.
strip_scalars : (l : Bool) (cs : List ℕ) → scalars cs ≡ true → scalars (strip l cs) ≡ true
strip_scalars l [] is = refl
strip_scalars l (c ∷ cs) is =
    let parts = and_parts (scalar c) (scalars cs) is in
    one (is_blank c) (l || runs_to_linefeed cs) parts.0 (strip_scalars l cs parts.1) (strip_scalars (c == 10) cs parts.1)
  where
    one : (t drops : Bool) → scalar c ≡ true → scalars (strip l cs) ≡ true → scalars (strip (c == 10) cs) ≡ true
        → scalars (if t then (if drops then strip l cs else (c ∷ strip l cs)) else (c ∷ strip (c == 10) cs)) ≡ true
    one true true own rest behind = rest
    one true false own rest behind = and_from (scalar c) (scalars (strip l cs)) own rest
    one false drops own rest behind = and_from (scalar c) (scalars (strip (c == 10) cs)) own behind

spaced_scalars : (m : Mode) (cs : List ℕ) → scalars cs ≡ true → scalars (map (as_space m) cs) ≡ true
spaced_scalars m [] is = refl
spaced_scalars m (c ∷ cs) is = and_from (scalar (as_space m c)) (scalars (map (as_space m) cs)) (one (c == 9) (joins_lines m && c == 10)) (spaced_scalars m cs parts.1)
  where
    parts : (scalar c ≡ true) × (scalars cs ≡ true)
    parts = and_parts (scalar c) (scalars cs) is

    one : (p q : Bool) → scalar (if p then 32 else (if q then 32 else c)) ≡ true
    one true q = refl
    one false true = refl
    one false false = parts.0

squeezed_scalars : (a : Bool) (cs : List ℕ) → scalars cs ≡ true → scalars (squeeze a cs) ≡ true
squeezed_scalars a [] is = refl
squeezed_scalars a (c ∷ cs) is =
    let parts = and_parts (scalar c) (scalars cs) is in
    one (a && c == 32) parts.0 (squeezed_scalars a cs parts.1) (squeezed_scalars (c == 32) cs parts.1)
  where
    one : (k : Bool) → scalar c ≡ true → scalars (squeeze a cs) ≡ true → scalars (squeeze (c == 32) cs) ≡ true → scalars (if k then squeeze a cs else (c ∷ squeeze (c == 32) cs)) ≡ true
    one true own rest behind = rest
    one false own rest behind = and_from (scalar c) (scalars (squeeze (c == 32) cs)) own behind

left_chars : (m : Mode) (a : Bool) (text : List ℕ) → IsUtf8 text → chars (encode_utf8_all (left_over m false a (chars text))) ≡ left_over m false a (chars text)
left_chars m a text utf8 =
    chars-encodes (left_over m false a (chars text))
    (squeezed_scalars a (map (as_space m) (strip false (chars text))) (spaced_scalars m (strip false (chars text)) (strip_scalars false (chars text) (scalars-chars text utf8))))

abbrev pub TextSame : Bool → Bool → Mode → List ℕ → Type 0
TextSame a b m text = Same b (chars (text_left a m text)) (chars text) × (space_after a m text ≡ true → ends_in_white b (chars text) ≡ true)

kept_before : (a b : Bool) (text : List ℕ) → (a ≡ true → b ≡ true) → (a && length text == 0) ≡ true → ends_in_white b (chars text) ≡ true
kept_before a b [] before e = ap (ends_in_white b) chars-nil ∙ before ((and_parts a (length {A = ℕ} [] == 0) e).0)
kept_before a b (c ∷ cs) before e =
    let none : length (c ∷ cs) ≡ 0 = eqb-true (length (c ∷ cs)) 0 (and_parts a (length (c ∷ cs) == 0) e).1 in
    absurd (omega (arith, none))

text_same : (a b : Bool) (m : Mode) (text : List ℕ) → IsUtf8 text → (a ≡ true → b ≡ true) → TextSame a b m text
text_same a b m text utf8 before = one (collapses m)
  where
    left : List ℕ
    left = left_over m false a (chars text)

    here : Same b left (chars text)
    here = left_same m (chars text) false a b before (λ e. absurd (true≢false (sym e)))

    one : (c : Bool)
        → (Same b (chars (if c then encode_utf8_all left else text)) (chars text)) × ((if c then ends_in_space a left else (a && length text == 0)) ≡ true → ends_in_white b (chars text) ≡ true)
    one true = (subst (λ cs. Same b cs (chars text)) (sym (left_chars m a text utf8)) here, (λ e. sym here.ends ∙ ends_white a b left before e))
    one false = (record { words = refl; ends = refl }, kept_before a b text before)

only_white : (a b : Bool) (items : List Item) → AreUtf8 items → (a ≡ true → b ≡ true) → with_words b (processed a items) ≡ with_words b items
only_white a b [] utf8 before = refl
only_white a b (Text node text m widths ∷ xs) utf8 before =
    let one = text_same a b m text utf8.0 before in
    ap (λ ws. Text node ws m [] ∷ with_words (ends_in_white b (chars (text_left a m text))) (processed (space_after a m text) xs)) one.0.words
    ∙ ap (λ v. Text node (words b (chars text)) m [] ∷ with_words v (processed (space_after a m text) xs)) one.0.ends
    ∙ ap (λ ys. Text node (words b (chars text)) m [] ∷ ys) (only_white (space_after a m text) (ends_in_white b (chars text)) xs utf8.1 one.1)
only_white a b (Atomic n m ∷ xs) utf8 before = ap (λ ys. Atomic n m ∷ ys) (only_white false false xs utf8 (λ e. e))
only_white a b (Start n takes ∷ xs) utf8 before = ap (λ ys. Start n takes ∷ ys) (only_white a b xs utf8 before)
only_white a b (End n ∷ xs) utf8 before = ap (λ ys. End n ∷ ys) (only_white a b xs utf8 before)
only_white a b (Float n ∷ xs) utf8 before = ap (λ ys. Float n ∷ ys) (only_white a b xs utf8 before)
only_white a b (Anchor n ∷ xs) utf8 before = ap (λ ys. Anchor n ∷ ys) (only_white a b xs utf8 before)

pub only_white_space_goes_lem : OnlyWhiteSpaceGoes
only_white_space_goes_lem items utf8 = only_white false false items utf8 (λ e. e)

-- No linefeed is left where lines are joined.
no_linefeed_one : (c : ℕ) → (if c == 9 then 32 else (if true && c == 10 then 32 else c)) ≢ 10
no_linefeed_one c e = one (c == 9) (c == 10) refl e
  where
    one : (p q : Bool) → (c == 10) ≡ q → (if p then 32 else (if true && q then 32 else c)) ≡ 10 → ⊥
    one true q is e = absurd (omega (arith, e))
    one false true is e = absurd (omega (arith, e))
    one false false is e = true≢false (sym (eq-eqb c 10 e) ∙ is)

joined_no_linefeed : (m : Mode) → joins_lines m ≡ true → (c : ℕ) → as_space m c ≢ 10
joined_no_linefeed m joins c = subst (λ j. (if c == 9 then 32 else (if j && c == 10 then 32 else c)) ≢ 10) (sym joins) (no_linefeed_one c)

squeezed_no_linefeed : (m : Mode) → joins_lines m ≡ true → (a : Bool) (cs : List ℕ) → HasNoLinefeed (squeeze a (map (as_space m) cs))
squeezed_no_linefeed m joins a [] = tt
squeezed_no_linefeed m joins a (c ∷ cs) =
    one (a && as_space m c == 32) (squeezed_no_linefeed m joins a cs) (joined_no_linefeed m joins c, squeezed_no_linefeed m joins (as_space m c == 32) cs)
  where
    one : (k : Bool) → HasNoLinefeed (squeeze a (map (as_space m) cs)) → HasNoLinefeed (as_space m c ∷ squeeze (as_space m c == 32) (map (as_space m) cs))
        → HasNoLinefeed (if k then squeeze a (map (as_space m) cs) else (as_space m c ∷ squeeze (as_space m c == 32) (map (as_space m) cs)))
    one true rest own = rest
    one false rest own = own

joins_collapses : (m : Mode) → joins_lines m ≡ true → collapses m ≡ true
joins_collapses Normal e = refl
joins_collapses Pre e = absurd (true≢false (sym e))
joins_collapses NoWrap e = refl
joins_collapses PreWrap e = absurd (true≢false (sym e))
joins_collapses PreLine e = absurd (true≢false (sym e))

-- the characters and the space behind what is left of a text
left_of : (m : Mode) (a : Bool) (text : List ℕ) → IsUtf8 text → (collapses m ≡ true → chars (text_left a m text) ≡ left_over m false a (chars text))
left_of m a text utf8 c = ap (λ k. chars (if k then encode_utf8_all (left_over m false a (chars text)) else text)) c ∙ left_chars m a text utf8

collapsed_text : (m : Mode) (a : Bool) (text : List ℕ) → IsUtf8 text → IsCollapsedText a m (chars (text_left a m text))
collapsed_text m a text utf8 = (
  (λ c. subst (IsSpaceCollapsed a) (sym (left_of m a text utf8 c)) (no_space_after_space_lem m false a (chars text))),
  (λ j. subst HasNoLinefeed (sym (left_of m a text utf8 (joins_collapses m j))) (squeezed_no_linefeed m j a (strip false (chars text)))),
)

ends_same : (m : Mode) (a : Bool) (text : List ℕ) → IsUtf8 text → ends_in_collapsible a m (text_left a m text) ≡ space_after a m text
ends_same m a text utf8 = one (collapses m)
  where
    left : List ℕ
    left = left_over m false a (chars text)

    one : (c : Bool)
        → (if c then ends_in_space a (chars (if c then encode_utf8_all left else text)) else (a && length (if c then encode_utf8_all left else text) == 0))
        ≡ (if c then ends_in_space a left else (a && length text == 0))
    one true = ap (ends_in_space a) (left_chars m a text utf8)
    one false = refl

collapsed_content : (a : Bool) (items : List Item) → AreUtf8 items → IsCollapsedContent a (processed a items)
collapsed_content a [] utf8 = tt
collapsed_content a (Text node text m widths ∷ xs) utf8 = (
  collapsed_text m a text utf8.0,
  subst (λ s. IsCollapsedContent s (processed (space_after a m text) xs)) (sym (ends_same m a text utf8.0)) (collapsed_content (space_after a m text) xs utf8.1),
)
collapsed_content a (Atomic n m ∷ xs) utf8 = collapsed_content false xs utf8
collapsed_content a (Start n takes ∷ xs) utf8 = collapsed_content a xs utf8
collapsed_content a (End n ∷ xs) utf8 = collapsed_content a xs utf8
collapsed_content a (Float n ∷ xs) utf8 = collapsed_content a xs utf8
collapsed_content a (Anchor n ∷ xs) utf8 = collapsed_content a xs utf8

pub content_collapses_lem : ContentCollapses
content_collapses_lem items utf8 = collapsed_content false items utf8
