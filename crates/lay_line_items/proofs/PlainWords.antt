-- The words and spaces of a text of ASCII.
use Rattle.std.proofs.Common.{◌≡◌, ◌≢◌, ◌∙◌, ℕ, ◌+◌, ◌*◌, ◌^◌, ◌<◌, ◌≤◌, ◌==◌, nat_lt, not, ◌&&◌, ◌||◌, subst, pos, negsuc, neg_ℤ, ◌≤ℤ◌, Bool, true, false, if◌then◌else◌, List, [], ◌∷◌, ◌++◌, length, drop, append-nil, append_assoc, slice_index, ◌+ℤ◌, Option, None, Some, option_to_list, refl, sym, ap, arith, ℤ}
use Rattle.std.proofs.lemmas.Bool.{and_parts, eq-eqb, lt-ltb, ltb-false, ltb-true, ne_eqb, not-true as isnt, or_parts, both_ways}
use Rattle.std.proofs.lemmas.Int.{ints}
use Rattle.std.proofs.lemmas.List.{at_drop_more, drop_all, length-drop}
use Rattle.lay_units.specs.declared.records.ClusterWidth.{ClusterWidth}
use Rattle.lay_units.specs.declared.length.Unit.{Unit}
use Rattle.lay_face.specs.FaceValue.{FaceValue}
use Rattle.lay_face.specs.declared.clusters.Setting.{Setting}
use Rattle.lay_face.specs.Clusters.{widths_of}
use Rattle.lay_face.specs.PlainTexts.{IsNear, IsPlain, plain_width_of, plain_widths}
use Rattle.lay_line_items.proofs.Cited.{plain_widths_are}
use Rattle.lay_space.specs.CleanTexts.{IsClean}
use Rattle.lay_space.specs.declared.item.Mode.TheVariants.{Pre}
use Rattle.lay_space.specs.declared.tokens.ClusterKind.TheVariants.{Linefeed, Tab, Other}
use Rattle.lay_space.specs.Tokens.{next_place, space_kind}
use Rattle.lay_line_items.specs.GatheredWidths.{gathered, gathered_after, joins_cluster, with_cluster, stands_alone, is_more, is_small}
use Rattle.lay_line_items.specs.PlainWords.{is_in_word, parts_words}

same_place : (k : ℕ) → (k + 1 == k + 1) ≡ true
same_place k = eq-eqb (k + 1) (k + 1) refl

by_byte : (space feed tab : Bool) → is_more (if space then space_kind Pre else (if feed then Linefeed else (if tab then Tab else Other))) ≡ (space || feed || tab)
by_byte true feed tab = refl
by_byte false true tab = refl
by_byte false false true = refl
by_byte false false false = refl

no_pair : (feed b : Bool) → (feed || (false && b)) ≡ feed
no_pair true b = refl
no_pair false b = refl

alone_is : (text : List ℕ) (k : ℕ) → stands_alone text k (k + 1) ≡ parts_words (slice_index text k)
alone_is text k =
    rw (same_place k, ne_eqb (k + 1) (k + 2) (omega arith), ne_eqb (k + 1) (k + 3) (omega arith), no_pair (slice_index text k == 10) (slice_index text k == 13 && slice_index text (k + 1) == 10))
    (by_byte (slice_index text k == 32) (slice_index text k == 10) (slice_index text k == 9))

next_is : (face : FaceValue) (s : Setting) (text bs : List ℕ) (n : ℕ) → length text ≡ n + length bs → next_place text (plain_widths face s n bs) ≡ n
next_is face s text [] n e = omega (arith, e)
next_is face s text (b ∷ bs) n e = refl

-- the width of the byte at a place
abbrev pub width_at : FaceValue → Setting → List ℕ → ℕ → ClusterWidth
width_at face s text k = record { place = k; width = record { 0 = plain_width_of face s (slice_index text k) } }

-- what is gathered of the bytes from a place on
abbrev pub gathered_from : FaceValue → Setting → List ℕ → Option ClusterWidth → ℕ → List ClusterWidth
gathered_from face s text before k = gathered_after text before (plain_widths face s k (drop k text))

pub gathered_step : (face : FaceValue) (s : Setting) (text : List ℕ) (before : Option ClusterWidth) (k : ℕ) → k < length text
    → gathered_from face s text before k
    ≡ (if parts_words (slice_index text k) then option_to_list before ++ width_at face s text k ∷ gathered_from face s text None (k + 1)
    else (if joins_cluster before (width_at face s text k) then gathered_from face s text (Some (with_cluster before (width_at face s text k))) (k + 1)
    else option_to_list before ++ gathered_from face s text (Some (width_at face s text k)) (k + 1)))
gathered_step face s text before k below =
    at_drop_more (λ bs. gathered_after text before (plain_widths face s k bs)) text k 0 below
    ∙ rw (next_is face s text (drop (k + 1) text) (k + 1) (omega (arith, length-drop (k + 1) text, below)), alone_is text k) refl

-- a space, a tab or a linefeed
pub space_stands : (face : FaceValue) (s : Setting) (text : List ℕ) (k : ℕ) (w : Unit) → k < length text → w.0 ≡ plain_width_of face s (slice_index text k)
    → parts_words (slice_index text k) ≡ true → gathered_from face s text None k ≡ record { place = k; width = w } ∷ gathered_from face s text None (k + 1)
space_stands face s text k w below is parts =
    gathered_step face s text None k below ∙ rw parts (ap (λ (n : ℤ). record { place = k; width = record { 0 = n } } ∷ gathered_from face s text None (k + 1)) (sym is))

-- a word
pub word_begins : (face : FaceValue) (s : Setting) (text : List ℕ) (k : ℕ) (w : Unit) → k < length text → w.0 ≡ plain_width_of face s (slice_index text k)
    → parts_words (slice_index text k) ≡ false → gathered_from face s text None k ≡ gathered_from face s text (Some (record { place = k; width = w })) (k + 1)
word_begins face s text k w below is parts =
    gathered_step face s text None k below ∙ rw parts (ap (λ (n : ℤ). gathered_from face s text (Some (record { place = k; width = record { 0 = n } })) (k + 1)) (sym is))

pub word_more : (face : FaceValue) (s : Setting) (text : List ℕ) (place : ℕ) (v : Unit) (k : ℕ) (next sum : Unit) → k < length text → next.0 ≡ plain_width_of face s (slice_index text k)
    → parts_words (slice_index text k) ≡ false → (is_small v.0 && is_small next.0) ≡ true → sum.0 ≡ v.0 +ℤ next.0
    → gathered_from face s text (Some (record { place = place; width = v })) k ≡ gathered_from face s text (Some (record { place = place; width = sum })) (k + 1)
word_more face s text place v k next sum below is parts small adds =
    let fits : (is_small v.0 && is_small (plain_width_of face s (slice_index text k))) ≡ true = ap (λ n. is_small v.0 && is_small n) (sym is) ∙ small in
    gathered_step face s text (Some (record { place = place; width = v })) k below
    ∙ rw (parts, fits) (ap (λ (n : ℤ). gathered_from face s text (Some (record { place = place; width = record { 0 = n } })) (k + 1)) (ap (λ n. v.0 +ℤ n) (sym is) ∙ sym adds))

-- a word ends before what stands alone
word_stops : (face : FaceValue) (s : Setting) (text : List ℕ) (v : ClusterWidth) (k : ℕ) → k < length text → parts_words (slice_index text k) ≡ true
    → gathered_from face s text (Some v) k ≡ v ∷ gathered_from face s text None k
word_stops face s text v k below parts =
    let again : gathered_from face s text None k ≡ width_at face s text k ∷ gathered_from face s text None (k + 1) = gathered_step face s text None k below ∙ rw parts refl in
    gathered_step face s text (Some v) k below ∙ rw parts (ap (λ ws. v ∷ ws) (sym again))

-- or at the end of the text
word_ends : (face : FaceValue) (s : Setting) (text : List ℕ) (v : ClusterWidth) (k : ℕ) → length text ≤ k → gathered_from face s text (Some v) k ≡ v ∷ gathered_from face s text None k
word_ends face s text v k end = rw (drop_all k text (omega (arith, end))) refl

pub word_over : (face : FaceValue) (s : Setting) (text : List ℕ) (v : ClusterWidth) (k : ℕ) → (k < length text → parts_words (slice_index text k) ≡ true)
    → gathered_from face s text (Some v) k ≡ v ∷ gathered_from face s text None k
word_over face s text v k parts = by (nat_lt k (length text)) refl
  where
    by : (t : Bool) → nat_lt k (length text) ≡ t → gathered_from face s text (Some v) k ≡ v ∷ gathered_from face s text None k
    by true e = let below = ltb-true k (length text) e in word_stops face s text v k below (parts below)
    by false e = word_ends face s text v k (ltb-false k (length text) e)

pub all_gathered : (face : FaceValue) (s : Setting) (text : List ℕ) (out : List ClusterWidth) (k : ℕ) → IsPlain text → length text ≤ k
    → out ++ gathered_from face s text None k ≡ gathered text (plain_widths face s 0 text) → out ≡ gathered text (widths_of face s text)
all_gathered face s text out k plain end is =
    sym (append-nil out) ∙ ap (λ bs. out ++ gathered_after text None (plain_widths face s k bs)) (sym (drop_all k text (omega (arith, end)))) ∙ is
    ∙ ap (gathered text) (plain_widths_are face s text plain)

differs : (a b : ℕ) → (a == b) ≡ false → a ≢ b
differs a b other same = both_ways (a == b) other (eq-eqb a b same)

-- a character of a word
pub in_word : (b : ℕ) → is_in_word b ≡ true → (b < 128) × (parts_words b ≡ false) × (b ≢ 13)
in_word b is =
    let last = and_parts (nat_lt b 128 && not (parts_words b)) (not (b == 13)) is in
    let first = and_parts (nat_lt b 128) (not (parts_words b)) last.0 in
    (ltb-true b 128 first.0, isnt (parts_words b) first.1, differs b 13 (isnt (b == 13) last.1))

pub letter : (b : ℕ) → is_in_word b ≡ true → (b ≢ 32) × (b ≢ 10)
letter b is =
    let own = in_word b is in
    let first = or_parts (b == 32) (b == 10) (or_parts (b == 32 || b == 10) (b == 9) own.1).0 in
    (differs b 32 first.0, differs b 10 first.1)

-- what is no character of a word of a plain text
pub between_words : (b : ℕ) → b < 128 → b ≢ 13 → is_in_word b ≡ false → parts_words b ≡ true
between_words b below other is = by (parts_words b) (sym (rw (lt-ltb b 128 below, ne_eqb b 13 other) refl) ∙ is)
  where
    by : (p : Bool) → (true && not p && true) ≡ false → p ≡ true
    by true e = refl
    by false e = absurd cc

-- a text that is clean from behind a character of a word on is so from there on
pub clean_word : (text : List ℕ) (k : ℕ) (before : Bool) → k < length text → is_in_word (slice_index text k) ≡ true → IsClean false (drop (k + 1) text) → IsClean before (drop k text)
clean_word text k before below is rest =
    let b = slice_index text k in
    let own = in_word b is in
    let parts = or_parts (b == 32 || b == 10) (b == 9) own.1 in
    let first = or_parts (b == 32) (b == 10) parts.0 in
    subst (IsClean before) (sym (at_drop_more (λ bs. bs) text k 0 below))
    (own.0, differs b 9 parts.1, differs b 10 first.1, own.2, (λ e. differs b 32 first.0), subst (λ t. IsClean t (drop (k + 1) text)) (sym first.0) rest)

-- or from behind a space on, where no space is before it
pub clean_space : (text : List ℕ) (k : ℕ) → k < length text → slice_index text k ≡ 32 → IsClean true (drop (k + 1) text) → IsClean false (drop k text)
clean_space text k below is rest =
    let b = slice_index text k in
    let same : (b == 32) ≡ true = eq-eqb b 32 is in
    subst (IsClean false) (sym (at_drop_more (λ bs. bs) text k 0 below))
    (omega (arith, is), omega (arith, is), omega (arith, is), omega (arith, is), (λ e. absurd cc), subst (λ t. IsClean t (drop (k + 1) text)) (sym same) rest)

-- and so is nothing
pub clean_end : (text : List ℕ) (k : ℕ) (before : Bool) → length text ≤ k → IsClean before (drop k text)
clean_end text k before end = subst (IsClean before) (sym (drop_all k text (omega (arith, end)))) tt

pub clean_plain : (before : Bool) (bs : List ℕ) → IsClean before bs → IsPlain bs
clean_plain before [] is = tt
clean_plain before (b ∷ bs) is = (is.0, is.3, clean_plain (b == 32) bs is.5)

-- at most 2^36 from 0 for each of n
abbrev pub WithinLetters : ℕ → ℤ → Type 0
WithinLetters n v = (neg_ℤ (pos (68719476736 * n)) ≤ℤ v) × (v ≤ℤ pos (68719476736 * n))

small_within : (n : ℕ) (v : ℤ) → n ≤ 1048576 → WithinLetters n v → is_small v ≡ true
small_within n (pos a) few is = lt-ltb a (2 ^ 61) (omega (arith, ints, few, is.1))
small_within n (negsuc a) few is = lt-ltb a (2 ^ 61) (omega (arith, ints, few, is.0))

-- the width of so few letters and that of one more are added up
pub small_both : (n : ℕ) (v w : ℤ) → n ≤ 1048576 → WithinLetters n v → IsNear w → (is_small v && is_small w) ≡ true
small_both n v w few is near = rw (small_within n v few is, small_within 1 w (omega arith) (omega (arith, ints, near.0), omega (arith, ints, near.1))) refl

pub space_parts : (b : ℕ) → b ≡ 32 → parts_words b ≡ true
space_parts b is = rw (eq-eqb b 32 is) refl

-- a cluster that stands alone is put behind what is gathered before it
pub put_alone : (out mid new rest : List ClusterWidth) (before : Option ClusterWidth) (w : ClusterWidth) (b : Bool) (other : List ClusterWidth) → b ≡ true → mid ≡ out ++ option_to_list before → new ≡ mid ++ w ∷ []
    → out ++ (if b then option_to_list before ++ w ∷ rest else other) ≡ new ++ rest
put_alone out mid new rest before w b other is first last =
    rw is (sym (ap (λ xs. xs ++ rest) (last ∙ ap (λ xs. xs ++ w ∷ []) first) ∙ append_assoc (out ++ option_to_list before) (w ∷ []) rest ∙ append_assoc out (option_to_list before) (w ∷ rest)))
