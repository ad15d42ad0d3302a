-- In a text of ASCII without CR each byte is a grapheme cluster.
use Rattle.std.proofs.Common.{append-nil, drop, subst, ◌≤◌, ◌≡◌, ◌≢◌, ℕ, zero, suc, ◌+◌, ◌<◌, ◌==◌, ◌||◌, ◌⊎◌, inl, inr, Bool, true, false, if◌then◌else◌, List, [], ◌∷◌, ◌++◌, Option, Some, unwrap_or, length, map, refl, sym, ap, ◌∙◌, arith, chars, encode_utf8_all, ◌+ℤ◌, ℤ, pos}
use Rattle.std.specs.Str.{IsAscii}
use Rattle.std.proofs.lemmas.Bool.{ne_eqb}
use Rattle.std.proofs.lemmas.Int.{ints}
use Rattle.std.proofs.lemmas.Str.{encode_ascii, chars-nil, chars_past_char, IsUtf8-from_ascii}
use Rattle.std.proofs.lemmas.Str.Ascii.{IsAscii-nil, IsAscii-cons}
use Rattle.std.proofs.Math.ListN.{get_or}
use Rattle.std.proofs.lemmas.List.{drop_all, at_drop_more}
use Rattle.std.proofs.lemmas.List.Elements.{All-head, All-tail}
use Rattle.std.specs.Prelude.{All}
use Rattle.lay_units.specs.Units.{IsPosition}
use Rattle.lay_face.proofs.ClusterSums.{all_next}
use Rattle.ucd_table.proofs.Facts.{Stepped-below}
use Rattle.ucd_breaks.specs.GraphemeClusterBreak.{grapheme_cluster_break}
use Rattle.ucd_breaks.specs.declared.GraphemeClusterBreak.{GraphemeClusterBreak}
use Rattle.ucd_breaks.specs.declared.GraphemeClusterBreak.TheVariants.{Control, Lf, Other}
use Rattle.ucd_breaks.proofs.Computing.{ucd_breaks}
use Rattle.ucd_breaks.proofs.GraphemeClusterBreakLemmas.{grapheme_cluster_break_stepped}
use Rattle.unicode_segmentation.specs.Grapheme.{graphemes, break_by_pair, is_grapheme_break}
use Rattle.unicode_segmentation.specs.Segments.{cut, segments}
use Rattle.unicode_segmentation.proofs.GraphemeLemmas.{is_grapheme_break-inside, is_grapheme_break-others}
use Rattle.lay_units.specs.declared.records.ClusterWidth.{ClusterWidth}
use Rattle.lay_face.specs.FaceValue.{FaceValue}
use Rattle.lay_face.specs.declared.clusters.Setting.{Setting}
use Rattle.lay_face.specs.Clusters.{chars_width, cluster_width, placed_widths, widths_of}
use Rattle.lay_face.specs.PlainTexts.{IsPlain, plain_width_of, plain_widths}

-- the classes of ASCII without CR
abbrev pub is_calm : GraphemeClusterBreak → Bool
is_calm Control = true
is_calm Lf = true
is_calm Other = true
is_calm _ = false

calm_or_cr : (c : ℕ) → c < 128 → (c == 13 || is_calm (grapheme_cluster_break c)) ≡ true
unfolding ucd_breaks
calm_or_cr = Stepped-below grapheme_cluster_break grapheme_cluster_break_stepped (λ x v. x == 13 || is_calm v) 128 refl

calm : (c : ℕ) → c < 128 → c ≢ 13 → is_calm (grapheme_cluster_break c) ≡ true
calm c below other = let no : (c == 13) ≡ false = ne_eqb c 13 other in sym (ap (λ b. b || is_calm (grapheme_cluster_break c)) no) ∙ calm_or_cr c below

calm_pair : (l r : GraphemeClusterBreak) → is_calm l ≡ true → is_calm r ≡ true → (break_by_pair true l r ≡ Some true) ⊎ ((l ≡ Other) × (r ≡ Other))
calm_pair Control r a b = inl refl
calm_pair Lf r a b = inl refl
calm_pair Other Control a b = inl refl
calm_pair Other Lf a b = inl refl
calm_pair Other Other a b = inr (refl, refl)
calm_pair Other _ a b = absurd cc
calm_pair _ r a b = absurd cc

decided : (whole x : Bool) (o : Option Bool) → whole ≡ unwrap_or o x → o ≡ Some true → whole ≡ true
decided whole x o is e = is ∙ ap (λ p. unwrap_or p x) e

breaks_inside : (last next : ℕ) (before after : List ℕ) → last < 128 → last ≢ 13 → next < 128 → next ≢ 13 → is_grapheme_break true (last ∷ before) (next ∷ after) ≡ true
breaks_inside last next before after a b c d =
    elim (calm_pair (grapheme_cluster_break last) (grapheme_cluster_break next) (calm last a b) (calm next c d)) [
      | inl e ↦ decided _ _ _ (is_grapheme_break-inside true (last ∷ before) next after (omega arith)) e
      | inr both ↦ sym (is_grapheme_break-others true (last ∷ before) next after (omega arith) (omega (arith, c)) (sym both.0) (sym both.1))
    ]

breaks_at_end : (last : ℕ) (before : List ℕ) → is_grapheme_break true (last ∷ before) [] ≡ true
unfolding is_grapheme_break
breaks_at_end last before = refl

breaks_after : (last : ℕ) (before cs : List ℕ) → last < 128 → last ≢ 13 → IsPlain cs → is_grapheme_break true (last ∷ before) (cs ++ []) ≡ true
breaks_after last before [] a b is = breaks_at_end last before
breaks_after last before (next ∷ cs) a b is = breaks_inside last next before (cs ++ []) a b is.0 is.1

-- each byte by itself
abbrev pub singles : List ℕ → List (List ℕ)
singles [] = []
singles (b ∷ bs) = (b ∷ []) ∷ singles bs

cut_plain : (before cs : List ℕ) → IsPlain cs → cut (is_grapheme_break true) before cs [] ≡ singles cs
unfolding cut
cut_plain before [] is = refl
cut_plain before (c ∷ cs) is = rw (breaks_after c before cs is.0 is.1 is.2, cut_plain (c ∷ before) cs is.2) refl

encode_singles : (cs : List ℕ) → IsPlain cs → map encode_utf8_all (singles cs) ≡ singles cs
encode_singles [] is = refl
encode_singles (c ∷ cs) is = rw (encode_ascii c is.0, encode_singles cs is.2) refl

plain_ascii : (bs : List ℕ) → IsPlain bs → IsAscii bs
plain_ascii [] is = IsAscii-nil
plain_ascii (b ∷ bs) is = IsAscii-cons b bs is.0 (plain_ascii bs is.2)

pub plain_chars : (bs : List ℕ) → IsPlain bs → chars bs ≡ bs
plain_chars [] is = chars-nil
plain_chars (b ∷ bs) is =
    chars_past_char (b ∷ bs) bs b (IsUtf8-from_ascii (b ∷ bs) (plain_ascii (b ∷ bs) is)) (ap (λ e. e ++ bs) (sym (encode_ascii b is.0))) ∙ ap (λ cs. b ∷ cs) (plain_chars bs is.2)

pub plain_graphemes : (text : List ℕ) → IsPlain text → graphemes true text ≡ singles text
unfolding segments
plain_graphemes text is =
    ap (λ cs. map encode_utf8_all (cut (is_grapheme_break true) [] cs [])) (plain_chars text is)
    ∙ ap (map encode_utf8_all) (cut_plain [] text is) ∙ encode_singles text is

one_byte : (face : FaceValue) (s : Setting) (b : ℕ) → b < 128 → b ≢ 13 → cluster_width face s (b ∷ []) ≡ plain_width_of face s b
one_byte face s b below other =
    ap (λ cs. chars_width face s cs +ℤ (if b == 10 then pos 0 else s.letter.0)) (plain_chars (b ∷ []) (below, other, tt)) ∙ measured (b == 10) _ s.letter.0
  where
    measured : (feed : Bool) (w l : ℤ) → ((if feed then pos 0 else w) +ℤ pos 0) +ℤ (if feed then pos 0 else l) ≡ (if feed then pos 0 else (if feed then pos 0 else w) +ℤ l)
    measured true w l = refl
    measured false w l = omega (arith, ints)

singles_widths : (face : FaceValue) (s : Setting) (k : ℕ) (bs : List ℕ) → IsPlain bs → plain_widths face s k bs ≡ placed_widths face s k (singles bs)
singles_widths face s k [] is = refl
singles_widths face s k (b ∷ bs) is = rw (one_byte face s b is.0 is.1, singles_widths face s (k + 1) bs is.2) refl

pub plain_widths_are : (face : FaceValue) (s : Setting) (text : List ℕ) → IsPlain text → plain_widths face s 0 text ≡ widths_of face s text
plain_widths_are face s text is = singles_widths face s 0 text is ∙ ap (placed_widths face s 0) (sym (plain_graphemes text is))

pub plain_end : (face : FaceValue) (s : Setting) (out : List ClusterWidth) (k : ℕ) (text : List ℕ) → length text ≤ k → IsPlain text → out ++ plain_widths face s k (drop k text) ≡ plain_widths face s 0 text
    → out ≡ widths_of face s text
plain_end face s out k text end plain is =
    sym (append-nil out) ∙ ap (λ bs. out ++ plain_widths face s k bs) (sym (drop_all k text (omega (arith, end)))) ∙ is ∙ plain_widths_are face s text plain

-- the width of the byte at a place of a plain text
pub plain_next : (face : FaceValue) (s : Setting) (out : List ClusterWidth) (k : ℕ) (text : List ℕ) (d : ℕ) → k < length text → IsPlain text
    → out ++ plain_widths face s k (drop k text) ≡ plain_widths face s 0 text → All (λ (w : ClusterWidth). IsPosition w.width.0) (widths_of face s text)
    → IsPosition (plain_width_of face s (get_or text k d))
plain_next face s out k text d below plain is fits =
    all_next (λ (w : ClusterWidth). IsPosition w.width.0) out _ _ _ (sym (at_drop_more (λ bs. out ++ plain_widths face s k bs) text k d below) ∙ is ∙ plain_widths_are face s text plain) fits

-- each byte of a plain text is plain
pub plain_at : (text : List ℕ) (k d : ℕ) → k < length text → IsPlain text → (get_or text k d < 128) × (get_or text k d ≢ 13)
plain_at [] k d below is = absurd (omega (arith, below))
plain_at (b ∷ bs) zero d below is = (is.0, is.1)
plain_at (b ∷ bs) (suc k) d below is = plain_at bs k d (omega (arith, below)) is.2

fits_at : (face : FaceValue) (s : Setting) (place : ℕ) (text : List ℕ) (k d : ℕ) → k < length text → All (λ (w : ClusterWidth). IsPosition w.width.0) (plain_widths face s place text)
    → IsPosition (plain_width_of face s (get_or text k d))
fits_at face s place [] k d below fits = absurd (omega (arith, below))
fits_at face s place (b ∷ bs) zero d below fits = All-head (λ (w : ClusterWidth). IsPosition w.width.0) _ _ fits
fits_at face s place (b ∷ bs) (suc k) d below fits = fits_at face s (place + 1) bs k d (omega (arith, below)) (All-tail (λ (w : ClusterWidth). IsPosition w.width.0) _ _ fits)

-- so is each of its widths within the bounds
pub plain_fits_at : (face : FaceValue) (s : Setting) (text : List ℕ) (k d : ℕ) → k < length text → IsPlain text → All (λ (w : ClusterWidth). IsPosition w.width.0) (widths_of face s text)
    → IsPosition (plain_width_of face s (get_or text k d))
plain_fits_at face s text k d below plain fits =
    fits_at face s 0 text k d below (subst (All (λ (w : ClusterWidth). IsPosition w.width.0)) (sym (plain_widths_are face s text plain)) fits)
