-- Widths of texts that are set in used lengths.
use Rattle.std.proofs.Common.{◌≡◌, ◌==◌, ℕ, ◌+◌, ◌*◌, ◌≤◌, Bool, true, false, if◌then◌else◌, ℤ, pos, neg_ℤ, ◌+ℤ◌, ◌≤ℤ◌, List, [], ◌∷◌, ◌++◌, length, map, ap, sym, arith, refl, subst, append_assoc, length-append, encode_utf8_all}
use Rattle.std.specs.Prelude.{All}
use Rattle.std.specs.Str.{IsUtf8, chars}
use Rattle.std.specs.List.{concat}
use lib.Utf8.{encode}
use Rattle.std.proofs.lemmas.Int.{ints}
use Rattle.std.proofs.lemmas.List.{take_at}
use Rattle.std.proofs.lemmas.List.Elements.{All-nil, All-cons}
use Rattle.std.proofs.lemmas.Str.{IsUtf8-past_char, IsUtf8-take, IsCharBoundary-at_seam, encodes-chars, length-le-encodes}
use Rattle.lay_units.specs.Units.{IsPosition, IsUsed}
use Rattle.lay_units.specs.declared.records.ClusterWidth.{ClusterWidth}
use Rattle.unicode_segmentation.specs.Grapheme.{graphemes, is_grapheme_break}
use Rattle.unicode_segmentation.specs.Segments.{cut, segments}
use Rattle.unicode_segmentation.proofs.SegmentsLemmas.{concat-segments}
use Rattle.lay_face.specs.FaceValue.{FaceValue}
use Rattle.lay_face.specs.Faces.{IsInRange, entry_of}
use Rattle.lay_face.specs.declared.clusters.Setting.{Setting}
use Rattle.lay_face.specs.Clusters.{IsUsedSetting, is_word_space, char_width, chars_width, is_linefeed_cluster, cluster_width, placed_widths, widths_of, WidthsFit}
use Rattle.lay_face.proofs.Measures.{measure_within, fits_lem}

-- at most 2^35 from 0 for each of n
abbrev pub WithinChars : ℕ → ℤ → Type 0
WithinChars n v = (neg_ℤ (pos (34359738368 * n)) ≤ℤ v) × (v ≤ℤ pos (34359738368 * n))

chosen : (b : Bool) (v w : ℤ) → WithinChars 1 v → WithinChars 1 w → WithinChars 1 (if b then v else w)
chosen true v w a c = a
chosen false v w a c = c

spaced : (b : Bool) (v w : ℤ) → neg_ℤ (pos 21474836480) ≤ℤ v → v ≤ℤ pos 21474836480 → IsUsed w → WithinChars 1 (v +ℤ (if b then w else pos 0))
spaced true v w low high used = (omega (arith, ints, low, used.0), omega (arith, ints, high, used.1))
spaced false v w low high used = (omega (arith, ints, low), omega (arith, ints, high))

char_within : (face : FaceValue) (s : Setting) (c : ℕ) → IsInRange face → IsUsedSetting s → WithinChars 1 (char_width face s c)
char_within face s c is used =
    let advance = measure_within (entry_of face c) s.size.0 (is.advances c) used.size in
    chosen (c == 10) _ _ (omega (arith, ints), omega (arith, ints)) (spaced (is_word_space c) _ s.word.0 advance.0 advance.1 used.word)

chars_within : (face : FaceValue) (s : Setting) (cs : List ℕ) → IsInRange face → IsUsedSetting s → WithinChars (length cs) (chars_width face s cs)
chars_within face s [] is used = (omega (arith, ints), omega (arith, ints))
chars_within face s (c ∷ cs) is used =
    let one = char_within face s c is used in
    let more = chars_within face s cs is used in (omega (arith, ints, one.0, more.0), omega (arith, ints, one.1, more.1))

spacing_within : (b : Bool) (w : ℤ) → IsUsed w → IsUsed (if b then pos 0 else w)
spacing_within true w used = (omega (arith, ints), omega (arith, ints))
spacing_within false w used = used

few_chars : (bs : List ℕ) → IsUtf8 bs → length (chars bs) ≤ length bs
few_chars bs utf8 = omega (arith, length-le-encodes (chars bs), ap length (encodes-chars bs utf8))

cluster_fits : (face : FaceValue) (s : Setting) (g : List ℕ) → IsUtf8 g → length g ≤ 1048576 → IsInRange face → IsUsedSetting s → IsPosition (cluster_width face s g)
cluster_fits face s g utf8 short is used =
    let sum = chars_within face s (chars g) is used in
    let last = spacing_within (is_linefeed_cluster g) s.letter.0 used.letter in
    let few = few_chars g utf8 in (omega (arith, ints, sum.0, last.0, few, short), omega (arith, ints, sum.1, last.1, few, short))

utf8_past : (cs rest : List ℕ) → IsUtf8 (encode_utf8_all cs ++ rest) → IsUtf8 rest
utf8_past [] rest u = u
utf8_past (c ∷ cs) rest u = utf8_past cs rest (IsUtf8-past_char _ _ c u (append_assoc (encode c) (encode_utf8_all cs) rest))

utf8_first : (p rest : List ℕ) → IsUtf8 (p ++ rest) → IsUtf8 rest → IsUtf8 p
utf8_first p rest u later =
    subst IsUtf8 (take_at p rest (length p) refl) (IsUtf8-take (p ++ rest) (length p) u (IsCharBoundary-at_seam (p ++ rest) p rest refl later))

pieces_fit : (face : FaceValue) (s : Setting) (place : ℕ) (ps : List (List ℕ)) → IsUtf8 (concat (map encode_utf8_all ps)) → length (concat (map encode_utf8_all ps)) ≤ 1048576
    → IsInRange face → IsUsedSetting s → All (λ (w : ClusterWidth). IsPosition w.width.0) (placed_widths face s place (map encode_utf8_all ps))
pieces_fit face s place [] u short is used = All-nil (λ (w : ClusterWidth). IsPosition w.width.0)
pieces_fit face s place (cs ∷ ps) u short is used =
    let p = encode_utf8_all cs in
    let rest = concat (map encode_utf8_all ps) in
    let later = utf8_past cs rest u in
    let both = length-append p rest in
    All-cons (λ (w : ClusterWidth). IsPosition w.width.0) _ _ (cluster_fits face s p (utf8_first p rest u later) (omega (arith, both, short)) is used)
    (pieces_fit face s (place + length p) ps later (omega (arith, both, short)) is used)

widths_within : (face : FaceValue) (s : Setting) (text : List ℕ) → IsUtf8 text → length text ≤ 1048576 → IsInRange face → IsUsedSetting s
    → All (λ (w : ClusterWidth). IsPosition w.width.0) (widths_of face s text)
unfolding segments
widths_within face s text utf8 short is used =
    let whole : concat (graphemes true text) ≡ text = concat-segments (is_grapheme_break true) text utf8 in
    pieces_fit face s 0 (cut (is_grapheme_break true) [] (chars text) []) (subst IsUtf8 (sym whole) utf8) (omega (arith, ap length whole, short)) is used

used_fits : (v : ℤ) → IsUsed v → IsPosition v
used_fits v used = (omega (arith, ints, used.0), omega (arith, ints, used.1))

pub widths_fit_lem : (face : FaceValue) (s : Setting) (text : List ℕ) → IsUtf8 text → length text ≤ 1048576 → IsInRange face → IsUsed s.size.0 → IsUsed s.letter.0 → IsUsed s.word.0
    → WidthsFit face s text
widths_fit_lem face s text utf8 short is size letter word = record {
  setting = record { size = used_fits s.size.0 size; letter = used_fits s.letter.0 letter; word = used_fits s.word.0 word; advances = (fits_lem face s.size.0 is size).advances };
  widths = widths_within face s text utf8 short is (record { size = size; letter = letter; word = word });
}
