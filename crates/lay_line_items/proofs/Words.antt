-- Words: clusters of a text that are nothing but text to a line, and the places where they stand.
use Rattle.std.proofs.Common.{◌≡◌, ◌≢◌, ◌∙◌, ℕ, zero, suc, ◌+◌, ◌<◌, ◌≤◌, ◌==◌, ◌||◌, ◌&&◌, Bool, true, false, if◌then◌else◌, List, [], ◌∷◌, ◌++◌, length, map, slice_index, refl, sym, ap, subst, arith, append_assoc, append-nil, length-append, encode_utf8_all, chars}
use Rattle.std.specs.Str.{IsCharBoundary, IsUtf8}
use Rattle.std.specs.List.{concat}
use Rattle.std.proofs.lemmas.Bool.{and_parts, eq-eqb, eqb-true, false_from_ne_true, both_ways}
use Rattle.std.proofs.lemmas.Str.{IsCharBoundary-at_seam, IsUtf8-past_char}
use Rattle.unicode_segmentation.specs.Grapheme.{graphemes, is_grapheme_break}
use Rattle.unicode_segmentation.specs.Segments.{cut, segments}
use Rattle.unicode_segmentation.proofs.SegmentsLemmas.{AllPieces, concat-segments, segments_nonempty}
use lib.Utf8.{encode}
use Rattle.lay_units.specs.declared.records.ClusterWidth.{ClusterWidth}
use Rattle.lay_face.specs.FaceValue.{FaceValue}
use Rattle.lay_face.specs.declared.clusters.Setting.{Setting}
use Rattle.lay_face.specs.Clusters.{placed_widths, widths_of}
use Rattle.lay_space.specs.declared.item.Mode.{Mode}
use Rattle.lay_space.specs.declared.tokens.ClusterKind.TheVariants.{PreservedSpace, Linefeed, Tab, ZeroWidthSpace, Other}
use Rattle.lay_space.specs.Tokens.{is_byte, is_linefeed, is_zero_width_space, kind_of, next_place}
use Rattle.lay_line_items.specs.GatheredWidths.{is_more, stands_alone}

-- what stands between two places is text alone to a line, whatever the mode
pub record IsWord (text : List ℕ) (from to : ℕ) : Type 0 where
  pub some : from < to
  pub space : is_byte text from to 32 ≡ false
  pub feed : is_linefeed text from to ≡ false
  pub tab : is_byte text from to 9 ≡ false
  pub zero_width : is_zero_width_space text from to ≡ false

pub word_kind : (m : Mode) (text : List ℕ) (from to : ℕ) → IsWord text from to → kind_of m text from to ≡ Other
word_kind m text from to is = rw (is.space, is.feed, is.tab, is.zero_width) refl

none_of : (space feed tab wide : Bool) → is_more (if space then PreservedSpace else (if feed then Linefeed else (if tab then Tab else (if wide then ZeroWidthSpace else Other)))) ≡ false
    → (space ≡ false) × (feed ≡ false) × (tab ≡ false) × (wide ≡ false)
none_of true feed tab wide e = absurd cc
none_of false true tab wide e = absurd cc
none_of false false true wide e = absurd cc
none_of false false false true e = absurd cc
none_of false false false false e = (refl, refl, refl, refl)

pub is_word : (text : List ℕ) (from to : ℕ) → from < to → stands_alone text from to ≡ false → IsWord text from to
is_word text from to some alone =
    let all = none_of (is_byte text from to 32) (is_linefeed text from to) (is_byte text from to 9) (is_zero_width_space text from to) alone in
    record { some = some; space = all.0; feed = all.1; tab = all.2; zero_width = all.3 }

either : (x y : Bool) → (x || y) ≡ true → (x ≡ false → y ≡ true)
either true y e other = absurd cc
either false y e other = e

-- no byte but the first of a character stands on a boundary
first_byte : (text : List ℕ) (at : ℕ) → IsCharBoundary text at → at < length text → 128 ≤ slice_index text at → slice_index text at ≤ 191 → ⊥
first_byte text at is below low high = let more = is.1 below low in absurd (omega (arith, more, high))

past_end : (text : List ℕ) (at : ℕ) → 0 < slice_index text at → at < length text
past_end [] at some = absurd (omega (arith, some))
past_end (x ∷ xs) zero some = omega arith
past_end (x ∷ xs) (suc k) some = let more = past_end xs k some in omega (arith, more)

-- two words that meet on a boundary are one
pub joined_words : (text : List ℕ) (from mid to : ℕ) → IsWord text from mid → IsWord text mid to → IsCharBoundary text mid → IsWord text from to
joined_words text from mid to a b seam = record {
  some = omega (arith, a.some, b.some);
  space = false_from_ne_true _ (λ e. no_byte 32 e);
  feed = false_from_ne_true _ (λ e. no_feed e);
  tab = false_from_ne_true _ (λ e. no_byte 9 e);
  zero_width = false_from_ne_true _ (λ e. no_zero_width e);
}
  where
    no_byte : (byte : ℕ) → is_byte text from to byte ≡ true → ⊥
    no_byte byte e = let near = eqb-true to (from + 1) (and_parts (to == from + 1) (slice_index text from == byte) e).0 in absurd (omega (arith, near, a.some, b.some))

    no_feed : is_linefeed text from to ≡ true → ⊥
    no_feed e =
        let second = either (is_byte text from to 10) (to == from + 2 && slice_index text from == 13 && slice_index text (from + 1) == 10) e (false_from_ne_true _ (λ f. no_byte 10 f)) in
        let outer = and_parts (to == from + 2 && slice_index text from == 13) (slice_index text (from + 1) == 10) second in
        let far = eqb-true to (from + 2) (and_parts (to == from + 2) (slice_index text from == 13) outer.0).0 in
        let at : mid ≡ from + 1 = omega (arith, far, a.some, b.some) in
        let near : (to == mid + 1) ≡ true = eq-eqb to (mid + 1) (omega (arith, far, at)) in
        let here : (slice_index text mid == 10) ≡ true = ap (λ k. slice_index text k == 10) at ∙ outer.1 in
        both_ways (is_linefeed text mid to) b.feed (rw (near, here) refl)

    inner_byte : (k byte : ℕ) → slice_index text k ≡ byte → 128 ≤ byte → byte ≤ 191 → mid ≡ k → ⊥
    inner_byte k byte e low high at =
        let here : slice_index text mid ≡ byte = ap (slice_index text) at ∙ e in
        first_byte text mid seam (past_end text mid (omega (arith, here, low))) (omega (arith, here, low)) (omega (arith, here, high))

    no_zero_width : is_zero_width_space text from to ≡ true → ⊥
    no_zero_width e =
        let outer = and_parts (to == from + 3 && slice_index text from == 226 && slice_index text (from + 1) == 128) (slice_index text (from + 2) == 139) e in
        let inner = and_parts (to == from + 3 && slice_index text from == 226) (slice_index text (from + 1) == 128) outer.0 in
        let far = eqb-true to (from + 3) (and_parts (to == from + 3) (slice_index text from == 226) inner.0).0 in
        let second = eqb-true (slice_index text (from + 1)) 128 inner.1 in
        let third = eqb-true (slice_index text (from + 2)) 139 outer.1 in
        let one : mid ≢ from + 1 = inner_byte (from + 1) 128 second (omega arith) (omega arith) in
        let two : mid ≢ from + 2 = inner_byte (from + 2) 139 third (omega arith) (omega arith) in
        absurd (omega (arith, far, a.some, b.some, one, two))

-- these clusters stand one behind the other, each where a character begins
pub data StandInOrder (text : List ℕ) : List ClusterWidth → Type 0 where
  none_stand : StandInOrder text []
  one_stands : (w : ClusterWidth) (ws : List ClusterWidth) → w.place < next_place text ws → IsCharBoundary text w.place → StandInOrder text ws → StandInOrder text (w ∷ ws)

utf8_past : (cs rest : List ℕ) → IsUtf8 (encode_utf8_all cs ++ rest) → IsUtf8 rest
utf8_past [] rest u = u
utf8_past (c ∷ cs) rest u = utf8_past cs rest (IsUtf8-past_char _ _ c u (append_assoc (encode c) (encode_utf8_all cs) rest))

next_is : (face : FaceValue) (s : Setting) (text front : List ℕ) (ps : List (List ℕ)) → text ≡ front ++ concat ps → next_place text (placed_widths face s (length front) ps) ≡ length front
next_is face s text front [] e = ap length e ∙ ap length (append-nil front)
next_is face s text front (p ∷ ps) e = refl

pieces_stand : (face : FaceValue) (s : Setting) (text front : List ℕ) (ps : List (List ℕ)) → text ≡ front ++ concat (map encode_utf8_all ps) → IsUtf8 (concat (map encode_utf8_all ps))
    → AllPieces (λ p. 0 < length p) (map encode_utf8_all ps) → StandInOrder text (placed_widths face s (length front) (map encode_utf8_all ps))
pieces_stand face s text front [] e u some = none_stand
pieces_stand face s text front (cs ∷ ps) e u some =
    let p = encode_utf8_all cs in
    let rest = concat (map encode_utf8_all ps) in
    let past : text ≡ (front ++ p) ++ rest = e ∙ sym (append_assoc front p rest) in
    let wide = length-append front p in
    let next = next_is face s text (front ++ p) (map encode_utf8_all ps) past in
    let more = pieces_stand face s text (front ++ p) ps past (utf8_past cs rest u) some.1 in
    one_stands _ _ (subst (λ n. length front < next_place text (placed_widths face s n (map encode_utf8_all ps))) wide (omega (arith, next, wide, some.0)))
    (IsCharBoundary-at_seam text front _ e u)
    (subst (λ n. StandInOrder text (placed_widths face s n (map encode_utf8_all ps))) wide more)

-- as those of a text do
pub clusters_stand : (face : FaceValue) (s : Setting) (text : List ℕ) → IsUtf8 text → StandInOrder text (widths_of face s text)
unfolding segments
clusters_stand face s text utf8 =
    let whole : concat (graphemes true text) ≡ text = concat-segments (is_grapheme_break true) text utf8 in
    pieces_stand face s text [] (cut (is_grapheme_break true) [] (chars text) []) (sym whole) (subst IsUtf8 (sym whole) utf8) (segments_nonempty (is_grapheme_break true) text)
