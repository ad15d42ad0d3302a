-- The clusters of a text stand in it one behind the other, each between characters.
use Rattle.std.proofs.Common.{◌≡◌, ℕ, suc, ◌+◌, ◌<◌, ◌≤◌, ◌⊎◌, inl, inr, true, false, List, [], ◌∷◌, All, length, slice_index, nat_lt, refl, arith}
use Rattle.std.specs.Prelude.{◌==◌}
use Rattle.std.specs.Str.{IsCharBoundary}
use Rattle.std.proofs.lemmas.Bool.{cases_eq, cases_lt, eq-eqb, ne_eqb, lt-ltb, le-ltb}
use Rattle.unicode_segmentation.specs.Grapheme.{graphemes, is_grapheme_break}
use Rattle.unicode_segmentation.specs.Segments.{with_offsets}
use Rattle.unicode_segmentation.proofs.SegmentsLemmas.{All-IsPieceOf, IsPieceOf}
use Rattle.lay_face.specs.declared.clusters.Setting.{Setting}
use Rattle.lay_face.specs.FaceValue.{FaceValue}
use Rattle.lay_face.specs.Clusters.{placed_widths}
use Rattle.lay_space.specs.Segments.{is_boundary}
use Rattle.lay_space.specs.SegmentLaws.{StandOnBoundaries}
use Rattle.lay_space.specs.Tokens.{next_place}
use Rattle.lay_line_items.specs.ClusterLaws.{ClustersBeginAtCharacters}

-- a place between characters, by the byte that stands there
boundary_is : (text : List ℕ) (at : ℕ) → IsCharBoundary text at → is_boundary text at ≡ true
boundary_is text at h = elim (cases_eq at (length text)) [
  | inl same ↦ (let e = eq-eqb at (length text) same in rw e refl)
  | inr other ↦ (let low = h.0 in
      let within : at < length text = omega (arith, low, other) in
      let not_end = ne_eqb at (length text) other in
      let inside = lt-ltb at (length text) within in
      by_byte within not_end inside (cases_lt (slice_index text at) 128))
]
  where
    by_byte : at < length text → (at == length text) ≡ false → nat_lt at (length text) ≡ true → (slice_index text at < 128) ⊎ (128 ≤ slice_index text at) → is_boundary text at ≡ true
    by_byte within not_end inside (inl small) = let s = lt-ltb (slice_index text at) 128 small in rw (not_end, inside, s) refl
    by_byte within not_end inside (inr great) =
        let start = h.1 within great in
        let s = le-ltb (slice_index text at) 128 great in
        let t = lt-ltb 191 (slice_index text at) (omega (arith, start)) in
        rw (not_end, inside, s, t) refl

module _ (face : FaceValue) (set : Setting) (text : List ℕ) where
  stand_from : (from : ℕ) (pieces : List (List ℕ)) → All (IsPieceOf text) (with_offsets from pieces) → StandOnBoundaries text (placed_widths face set from pieces)
  unfolding with_offsets
  stand_from from [] all = tt
  stand_from from (g ∷ gs) all =
      let first = all 0 (from, g) (omega arith) in
      (boundary_is text from first.start, in_order gs, stand_from (from + length g) gs (λ k d low. all (suc k) d (omega (arith, low))))
    where
      in_order : (ps : List (List ℕ)) → from ≤ next_place text (placed_widths face set (from + length g) ps)
      in_order [] = let first = all 0 (from, g) (omega arith) in first.start.0
      in_order (p ∷ ps) = omega arith

pub clusters_begin_at_characters : ClustersBeginAtCharacters
clusters_begin_at_characters face set text utf8 = stand_from face set text 0 (graphemes true text) (All-IsPieceOf (is_grapheme_break true) text utf8)
