-- Anchors add nothing to the content of lines.
use Rattle.std.proofs.Common.{◌≡◌, Bool, true, false, ◌&&◌, not, List, [], ◌∷◌, ◌++◌, map, refl, sym, ap, ◌∙◌, if◌then◌else◌}
use Rattle.lay_space.specs.AnchorLaws.{is_anchor, segment_without_anchors, without_anchors}
use Rattle.lay_space.specs.declared.item.Item.{Item}
use Rattle.lay_space.specs.declared.item.Item.TheVariants as item
use Rattle.lay_space.specs.declared.segment.Segment.{Segment}
use Rattle.lay_line_measures.specs.BoxMeasuresValue.{BoxMeasuresValue}
use Rattle.lay_line_measures.specs.Contents.{content_with}
use Rattle.lay_line_measures.specs.Stretches.{floats_at, floats_of, heads_of, is_line_content, parts_at, parts_of, stretches_of}
use Rattle.lay_line_measures.specs.declared.container.Container.{Container}
use Rattle.lay_lines.specs.declared.content.content.LineFloat.{LineFloat}
use Rattle.lay_placement.specs.AnchorLaws.{AnchorsAddNothingToLines}

module _ (m : BoxMeasuresValue) (c : Container) where
  -- an anchor is no part and no float, and no content
  no_part : (x : Item) → is_anchor x ≡ true → parts_at m x ≡ []
  no_part (item.Anchor n) e = refl
  no_part (item.Float n) e = absurd cc
  no_part (item.Text n text mode widths) e = absurd cc
  no_part (item.Atomic n mode) e = absurd cc
  no_part (item.Start n takes) e = absurd cc
  no_part (item.End n) e = absurd cc

  no_float : (x : Item) → is_anchor x ≡ true → floats_at m c x ≡ []
  no_float (item.Anchor n) e = refl
  no_float (item.Float n) e = absurd cc
  no_float (item.Text n text mode widths) e = absurd cc
  no_float (item.Atomic n mode) e = absurd cc
  no_float (item.Start n takes) e = absurd cc
  no_float (item.End n) e = absurd cc

  no_content : (x : Item) → is_anchor x ≡ true → is_line_content x ≡ false
  no_content (item.Anchor n) e = refl
  no_content (item.Float n) e = absurd cc
  no_content (item.Text n text mode widths) e = absurd cc
  no_content (item.Atomic n mode) e = absurd cc
  no_content (item.Start n takes) e = absurd cc
  no_content (item.End n) e = absurd cc

  parts_same : (xs : List Item) → parts_of m (without_anchors xs) ≡ parts_of m xs
  parts_same [] = refl
  parts_same (x ∷ xs) = by (is_anchor x) refl (parts_same xs)
    where
      by : (b : Bool) → is_anchor x ≡ b → parts_of m (without_anchors xs) ≡ parts_of m xs
          → parts_of m (if not b then x ∷ without_anchors xs else without_anchors xs) ≡ parts_at m x ++ parts_of m xs
      by true e rest = rest ∙ sym (ap (λ ps. ps ++ parts_of m xs) (no_part x e))
      by false e rest = ap (λ ps. parts_at m x ++ ps) rest

  still : (ahead b : Bool) → b ≡ false → (ahead && not b) ≡ ahead
  still true b e = ap not e
  still false b e = refl

  none_if : (ahead : Bool) (xs : List LineFloat) → xs ≡ [] → (if ahead then xs else []) ≡ []
  none_if true xs e = e
  none_if false xs e = refl

  none_else : (ahead : Bool) (xs : List LineFloat) → xs ≡ [] → (if ahead then [] else xs) ≡ []
  none_else true xs e = refl
  none_else false xs e = e

  heads_same : (xs : List Item) (ahead : Bool) → heads_of m c ahead (without_anchors xs) ≡ heads_of m c ahead xs
  heads_same [] ahead = refl
  heads_same (x ∷ xs) ahead = by (is_anchor x) refl (heads_same xs ahead) (heads_same xs (ahead && not (is_line_content x)))
    where
      by : (b : Bool) → is_anchor x ≡ b → heads_of m c ahead (without_anchors xs) ≡ heads_of m c ahead xs
          → heads_of m c (ahead && not (is_line_content x)) (without_anchors xs) ≡ heads_of m c (ahead && not (is_line_content x)) xs
          → heads_of m c ahead (if not b then x ∷ without_anchors xs else without_anchors xs) ≡ (if ahead then floats_at m c x else []) ++ heads_of m c (ahead && not (is_line_content x)) xs
      by true e same rest =
          same ∙ sym (ap (λ hs. hs ++ heads_of m c (ahead && not (is_line_content x)) xs) (none_if ahead (floats_at m c x) (no_float x e))
          ∙ ap (λ a. heads_of m c a xs) (still ahead (is_line_content x) (no_content x e)))
      by false e same rest = ap (λ hs. (if ahead then floats_at m c x else []) ++ hs) rest

  floats_same : (xs : List Item) (ahead : Bool) → floats_of m c ahead (without_anchors xs) ≡ floats_of m c ahead xs
  floats_same [] ahead = refl
  floats_same (x ∷ xs) ahead = by (is_anchor x) refl (floats_same xs ahead) (floats_same xs (ahead && not (is_line_content x)))
    where
      by : (b : Bool) → is_anchor x ≡ b → floats_of m c ahead (without_anchors xs) ≡ floats_of m c ahead xs
          → floats_of m c (ahead && not (is_line_content x)) (without_anchors xs) ≡ floats_of m c (ahead && not (is_line_content x)) xs
          → floats_of m c ahead (if not b then x ∷ without_anchors xs else without_anchors xs) ≡ (if ahead then [] else floats_at m c x) ++ floats_of m c (ahead && not (is_line_content x)) xs
      by true e same rest =
          same ∙ sym (ap (λ hs. hs ++ floats_of m c (ahead && not (is_line_content x)) xs) (none_else ahead (floats_at m c x) (no_float x e))
          ∙ ap (λ a. floats_of m c a xs) (still ahead (is_line_content x) (no_content x e)))
      by false e same rest = ap (λ hs. (if ahead then [] else floats_at m c x) ++ hs) rest

  stretches_same : (ss : List Segment) (begins : Bool) → stretches_of m c begins (map segment_without_anchors ss) ≡ stretches_of m c begins ss
  stretches_same [] begins = refl
  stretches_same (s ∷ ss) begins = λ n.
      record {
        heads = heads_same s.items begins n;
        parts = parts_same s.items n;
        floats = floats_same s.items begins n;
        forced = s.forced;
      }
      ∷ stretches_same ss s.forced n

pub anchors_add_nothing_lem : AnchorsAddNothingToLines
anchors_add_nothing_lem m c segments = ap (content_with m c) (stretches_same m c segments true)
