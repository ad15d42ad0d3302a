-- An absolutely positioned box is removed from the flow entirely (CSS 2.2, 9.6): lines break where they break
-- without its anchor, and what stands between two breaks is the same but for anchors. Anchors alone behind the
-- last break, or in content without anything else, are a segment of which nothing is left.
use Rattle.std.specs.Prelude.{◌≡◌, List, [], ◌∷◌, map, Bool, true, false, not}
use Rattle.std.specs.List.{filter}
use Rattle.lay_space.specs.declared.item.Item.{Item}
use Rattle.lay_space.specs.declared.item.Item.TheVariants.{Text, Atomic, Start, End, Float, Anchor}
use Rattle.lay_space.specs.declared.segment.Segment.{Segment}
use Rattle.lay_space.specs.Segments.{segments_of}

abbrev pub is_anchor : Item → Bool
is_anchor (Text node text mode widths) = false
is_anchor (Atomic n m) = false
is_anchor (Start n takes) = false
is_anchor (End n) = false
is_anchor (Float n) = false
is_anchor (Anchor n) = true

abbrev pub without_anchors : List Item → List Item
without_anchors items = filter (λ x. not (is_anchor x)) items

abbrev pub segment_without_anchors : Segment → Segment
segment_without_anchors s = record { items = without_anchors s.items; forced = s.forced }

abbrev pub has_any : List Item → Bool
has_any [] = false
has_any (x ∷ xs) = true

abbrev pub AnchorsMoveNoBreak : Type 0
AnchorsMoveNoBreak = (items : List Item)
    → segments_of (without_anchors items) ≡ filter (λ s. has_any s.items) (map segment_without_anchors (segments_of items))
