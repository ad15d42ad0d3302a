-- Segments hold the content cluster by cluster (CSS 2.2, 9.4.2 and 16.6), where the widths of texts stand at
-- the starts of their clusters: the same clusters with the same bytes and widths, but for the collapsible
-- spaces that surely begin a line. What is in flow keeps its order, and so do floats and anchors.
use Rattle.std.specs.Prelude.{ℕ, ◌≡◌, ◌≤◌, Bool, true, false, not, List, [], ◌∷◌, ◌++◌, slice_get, slice_range}
use Rattle.std.specs.List.{filter}
use Rattle.lay_units.specs.declared.records.ClusterWidth.{ClusterWidth}
use Rattle.lay_space.specs.declared.item.Mode.{Mode}
use Rattle.lay_space.specs.declared.item.Item.{Item}
use Rattle.lay_space.specs.declared.item.Item.TheVariants as item
use Rattle.lay_space.specs.declared.tokens.Token.{Token}
use Rattle.lay_space.specs.declared.tokens.Token.TheVariants as token
use Rattle.lay_space.specs.declared.segment.Segment.{Segment}
use Rattle.lay_space.specs.Tokens.{next_place, tokens_of, without_leading_spaces}
use Rattle.lay_space.specs.Segments.{is_boundary, bytes_of, segments_of}

-- The widths stand at characters, in order.
abbrev pub StandOnBoundaries : List ℕ → List ClusterWidth → Type 0
StandOnBoundaries text [] = Unit {0}
StandOnBoundaries text (w ∷ ws) = (is_boundary text w.place ≡ true) × (w.place ≤ next_place text ws) × StandOnBoundaries text ws

abbrev pub AreTextsMeasured : List Item → Type 0
AreTextsMeasured [] = Unit {0}
AreTextsMeasured (item.Text node text m widths ∷ xs) = StandOnBoundaries text widths × AreTextsMeasured xs
AreTextsMeasured (item.Atomic n m ∷ xs) = AreTextsMeasured xs
AreTextsMeasured (item.Start n takes ∷ xs) = AreTextsMeasured xs
AreTextsMeasured (item.End n ∷ xs) = AreTextsMeasured xs
AreTextsMeasured (item.Float n ∷ xs) = AreTextsMeasured xs
AreTextsMeasured (item.Anchor n ∷ xs) = AreTextsMeasured xs

-- each cluster of a text as a text of its own
abbrev pub apart : ℕ → Mode → List ℕ → List ClusterWidth → List Item
apart node m text [] = []
apart node m text (w ∷ ws) =
    item.Text node (slice_range text w.place (next_place text ws)) m (record { place = 0; width = w.width } ∷ []) ∷ apart node m text ws

-- content cluster by cluster
abbrev pub by_cluster : List Item → List Item
by_cluster [] = []
by_cluster (item.Text node text m widths ∷ xs) = apart node m text widths ++ by_cluster xs
by_cluster (item.Atomic n m ∷ xs) = item.Atomic n m ∷ by_cluster xs
by_cluster (item.Start n takes ∷ xs) = item.Start n takes ∷ by_cluster xs
by_cluster (item.End n ∷ xs) = item.End n ∷ by_cluster xs
by_cluster (item.Float n ∷ xs) = item.Float n ∷ by_cluster xs
by_cluster (item.Anchor n ∷ xs) = item.Anchor n ∷ by_cluster xs

-- the items that these tokens are of, cluster by cluster
abbrev pub of_tokens : List Item → List Token → List Item
of_tokens items [] = []
of_tokens items (token.Cluster c ∷ xs) =
    item.Text c.node (slice_range (bytes_of (slice_get items c.item)) c.from c.to) c.mode (record { place = 0; width = c.width } ∷ [])
    ∷ of_tokens items xs
of_tokens items (token.TextEnd ∷ xs) = of_tokens items xs
of_tokens items (token.Atomic n m ∷ xs) = item.Atomic n m ∷ of_tokens items xs
of_tokens items (token.Start n takes ∷ xs) = item.Start n takes ∷ of_tokens items xs
of_tokens items (token.End n ∷ xs) = item.End n ∷ of_tokens items xs
of_tokens items (token.Float n ∷ xs) = item.Float n ∷ of_tokens items xs
of_tokens items (token.Anchor n ∷ xs) = item.Anchor n ∷ of_tokens items xs

abbrev pub is_float_or_anchor : Item → Bool
is_float_or_anchor (item.Text node text m widths) = false
is_float_or_anchor (item.Atomic n m) = false
is_float_or_anchor (item.Start n takes) = false
is_float_or_anchor (item.End n) = false
is_float_or_anchor (item.Float n) = true
is_float_or_anchor (item.Anchor n) = true

abbrev pub items_of_segments : List Segment → List Item
items_of_segments [] = []
items_of_segments (s ∷ ss) = s.items ++ items_of_segments ss

pub record HoldsSame (xs ys : List Item) : Type 0 where
  pub flow : filter (λ x. not (is_float_or_anchor x)) ys ≡ filter (λ x. not (is_float_or_anchor x)) xs
  pub out_of_flow : filter is_float_or_anchor ys ≡ filter is_float_or_anchor xs

abbrev pub SegmentsKeepClusters : Type 0
SegmentsKeepClusters =
    (items : List Item) → AreTextsMeasured items
    → HoldsSame (of_tokens items (without_leading_spaces true (tokens_of 0 items))) (by_cluster (items_of_segments (segments_of items)))

-- which is the content itself, where no space is first
abbrev pub TokensHoldClusters : Type 0
TokensHoldClusters = (items : List Item) → of_tokens items (tokens_of 0 items) ≡ by_cluster items
