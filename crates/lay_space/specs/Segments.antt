-- Segments of inline content (CSS 2.2, 9.4.2): what stands from one break to the next. A text that has a
-- break inside is cut there. Each of its parts is a text of its own, with the bytes of its clusters and with
-- their widths, whose places count from its start.
use Rattle.std.specs.Prelude.{ℕ, ◌+◌, ◌==◌, nat_lt, Bool, true, false, ◌&&◌, ◌||◌, not, if◌then◌else◌, List}
use Rattle.std.specs.Prelude.{[], ◌∷◌, ◌++◌, length, slice_index, slice_get, slice_range, Option, Some, None}
use Rattle.lay_units.specs.declared.records.ClusterWidth.{ClusterWidth}
use Rattle.lay_space.specs.declared.item.Item.{Item}
use Rattle.lay_space.specs.declared.item.Item.TheVariants as item
use Rattle.lay_space.specs.declared.tokens.Cluster.{Cluster}
use Rattle.lay_space.specs.declared.tokens.Token.{Token}
use Rattle.lay_space.specs.declared.tokens.Token.TheVariants as token
use Rattle.lay_space.specs.declared.breaks.Entry.{Entry}
use Rattle.lay_space.specs.declared.breaks.Entry.TheVariants as entry
use Rattle.lay_space.specs.declared.segment.Segment.{Segment}
use Rattle.lay_space.specs.Tokens.{tokens_of, without_leading_spaces}
use Rattle.lay_space.specs.Breaks.{entries_of}

-- a text may be cut at this byte
abbrev pub is_boundary : List ℕ → ℕ → Bool
is_boundary text at =
    at == length text || (nat_lt at (length text) && (nat_lt (slice_index text at) 128 || nat_lt 191 (slice_index text at)))

-- the bytes between two places, and none where the text can't be cut there
abbrev pub bytes_between : List ℕ → ℕ → ℕ → List ℕ
bytes_between text from to =
    if not (nat_lt to from) && is_boundary text from && is_boundary text to then slice_range text from to else []

abbrev pub bytes_of : Option Item → List ℕ
bytes_of None = []
bytes_of (Some (item.Text node text mode widths)) = text
bytes_of (Some (item.Atomic n m)) = []
bytes_of (Some (item.Start n takes)) = []
bytes_of (Some (item.End n)) = []
bytes_of (Some (item.Float n)) = []
bytes_of (Some (item.Anchor n)) = []

abbrev pub cluster_bytes : List Item → Cluster → List ℕ
cluster_bytes items c = bytes_between (bytes_of (slice_get items c.item)) c.from c.to

abbrev pub joined : List Item → List Cluster → List ℕ
joined items [] = []
joined items (c ∷ cs) = cluster_bytes items c ++ joined items cs

abbrev pub placed : List Item → ℕ → List Cluster → List ClusterWidth
placed items place [] = []
placed items place (c ∷ cs) =
    record { place = place; width = c.width } ∷ placed items (place + length (cluster_bytes items c)) cs

-- the text that these clusters make, if there are any
abbrev pub text_of : List Item → List Cluster → List Item
text_of items [] = []
text_of items (c ∷ cs) = item.Text c.node (joined items (c ∷ cs)) c.mode (placed items 0 (c ∷ cs)) ∷ []

-- what stands behind the last break is a segment where it is anything
abbrev pub last_segment : List Item → List Segment
last_segment [] = []
last_segment (x ∷ xs) = record { items = x ∷ xs; forced = false } ∷ []

abbrev pub is_cluster : Token → Bool
is_cluster (token.Cluster c) = true
is_cluster token.TextEnd = false
is_cluster (token.Atomic n m) = false
is_cluster (token.Start n takes) = false
is_cluster (token.End n) = false
is_cluster (token.Float n) = false
is_cluster (token.Anchor n) = false

-- The segments of these entries, where `current` are the items since the last break, and `held` the clusters
-- after them of a text that goes on.
abbrev pub cut : List Item → List Item → List Cluster → List Entry → List Segment
cut items current held [] = last_segment (current ++ text_of items held)
cut items current held (entry.Break f ∷ xs) = record { items = current ++ text_of items held; forced = f } ∷ cut items [] [] xs
cut items current held (entry.Content (token.Cluster c) ∷ xs) = cut items current (held ++ c ∷ []) xs
cut items current held (entry.Content token.TextEnd ∷ xs) = cut items (current ++ text_of items held) [] xs
cut items current held (entry.Content (token.Atomic n m) ∷ xs) = cut items (current ++ text_of items held ++ item.Atomic n m ∷ []) [] xs
cut items current held (entry.Content (token.Start n takes) ∷ xs) =
    cut items (current ++ text_of items held ++ item.Start n takes ∷ []) [] xs
cut items current held (entry.Content (token.End n) ∷ xs) = cut items (current ++ text_of items held ++ item.End n ∷ []) [] xs
cut items current held (entry.Content (token.Float n) ∷ xs) = cut items (current ++ text_of items held ++ item.Float n ∷ []) [] xs
cut items current held (entry.Content (token.Anchor n) ∷ xs) = cut items (current ++ text_of items held ++ item.Anchor n ∷ []) [] xs

abbrev pub segments_of : List Item → List Segment
segments_of items = cut items [] [] (entries_of (without_leading_spaces true (tokens_of 0 items)))
