-- Inline content, flat: the grapheme clusters of its texts, the ends of texts, and its other items. A
-- cluster is a space, a linefeed, a tab or a zero width space to a line, or none of these (CSS 2.2, 16.6).
use Rattle.std.specs.Prelude.{ℕ, ◌+◌, ◌==◌, Bool, true, false, ◌&&◌, ◌||◌, if◌then◌else◌, List, [], ◌∷◌, ◌++◌, length, slice_index}
use Rattle.lay_units.specs.declared.records.ClusterWidth.{ClusterWidth}
use Rattle.lay_space.specs.declared.item.Mode.{Mode}
use Rattle.lay_space.specs.declared.item.Item.{Item}
use Rattle.lay_space.specs.declared.item.Item.TheVariants as item
use Rattle.lay_space.specs.declared.tokens.ClusterKind.{ClusterKind}
use Rattle.lay_space.specs.declared.tokens.ClusterKind.TheVariants.{CollapsibleSpace, PreservedSpace, Linefeed, Tab, ZeroWidthSpace, Other}
use Rattle.lay_space.specs.declared.tokens.Token.{Token}
use Rattle.lay_space.specs.declared.tokens.Token.TheVariants as token
use Rattle.lay_space.specs.Modes.{collapses, joins_lines}

-- The cluster between two places of a text is this one byte.
abbrev pub is_byte : List ℕ → ℕ → ℕ → ℕ → Bool
is_byte text from to byte = to == from + 1 && slice_index text from == byte

-- a linefeed, or a carriage return with its linefeed
abbrev pub is_linefeed : List ℕ → ℕ → ℕ → Bool
is_linefeed text from to =
    is_byte text from to 10 || (to == from + 2 && slice_index text from == 13 && slice_index text (from + 1) == 10)

-- U+200B, which is always a cluster of its own
abbrev pub is_zero_width_space : List ℕ → ℕ → ℕ → Bool
is_zero_width_space text from to =
    to == from + 3 && slice_index text from == 226 && slice_index text (from + 1) == 128 && slice_index text (from + 2) == 139

abbrev pub space_kind : Mode → ClusterKind
space_kind m = if collapses m then CollapsibleSpace else PreservedSpace

abbrev pub kind_of : Mode → List ℕ → ℕ → ℕ → ClusterKind
kind_of m text from to =
    if is_byte text from to 32 then space_kind m
    else (if is_linefeed text from to then (if joins_lines m then Other else Linefeed)
    else (if is_byte text from to 9 then (if collapses m then Other else Tab)
    else (if is_zero_width_space text from to then ZeroWidthSpace else Other)))

-- where the next cluster begins, or the text ends
abbrev pub next_place : List ℕ → List ClusterWidth → ℕ
next_place text [] = length text
next_place text (w ∷ ws) = w.place

-- the clusters of a text, which is item k
abbrev pub cluster_tokens : ℕ → ℕ → Mode → List ℕ → List ClusterWidth → List Token
cluster_tokens k node m text [] = []
cluster_tokens k node m text (w ∷ ws) =
    token.Cluster (record {
      item = k;
      node = node;
      mode = m;
      kind = kind_of m text w.place (next_place text ws);
      from = w.place;
      to = next_place text ws;
      width = w.width;
    })
    ∷ cluster_tokens k node m text ws

abbrev pub tokens_of_item : ℕ → Item → List Token
tokens_of_item k (item.Text node text m widths) = cluster_tokens k node m text widths ++ token.TextEnd ∷ []
tokens_of_item k (item.Atomic node m) = token.Atomic node m ∷ []
tokens_of_item k (item.Start node takes) = token.Start node takes ∷ []
tokens_of_item k (item.End node) = token.End node ∷ []
tokens_of_item k (item.Float node) = token.Float node ∷ []
tokens_of_item k (item.Anchor node) = token.Anchor node ∷ []

-- the tokens of items, of which the first is item k
abbrev pub tokens_of : ℕ → List Item → List Token
tokens_of k [] = []
tokens_of k (x ∷ xs) = tokens_of_item k x ++ tokens_of (k + 1) xs

abbrev pub is_collapsible : Token → Bool
is_collapsible (token.Cluster c) = kind_collapses c.kind
  where
    kind_collapses : ClusterKind → Bool
    kind_collapses CollapsibleSpace = true
    kind_collapses PreservedSpace = false
    kind_collapses Linefeed = false
    kind_collapses Tab = false
    kind_collapses ZeroWidthSpace = false
    kind_collapses Other = false
is_collapsible token.TextEnd = false
is_collapsible (token.Atomic n m) = false
is_collapsible (token.Start n takes) = false
is_collapsible (token.End n) = false
is_collapsible (token.Float n) = false
is_collapsible (token.Anchor n) = false

-- Whether what follows a token surely begins a line: it is first in the container, or after a preserved
-- linefeed, but for what has no extent. `first` says so of the token.
abbrev pub begins_line : Bool → Token → Bool
begins_line first (token.Cluster c) = after_kind first c.kind
  where
    after_kind : Bool → ClusterKind → Bool
    after_kind first CollapsibleSpace = first
    after_kind first PreservedSpace = false
    after_kind first Linefeed = true
    after_kind first Tab = false
    after_kind first ZeroWidthSpace = false
    after_kind first Other = false
begins_line first token.TextEnd = first
begins_line first (token.Atomic n m) = false
begins_line first (token.Start n takes) = first
begins_line first (token.End n) = first
begins_line first (token.Float n) = first
begins_line first (token.Anchor n) = first

-- A collapsible space that begins a line is removed (16.6.1). Where it surely does, that is done here.
abbrev pub without_leading_spaces : Bool → List Token → List Token
without_leading_spaces first [] = []
without_leading_spaces first (x ∷ xs) =
    if first && is_collapsible x then without_leading_spaces first xs
    else (x ∷ without_leading_spaces (begins_line first x) xs)
