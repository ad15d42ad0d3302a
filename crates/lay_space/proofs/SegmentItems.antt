-- The clusters of content stay as they are on the way to segments.
use Rattle.std.proofs.Common.{◌≡◌, ℕ, suc, ◌+◌, ◌≤◌, ◌++◌, Bool, true, false, if◌then◌else◌, ◌&&◌, ◌||◌, not, List, [], ◌∷◌, length, slice_get, slice_index, slice_range, Option, Some, None, refl, sym, ap, ◌∙◌, subst, arith}
use Rattle.std.specs.Prelude.{nat_lt}
use Rattle.std.specs.List.{filter}
use Rattle.std.proofs.lemmas.Bool.{le-ltb, eq-eqb, and_from}
use Rattle.lay_units.specs.declared.records.ClusterWidth.{ClusterWidth}
use Rattle.lay_space.specs.declared.item.Mode.{Mode}
use Rattle.lay_space.specs.declared.item.Item.{Item}
use Rattle.lay_space.specs.declared.item.Item.TheVariants as item
use Rattle.lay_space.specs.declared.tokens.Cluster.{Cluster}
use Rattle.lay_space.specs.declared.tokens.Token.{Token}
use Rattle.lay_space.specs.declared.tokens.Token.TheVariants as token
use Rattle.lay_space.specs.Tokens.{next_place, kind_of, cluster_tokens, tokens_of, is_collapsible, begins_line, without_leading_spaces}
use Rattle.lay_space.specs.Breaks.{entries_of}
use Rattle.lay_space.specs.Segments.{is_boundary, bytes_of, bytes_between, cluster_bytes, segments_of}
use Rattle.lay_space.specs.Laws.{content_of, is_token_out_of_flow}
use Rattle.lay_space.specs.SegmentLaws.{StandOnBoundaries, AreTextsMeasured, apart, by_cluster, of_tokens, is_float_or_anchor, items_of_segments, SegmentsKeepClusters, TokensHoldClusters}
use Rattle.lay_space.proofs.KeptContent.{breaks_keep_content_lem}
use Rattle.lay_space.proofs.SegmentClusters.{lone, lones, Named, IsOf, Rows, cut_keeps}

-- Tokens of a text have its node and its mode.
clusters_rows : (last : Option Cluster) (k node : ℕ) (m : Mode) (text : List ℕ) (ws : List ClusterWidth) (rest : List Token) → Named last node m → Rows None rest
    → Rows last ((cluster_tokens k node m text ws ++ token.TextEnd ∷ []) ++ rest)
clusters_rows last k node m text [] rest is rows = rows
clusters_rows last k node m text (w ∷ ws) rest is rows = (
  is,
  clusters_rows (Some (record {
    item = k;
    node = node;
    mode = m;
    kind = kind_of m text w.place (next_place text ws);
    from = w.place;
    to = next_place text ws;
    width = w.width;
  })) k node m text ws rest (refl, refl) rows,
)

tokens_rows : (k : ℕ) (items : List Item) → Rows None (tokens_of k items)
tokens_rows k [] = tt
tokens_rows k (item.Text node text m widths ∷ xs) = clusters_rows None k node m text widths (tokens_of (k + 1) xs) tt (tokens_rows (k + 1) xs)
tokens_rows k (item.Atomic n m ∷ xs) = tokens_rows (k + 1) xs
tokens_rows k (item.Start n takes ∷ xs) = tokens_rows (k + 1) xs
tokens_rows k (item.End n ∷ xs) = tokens_rows (k + 1) xs
tokens_rows k (item.Float n ∷ xs) = tokens_rows (k + 1) xs
tokens_rows k (item.Anchor n ∷ xs) = tokens_rows (k + 1) xs

is_of_back : (last : Option Cluster) (c e : Cluster) → IsOf last c → IsOf (Some c) e → IsOf last e
is_of_back None c e is next = tt
is_of_back (Some d) c e is next = (next.0 ∙ is.0, next.1 ∙ is.1)

rows_back : (last : Option Cluster) (c : Cluster) (xs : List Token) → IsOf last c → Rows (Some c) xs → Rows last xs
rows_back last c [] is rows = tt
rows_back last c (token.Cluster e ∷ xs) is rows = (is_of_back last c e is rows.0, rows.1)
rows_back last c (token.TextEnd ∷ xs) is rows = rows
rows_back last c (token.Atomic n m ∷ xs) is rows = rows_back last c xs is rows
rows_back last c (token.Start n takes ∷ xs) is rows = rows_back last c xs is rows
rows_back last c (token.End n ∷ xs) is rows = rows_back last c xs is rows
rows_back last c (token.Float n ∷ xs) is rows = rows_back last c xs is rows
rows_back last c (token.Anchor n ∷ xs) is rows = rows_back last c xs is rows

either : (b : Bool) (last : Option Cluster) (c : Cluster) (xs ys : List Token) → Rows last xs → IsOf last c × Rows (Some c) ys → Rows last (if b then xs else (token.Cluster c ∷ ys))
either true last c xs ys gone stays = gone
either false last c xs ys gone stays = stays

leading_rows : (first : Bool) (last : Option Cluster) (xs : List Token) → Rows last xs → Rows last (without_leading_spaces first xs)
leading_rows first last [] rows = rows
leading_rows first last (token.Cluster c ∷ xs) rows =
    either (first && is_collapsible (token.Cluster c)) last c (without_leading_spaces first xs) (without_leading_spaces (begins_line first (token.Cluster c)) xs)
    (leading_rows first last xs (rows_back last c xs rows.0 rows.1)) (rows.0, leading_rows (begins_line first (token.Cluster c)) (Some c) xs rows.1)
leading_rows true last (token.TextEnd ∷ xs) rows = leading_rows true None xs rows
leading_rows false last (token.TextEnd ∷ xs) rows = leading_rows false None xs rows
leading_rows true last (token.Atomic n m ∷ xs) rows = leading_rows false last xs rows
leading_rows false last (token.Atomic n m ∷ xs) rows = leading_rows false last xs rows
leading_rows true last (token.Start n takes ∷ xs) rows = leading_rows true last xs rows
leading_rows false last (token.Start n takes ∷ xs) rows = leading_rows false last xs rows
leading_rows true last (token.End n ∷ xs) rows = leading_rows true last xs rows
leading_rows false last (token.End n ∷ xs) rows = leading_rows false last xs rows
leading_rows true last (token.Float n ∷ xs) rows = leading_rows true last xs rows
leading_rows false last (token.Float n ∷ xs) rows = leading_rows false last xs rows
leading_rows true last (token.Anchor n ∷ xs) rows = leading_rows true last xs rows
leading_rows false last (token.Anchor n ∷ xs) rows = leading_rows false last xs rows

abbrev pub flow_of : List Token → List Token
flow_of xs = filter (λ x. not (is_token_out_of_flow x)) xs

rows_flow : (last : Option Cluster) (xs : List Token) → Rows last xs → Rows last (flow_of xs)
rows_flow last [] rows = rows
rows_flow last (token.Cluster c ∷ xs) rows = (rows.0, rows_flow (Some c) xs rows.1)
rows_flow last (token.TextEnd ∷ xs) rows = rows_flow None xs rows
rows_flow last (token.Atomic n m ∷ xs) rows = rows_flow last xs rows
rows_flow last (token.Start n takes ∷ xs) rows = rows_flow last xs rows
rows_flow last (token.End n ∷ xs) rows = rows_flow last xs rows
rows_flow last (token.Float n ∷ xs) rows = rows_flow last xs rows
rows_flow last (token.Anchor n ∷ xs) rows = rows_flow last xs rows

rows_of_flow : (last : Option Cluster) (xs : List Token) → Rows last (flow_of xs) → Rows last xs
rows_of_flow last [] rows = rows
rows_of_flow last (token.Cluster c ∷ xs) rows = (rows.0, rows_of_flow (Some c) xs rows.1)
rows_of_flow last (token.TextEnd ∷ xs) rows = rows_of_flow None xs rows
rows_of_flow last (token.Atomic n m ∷ xs) rows = rows_of_flow last xs rows
rows_of_flow last (token.Start n takes ∷ xs) rows = rows_of_flow last xs rows
rows_of_flow last (token.End n ∷ xs) rows = rows_of_flow last xs rows
rows_of_flow last (token.Float n ∷ xs) rows = rows_of_flow last xs rows
rows_of_flow last (token.Anchor n ∷ xs) rows = rows_of_flow last xs rows

lones_flow : (items : List Item) (xs : List Token) → filter (λ x. not (is_float_or_anchor x)) (lones items xs) ≡ lones items (flow_of xs)
lones_flow items [] = refl
lones_flow items (token.Cluster c ∷ xs) = ap (λ ys. lone items c ∷ ys) (lones_flow items xs)
lones_flow items (token.TextEnd ∷ xs) = lones_flow items xs
lones_flow items (token.Atomic n m ∷ xs) = ap (λ ys. item.Atomic n m ∷ ys) (lones_flow items xs)
lones_flow items (token.Start n takes ∷ xs) = ap (λ ys. item.Start n takes ∷ ys) (lones_flow items xs)
lones_flow items (token.End n ∷ xs) = ap (λ ys. item.End n ∷ ys) (lones_flow items xs)
lones_flow items (token.Float n ∷ xs) = lones_flow items xs
lones_flow items (token.Anchor n ∷ xs) = lones_flow items xs

lones_out : (items : List Item) (xs : List Token) → filter is_float_or_anchor (lones items xs) ≡ lones items (filter is_token_out_of_flow xs)
lones_out items [] = refl
lones_out items (token.Cluster c ∷ xs) = lones_out items xs
lones_out items (token.TextEnd ∷ xs) = lones_out items xs
lones_out items (token.Atomic n m ∷ xs) = lones_out items xs
lones_out items (token.Start n takes ∷ xs) = lones_out items xs
lones_out items (token.End n ∷ xs) = lones_out items xs
lones_out items (token.Float n ∷ xs) = ap (λ ys. item.Float n ∷ ys) (lones_out items xs)
lones_out items (token.Anchor n ∷ xs) = ap (λ ys. item.Anchor n ∷ ys) (lones_out items xs)

-- Each cluster can be cut out of its text.
abbrev pub plain_bytes : List Item → Cluster → List ℕ
plain_bytes items c = slice_range (bytes_of (slice_get items c.item)) c.from c.to

abbrev pub Whole : List Item → List Token → Type 0
Whole items [] = Unit {0}
Whole items (token.Cluster c ∷ xs) = (cluster_bytes items c ≡ plain_bytes items c) × Whole items xs
Whole items (token.TextEnd ∷ xs) = Whole items xs
Whole items (token.Atomic n m ∷ xs) = Whole items xs
Whole items (token.Start n takes ∷ xs) = Whole items xs
Whole items (token.End n ∷ xs) = Whole items xs
Whole items (token.Float n ∷ xs) = Whole items xs
Whole items (token.Anchor n ∷ xs) = Whole items xs

next_boundary : (text : List ℕ) (ws : List ClusterWidth) → StandOnBoundaries text ws → is_boundary text (next_place text ws) ≡ true
next_boundary text [] is = ap (λ b. b || (nat_lt (length text) (length text) && (nat_lt (slice_index text (length text)) 128 || nat_lt 191 (slice_index text (length text))))) (eq-eqb (length text) (length text) refl)
next_boundary text (w ∷ ws) is = is.0

part_whole : (text : List ℕ) (from to : ℕ) → from ≤ to → is_boundary text from ≡ true → is_boundary text to ≡ true → bytes_between text from to ≡ slice_range text from to
part_whole text from to up starts ends =
    let all : (not (nat_lt to from) && is_boundary text from && is_boundary text to) ≡ true =
    and_from (not (nat_lt to from) && is_boundary text from) (is_boundary text to)
    (and_from (not (nat_lt to from)) (is_boundary text from) (ap not (le-ltb to from up)) starts) ends in
    ap (λ b. if b then slice_range text from to else []) all

clusters_whole : (items : List Item) (k node : ℕ) (m : Mode) (text : List ℕ) (ws : List ClusterWidth) (rest : List Token) → bytes_of (slice_get items k) ≡ text → StandOnBoundaries text ws → Whole items rest
    → Whole items ((cluster_tokens k node m text ws ++ token.TextEnd ∷ []) ++ rest)
clusters_whole items k node m text [] rest e is whole = whole
clusters_whole items k node m text (w ∷ ws) rest e is whole = (
  subst (λ bytes. bytes_between bytes w.place (next_place text ws) ≡ slice_range bytes w.place (next_place text ws)) (sym e)
      (part_whole text w.place (next_place text ws) is.1 is.0 (next_boundary text ws is.2)),
  clusters_whole items k node m text ws rest e is.2 whole,
)

-- these items stand among all from the k-th on
abbrev pub From : List Item → ℕ → List Item → Type 0
From items k xs = (i : ℕ) → slice_get items (i + k) ≡ slice_get xs i

from_next : (items : List Item) (k : ℕ) (x : Item) (xs : List Item) → From items k (x ∷ xs) → From items (k + 1) xs
from_next items k x xs is i =
    let place : i + (k + 1) ≡ suc i + k = omega arith in
    ap (slice_get items) place ∙ is (suc i)

from_first : (items : List Item) (k : ℕ) (x : Item) (xs : List Item) → From items k (x ∷ xs) → slice_get items k ≡ Some x
from_first items k x xs is =
    let place : k ≡ 0 + k = omega arith in
    ap (slice_get items) place ∙ is 0

from_all : (items : List Item) → From items 0 items
from_all items i =
    let place : i + 0 ≡ i = omega arith in
    ap (slice_get items) place

tokens_whole : (items : List Item) (k : ℕ) (xs : List Item) → From items k xs → AreTextsMeasured xs → Whole items (tokens_of k xs)
tokens_whole items k [] is measured = tt
tokens_whole items k (item.Text node text m widths ∷ xs) is measured =
    clusters_whole items k node m text widths (tokens_of (k + 1) xs) (ap bytes_of (from_first items k (item.Text node text m widths) xs is)) measured.0
    (tokens_whole items (k + 1) xs (from_next items k (item.Text node text m widths) xs is) measured.1)
tokens_whole items k (item.Atomic n m ∷ xs) is measured = tokens_whole items (k + 1) xs (from_next items k (item.Atomic n m) xs is) measured
tokens_whole items k (item.Start n takes ∷ xs) is measured = tokens_whole items (k + 1) xs (from_next items k (item.Start n takes) xs is) measured
tokens_whole items k (item.End n ∷ xs) is measured = tokens_whole items (k + 1) xs (from_next items k (item.End n) xs is) measured
tokens_whole items k (item.Float n ∷ xs) is measured = tokens_whole items (k + 1) xs (from_next items k (item.Float n) xs is) measured
tokens_whole items k (item.Anchor n ∷ xs) is measured = tokens_whole items (k + 1) xs (from_next items k (item.Anchor n) xs is) measured

whole_either : (items : List Item) (b : Bool) (x : Token) (xs ys : List Token) → Whole items xs → Whole items (x ∷ ys) → Whole items (if b then xs else (x ∷ ys))
whole_either items true x xs ys gone stays = gone
whole_either items false x xs ys gone stays = stays

leading_whole : (items : List Item) (first : Bool) (xs : List Token) → Whole items xs → Whole items (without_leading_spaces first xs)
leading_whole items first [] is = is
leading_whole items first (token.Cluster c ∷ xs) is =
    whole_either items (first && is_collapsible (token.Cluster c)) (token.Cluster c) (without_leading_spaces first xs) (without_leading_spaces (begins_line first (token.Cluster c)) xs)
    (leading_whole items first xs is.1) (is.0, leading_whole items (begins_line first (token.Cluster c)) xs is.1)
leading_whole items first (token.TextEnd ∷ xs) is =
    whole_either items (first && false) token.TextEnd (without_leading_spaces first xs) (without_leading_spaces first xs) (leading_whole items first xs is) (leading_whole items first xs is)
leading_whole items first (token.Atomic n m ∷ xs) is =
    whole_either items (first && false) (token.Atomic n m) (without_leading_spaces first xs) (without_leading_spaces false xs) (leading_whole items first xs is) (leading_whole items false xs is)
leading_whole items first (token.Start n takes ∷ xs) is =
    whole_either items (first && false) (token.Start n takes) (without_leading_spaces first xs) (without_leading_spaces first xs) (leading_whole items first xs is) (leading_whole items first xs is)
leading_whole items first (token.End n ∷ xs) is =
    whole_either items (first && false) (token.End n) (without_leading_spaces first xs) (without_leading_spaces first xs) (leading_whole items first xs is) (leading_whole items first xs is)
leading_whole items first (token.Float n ∷ xs) is =
    whole_either items (first && false) (token.Float n) (without_leading_spaces first xs) (without_leading_spaces first xs) (leading_whole items first xs is) (leading_whole items first xs is)
leading_whole items first (token.Anchor n ∷ xs) is =
    whole_either items (first && false) (token.Anchor n) (without_leading_spaces first xs) (without_leading_spaces first xs) (leading_whole items first xs is) (leading_whole items first xs is)

lones_plain : (items : List Item) (xs : List Token) → Whole items xs → lones items xs ≡ of_tokens items xs
lones_plain items [] is = refl
lones_plain items (token.Cluster c ∷ xs) is =
    ap (λ bytes. item.Text c.node bytes c.mode (record { place = 0; width = c.width } ∷ []) ∷ lones items xs) is.0
    ∙ ap (λ ys. item.Text c.node (plain_bytes items c) c.mode (record { place = 0; width = c.width } ∷ []) ∷ ys) (lones_plain items xs is.1)
lones_plain items (token.TextEnd ∷ xs) is = lones_plain items xs is
lones_plain items (token.Atomic n m ∷ xs) is = ap (λ ys. item.Atomic n m ∷ ys) (lones_plain items xs is)
lones_plain items (token.Start n takes ∷ xs) is = ap (λ ys. item.Start n takes ∷ ys) (lones_plain items xs is)
lones_plain items (token.End n ∷ xs) is = ap (λ ys. item.End n ∷ ys) (lones_plain items xs is)
lones_plain items (token.Float n ∷ xs) is = ap (λ ys. item.Float n ∷ ys) (lones_plain items xs is)
lones_plain items (token.Anchor n ∷ xs) is = ap (λ ys. item.Anchor n ∷ ys) (lones_plain items xs is)

pub segments_keep_clusters_lem : SegmentsKeepClusters
segments_keep_clusters_lem items measured =
    let tokens = without_leading_spaces true (tokens_of 0 items) in
    let keeps = breaks_keep_content_lem tokens in
    let content = content_of (entries_of tokens) in
    let rows = rows_of_flow None content (subst (Rows None) (sym keeps.flow) (rows_flow None tokens (leading_rows true None (tokens_of 0 items) (tokens_rows 0 items)))) in
    let cuts : by_cluster (items_of_segments (segments_of items)) ≡ lones items content = cut_keeps items (entries_of tokens) None [] [] rows tt in
    let whole : lones items tokens ≡ of_tokens items tokens = lones_plain items tokens (leading_whole items true (tokens_of 0 items) (tokens_whole items 0 items (from_all items) measured)) in
    record {
      flow = ap (filter (λ x. not (is_float_or_anchor x))) cuts ∙ lones_flow items content ∙ ap (lones items) keeps.flow
          ∙ sym (lones_flow items tokens) ∙ ap (filter (λ x. not (is_float_or_anchor x))) whole;
      out_of_flow = ap (filter is_float_or_anchor) cuts ∙ lones_out items content ∙ ap (lones items) keeps.out_of_flow
          ∙ sym (lones_out items tokens) ∙ ap (filter is_float_or_anchor) whole;
    }

-- The tokens of content hold it cluster by cluster.
clusters_hold : (items : List Item) (k node : ℕ) (m : Mode) (text : List ℕ) (ws : List ClusterWidth) (rest : List Token) → bytes_of (slice_get items k) ≡ text
    → of_tokens items ((cluster_tokens k node m text ws ++ token.TextEnd ∷ []) ++ rest) ≡ apart node m text ws ++ of_tokens items rest
clusters_hold items k node m text [] rest e = refl
clusters_hold items k node m text (w ∷ ws) rest e =
    ap (λ bytes. item.Text node (slice_range bytes w.place (next_place text ws)) m (record { place = 0; width = w.width } ∷ [])
    ∷ of_tokens items ((cluster_tokens k node m text ws ++ token.TextEnd ∷ []) ++ rest)) e
    ∙ ap (λ ys. item.Text node (slice_range text w.place (next_place text ws)) m (record { place = 0; width = w.width } ∷ []) ∷ ys) (clusters_hold items k node m text ws rest e)

tokens_hold : (items : List Item) (k : ℕ) (xs : List Item) → From items k xs → of_tokens items (tokens_of k xs) ≡ by_cluster xs
tokens_hold items k [] is = refl
tokens_hold items k (item.Text node text m widths ∷ xs) is =
    clusters_hold items k node m text widths (tokens_of (k + 1) xs) (ap bytes_of (from_first items k (item.Text node text m widths) xs is))
    ∙ ap (λ ys. apart node m text widths ++ ys) (tokens_hold items (k + 1) xs (from_next items k (item.Text node text m widths) xs is))
tokens_hold items k (item.Atomic n m ∷ xs) is = ap (λ ys. item.Atomic n m ∷ ys) (tokens_hold items (k + 1) xs (from_next items k (item.Atomic n m) xs is))
tokens_hold items k (item.Start n takes ∷ xs) is = ap (λ ys. item.Start n takes ∷ ys) (tokens_hold items (k + 1) xs (from_next items k (item.Start n takes) xs is))
tokens_hold items k (item.End n ∷ xs) is = ap (λ ys. item.End n ∷ ys) (tokens_hold items (k + 1) xs (from_next items k (item.End n) xs is))
tokens_hold items k (item.Float n ∷ xs) is = ap (λ ys. item.Float n ∷ ys) (tokens_hold items (k + 1) xs (from_next items k (item.Float n) xs is))
tokens_hold items k (item.Anchor n ∷ xs) is = ap (λ ys. item.Anchor n ∷ ys) (tokens_hold items (k + 1) xs (from_next items k (item.Anchor n) xs is))

pub tokens_hold_clusters_lem : TokensHoldClusters
tokens_hold_clusters_lem items = tokens_hold items 0 items (from_all items)
