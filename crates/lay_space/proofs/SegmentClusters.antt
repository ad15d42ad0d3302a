-- Segments hold the content cluster by cluster.
use Rattle.std.proofs.Common.{◌≡◌, ℕ, ◌+◌, ◌-◌, ◌++◌, List, [], ◌∷◌, length, take, slice_range, Option, Some, None, refl, sym, ap, ◌∙◌, append_assoc, append-nil, arith}
use Rattle.lay_space.specs.declared.item.Mode.{Mode}
use Rattle.lay_space.specs.declared.item.Item.{Item}
use Rattle.lay_space.specs.declared.item.Item.TheVariants as item
use Rattle.lay_space.specs.declared.tokens.Cluster.{Cluster}
use Rattle.lay_space.specs.declared.tokens.Token.{Token}
use Rattle.lay_space.specs.declared.tokens.Token.TheVariants as token
use Rattle.lay_space.specs.declared.breaks.Entry.{Entry}
use Rattle.lay_space.specs.declared.breaks.Entry.TheVariants.{Content, Break}
use Rattle.lay_space.specs.Tokens.{next_place}
use Rattle.lay_space.specs.Segments.{cluster_bytes, joined, placed, text_of, last_segment, cut}
use Rattle.lay_space.specs.Laws.{content_of}
use Rattle.lay_space.specs.SegmentLaws.{apart, by_cluster, items_of_segments}
use Rattle.std.proofs.lemmas.List.{length-append, take_at, drop_at}

-- a cluster as a text of its own
abbrev pub lone : List Item → Cluster → Item
lone items c = item.Text c.node (cluster_bytes items c) c.mode (record { place = 0; width = c.width } ∷ [])

abbrev pub lone_all : List Item → List Cluster → List Item
lone_all items [] = []
lone_all items (c ∷ cs) = lone items c ∷ lone_all items cs

-- the tokens cluster by cluster, cut as segments are
abbrev pub lones : List Item → List Token → List Item
lones items [] = []
lones items (token.Cluster c ∷ xs) = lone items c ∷ lones items xs
lones items (token.TextEnd ∷ xs) = lones items xs
lones items (token.Atomic n m ∷ xs) = item.Atomic n m ∷ lones items xs
lones items (token.Start n takes ∷ xs) = item.Start n takes ∷ lones items xs
lones items (token.End n ∷ xs) = item.End n ∷ lones items xs
lones items (token.Float n ∷ xs) = item.Float n ∷ lones items xs
lones items (token.Anchor n ∷ xs) = item.Anchor n ∷ lones items xs

lone_append : (items : List Item) (a b : List Cluster) → lone_all items (a ++ b) ≡ lone_all items a ++ lone_all items b
lone_append items [] b = refl
lone_append items (c ∷ a) b = ap (λ xs. lone items c ∷ xs) (lone_append items a b)

by_cluster_append : (a b : List Item) → by_cluster (a ++ b) ≡ by_cluster a ++ by_cluster b
by_cluster_append [] b = refl
by_cluster_append (item.Text node text m widths ∷ a) b = ap (λ xs. apart node m text widths ++ xs) (by_cluster_append a b) ∙ sym (append_assoc (apart node m text widths) (by_cluster a) (by_cluster b))
by_cluster_append (item.Atomic n m ∷ a) b = ap (λ xs. item.Atomic n m ∷ xs) (by_cluster_append a b)
by_cluster_append (item.Start n takes ∷ a) b = ap (λ xs. item.Start n takes ∷ xs) (by_cluster_append a b)
by_cluster_append (item.End n ∷ a) b = ap (λ xs. item.End n ∷ xs) (by_cluster_append a b)
by_cluster_append (item.Float n ∷ a) b = ap (λ xs. item.Float n ∷ xs) (by_cluster_append a b)
by_cluster_append (item.Anchor n ∷ a) b = ap (λ xs. item.Anchor n ∷ xs) (by_cluster_append a b)

-- the bytes between two places of a text that is put together
middle : (pre b rest : List ℕ) (at to : ℕ) → at ≡ length pre → to ≡ at + length b → slice_range (pre ++ (b ++ rest)) at to ≡ b
middle pre b rest at to is goes =
    let size : length b ≡ to - at = omega (arith, goes) in
    ap (λ xs. take (to - at) xs) (drop_at pre (b ++ rest) at (sym is)) ∙ take_at b rest (to - at) size

abbrev pub named : List Item → ℕ → Mode → List Cluster → List Item
named items node m [] = []
named items node m (c ∷ cs) = item.Text node (cluster_bytes items c) m (record { place = 0; width = c.width } ∷ []) ∷ named items node m cs

next_is : (items : List Item) (pre b : List ℕ) (at : ℕ) (cs : List Cluster) → at ≡ length pre
    → next_place (pre ++ (b ++ joined items cs)) (placed items (at + length b) cs) ≡ at + length b
next_is items pre b at [] is = length-append pre (b ++ []) ∙ ap (λ xs. length pre + length xs) (append-nil b) ∙ ap (λ n. n + length b) (sym is)
next_is items pre b at (c ∷ cs) is = refl

apart_joined : (items : List Item) (node : ℕ) (m : Mode) (pre : List ℕ) (at : ℕ) (cs : List Cluster) → at ≡ length pre
    → apart node m (pre ++ joined items cs) (placed items at cs) ≡ named items node m cs
apart_joined items node m pre at [] is = refl
apart_joined items node m pre at (c ∷ cs) is =
    let b = cluster_bytes items c in
    let next : at + length b ≡ length (pre ++ b) = ap (λ n. n + length b) is ∙ sym (length-append pre b) in
    ap (λ bs. item.Text node bs m (record { place = 0; width = c.width } ∷ []) ∷ apart node m (pre ++ (b ++ joined items cs)) (placed items (at + length b) cs))
    (middle pre b (joined items cs) at (next_place (pre ++ (b ++ joined items cs)) (placed items (at + length b) cs)) is (next_is items pre b at cs is))
    ∙ ap (λ xs. item.Text node b m (record { place = 0; width = c.width } ∷ []) ∷ xs)
    (ap (λ text. apart node m text (placed items (at + length b) cs)) (sym (append_assoc pre b (joined items cs)))
    ∙ apart_joined items node m (pre ++ b) (at + length b) cs next)

-- Clusters of one text have its node and its mode. `last` is the cluster before them in their text.
abbrev pub Named : Option Cluster → ℕ → Mode → Type 0
Named None node m = Unit {0}
Named (Some d) node m = (node ≡ d.node) × (m ≡ d.mode)

abbrev pub IsOf : Option Cluster → Cluster → Type 0
IsOf last c = Named last c.node c.mode

abbrev pub Rows : Option Cluster → List Token → Type 0
Rows last [] = Unit {0}
Rows last (token.Cluster c ∷ xs) = IsOf last c × Rows (Some c) xs
Rows last (token.TextEnd ∷ xs) = Rows None xs
Rows last (token.Atomic n m ∷ xs) = Rows last xs
Rows last (token.Start n takes ∷ xs) = Rows last xs
Rows last (token.End n ∷ xs) = Rows last xs
Rows last (token.Float n ∷ xs) = Rows last xs
Rows last (token.Anchor n ∷ xs) = Rows last xs

abbrev pub AllOf : Option Cluster → List Cluster → Type 0
AllOf last [] = Unit {0}
AllOf None (c ∷ cs) = ⊥
AllOf (Some d) (c ∷ cs) = (c.node ≡ d.node) × (c.mode ≡ d.mode) × AllOf (Some d) cs

named_lone : (items : List Item) (d : Cluster) (node : ℕ) (m : Mode) (cs : List Cluster) → node ≡ d.node → m ≡ d.mode → AllOf (Some d) cs → named items node m cs ≡ lone_all items cs
named_lone items d node m [] n e is = refl
named_lone items d node m (c ∷ cs) n e is =
    ap (λ k. item.Text k (cluster_bytes items c) m (record { place = 0; width = c.width } ∷ []) ∷ named items node m cs) (n ∙ sym is.0)
    ∙ ap (λ k. item.Text c.node (cluster_bytes items c) k (record { place = 0; width = c.width } ∷ []) ∷ named items node m cs) (e ∙ sym is.1)
    ∙ ap (λ xs. lone items c ∷ xs) (named_lone items d node m cs n e is.2)

text_lone : (items : List Item) (last : Option Cluster) (cs : List Cluster) → AllOf last cs → by_cluster (text_of items cs) ≡ lone_all items cs
text_lone items last [] is = refl
text_lone items None (c ∷ cs) is = absurd is
text_lone items (Some d) (c ∷ cs) is =
    append-nil (apart c.node c.mode (joined items (c ∷ cs)) (placed items 0 (c ∷ cs)))
    ∙ apart_joined items c.node c.mode [] 0 (c ∷ cs) refl ∙ named_lone items d c.node c.mode (c ∷ cs) is.0 is.1 is

all_more : (d c : Cluster) (cs : List Cluster) → c.node ≡ d.node → c.mode ≡ d.mode → AllOf (Some d) cs → AllOf (Some c) (cs ++ c ∷ [])
all_more d c [] n m is = (refl, refl, tt)
all_more d c (e ∷ cs) n m is = (is.0 ∙ sym n, is.1 ∙ sym m, all_more d c cs n m is.2)

all_one : (last : Option Cluster) (c : Cluster) (cs : List Cluster) → IsOf last c → AllOf last cs → AllOf (Some c) (cs ++ c ∷ [])
all_one None c [] one is = (refl, refl, tt)
all_one None c (e ∷ cs) one is = absurd is
all_one (Some d) c cs one is = all_more d c cs one.0 one.1 is

all_last : (xs : List Item) → by_cluster (items_of_segments (last_segment xs)) ≡ by_cluster xs
all_last [] = refl
all_last (x ∷ xs) = ap by_cluster (append-nil (x ∷ xs))

-- the items since the last break with the text that goes on
here : (items : List Item) (last : Option Cluster) (current : List Item) (cs : List Cluster) → AllOf last cs → by_cluster (current ++ text_of items cs) ≡ by_cluster current ++ lone_all items cs
here items last current cs is = by_cluster_append current (text_of items cs) ∙ ap (λ a. by_cluster current ++ a) (text_lone items last cs is)

abbrev pub CutKeeps : List Item → List Entry → Type 0
CutKeeps items es = (last : Option Cluster) (current : List Item) (cs : List Cluster) → Rows last (content_of es) → AllOf last cs
    → by_cluster (items_of_segments (cut items current cs es)) ≡ by_cluster current ++ lone_all items cs ++ lones items (content_of es)

-- an item is put behind the text
put : (items : List Item) (es : List Entry) (last : Option Cluster) (current : List Item) (cs : List Cluster) (x : Item) → by_cluster (x ∷ []) ≡ x ∷ [] → CutKeeps items es → Rows last (content_of es) → AllOf last cs
    → by_cluster (items_of_segments (cut items (current ++ text_of items cs ++ x ∷ []) [] es)) ≡ by_cluster current ++ lone_all items cs ++ x ∷ lones items (content_of es)
put items es last current cs x alone rest rows is =
    rest last (current ++ text_of items cs ++ x ∷ []) [] rows tt
    ∙ ap (λ a. a ++ lones items (content_of es))
    (append-nil (by_cluster (current ++ text_of items cs ++ x ∷ [])) ∙ by_cluster_append (current ++ text_of items cs) (x ∷ [])
    ∙ ap (λ a. a ++ by_cluster (x ∷ [])) (here items last current cs is) ∙ ap (λ a. by_cluster current ++ lone_all items cs ++ a) alone)
    ∙ append_assoc (by_cluster current ++ lone_all items cs) (x ∷ []) (lones items (content_of es))

pub cut_keeps : (items : List Item) (es : List Entry) → CutKeeps items es
cut_keeps items [] last current cs rows is =
    all_last (current ++ text_of items cs) ∙ here items last current cs is ∙ sym (append-nil (by_cluster current ++ lone_all items cs))
cut_keeps items (Break g ∷ es) last current cs rows is =
    by_cluster_append (current ++ text_of items cs) (items_of_segments (cut items [] [] es))
    ∙ ap (λ a. a ++ by_cluster (items_of_segments (cut items [] [] es))) (here items last current cs is)
    ∙ ap (λ a. by_cluster current ++ lone_all items cs ++ a) (cut_keeps items es last [] [] rows tt)
cut_keeps items (Content (token.Cluster c) ∷ es) last current cs rows is =
    cut_keeps items es (Some c) current (cs ++ c ∷ []) rows.1 (all_one last c cs rows.0 is)
    ∙ ap (λ a. by_cluster current ++ a ++ lones items (content_of es)) (lone_append items cs (c ∷ []))
    ∙ ap (λ a. a ++ lones items (content_of es)) (sym (append_assoc (by_cluster current) (lone_all items cs) (lone items c ∷ [])))
    ∙ append_assoc (by_cluster current ++ lone_all items cs) (lone items c ∷ []) (lones items (content_of es))
cut_keeps items (Content token.TextEnd ∷ es) last current cs rows is =
    cut_keeps items es None (current ++ text_of items cs) [] rows tt
    ∙ ap (λ a. a ++ lones items (content_of es)) (append-nil (by_cluster (current ++ text_of items cs)) ∙ here items last current cs is)
cut_keeps items (Content (token.Atomic n m) ∷ es) last current cs rows is = put items es last current cs (item.Atomic n m) refl (cut_keeps items es) rows is
cut_keeps items (Content (token.Start n takes) ∷ es) last current cs rows is = put items es last current cs (item.Start n takes) refl (cut_keeps items es) rows is
cut_keeps items (Content (token.End n) ∷ es) last current cs rows is = put items es last current cs (item.End n) refl (cut_keeps items es) rows is
cut_keeps items (Content (token.Float n) ∷ es) last current cs rows is = put items es last current cs (item.Float n) refl (cut_keeps items es) rows is
cut_keeps items (Content (token.Anchor n) ∷ es) last current cs rows is = put items es last current cs (item.Anchor n) refl (cut_keeps items es) rows is
