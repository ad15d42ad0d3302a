-- Content is cut into the same segments without anchors.
use Rattle.std.proofs.Common.{◌≡◌, ℕ, ◌+◌, ◌++◌, Bool, true, false, cond, List, [], ◌∷◌, map, length, refl, sym, ap, ◌∙◌, append-nil, arith, not, ◌||◌}
use Rattle.std.specs.List.{filter}
use Rattle.std.proofs.lemmas.List.Elements.{filter-append}
use Rattle.std.proofs.lemmas.Bool.{true≢false}
use Rattle.std.proofs.Math.Bool.{or-false}
use Rattle.lay_space.specs.declared.item.Item.{Item}
use Rattle.lay_space.specs.declared.item.Item.TheVariants as item
use Rattle.lay_space.specs.declared.tokens.Cluster.{Cluster}
use Rattle.lay_space.specs.declared.tokens.Token.TheVariants as token
use Rattle.lay_space.specs.declared.breaks.Entry.{Entry}
use Rattle.lay_space.specs.declared.breaks.Entry.TheVariants.{Content, Break}
use Rattle.lay_space.specs.declared.segment.Segment.{Segment}
use Rattle.lay_space.specs.Tokens.{tokens_of, without_leading_spaces}
use Rattle.lay_space.specs.Breaks.{entries_of}
use Rattle.lay_space.specs.Segments.{bytes_between, cluster_bytes, joined, placed, text_of, last_segment, cut}
use Rattle.lay_space.specs.AnchorLaws.{is_anchor, without_anchors, segment_without_anchors, has_any, AnchorsMoveNoBreak}
use Rattle.lay_space.proofs.AnchorBreaks.{moved, kept, kept_entries, entries_kept}
use Rattle.lay_space.proofs.AnchorTokens.{place, bytes_kept, tokens_kept, leading_kept, leading_ends, tokens_end}
use Rattle.lay_space.proofs.AnchorEntries.{Closed, Full, entries_closed, entries_full}

-- the clusters of the content without anchors
abbrev pub moved_all : List Item → List Cluster → List Cluster
moved_all items [] = []
moved_all items (c ∷ cs) = moved (place items) c ∷ moved_all items cs

moved_append : (items : List Item) (a b : List Cluster) → moved_all items (a ++ b) ≡ moved_all items a ++ moved_all items b
moved_append items [] b = refl
moved_append items (c ∷ a) b = ap (λ cs. moved (place items) c ∷ cs) (moved_append items a b)

cluster_kept : (items : List Item) (c : Cluster) → cluster_bytes (without_anchors items) (moved (place items) c) ≡ cluster_bytes items c
cluster_kept items c = ap (λ b. bytes_between b c.from c.to) (bytes_kept items c.item)

joined_kept : (items : List Item) (cs : List Cluster) → joined (without_anchors items) (moved_all items cs) ≡ joined items cs
joined_kept items [] = refl
joined_kept items (c ∷ cs) = ap (λ a. a ++ joined (without_anchors items) (moved_all items cs)) (cluster_kept items c) ∙ ap (λ a. cluster_bytes items c ++ a) (joined_kept items cs)

placed_kept : (items : List Item) (at : ℕ) (cs : List Cluster) → placed (without_anchors items) at (moved_all items cs) ≡ placed items at cs
placed_kept items at [] = refl
placed_kept items at (c ∷ cs) =
    ap (λ b. record { place = at; width = c.width } ∷ placed (without_anchors items) (at + length b) (moved_all items cs)) (cluster_kept items c)
    ∙ ap (λ ws. record { place = at; width = c.width } ∷ ws) (placed_kept items (at + length (cluster_bytes items c)) cs)

text_kept : (items : List Item) (cs : List Cluster) → text_of (without_anchors items) (moved_all items cs) ≡ text_of items cs
text_kept items [] = refl
text_kept items (c ∷ cs) =
    ap (λ b. item.Text c.node b c.mode (placed (without_anchors items) 0 (moved_all items (c ∷ cs))) ∷ []) (joined_kept items (c ∷ cs))
    ∙ ap (λ ws. item.Text c.node (joined items (c ∷ cs)) c.mode ws ∷ []) (placed_kept items 0 (c ∷ cs))

text_stays : (items : List Item) (cs : List Cluster) → without_anchors (text_of items cs) ≡ text_of items cs
text_stays items [] = refl
text_stays items (c ∷ cs) = refl

without_append : (a b : List Item) → without_anchors (a ++ b) ≡ without_anchors a ++ without_anchors b
without_append a b = filter-append (λ x. not (is_anchor x)) a b

-- the items since the last break without their anchors
current_kept : (items current : List Item) (cs : List Cluster) → without_anchors (current ++ text_of items cs) ≡ without_anchors current ++ text_of (without_anchors items) (moved_all items cs)
current_kept items current cs =
    without_append current (text_of items cs) ∙ ap (λ a. without_anchors current ++ a) (text_stays items cs ∙ sym (text_kept items cs))

put_kept : (items current : List Item) (cs : List Cluster) (x : Item) → is_anchor x ≡ false
    → without_anchors (current ++ text_of items cs ++ x ∷ []) ≡ without_anchors current ++ text_of (without_anchors items) (moved_all items cs) ++ x ∷ []
put_kept items current cs x is =
    without_append (current ++ text_of items cs) (x ∷ []) ∙ ap (λ a. a ++ without_anchors (x ∷ [])) (current_kept items current cs)
    ∙ ap (λ b. without_anchors current ++ text_of (without_anchors items) (moved_all items cs) ++ cond (not b) (x ∷ []) []) is

any_right : (a b : List Item) → has_any b ≡ true → has_any (a ++ b) ≡ true
any_right [] b is = is
any_right (x ∷ a) b is = refl

text_any : (items : List Item) (cs : List Cluster) (c : Cluster) → has_any (text_of items (cs ++ c ∷ [])) ≡ true
text_any items [] c = refl
text_any items (d ∷ cs) c = refl

-- since the last break something is there but for anchors, where a cluster or an atomic is (`solid`)
abbrev pub Holds : List Item → Bool → List Item → List Cluster → Type 0
Holds items solid current cs = solid ≡ true → has_any (without_anchors current ++ text_of items cs) ≡ true

holds_put : (items current : List Item) (cs : List Cluster) (x : Item) (solid : Bool) → is_anchor x ≡ false → Holds items solid (current ++ text_of items cs ++ x ∷ []) []
holds_put items current cs x solid is on =
    ap has_any (append-nil (without_anchors (current ++ text_of items cs ++ x ∷ []))) ∙ ap has_any (put_kept items current cs x is)
    ∙ any_right (without_anchors current ++ text_of (without_anchors items) (moved_all items cs)) (x ∷ []) refl

abbrev pub left_of : List Segment → List Segment
left_of ss = filter (λ s. has_any s.items) (map segment_without_anchors ss)

last_kept : (xs : List Item) → last_segment (without_anchors xs) ≡ left_of (last_segment xs)
last_kept [] = refl
last_kept (x ∷ xs) = rest (without_anchors (x ∷ xs))
  where
    rest : (ys : List Item) → last_segment ys ≡ cond (has_any ys) (record { items = ys; forced = false } ∷ []) []
    rest [] = refl
    rest (y ∷ ys) = refl

broken_off : (ys : List Item) (g : Bool) (rest rest' : List Segment) → has_any ys ≡ true → rest ≡ rest'
    → record { items = ys; forced = g } ∷ rest ≡ cond (has_any ys) (record { items = ys; forced = g } ∷ rest') rest'
broken_off [] g rest rest' any same = absurd cc
broken_off (y ∷ ys) g rest rest' any same = ap (λ ss. record { items = y ∷ ys; forced = g } ∷ ss) same

abbrev pub CutKept : List Item → List Entry → Type 0
CutKept items es = (current : List Item) (cs : List Cluster) (inside solid : Bool) → Closed inside es → Full solid es → (inside ≡ false → cs ≡ []) → Holds items solid current cs
    → cut (without_anchors items) (without_anchors current) (moved_all items cs) (kept_entries (place items) es) ≡ left_of (cut items current cs es)

-- an item is put behind the text
put : (items : List Item) (es : List Entry) (current : List Item) (cs : List Cluster) (x : Item) (solid : Bool) → is_anchor x ≡ false → CutKept items es → Closed false es → Full solid es
    → cut (without_anchors items) (without_anchors current ++ text_of (without_anchors items) (moved_all items cs) ++ x ∷ []) [] (kept_entries (place items) es)
    ≡ left_of (cut items (current ++ text_of items cs ++ x ∷ []) [] es)
put items es current cs x solid is rest closed full =
    ap (λ a. cut (without_anchors items) a [] (kept_entries (place items) es)) (sym (put_kept items current cs x is))
    ∙ rest (current ++ text_of items cs ++ x ∷ []) [] false solid closed full (λ e. refl) (holds_put items current cs x solid is)

cut_kept : (items : List Item) (es : List Entry) → CutKept items es
cut_kept items [] current cs inside solid closed full empty holds =
    ap last_segment (sym (current_kept items current cs)) ∙ last_kept (current ++ text_of items cs)
cut_kept items (Break g ∷ es) current cs inside solid closed full empty holds =
    let same = current_kept items current cs in
    let rest = cut_kept items es [] [] false false closed full.1 (λ e. refl) (λ e. absurd (true≢false (sym e))) in
    let any = ap has_any (without_append current (text_of items cs) ∙ ap (λ a. without_anchors current ++ a) (text_stays items cs)) ∙ holds full.0 in
    ap (λ a. record { items = a; forced = g } ∷ cut (without_anchors items) [] [] (kept_entries (place items) es)) (sym same)
    ∙ broken_off (without_anchors (current ++ text_of items cs)) g _ _ any rest
cut_kept items (Content (token.Cluster c) ∷ es) current cs inside solid closed full empty holds =
    ap (λ a. cut (without_anchors items) (without_anchors current) a (kept_entries (place items) es)) (sym (moved_append items cs (c ∷ [])))
    ∙ cut_kept items es current (cs ++ c ∷ []) true (solid || true) closed full (λ e. absurd (true≢false e))
    (λ e. any_right (without_anchors current) (text_of items (cs ++ c ∷ [])) (text_any items cs c))
cut_kept items (Content token.TextEnd ∷ es) current cs inside solid closed full empty holds =
    let same = without_append current (text_of items cs) ∙ ap (λ a. without_anchors current ++ a) (text_stays items cs) in
    ap (λ a. cut (without_anchors items) a [] (kept_entries (place items) es)) (sym (current_kept items current cs))
    ∙ cut_kept items es (current ++ text_of items cs) [] false (solid || false) closed full (λ e. refl)
    (λ e. ap has_any (append-nil (without_anchors (current ++ text_of items cs))) ∙ ap has_any same ∙ holds (sym (or-false solid) ∙ e))
cut_kept items (Content (token.Atomic n m) ∷ es) current cs inside solid closed full empty holds = put items es current cs (item.Atomic n m) (solid || true) refl (cut_kept items es) closed full
cut_kept items (Content (token.Start n takes) ∷ es) current cs inside solid closed full empty holds =
    put items es current cs (item.Start n takes) (solid || false) refl (cut_kept items es) closed full
cut_kept items (Content (token.End n) ∷ es) current cs inside solid closed full empty holds = put items es current cs (item.End n) (solid || false) refl (cut_kept items es) closed full
cut_kept items (Content (token.Float n) ∷ es) current cs inside solid closed full empty holds = put items es current cs (item.Float n) (solid || false) refl (cut_kept items es) closed full
cut_kept items (Content (token.Anchor n) ∷ es) current cs inside solid closed full empty holds =
    let none : cs ≡ [] = empty closed.0 in
    let next = current ++ text_of items cs ++ item.Anchor n ∷ [] in
    let gone : without_anchors next ≡ without_anchors current ++ text_of items cs =
    without_append (current ++ text_of items cs) (item.Anchor n ∷ []) ∙ append-nil (without_anchors (current ++ text_of items cs))
    ∙ without_append current (text_of items cs) ∙ ap (λ a. without_anchors current ++ a) (text_stays items cs) in
    let same = gone ∙ ap (λ a. without_anchors current ++ text_of items a) none ∙ append-nil (without_anchors current) in
    ap (λ a. cut (without_anchors items) (without_anchors current) (moved_all items a) (kept_entries (place items) es)) none
    ∙ ap (λ a. cut (without_anchors items) a [] (kept_entries (place items) es)) (sym same)
    ∙ cut_kept items es next [] false (solid || false) closed.1 full (λ e. refl)
    (λ e. ap has_any (append-nil (without_anchors next)) ∙ ap has_any gone ∙ holds (sym (or-false solid) ∙ e))

pub anchors_move_no_break_lem : AnchorsMoveNoBreak
anchors_move_no_break_lem items =
    let f = place items in
    let tokens = without_leading_spaces true (tokens_of 0 items) in
    let ends = leading_ends true false (tokens_of 0 items) (tokens_end 0 items) in
    let here : kept f tokens ≡ without_leading_spaces true (tokens_of 0 (without_anchors items)) =
    leading_kept f true (tokens_of 0 items) ∙ ap (without_leading_spaces true) (tokens_kept f 0 0 items (λ i. zeros i)) in
    ap (λ es. cut (without_anchors items) [] [] es) (ap entries_of (sym here) ∙ sym (entries_kept f tokens ends))
    ∙ cut_kept items (entries_of tokens) [] [] false false (entries_closed tokens ends) (entries_full tokens) (λ e. refl) (λ e. absurd (true≢false (sym e)))
  where
    zeros : (i : ℕ) → place items (i + 0) ≡ place items i + 0
    zeros i =
        let from : i + 0 ≡ i = omega arith in
        let to : place items i ≡ place items i + 0 = omega arith in
        ap (place items) from ∙ to
