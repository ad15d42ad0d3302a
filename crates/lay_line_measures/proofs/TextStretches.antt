-- The stretches of a container whose lines hold one text.
use Rattle.std.proofs.Common.{◌≡◌, ◌∙◌, ℕ, ◌+◌, ◌≤◌, ◌==◌, slice_get, Bool, true, false, ◌&&◌, if◌then◌else◌, List, [], ◌∷◌, ◌++◌, length, drop, get_or, Option, Some, None, refl, sym, ap, append-nil, arith}
use Rattle.std.proofs.lemmas.List.{drop_all}
use Rattle.lay_units.specs.declared.length.Unit.{Unit as Length}
use Rattle.lay_units.specs.declared.records.ClusterWidth.{ClusterWidth}
use Rattle.lay_space.specs.declared.item.Item.{Item}
use Rattle.lay_space.specs.declared.item.Item.TheVariants as item
use Rattle.lay_space.specs.declared.item.Mode.{Mode}
use Rattle.lay_space.specs.declared.tokens.Cluster.{Cluster}
use Rattle.lay_space.specs.declared.tokens.ClusterKind.{ClusterKind}
use Rattle.lay_space.specs.declared.tokens.ClusterKind.TheVariants.{CollapsibleSpace, PreservedSpace, Linefeed, Tab, ZeroWidthSpace, Other}
use Rattle.lay_space.specs.declared.tokens.Token.{Token}
use Rattle.lay_space.specs.declared.tokens.Token.TheVariants as token
use Rattle.lay_space.specs.Modes.{collapses, joins_lines, wraps}
use Rattle.lay_space.specs.Tokens.{cluster_tokens, kind_of, next_place, without_leading_spaces}
use Rattle.lay_space.specs.Breaks.{back_break, break_after, broken, settled, solid_after}
use Rattle.lay_space.specs.Segments.{bytes_of, cut, last_segment, segments_of, text_of}
use Rattle.lay_space.specs.BreakPlaces.{is_linefeed}
use Rattle.lay_lines.specs.declared.content.content.Part.{Part}
use Rattle.lay_lines.specs.declared.content.content.Part.TheVariants as part
use Rattle.lay_lines.specs.declared.content.content.Stretch.{Stretch}
use Rattle.lay_line_measures.specs.declared.container.Container.{Container}
use Rattle.lay_line_measures.specs.declared.text_parts.TextBox.{TextBox}
use Rattle.lay_line_measures.specs.BoxMeasuresValue.{BoxMeasuresValue}
use Rattle.lay_line_measures.specs.Stretches.{stretch_of, stretches_of}
use Rattle.lay_line_measures.specs.TextParts.{advance, cluster_parts, parts_between}
use Rattle.lay_line_measures.specs.TextStretches.{breaks, cut_parts, cuts, is_space, last_stretch, text_stretch}
use Rattle.lay_line_measures.proofs.CutParts.{cut_of, cut_text_parts, cuts_more, cuts_of}

-- The stretches of these clusters and of the parts before them, which no line breaks between. `first` says whether a line
-- surely begins here; a space there is removed.
abbrev pub stretches_from : TextBox → List ℕ → Bool → List Part → List ClusterWidth → List Stretch
stretches_from t text first parts [] = last_stretch parts
stretches_from t text first parts (w ∷ ws) =
    if first && is_space (kind_of t.mode text w.place (next_place text ws)) then stretches_from t text first parts ws
    else (if breaks (kind_of t.mode text w.place (next_place text ws))
    then text_stretch (parts ++ cut_parts t text w (next_place text ws)) (is_linefeed (kind_of t.mode text w.place (next_place text ws)))
    ∷ stretches_from t text (is_linefeed (kind_of t.mode text w.place (next_place text ws))) [] ws
    else stretches_from t text false (parts ++ cut_parts t text w (next_place text ws)) ws)

-- the first of these clusters is of the text of the box t
abbrev Begins : TextBox → List Cluster → Type 0
Begins t [] = Unit {0}
Begins t (c ∷ cs) = (c.node ≡ t.node) × (c.mode ≡ t.mode)

abbrev box_of : Cluster → TextBox
box_of c = record { node = c.node; mode = c.mode }

same_box : (items : List Item) (t : TextBox) (held : List Cluster) (node : ℕ) (mode : Mode) → node ≡ t.node → mode ≡ t.mode
    → cuts_of items (record { node = node; mode = mode }) held ≡ cuts_of items t held
same_box items t held node mode is same =
    ap (λ n. cuts_of items (record { node = n; mode = mode }) held) is ∙ ap (λ n. cuts_of items (record { node = t.node; mode = n }) held) same

-- clusters without a break between, as a stretch
held_stretch : (M : BoxMeasuresValue) (C : Container) (items : List Item) (t : TextBox) (begins f : Bool) (held : List Cluster) → Begins t held
    → stretch_of M C begins (record { items = text_of items held; forced = f }) ≡ text_stretch (cuts_of items t held) f
held_stretch M C items t begins f [] is = refl
held_stretch M C items t true f (c ∷ cs) is =
    ap (λ ps. text_stretch ps f) (append-nil _ ∙ cut_text_parts items (box_of c) (c ∷ cs) ∙ same_box items t (c ∷ cs) c.node c.mode is.0 is.1)
held_stretch M C items t false f (c ∷ cs) is =
    ap (λ ps. text_stretch ps f) (append-nil _ ∙ cut_text_parts items (box_of c) (c ∷ cs) ∙ same_box items t (c ∷ cs) c.node c.mode is.0 is.1)

some_parts : (t : TextBox) (k : ClusterKind) (lone : Bool) (w : Length) (ps : List Part) → last_stretch (cluster_parts t k lone w ++ ps) ≡ text_stretch (cluster_parts t k lone w ++ ps) false ∷ []
some_parts t CollapsibleSpace lone w ps = refl
some_parts t PreservedSpace lone w ps = of_mode (wraps t.mode)
  where
    of_mode : (b : Bool) → last_stretch ((if b then part.PreservedSpace (advance t.node w) ∷ [] else part.Text (advance t.node w) ∷ []) ++ ps)
        ≡ text_stretch ((if b then part.PreservedSpace (advance t.node w) ∷ [] else part.Text (advance t.node w) ∷ []) ++ ps) false ∷ []
    of_mode true = refl
    of_mode false = refl
some_parts t Linefeed true w ps = refl
some_parts t Linefeed false w ps = refl
some_parts t Tab lone w ps = refl
some_parts t ZeroWidthSpace lone w ps = refl
some_parts t Other lone w ps = refl

some_cut : (t : TextBox) (text : List ℕ) (w : ClusterWidth) (to : ℕ) (b : Bool) (ps : List Part)
    → last_stretch ((if b then parts_between t text w to else part.Text (advance t.node w.width) ∷ []) ++ ps)
    ≡ text_stretch ((if b then parts_between t text w to else part.Text (advance t.node w.width) ∷ []) ++ ps) false ∷ []
some_cut t text w to true ps = some_parts t (kind_of t.mode text w.place to) (to == w.place + 1) w.width ps
some_cut t text w to false ps = refl

-- what stands behind the last break
held_last : (M : BoxMeasuresValue) (C : Container) (items : List Item) (t : TextBox) (begins : Bool) (held : List Cluster) → Begins t held
    → stretches_of M C begins (last_segment (text_of items held ++ [])) ≡ last_stretch (cuts_of items t held)
held_last M C items t begins [] is = refl
held_last M C items t begins (c ∷ cs) is =
    ap (λ s. s ∷ []) (held_stretch M C items t begins false (c ∷ cs) is)
    ∙ sym (some_cut t (bytes_of (slice_get items c.item)) (record { place = c.from; width = c.width }) c.to (cuts (bytes_of (slice_get items c.item)) c.from c.to) (cuts_of items t cs))

held_broken : (M : BoxMeasuresValue) (C : Container) (items : List Item) (t : TextBox) (begins f : Bool) (held : List Cluster) → Begins t held
    → stretch_of M C begins (record { items = text_of items held ++ []; forced = f }) ∷ [] ≡ text_stretch (cuts_of items t held) f ∷ []
held_broken M C items t begins f held is =
    ap (λ xs. stretch_of M C begins (record { items = xs; forced = f }) ∷ []) (append-nil (text_of items held)) ∙ ap (λ s. s ∷ []) (held_stretch M C items t begins f held is)

begins_more : (t : TextBox) (held : List Cluster) (c : Cluster) → Begins t held → c.node ≡ t.node → c.mode ≡ t.mode → Begins t (held ++ c ∷ [])
begins_more t [] c is node mode = (node, mode)
begins_more t (d ∷ ds) c is node mode = is

-- the stretches of tokens, where `at` is the break that they may go back behind
abbrev after : BoxMeasuresValue → Container → List Item → Bool → Option Bool → Bool → List Cluster → List Token → List Stretch
after M C items begins at solid held xs = stretches_of M C begins (cut items [] held (settled at false [] (broken solid xs)))

-- The same by the stretches of what comes behind these parts: with a break between, or without.
abbrev behind : Option Bool → List Part → (List Part → List Stretch) → List Stretch
behind None ps next = next ps
behind (Some f) ps next = text_stretch ps f ∷ next []

-- what comes is said by whether a line surely begins and by the parts that no break is behind
abbrev Comes : BoxMeasuresValue → Container → List Item → TextBox → List Token → (Bool → List Part → List Stretch) → Type 0
Comes M C items t xs next =
    (begins : Bool) (at : Option Bool) (solid first : Bool) (held : List Cluster) → Begins t held
    → after M C items begins at solid held (without_leading_spaces first xs) ≡ behind at (cuts_of items t held) (next first)

comes_end : (M : BoxMeasuresValue) (C : Container) (items : List Item) (t : TextBox) → Comes M C items t (token.TextEnd ∷ []) (λ first ps. last_stretch ps)
comes_end M C items t begins None true true held is = held_last M C items t begins held is
comes_end M C items t begins None true false held is = held_last M C items t begins held is
comes_end M C items t begins None false true held is = held_last M C items t begins held is
comes_end M C items t begins None false false held is = held_last M C items t begins held is
comes_end M C items t begins (Some f) true true held is = held_broken M C items t begins f held is
comes_end M C items t begins (Some f) true false held is = held_broken M C items t begins f held is
comes_end M C items t begins (Some f) false true held is = held_broken M C items t begins f held is
comes_end M C items t begins (Some f) false false held is = held_broken M C items t begins f held is

-- a cluster is put behind what is held, and the break behind it
comes_put : (M : BoxMeasuresValue) (C : Container) (items : List Item) (t : TextBox) (xs : List Token) (next : Bool → List Part → List Stretch) (c : Cluster) → Comes M C items t xs next
    → c.node ≡ t.node → c.mode ≡ t.mode → (b : Option Bool) (begins solid first : Bool) (held : List Cluster) → Begins t held
    → stretches_of M C begins (cut items [] (held ++ c ∷ []) (settled None false [] (back_break b ++ broken solid (without_leading_spaces first xs))))
    ≡ behind b (cuts_of items t held ++ cut_of items t c) (next first)
comes_put M C items t xs next c comes node mode None begins solid first held is =
    comes begins None solid first (held ++ c ∷ []) (begins_more t held c is node mode) ∙ ap (next first) (cuts_more items t held c)
comes_put M C items t xs next c comes node mode (Some f) begins solid first held is =
    comes begins (Some f) solid first (held ++ c ∷ []) (begins_more t held c is node mode) ∙ ap (λ ps. text_stretch ps f ∷ next first []) (cuts_more items t held c)

both : {s s' : Stretch} {ss ss' : List Stretch} → s ≡ s' → ss ≡ ss' → s ∷ ss ≡ s' ∷ ss'
both {s} {s'} {ss} {ss'} first rest = ap (λ x. x ∷ ss) first ∙ ap (λ xs. s' ∷ xs) rest

comes_cluster : (M : BoxMeasuresValue) (C : Container) (items : List Item) (t : TextBox) (xs : List Token) (next : Bool → List Part → List Stretch) (c : Cluster) → Comes M C items t xs next
    → c.node ≡ t.node → c.mode ≡ t.mode → (b at : Option Bool) (begins solid first : Bool) (held : List Cluster) → Begins t held → break_after (token.Cluster c) (without_leading_spaces first xs) ≡ b
    → after M C items begins at solid held (token.Cluster c ∷ without_leading_spaces first xs)
    ≡ behind at (cuts_of items t held) (λ ps. behind b (ps ++ cut_of items t c) (next first))
comes_cluster M C items t xs next c comes node mode b None begins true first held is e = rw e (comes_put M C items t xs next c comes node mode b begins (solid_after b true) first held is)
comes_cluster M C items t xs next c comes node mode b None begins false first held is e = rw e (comes_put M C items t xs next c comes node mode b begins (solid_after b true) first held is)
comes_cluster M C items t xs next c comes node mode b (Some f) begins true first held is e =
    rw e (both (held_stretch M C items t begins f held is) (comes_put M C items t xs next c comes node mode b f (solid_after b true) first [] tt))
comes_cluster M C items t xs next c comes node mode b (Some f) begins false first held is e =
    rw e (both (held_stretch M C items t begins f held is) (comes_put M C items t xs next c comes node mode b f (solid_after b true) first [] tt))

abbrev is_kept : ClusterKind → Bool
is_kept CollapsibleSpace = false
is_kept PreservedSpace = true
is_kept Linefeed = false
is_kept Tab = false
is_kept ZeroWidthSpace = false
is_kept Other = false

none_kept : (joins space feed tab zero : Bool)
    → is_kept (if space then CollapsibleSpace else (if feed then (if joins then Other else Linefeed) else (if tab then Other else (if zero then ZeroWidthSpace else Other)))) ≡ false
none_kept joins true feed tab zero = refl
none_kept true false true tab zero = refl
none_kept false false true tab zero = refl
none_kept joins false false true zero = refl
none_kept joins false false false true = refl
none_kept joins false false false false = refl

collapsing : (m : Mode) (text : List ℕ) (from to : ℕ) → collapses m ≡ true → is_kept (kind_of m text from to) ≡ false
collapsing m text from to e = rw e (none_kept (joins_lines m) _ _ _ _)

abbrev cluster_as : TextBox → ClusterWidth → ℕ → ClusterKind → Cluster
cluster_as t w to k = record { item = 0; node = t.node; mode = t.mode; kind = k; from = w.place; to = to; width = w.width }

abbrev turned : ClusterKind → Bool → List Part → (Bool → List Part → List Stretch) → List Part → List Stretch
turned k first cut next ps =
    if first && is_space k then next first ps
    else (if breaks k then text_stretch (ps ++ cut) (is_linefeed k) ∷ next (is_linefeed k) [] else next false (ps ++ cut))

comes_kind : (M : BoxMeasuresValue) (C : Container) (items : List Item) (t : TextBox) (xs : List Token) (next : Bool → List Part → List Stretch) (w : ClusterWidth) (to : ℕ) (k : ClusterKind) → Comes M C items t xs next
    → wraps t.mode ≡ true → is_kept k ≡ false → (begins : Bool) (at : Option Bool) (solid first : Bool) (held : List Cluster) → Begins t held
    → after M C items begins at solid held (without_leading_spaces first (token.Cluster (cluster_as t w to k) ∷ xs))
    ≡ behind at (cuts_of items t held) (turned k first (cut_of items t (cluster_as t w to k)) next)
comes_kind M C items t xs next w to CollapsibleSpace comes wrap kept begins at solid true held is = comes begins at solid true held is
comes_kind M C items t xs next w to CollapsibleSpace comes wrap kept begins at solid false held is =
    comes_cluster M C items t xs next (cluster_as t w to CollapsibleSpace) comes refl refl (Some false) at begins solid false held is (ap (λ b. if b then Some false else None) wrap)
comes_kind M C items t xs next w to ZeroWidthSpace comes wrap kept begins at solid true held is =
    comes_cluster M C items t xs next (cluster_as t w to ZeroWidthSpace) comes refl refl (Some false) at begins solid false held is (ap (λ b. if b then Some false else None) wrap)
comes_kind M C items t xs next w to ZeroWidthSpace comes wrap kept begins at solid false held is =
    comes_cluster M C items t xs next (cluster_as t w to ZeroWidthSpace) comes refl refl (Some false) at begins solid false held is (ap (λ b. if b then Some false else None) wrap)
comes_kind M C items t xs next w to Linefeed comes wrap kept begins at solid true held is =
    comes_cluster M C items t xs next (cluster_as t w to Linefeed) comes refl refl (Some true) at begins solid true held is refl
comes_kind M C items t xs next w to Linefeed comes wrap kept begins at solid false held is =
    comes_cluster M C items t xs next (cluster_as t w to Linefeed) comes refl refl (Some true) at begins solid true held is refl
comes_kind M C items t xs next w to Tab comes wrap kept begins at solid true held is =
    comes_cluster M C items t xs next (cluster_as t w to Tab) comes refl refl None at begins solid false held is refl
comes_kind M C items t xs next w to Tab comes wrap kept begins at solid false held is =
    comes_cluster M C items t xs next (cluster_as t w to Tab) comes refl refl None at begins solid false held is refl
comes_kind M C items t xs next w to Other comes wrap kept begins at solid true held is =
    comes_cluster M C items t xs next (cluster_as t w to Other) comes refl refl None at begins solid false held is refl
comes_kind M C items t xs next w to Other comes wrap kept begins at solid false held is =
    comes_cluster M C items t xs next (cluster_as t w to Other) comes refl refl None at begins solid false held is refl
comes_kind M C items t xs next w to PreservedSpace comes wrap kept begins at solid first held is = absurd cc

text_comes : (M : BoxMeasuresValue) (C : Container) (t : TextBox) (text : List ℕ) (all : List ClusterWidth) → collapses t.mode ≡ true → wraps t.mode ≡ true → (ws : List ClusterWidth)
    → Comes M C (item.Text t.node text t.mode all ∷ []) t (cluster_tokens 0 t.node t.mode text ws ++ token.TextEnd ∷ []) (λ first ps. stretches_from t text first ps ws)
text_comes M C t text all collapse wrap [] begins at solid first held is = comes_end M C (item.Text t.node text t.mode all ∷ []) t begins at solid first held is
text_comes M C t text all collapse wrap (w ∷ ws) begins at solid first held is =
    comes_kind M C (item.Text t.node text t.mode all ∷ []) t (cluster_tokens 0 t.node t.mode text ws ++ token.TextEnd ∷ []) (λ first ps. stretches_from t text first ps ws) w (next_place text ws)
    (kind_of t.mode text w.place (next_place text ws)) (text_comes M C t text all collapse wrap ws) wrap (collapsing t.mode text w.place (next_place text ws) collapse) begins at solid first held is

-- a container whose lines hold one text
text_stretches_are : (M : BoxMeasuresValue) (C : Container) (t : TextBox) (text : List ℕ) (ws : List ClusterWidth) → collapses t.mode ≡ true → wraps t.mode ≡ true
    → stretches_from t text true [] ws ≡ stretches_of M C true (segments_of (item.Text t.node text t.mode ws ∷ []))
text_stretches_are M C t text ws collapse wrap =
    let items = item.Text t.node text t.mode ws ∷ [] in
    sym (ap (λ xs. after M C items true None false [] (without_leading_spaces true xs)) (append-nil (cluster_tokens 0 t.node t.mode text ws ++ token.TextEnd ∷ []))
    ∙ text_comes M C t text ws collapse wrap ws true None false true [] tt)

-- so they are where all clusters are put
pub all_stretches : (M : BoxMeasuresValue) (C : Container) (t : TextBox) (text : List ℕ) (ws : List ClusterWidth) → collapses t.mode ≡ true → wraps t.mode ≡ true
    → (done : List Stretch) (first : Bool) (parts : List Part) (k : ℕ) → length ws ≤ k → done ++ stretches_from t text first parts (drop k ws) ≡ stretches_from t text true [] ws
    → done ++ last_stretch parts ≡ stretches_of M C true (segments_of (item.Text t.node text t.mode ws ∷ []))
all_stretches M C t text ws collapse wrap done first parts k end are =
    sym (ap (λ xs. done ++ stretches_from t text first parts xs) (drop_all k ws (omega (arith, end)))) ∙ are ∙ text_stretches_are M C t text ws collapse wrap

pub one_text : (M : BoxMeasuresValue) (C : Container) (items : List Item) (x y : Item) → length items ≡ 1 → x ≡ get_or items 0 x → x ≡ y
    → stretches_of M C true (segments_of (y ∷ [])) ≡ stretches_of M C true (segments_of items)
one_text M C [] x y one at is = absurd (omega (arith, one))
one_text M C (z ∷ []) x y one at is = ap (λ i. stretches_of M C true (segments_of (i ∷ []))) (sym is ∙ at)
one_text M C (z ∷ u ∷ xs) x y one at is = absurd (omega (arith, one))
