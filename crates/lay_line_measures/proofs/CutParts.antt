-- The clusters of a text that is cut out of another are the same parts of a line as they were there.
use Rattle.std.proofs.Common.{◌≡◌, ◌∙◌, ℕ, ◌+◌, ◌-◌, ◌<◌, ◌≤◌, ◌==◌, nat_lt, Bool, true, false, not, ◌&&◌, ◌||◌, ◌⊎◌, inl, inr, if◌then◌else◌, List, [], ◌∷◌, ◌++◌, length, drop, slice_index, slice_range, slice_get, refl, sym, ap, arith, append_assoc, append-nil, length-append, length-drop}
use Rattle.std.proofs.lemmas.Bool.{and_parts, or_cases, eq-eqb, eqb-true, ltb-true, ltb-false, ne_eqb, both_ways}
use Rattle.std.proofs.lemmas.List.{get_or-append-add, get_or_append_left, get_or-take, get_or-drop, length-take-le}
use Rattle.lay_units.specs.declared.records.ClusterWidth.{ClusterWidth}
use Rattle.lay_space.specs.declared.item.Item.{Item}
use Rattle.lay_space.specs.declared.item.Mode.{Mode}
use Rattle.lay_space.specs.declared.tokens.Cluster.{Cluster}
use Rattle.lay_space.specs.declared.tokens.ClusterKind.{ClusterKind}
use Rattle.lay_space.specs.declared.tokens.ClusterKind.TheVariants.{Linefeed, Tab, ZeroWidthSpace, Other}
use Rattle.lay_space.specs.Modes.{collapses, joins_lines}
use Rattle.lay_space.specs.Segments.{bytes_of, cluster_bytes, is_boundary, joined, placed}
use Rattle.lay_space.specs.Tokens.{kind_of, next_place, space_kind}
use Rattle.lay_lines.specs.declared.content.content.Part.{Part}
use Rattle.lay_lines.specs.declared.content.content.Part.TheVariants as part
use Rattle.lay_line_measures.specs.declared.text_parts.TextBox.{TextBox}
use Rattle.lay_line_measures.specs.TextParts.{advance, cluster_parts, parts_between, text_parts}
use Rattle.lay_line_measures.specs.TextStretches.{cut_parts, cuts}

-- the kind of a cluster, by the tests for a space, a linefeed, a tab and a zero width space
abbrev kind_by : Mode → Bool → Bool → Bool → Bool → ClusterKind
kind_by m space feed tab zero =
    if space then space_kind m else (if feed then (if joins_lines m then Other else Linefeed) else (if tab then (if collapses m then Other else Tab) else (if zero then ZeroWidthSpace else Other)))

kinds : (m : Mode) (s s' f f' t t' z z' : Bool) → s ≡ s' → f ≡ f' → t ≡ t' → z ≡ z' → kind_by m s f t z ≡ kind_by m s' f' t' z'
kinds m s s' f f' t t' z z' es ef et ez =
    ap (λ b. kind_by m b f t z) es ∙ ap (λ b. kind_by m s' b t z) ef ∙ ap (λ b. kind_by m s' f' b z) et ∙ ap (λ b. kind_by m s' f' t' b) ez

same_length : (a b l n : ℕ) → (a + l == a + n) ≡ (b + l == b + n)
same_length a b l n = by (l == n) refl
  where
    by : (t : Bool) → (l == n) ≡ t → (a + l == a + n) ≡ (b + l == b + n)
    by true e = let same = eqb-true l n e in eq-eqb (a + l) (a + n) (omega (arith, same)) ∙ sym (eq-eqb (b + l) (b + n) (omega (arith, same)))
    by false e =
        ne_eqb (a + l) (a + n) (λ same. both_ways (l == n) e (eq-eqb l n (omega (arith, same))))
        ∙ sym (ne_eqb (b + l) (b + n) (λ same. both_ways (l == n) e (eq-eqb l n (omega (arith, same)))))

one_if : (t x y : Bool) → (t ≡ true → x ≡ y) → (t && x) ≡ (t && y)
one_if true x y same = same refl
one_if false x y same = refl

two_if : (t x y u v : Bool) → (t ≡ true → x ≡ y) → (t ≡ true → u ≡ v) → (t && x && u) ≡ (t && y && v)
two_if true x y u v first second = ap (λ b. b && u) (first refl) ∙ ap (λ b. y && b) (second refl)
two_if false x y u v first second = refl

three_if : (t x y u v r s : Bool) → (t ≡ true → x ≡ y) → (t ≡ true → u ≡ v) → (t ≡ true → r ≡ s) → (t && x && u && r) ≡ (t && y && v && s)
three_if true x y u v r s first second third = ap (λ b. b && u && r) (first refl) ∙ ap (λ b. y && b && r) (second refl) ∙ ap (λ b. y && v && b) (third refl)
three_if false x y u v r s first second third = refl

-- the same bytes stand from `a` and from `b` on, as far as the cluster reaches
abbrev SameBytes : List ℕ → ℕ → List ℕ → ℕ → ℕ → Type 0
SameBytes xs a ys b l = (i : ℕ) → i < l → slice_index xs (a + i) ≡ slice_index ys (b + i)

same_at : (xs : List ℕ) (a : ℕ) (ys : List ℕ) (b l n i byte : ℕ) → SameBytes xs a ys b l → i < n → (b + l == b + n) ≡ true → (slice_index xs (a + i) == byte) ≡ (slice_index ys (b + i) == byte)
same_at xs a ys b l n i byte same below e = let long = eqb-true (b + l) (b + n) e in ap (λ v. v == byte) (same i (omega (arith, long, below)))

same_first : (xs : List ℕ) (a : ℕ) (ys : List ℕ) (b l n byte : ℕ) → SameBytes xs a ys b l → 0 < n → (b + l == b + n) ≡ true → (slice_index xs a == byte) ≡ (slice_index ys b == byte)
same_first xs a ys b l n byte same some e =
    let here : a ≡ a + 0 = omega arith in let there : b + 0 ≡ b = omega arith in
    ap (λ k. slice_index xs k == byte) here ∙ same_at xs a ys b l n 0 byte same some e ∙ ap (λ k. slice_index ys k == byte) there

same_byte : (xs : List ℕ) (a : ℕ) (ys : List ℕ) (b l byte : ℕ) → SameBytes xs a ys b l
    → (a + l == a + 1 && slice_index xs a == byte) ≡ (b + l == b + 1 && slice_index ys b == byte)
same_byte xs a ys b l byte same =
    ap (λ t. t && slice_index xs a == byte) (same_length a b l 1) ∙ one_if (b + l == b + 1) _ _ (same_first xs a ys b l 1 byte same (omega arith))

same_pair : (xs : List ℕ) (a : ℕ) (ys : List ℕ) (b l : ℕ) → SameBytes xs a ys b l
    → (a + l == a + 2 && slice_index xs a == 13 && slice_index xs (a + 1) == 10) ≡ (b + l == b + 2 && slice_index ys b == 13 && slice_index ys (b + 1) == 10)
same_pair xs a ys b l same =
    ap (λ t. t && slice_index xs a == 13 && slice_index xs (a + 1) == 10) (same_length a b l 2)
    ∙ two_if (b + l == b + 2) _ _ _ _ (same_first xs a ys b l 2 13 same (omega arith)) (same_at xs a ys b l 2 1 10 same (omega arith))

same_zero_width : (xs : List ℕ) (a : ℕ) (ys : List ℕ) (b l : ℕ) → SameBytes xs a ys b l
    → (a + l == a + 3 && slice_index xs a == 226 && slice_index xs (a + 1) == 128 && slice_index xs (a + 2) == 139)
    ≡ (b + l == b + 3 && slice_index ys b == 226 && slice_index ys (b + 1) == 128 && slice_index ys (b + 2) == 139)
same_zero_width xs a ys b l same =
    ap (λ t. t && slice_index xs a == 226 && slice_index xs (a + 1) == 128 && slice_index xs (a + 2) == 139) (same_length a b l 3)
    ∙ three_if (b + l == b + 3) _ _ _ _ _ _ (same_first xs a ys b l 3 226 same (omega arith)) (same_at xs a ys b l 3 1 128 same (omega arith)) (same_at xs a ys b l 3 2 139 same (omega arith))

same_kind : (m : Mode) (xs : List ℕ) (a : ℕ) (ys : List ℕ) (b l : ℕ) → SameBytes xs a ys b l → kind_of m xs a (a + l) ≡ kind_of m ys b (b + l)
same_kind m xs a ys b l same =
    let feed = same_byte xs a ys b l 10 same in
    kinds m _ _ _ _ _ _ _ _ (same_byte xs a ys b l 32 same)
    (ap (λ t. t || (a + l == a + 2 && slice_index xs a == 13 && slice_index xs (a + 1) == 10)) feed
    ∙ ap (λ t. (b + l == b + 1 && slice_index ys b == 10) || t) (same_pair xs a ys b l same))
    (same_byte xs a ys b l 9 same) (same_zero_width xs a ys b l same)

-- a cluster of no bytes
no_kind : (m : Mode) (xs : List ℕ) (a : ℕ) → kind_of m xs a (a + 0) ≡ Other
no_kind m xs a = rw (ne_eqb (a + 0) (a + 1) (omega arith), ne_eqb (a + 0) (a + 2) (omega arith), ne_eqb (a + 0) (a + 3) (omega arith)) refl

pub within : (text : List ℕ) (at : ℕ) → is_boundary text at ≡ true → at ≤ length text
within text at is = by (or_cases (at == length text) (nat_lt at (length text) && (nat_lt (slice_index text at) 128 || nat_lt 191 (slice_index text at))) is)
  where
    by : ((at == length text) ≡ true) ⊎ ((nat_lt at (length text) && (nat_lt (slice_index text at) 128 || nat_lt 191 (slice_index text at))) ≡ true) → at ≤ length text
    by (inl e) = omega (arith, eqb-true at (length text) e)
    by (inr e) = omega (arith, ltb-true at (length text) (and_parts (nat_lt at (length text)) (nat_lt (slice_index text at) 128 || nat_lt 191 (slice_index text at)) e).0)

-- where a cluster stands in the text that it is cut into
cut_in : (t : TextBox) (text before after : List ℕ) (w : ClusterWidth) (to : ℕ) (b : Bool) → cuts text w.place to ≡ b
    → parts_between t (before ++ ((if b then slice_range text w.place to else []) ++ after)) (record { place = length before; width = w.width }) (length before + length (if b then slice_range text w.place to else []))
    ≡ (if b then parts_between t text w to else part.Text (advance t.node w.width) ∷ [])
cut_in t text before after w to true is =
    let parts = and_parts (not (nat_lt to w.place) && is_boundary text w.place) (is_boundary text to) is in
    let order : w.place ≤ to = ltb-false to w.place (not_true (nat_lt to w.place) (and_parts (not (nat_lt to w.place)) (is_boundary text w.place) parts.0).0) in
    let inside : to ≤ length text = within text to parts.1 in
    let l = to - w.place in
    let sum : w.place + l ≡ to = omega (arith, order) in
    let long : length (slice_range text w.place to) ≡ l = length-take-le l (drop w.place text) (omega (arith, length-drop w.place text, inside, order)) in
    let there : kind_of t.mode (before ++ (slice_range text w.place to ++ after)) (length before) (length before + l) ≡ kind_of t.mode text w.place to =
    same_kind t.mode _ (length before) text w.place l (λ i below.
    get_or-append-add before (slice_range text w.place to ++ after) i 0 ∙ get_or_append_left (slice_range text w.place to) after 0 i (omega (arith, long, below))
    ∙ get_or-take l (drop w.place text) i 0 below ∙ get_or-drop w.place text i 0)
    ∙ ap (kind_of t.mode text w.place) sum in
    let lone : (length before + l == length before + 1) ≡ (to == w.place + 1) = same_length (length before) w.place l 1 ∙ ap (λ n. n == w.place + 1) sum in
    ap (λ n. parts_between t (before ++ (slice_range text w.place to ++ after)) (record { place = length before; width = w.width }) (length before + n)) long
    ∙ ap (λ k. cluster_parts t k (length before + l == length before + 1) w.width) there ∙ ap (λ one. cluster_parts t (kind_of t.mode text w.place to) one w.width) lone
  where
    not_true : (b : Bool) → not b ≡ true → b ≡ false
    not_true true e = absurd cc
    not_true false e = refl
cut_in t text before after w to false is = ap (λ k. cluster_parts t k (length before + 0 == length before + 1) w.width) (no_kind t.mode _ (length before))

abbrev text_at : List Item → Cluster → List ℕ
text_at items c = bytes_of (slice_get items c.item)

-- the parts of a cluster of these items, cut out of its text
abbrev pub cut_of : List Item → TextBox → Cluster → List Part
cut_of items t c = cut_parts t (text_at items c) (record { place = c.from; width = c.width }) c.to

abbrev pub cuts_of : List Item → TextBox → List Cluster → List Part
cuts_of items t [] = []
cuts_of items t (c ∷ cs) = cut_of items t c ++ cuts_of items t cs

next_is : (items : List Item) (all before : List ℕ) (p : ℕ) (cs : List Cluster) → all ≡ before ++ joined items cs → length before ≡ p → next_place all (placed items p cs) ≡ p
next_is items all before p [] is long = ap length (is ∙ append-nil before) ∙ long
next_is items all before p (c ∷ cs) is long = refl

joined_parts : (items : List Item) (t : TextBox) (cs : List Cluster) (all before : List ℕ) → all ≡ before ++ joined items cs
    → text_parts t all (placed items (length before) cs) ≡ cuts_of items t cs
joined_parts items t [] all before is = refl
joined_parts items t (c ∷ cs) all before is =
    let bytes = cluster_bytes items c in
    let more : all ≡ (before ++ bytes) ++ joined items cs = is ∙ sym (append_assoc before bytes (joined items cs)) in
    let long : length (before ++ bytes) ≡ length before + length bytes = length-append before bytes in
    ap (λ to. parts_between t all (record { place = length before; width = c.width }) to ++ text_parts t all (placed items (length before + length bytes) cs))
    (next_is items all (before ++ bytes) (length before + length bytes) cs more long)
    ∙ ap (λ xs. parts_between t xs (record { place = length before; width = c.width }) (length before + length bytes) ++ text_parts t all (placed items (length before + length bytes) cs)) is
    ∙ ap (λ ps. ps ++ text_parts t all (placed items (length before + length bytes) cs))
    (cut_in t (text_at items c) before (joined items cs) (record { place = c.from; width = c.width }) c.to (cuts (text_at items c) c.from c.to) refl)
    ∙ ap (λ n. cut_of items t c ++ text_parts t all (placed items n cs)) (sym long)
    ∙ ap (λ ps. cut_of items t c ++ ps) (joined_parts items t cs all (before ++ bytes) more)

-- the clusters of a text that is cut out
pub cut_text_parts : (items : List Item) (t : TextBox) (cs : List Cluster) → text_parts t (joined items cs) (placed items 0 cs) ≡ cuts_of items t cs
cut_text_parts items t cs = joined_parts items t cs (joined items cs) [] refl

pub cuts_more : (items : List Item) (t : TextBox) (cs : List Cluster) (c : Cluster) → cuts_of items t (cs ++ c ∷ []) ≡ cuts_of items t cs ++ cut_of items t c
cuts_more items t [] c = append-nil (cut_of items t c)
cuts_more items t (d ∷ cs) c = ap (λ ps. cut_of items t d ++ ps) (cuts_more items t cs c) ∙ sym (append_assoc (cut_of items t d) (cuts_of items t cs) (cut_of items t c))
