-- Content that is seen in lines is seen where preferred widths are worked out.
use Rattle.std.proofs.Common.{◌≡◌, ℕ, zero, suc, ◌+◌, ◌<◌, ◌==◌, Bool, true, false, ◌||◌, if◌then◌else◌}
use Rattle.std.proofs.Common.{List, [], ◌∷◌, ◌++◌, All, take, IsTrue, refl, sym, ap, ◌∙◌, arith}
use Rattle.std.specs.List.{list_any, slice_get}
use Rattle.std.proofs.lemmas.List.Folds.{list_any-append}
use Rattle.std.proofs.lemmas.List.Elements.{All-head, All-tail}
use Rattle.std.proofs.lemmas.Bool.{or_left}
use Rattle.std.proofs.Math.Bool.{or-false}
use Rattle.lay_units.specs.declared.length.Unit.{Unit as Length}
use Rattle.lay_units.specs.declared.records.ClusterWidth.{ClusterWidth}
use Rattle.lay_space.specs.declared.item.Item.{Item}
use Rattle.lay_space.specs.declared.item.Item.TheVariants as item
use Rattle.lay_space.specs.declared.item.Mode.{Mode}
use Rattle.lay_space.specs.declared.segment.Segment.{Segment}
use Rattle.lay_space.specs.declared.tokens.ClusterKind.{ClusterKind}
use Rattle.lay_space.specs.declared.tokens.ClusterKind.TheVariants.{CollapsibleSpace, PreservedSpace, Linefeed, Tab, ZeroWidthSpace, Other}
use Rattle.lay_space.specs.Modes.{wraps}
use Rattle.lay_space.specs.Tokens.{kind_of, next_place}
use Rattle.lay_lines.specs.declared.content.content.Part.TheVariants as line
use Rattle.lay_lines.specs.declared.content.content.Stretch.{Stretch}
use Rattle.lay_line_measures.specs.declared.container.Container.{Container}
use Rattle.lay_line_measures.specs.BoxMeasuresValue.{BoxMeasuresValue}
use Rattle.lay_line_measures.specs.SeenLines.{has_seen_line, is_seen as is_seen_part}
use Rattle.lay_line_measures.specs.Stretches.{parts_at as line_parts_at, parts_of as line_parts_of, stretches_of}
use Rattle.lay_line_measures.specs.TextParts.{advance, cluster_parts, linefeed_parts, text_parts as line_text_parts}
use Rattle.lay_flow_boxes.proofs.Cited.{seen_at, take_more}
use Rattle.lay_measure.specs.declared.line_parts.LinePart.{LinePart}
use Rattle.lay_measure.specs.declared.line_parts.LinePart.TheVariants as part
use Rattle.lay_measure.specs.declared.pen.Breaking.{Breaking}
use Rattle.lay_measure.specs.LineParts.{cluster_part, line_parts, line_parts_of_item, parts_of, text_parts}
use Rattle.lay_measure.specs.LineWidths.{is_seen}
use Rattle.lay_measure.specs.MeasureInValue.{MeasureInValue}
use Rattle.lay_flow_boxes.specs.Words.LinesAlone.{AreAsMeasured, IsAsMeasured}

either_of : (a b c d : Bool) → (a ≡ true → c ≡ true) → (b ≡ true → d ≡ true) → (a || b) ≡ true → (c || d) ≡ true
either_of true b c d f g h = or_left c d (f refl)
either_of false b true d f g h = refl
either_of false b false d f g h = g h

any_of_both : {X Y : Type 0} (p : X → Bool) (q : Y → Bool) (xs ys : List X) (us vs : List Y) → (list_any p xs ≡ true → list_any q us ≡ true)
    → (list_any p ys ≡ true → list_any q vs ≡ true) → list_any p (xs ++ ys) ≡ true → list_any q (us ++ vs) ≡ true
any_of_both p q xs ys us vs f g h =
    list_any-append q us vs
    ∙ either_of (list_any p xs) (list_any p ys) (list_any q us) (list_any q vs) f g (sym (list_any-append p xs ys) ∙ h)

preserved_seen : (node : ℕ) (b : Bool) (w : Length)
    → list_any is_seen_part (if b then line.PreservedSpace (advance node w) ∷ [] else line.Text (advance node w) ∷ []) ≡ true
    → list_any is_seen ((if b then part.HangingSpace w else part.Cluster w) ∷ []) ≡ true
preserved_seen node true w h = refl
preserved_seen node false w h = refl

linefeed_seen : (node : ℕ) (lone : Bool) (w : Length) → list_any is_seen_part (linefeed_parts lone (advance node w)) ≡ true
    → list_any is_seen ((if lone then part.Linefeed else part.Cluster w) ∷ []) ≡ true
linefeed_seen node true w h = refl
linefeed_seen node false w h = refl

cluster_seen : (node : ℕ) (m : Mode) (k : ClusterKind) (lone : Bool) (w : Length)
    → list_any is_seen_part (cluster_parts (record { node = node; mode = m }) k lone w) ≡ true
    → list_any is_seen (cluster_part m k lone w ∷ []) ≡ true
cluster_seen node m CollapsibleSpace lone w h = h
cluster_seen node m PreservedSpace lone w h = preserved_seen node (wraps m) w h
cluster_seen node m Linefeed lone w h = linefeed_seen node lone w h
cluster_seen node m Tab lone w h = refl
cluster_seen node m ZeroWidthSpace lone w h = refl
cluster_seen node m Other lone w h = refl

text_seen : (node : ℕ) (m : Mode) (text : List ℕ) (ws : List ClusterWidth)
    → list_any is_seen_part (line_text_parts (record { node = node; mode = m }) text ws) ≡ true
    → list_any is_seen (text_parts m text ws) ≡ true
text_seen node m text [] h = h
text_seen node m text (w ∷ ws) h =
    let to = next_place text ws in
    let k = kind_of m text w.place to in
    let lone = to == w.place + 1 in
    any_of_both is_seen_part is_seen (cluster_parts (record { node = node; mode = m }) k lone w.width)
    (line_text_parts (record { node = node; mode = m }) text ws)
    (cluster_part m k lone w.width ∷ []) (text_parts m text ws) (cluster_seen node m k lone w.width) (text_seen node m text ws) h

edge_seen : (x : LinePart) (w : Length) (b seen : Bool) → x ≡ part.Edge w b → (IsTrue seen → IsTrue b)
    → (seen || false) ≡ true → list_any is_seen (x ∷ []) ≡ true
edge_seen x w b seen e means h = ap (λ (y : LinePart). list_any is_seen (y ∷ [])) e ∙ or_left b false (means (sym (or-false seen) ∙ h))

item_seen : (how : Breaking) (m : BoxMeasuresValue) (by : MeasureInValue) (x : Item) → IsAsMeasured how m by x
    → list_any is_seen_part (line_parts_at m x) ≡ true → list_any is_seen (line_parts_of_item by x) ≡ true
item_seen how m by (item.Text k text mode widths) are h = text_seen k mode text widths h
item_seen how m by (item.Start k takes) are h = edge_seen _ _ are.0 _ are.1 are.2 h
item_seen how m by (item.End k) are h = edge_seen _ _ are.0 _ are.1 are.2 h
item_seen how m by (item.Atomic k mode) are h = refl
item_seen how m by (item.Float k) are h = absurd cc
item_seen how m by (item.Anchor k) are h = absurd cc

items_seen : (how : Breaking) (m : BoxMeasuresValue) (by : MeasureInValue) (xs : List Item) → All (IsAsMeasured how m by) xs
    → list_any is_seen_part (line_parts_of m xs) ≡ true → list_any is_seen (parts_of by xs) ≡ true
items_seen how m by [] are h = h
items_seen how m by (x ∷ xs) are h =
    any_of_both is_seen_part is_seen (line_parts_at m x) (line_parts_of m xs) (line_parts_of_item by x) (parts_of by xs)
    (item_seen how m by x (All-head (IsAsMeasured how m by) x xs are))
    (items_seen how m by xs (All-tail (IsAsMeasured how m by) x xs are)) h

-- content whose first segment is seen
pub first_seen : (how : Breaking) (m : BoxMeasuresValue) (by : MeasureInValue) (c : Container) (begins : Bool) (ss : List Segment)
    → AreAsMeasured how m by ss
    → has_seen_line (take 1 (stretches_of m c begins ss)) ≡ true → list_any is_seen (line_parts by ss) ≡ true
first_seen how m by c begins [] are h = absurd cc
first_seen how m by c begins (s ∷ ss) are h =
    let here = items_seen how m
    by s.items (All-head (λ (t : Segment). All (IsAsMeasured how m by) t.items) s ss are)
    (sym (or-false (list_any is_seen_part (line_parts_of m s.items))) ∙ h) in
    list_any-append is_seen (parts_of by s.items) (part.Break s.forced ∷ line_parts by ss)
    ∙ or_left (list_any is_seen (parts_of by s.items)) (list_any is_seen (part.Break s.forced ∷ line_parts by ss)) here

-- what is seen in the first stretch is seen in more
pub more_seen : (ss : List Stretch) (n : ℕ) → 0 < n → has_seen_line (take 1 ss) ≡ true → has_seen_line (take n ss) ≡ true
more_seen ss zero some h = absurd (omega (arith, some))
more_seen ss (suc zero) some h = h
more_seen ss (suc (suc k)) some h =
    take_more ss (suc k) ∙ or_left (has_seen_line (take (suc k) ss)) (seen_at (slice_get ss (suc k))) (more_seen ss (suc k) (omega arith) h)
