-- The pen of a line comes as far as the one by which preferred widths are worked out.
use Rattle.std.proofs.Common.{◌≡◌, ℕ, ◌+◌, ℤ, ◌+ℤ◌, ◌==◌, Bool, true, false, if◌then◌else◌, List, [], ◌∷◌, ◌++◌, refl, sym, ap, ◌∙◌}
use Rattle.std.proofs.lemmas.List.Elements.{All-head, All-tail}
use Rattle.lay_units.specs.declared.length.Unit.{Unit as Length}
use Rattle.lay_units.specs.declared.records.ClusterWidth.{ClusterWidth}
use Rattle.lay_space.specs.declared.item.Item.{Item}
use Rattle.lay_space.specs.declared.item.Item.TheVariants as item
use Rattle.lay_space.specs.declared.item.Mode.{Mode}
use Rattle.lay_space.specs.declared.tokens.ClusterKind.{ClusterKind}
use Rattle.lay_space.specs.declared.tokens.ClusterKind.TheVariants.{CollapsibleSpace, PreservedSpace, Linefeed, Tab, ZeroWidthSpace, Other}
use Rattle.lay_space.specs.Modes.{wraps}
use Rattle.lay_space.specs.Tokens.{kind_of, next_place}
use Rattle.lay_lines.specs.declared.content.content.Part.TheVariants as line
use Rattle.lay_lines.specs.declared.content.frame.Frame.{Frame}
use Rattle.lay_lines.specs.declared.content.pen.Pen.{Pen as LinePen}
use Rattle.lay_lines.specs.Content.Pens.{over_all as over_line}
use Rattle.lay_line_measures.specs.BoxMeasuresValue.{BoxMeasuresValue}
use Rattle.lay_line_measures.specs.Stretches.{parts_at as line_parts_at, parts_of as line_parts_of}
use Rattle.lay_line_measures.specs.TextParts.{advance, cluster_parts, linefeed_parts, parts_between, text_parts as line_text_parts}
use Rattle.lay_measure.specs.declared.line_parts.LinePart.{LinePart}
use Rattle.lay_measure.specs.declared.line_parts.LinePart.TheVariants as part
use Rattle.lay_measure.specs.declared.pen.Breaking.{Breaking}
use Rattle.lay_measure.specs.declared.pen.Pen.{Pen}
use Rattle.lay_measure.specs.LineParts.{cluster_part, line_parts_of_item, parts_of, text_parts}
use Rattle.lay_measure.specs.LineWidths.{pen_over, pen_after, pen_reaching}
use Rattle.lay_measure.specs.MeasureInValue.{MeasureInValue}
use Rattle.lay_flow_boxes.specs.Words.LinesAlone.{IsAsMeasured, measuring_pen}
use Rattle.lay_flow_boxes.specs.Words.PreferredLines.{LinesComeAsFarAsMeasured}
use Rattle.lay_flow_boxes.proofs.WordsLemmas.Pens.{over_both}

pub measured_both : (how : Breaking) (tab : ℤ) (p : Pen) (xs ys : List LinePart)
    → pen_after how tab p (xs ++ ys) ≡ pen_after how tab (pen_after how tab p xs) ys
measured_both how tab p [] ys = refl
measured_both how tab p (x ∷ xs) ys = measured_both how tab (pen_over how tab p x) xs ys

picked : (b : Bool) (p q : LinePen) → (if b then measuring_pen p else measuring_pen q) ≡ measuring_pen (if b then p else q)
picked true p q = refl
picked false p q = refl

-- a collapsible space that isn't at the start of its line
abbrev after_space : LinePen → ℤ → LinePen
after_space p w = record { at = record { 0 = p.at.0 +ℤ w }; visible = p.visible; solid = p.solid; started = true; seen = p.seen }

preserved_same : (how : Breaking) (fr : Frame) (p : LinePen) (node : ℕ) (b : Bool) (w : Length)
    → pen_over how fr.tab.0 (measuring_pen p) (if b then part.HangingSpace w else part.Cluster w)
    ≡ measuring_pen (over_line fr p (if b then line.PreservedSpace (advance node w) ∷ [] else line.Text (advance node w) ∷ []))
preserved_same how fr p node true w = refl
preserved_same how fr p node false w = refl

linefeed_same : (how : Breaking) (fr : Frame) (p : LinePen) (node : ℕ) (lone : Bool) (w : Length)
    → pen_over how fr.tab.0 (measuring_pen p) (if lone then part.Linefeed else part.Cluster w)
    ≡ measuring_pen (over_line fr p (linefeed_parts lone (advance node w)))
linefeed_same how fr p node true w = refl
linefeed_same how fr p node false w = refl

cluster_same : (how : Breaking) (fr : Frame) (p : LinePen) (node : ℕ) (m : Mode) (k : ClusterKind) (lone : Bool) (w : Length)
    → pen_over how fr.tab.0 (measuring_pen p) (cluster_part m k lone w)
    ≡ measuring_pen (over_line fr p (cluster_parts (record { node = node; mode = m }) k lone w))
cluster_same how fr p node m CollapsibleSpace lone w = picked p.started (after_space p w.0) p
cluster_same how fr p node m PreservedSpace lone w = preserved_same how fr p node (wraps m) w
cluster_same how fr p node m Linefeed lone w = linefeed_same how fr p node lone w
cluster_same how fr p node m Tab lone w = refl
cluster_same how fr p node m ZeroWidthSpace lone w = refl
cluster_same how fr p node m Other lone w = refl

text_same : (how : Breaking) (fr : Frame) (p : LinePen) (node : ℕ) (m : Mode) (text : List ℕ) (ws : List ClusterWidth)
    → pen_after how fr.tab.0 (measuring_pen p) (text_parts m text ws)
    ≡ measuring_pen (over_line fr p (line_text_parts (record { node = node; mode = m }) text ws))
text_same how fr p node m text [] = refl
text_same how fr p node m text (w ∷ ws) =
    let to = next_place text ws in
    let first = parts_between (record { node = node; mode = m }) text w to in
    let rest = line_text_parts (record { node = node; mode = m }) text ws in
    ap (λ (q : Pen). pen_after how fr.tab.0 q (text_parts m text ws))
    (cluster_same how fr p node m (kind_of m text w.place to) (to == w.place + 1) w.width)
    ∙ text_same how fr (over_line fr p first) node m text ws ∙ ap measuring_pen (sym (over_both fr p first rest))

pub item_same : (how : Breaking) (m : BoxMeasuresValue) (by : MeasureInValue) (fr : Frame) (p : LinePen) (x : Item)
    → IsAsMeasured how m by x
    → pen_after how fr.tab.0 (measuring_pen p) (line_parts_of_item by x) ≡ measuring_pen (over_line fr p (line_parts_at m x))
item_same how m by fr p (item.Text k text mode widths) are = text_same how fr p k mode text widths
item_same how m by fr p (item.Start k takes) are = ap (λ (x : LinePart). pen_over how fr.tab.0 (measuring_pen p) x) are.1
item_same how m by fr p (item.End k) are = ap (λ (x : LinePart). pen_over how fr.tab.0 (measuring_pen p) x) are.1
item_same how m by fr p (item.Atomic k mode) are = ap (λ (w : Length). pen_reaching (p.at.0 +ℤ w.0)) are
item_same how m by fr p (item.Float k) are = refl
item_same how m by fr p (item.Anchor k) are = refl

pub lines_come_as_far_lem : LinesComeAsFarAsMeasured
lines_come_as_far_lem how m by fr p [] are = refl
lines_come_as_far_lem how m by fr p (x ∷ xs) are =
    measured_both how fr.tab.0 (measuring_pen p) (line_parts_of_item by x) (parts_of by xs)
    ∙ ap (λ (q : Pen). pen_after how fr.tab.0 q (parts_of by xs)) (item_same how m by fr p x (All-head (IsAsMeasured how m by) x xs are))
    ∙ lines_come_as_far_lem how m by fr (over_line fr p (line_parts_at m x)) xs (All-tail (IsAsMeasured how m by) x xs are)
    ∙ ap measuring_pen (sym (over_both fr p (line_parts_at m x) (line_parts_of m xs)))
