-- The two pens go over text by its width.
use Rattle.std.proofs.Common.{◌≡◌, ℕ, ◌+◌, ℤ, ◌+ℤ◌, ◌==◌, List, [], ◌∷◌, ◌++◌, None, refl, sym, ap, ◌∙◌, arith}
use Rattle.std.proofs.lemmas.Int.{ints}
use Rattle.lay_units.specs.declared.records.ClusterWidth.{ClusterWidth}
use Rattle.lay_space.specs.declared.item.Mode.{Mode}
use Rattle.lay_space.specs.declared.tokens.ClusterKind.{ClusterKind}
use Rattle.lay_space.specs.Tokens.{next_place}
use Rattle.lay_line_items.specs.GatheredWidths.{gathered}
use Rattle.lay_lines.specs.declared.content.content.Part.{Part}
use Rattle.lay_lines.specs.declared.content.frame.Frame.{Frame}
use Rattle.lay_lines.specs.declared.content.pen.Pen.{Pen as LinePen}
use Rattle.lay_lines.specs.Content.Pens.{over, over_all as over_parts, went as went_on}
use Rattle.lay_line_measures.specs.TextParts.{cluster_parts, parts_between, text_parts}
use Rattle.lay_measure.specs.declared.pen.Breaking.{Breaking}
use Rattle.lay_measure.specs.declared.pen.Pen.{Pen}
use Rattle.lay_measure.specs.LineParts.{cluster_part, part_between, text_parts as measured_parts}
use Rattle.lay_measure.specs.LineWidths.{pen_over as over_part, pen_after, pen_reaching}
use Rattle.lay_flow_boxes.specs.Words.Laws.{WordsAreTheirClusters, WordsMeasureAsTheirClusters}
use Rattle.lay_flow_boxes.proofs.WordsLemmas.Plain.{plain_kind}
use Rattle.lay_flow_boxes.proofs.WordsLemmas.Words.{GoesByWidth, gathered_goes, go}

sum_same : (a b c : ℤ) → (a +ℤ b) +ℤ c ≡ a +ℤ (b +ℤ c)
sum_same a b c = omega (arith, ints)

-- lines
abbrev line_step : Frame → ℕ → Mode → List ℕ → LinePen → ClusterWidth → ℕ → LinePen
line_step fr node m text p w to = over_parts fr p (parts_between (record { node = node; mode = m }) text w to)

abbrev line_wide : LinePen → ℤ → LinePen
line_wide p a = went_on (p.at.0 +ℤ a)

pub over_both : (fr : Frame) (p : LinePen) (xs ys : List Part) → over_parts fr p (xs ++ ys) ≡ over_parts fr (over_parts fr p xs) ys
over_both fr p [] ys = refl
over_both fr p (x ∷ xs) ys = over_both fr (over fr p x) xs ys

line_go : (fr : Frame) (node : ℕ) (m : Mode) (text : List ℕ) (p : LinePen) (ws : List ClusterWidth)
    → over_parts fr p (text_parts (record { node = node; mode = m }) text ws) ≡ go (line_step fr node m text) text p ws
line_go fr node m text p [] = refl
line_go fr node m text p (w ∷ ws) =
    over_both fr p (parts_between (record { node = node; mode = m }) text w (next_place text ws))
    (text_parts (record { node = node; mode = m }) text ws)
    ∙ line_go fr node m text (line_step fr node m text p w (next_place text ws)) ws

line_by_width : (fr : Frame) (node : ℕ) (m : Mode) (text : List ℕ) → GoesByWidth (line_step fr node m text) text line_wide
line_by_width fr node m text = record {
  plain =
      λ p w to is.
      ap (λ (k : ClusterKind). over_parts fr p (cluster_parts (record { node = node; mode = m }) k (to == w.place + 1) w.width))
      (plain_kind m text w.place to is);
  adds = λ p a b. ap went_on (sum_same p.at.0 a b);
}

pub words_are_their_clusters_lem : WordsAreTheirClusters
words_are_their_clusters_lem fr p node m text ws stand =
    line_go fr node m text p (gathered text ws)
    ∙ gathered_goes (line_step fr node m text) text line_wide (line_by_width fr node m text) p None ws stand tt
    ∙ sym (line_go fr node m text p ws)

-- preferred widths
abbrev part_step : Breaking → ℤ → Mode → List ℕ → Pen → ClusterWidth → ℕ → Pen
part_step how tab m text p w to = over_part how tab p (part_between m text w to)

abbrev part_wide : Pen → ℤ → Pen
part_wide p a = pen_reaching (p.at.0 +ℤ a)

part_go : (how : Breaking) (tab : ℤ) (m : Mode) (text : List ℕ) (p : Pen) (ws : List ClusterWidth)
    → pen_after how tab p (measured_parts m text ws) ≡ go (part_step how tab m text) text p ws
part_go how tab m text p [] = refl
part_go how tab m text p (w ∷ ws) = part_go how tab m text (part_step how tab m text p w (next_place text ws)) ws

part_by_width : (how : Breaking) (tab : ℤ) (m : Mode) (text : List ℕ) → GoesByWidth (part_step how tab m text) text part_wide
part_by_width how tab m text = record {
  plain =
      λ p w to is.
      ap (λ (k : ClusterKind). over_part how tab p (cluster_part m k (to == w.place + 1) w.width)) (plain_kind m text w.place to is);
  adds = λ p a b. ap pen_reaching (sum_same p.at.0 a b);
}

pub words_measure_as_their_clusters_lem : WordsMeasureAsTheirClusters
words_measure_as_their_clusters_lem how tab p m text ws stand =
    part_go how tab m text p (gathered text ws)
    ∙ gathered_goes (part_step how tab m text) text part_wide (part_by_width how tab m text) p None ws stand tt
    ∙ sym (part_go how tab m text p ws)
