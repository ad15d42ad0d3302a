-- The preferred widths of a formatting context are the only ones.
use Rattle.std.proofs.Common.{◌≡◌, ◌<◌, Bool, true, false, List, length, refl, ap, sym, ◌∙◌, arith}
use Rattle.std.proofs.lemmas.List.{ext_get_or}
use Rattle.lay_box_tree.specs.declared.box_tree.BoxNode.{BoxNode}
use Rattle.lay_box_tree.specs.declared.inline_part.InlinePart.{InlinePart}
use Rattle.lay_box_tree.specs.InlineParts.{AreInlineParts, no_part}
use Rattle.lay_measure.specs.MeasureInValue.{MeasureInValue}
use Rattle.lay_measure.specs.PreferredWidths.{preferred_of}
use Rattle.lay_measure.specs.declared.preferred_widths.PreferredWidths.{PreferredWidths}
use Rattle.lay_table_sizes.specs.Laws.{OneTableWidths}
use Rattle.lay_table_sizes.specs.TableBounds.{TableBoundsValue}
use Rattle.lay_context_sizes.specs.ContextWidths.{HasFlowWidths, IsMeasuredAs}
use Rattle.lay_context_sizes.specs.Inputs.{MeasureInput}
use Rattle.lay_context_sizes.specs.Laws.{OneContextWidths}
use Rattle.lay_context_sizes.specs.MeasuredContexts.{MeasuredContext}
use Rattle.lay_context_sizes.specs.TableContexts.{is_table}

one_part_list : (boxes : List BoxNode) (x y : List InlinePart) → AreInlineParts boxes x → AreInlineParts boxes y → x ≡ y
one_part_list boxes x y a b =
    ext_get_or no_part x y (a.count ∙ sym b.count) (λ k lt. (let within : k < length boxes = omega (arith, a.count) in a.each k within ∙ sym (b.each k within)))

one_flow_widths : (i : MeasureInput) (v w : PreferredWidths) → HasFlowWidths i v → HasFlowWidths i w → v ≡ w
one_flow_widths i v w a b =
    let parts = one_part_list i.boxes a.parts b.parts a.are_parts b.are_parts in
    a.widths_are ∙ ap (λ (p : List InlinePart). let m : MeasureInValue = record { boxes = i.boxes; parts = p; inner = i.inner; face = i.face } in preferred_of m) parts ∙ sym b.widths_are

abbrev measured_as : PreferredWidths → TableBoundsValue → MeasuredContext
measured_as widths table = record { widths = widths; table = table }

same_measured : (v w : PreferredWidths) (t u : TableBoundsValue) → v ≡ w → t ≡ u → measured_as v t ≡ measured_as w u
same_measured v w t u widths table = rw (widths, table) refl

one_as : OneTableWidths → (b : Bool) (i : MeasureInput) (v w : MeasuredContext) → IsMeasuredAs b i v → IsMeasuredAs b i w → v ≡ w
one_as one_table true i v w x y =
    let both = one_table i.boxes i.inner v.widths w.widths v.table w.table x y in
    same_measured v.widths w.widths v.table w.table both.0 both.1
one_as one_table false i v w x y =
    same_measured v.widths w.widths v.table w.table (one_flow_widths i v.widths w.widths x.0 y.0) (x.1 ∙ sym y.1)

pub one_context_widths_lem : OneTableWidths → OneContextWidths
one_context_widths_lem one_table i v w a b = one_as one_table (is_table i.boxes) i v w a b
