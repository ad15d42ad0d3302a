-- A formatting context has preferred widths.
use Rattle.std.proofs.Common.{ℕ, Bool, true, false, List, length, map, refl, arith}
use Rattle.std.specs.List.{range_with_len}
use Rattle.std.proofs.lemmas.List.FromFn.{get_or-map-range_with_len, length-map-range_with_len}
use Rattle.lay_box_tree.specs.declared.box_tree.BoxNode.{BoxNode}
use Rattle.lay_box_tree.specs.declared.inline_part.InlinePart.{InlinePart}
use Rattle.lay_box_tree.specs.InlineParts.{AreInlineParts, inline_part, no_part}
use Rattle.lay_measure.specs.PreferredWidths.{preferred_of}
use Rattle.lay_table_sizes.specs.Laws.{SomeTableWidths}
use Rattle.lay_table_sizes.specs.TableBounds.{no_bounds}
use Rattle.lay_context_sizes.specs.ContextWidths.{IsMeasuredAs}
use Rattle.lay_context_sizes.specs.Inputs.{MeasureInput}
use Rattle.lay_context_sizes.specs.Laws.{SomeContextWidths}
use Rattle.lay_context_sizes.specs.MeasuredContexts.{MeasuredContext}
use Rattle.lay_context_sizes.specs.TableContexts.{is_table}

some_parts : (boxes : List BoxNode) → (parts : List InlinePart) × AreInlineParts boxes parts
some_parts boxes =
    let f : ℕ → InlinePart = inline_part boxes in
    let n : ℕ = length boxes in (
      map f (range_with_len 0 n),
      record { count = length-map-range_with_len f 0 n; each = λ k less. get_or-map-range_with_len f 0 n k k no_part less (omega arith) },
    )

some_widths_as : SomeTableWidths → (is_table : Bool) (i : MeasureInput) → (m : MeasuredContext) × IsMeasuredAs is_table i m
some_widths_as some_table true i = (let t = some_table i.boxes i.inner in (record { widths = t.0; table = t.1 }, t.2))
some_widths_as some_table false i =
    let parts = some_parts i.boxes in (
      record { widths = preferred_of (record { boxes = i.boxes; parts = parts.0; inner = i.inner; face = i.face }); table = no_bounds },
      (record { parts = parts.0; are_parts = parts.1; widths_are = refl }, refl),
    )

pub some_context_widths_lem : SomeTableWidths → SomeContextWidths
some_context_widths_lem some_table i = some_widths_as some_table (is_table i.boxes) i
