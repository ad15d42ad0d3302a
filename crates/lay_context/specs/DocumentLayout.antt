-- What the formatting contexts of a document are given by each other, each known by its number: the preferred widths of inner ones
-- (CSS 2.2, 10.3.5), their own boxes, and the pieces of those that are anonymous, which are painted with the boxes of the one
-- around them. Absolutely positioned ones give nothing: they are out of flow (9.6).
use Rattle.std.specs.Prelude.{ℕ, zero, suc, Bool, true, false, List, [], map, slice_index_or, if◌then◌else◌}
use Rattle.lay_frag.specs.declared.frag.Frag.{Frag}
use Rattle.lay_measure.specs.MeasureInValue.{no_widths}
use Rattle.lay_measure.specs.declared.preferred_widths.PreferredWidths.{PreferredWidths}
use Rattle.lay_sizes.specs.declared.own_boxes.OwnBox.{OwnBox}
use Rattle.lay_sizes.specs.OwnBoxes.{no_own_box}
use Rattle.lay_context_sizes.specs.MeasuredContexts.{MeasuredContext, not_measured}
use Rattle.lay_contexts.specs.FormattingContexts.{FormattingContext, formatting_context_at}
use Rattle.lay_placements.specs.Placements.{Placement}
use Rattle.lay_positioned.specs.Absolute.{is_absolute}
use Rattle.lay_context.specs.PlacedContexts.{PlacedContext, placement_in}

-- for each box of the formatting context with the number i the number of the inner one in flow or floating whose box it is, and 0 for
-- other boxes
abbrev pub flow_number : List FormattingContext → ℕ → ℕ
flow_number contexts j = if is_absolute contexts j then 0 else j

abbrev pub flow_numbers : List FormattingContext → ℕ → List ℕ
flow_numbers contexts i = map (flow_number contexts) (formatting_context_at contexts i).inner

-- the preferred widths of the formatting context with this number, with the bounds of a table
abbrev pub widths_in : List MeasuredContext → ℕ → MeasuredContext
widths_in widths i = slice_index_or widths i not_measured

-- the preferred widths of the inner one with this number, where 0 stands for none
abbrev pub inner_widths_in : List MeasuredContext → ℕ → PreferredWidths
inner_widths_in widths zero = no_widths
inner_widths_in widths (suc j) = (widths_in widths (suc j)).widths

-- those of the ones inside the one with the number i, among its boxes
abbrev pub inner_widths : List FormattingContext → List MeasuredContext → ℕ → List PreferredWidths
inner_widths contexts widths i = map (inner_widths_in widths) (flow_numbers contexts i)

-- the own box of the inner one with this number, where 0 stands for none
abbrev pub own_box_in : List PlacedContext → ℕ → OwnBox
own_box_in places zero = no_own_box
own_box_in places (suc j) = (placement_in places (suc j)).own

-- those of the ones inside the one with the number i, among its boxes
abbrev pub inner_boxes : List FormattingContext → List PlacedContext → ℕ → List OwnBox
inner_boxes contexts places i = map (own_box_in places) (flow_numbers contexts i)

-- what the one around paints of an inner one: its pieces where it is anonymous, and else none, as an element has its own
abbrev pub painted_of : (is_anonymous : Bool) → Placement → List Frag
painted_of true p = p.pieces
painted_of false p = []

abbrev pub pieces_in : List FormattingContext → List PlacedContext → ℕ → List Frag
pieces_in contexts places zero = []
pieces_in contexts places (suc j) = painted_of (formatting_context_at contexts (suc j)).anonymous (placement_in places (suc j))

abbrev pub inner_pieces : List FormattingContext → List PlacedContext → ℕ → List (List Frag)
inner_pieces contexts places i = map (pieces_in contexts places) (flow_numbers contexts i)
