-- What a cell answers: a value for each root of its context, the own box first.
use Rattle.std.specs.Prelude.{ℕ, List, [], length, map}
use Rattle.lay_frag.specs.declared.frag.Frag.{Frag}
use Rattle.lay_measure.specs.declared.preferred_widths.PreferredWidths.{PreferredWidths}
use Rattle.lay_sizes.specs.declared.own_boxes.OwnBox.{OwnBox}
use Rattle.lay_context_sizes.specs.ContextSizes.{SizedContext}
use Rattle.lay_context_sizes.specs.MeasuredContexts.{MeasuredContext}
use Rattle.lay_context.specs.declared.task.Phase.{Phase}
use Rattle.lay_context.specs.declared.task.Phase.TheVariants as phase
use Rattle.lay_context.specs.declared.value.Value.{Value}
use Rattle.lay_context.specs.declared.value.Value.TheVariants as value
use Rattle.lay_context.specs.DocumentLayout.{widths_in}
use Rattle.lay_context.specs.PlacedContexts.{PlacedContext, placed_in}
use Rattle.lay_context.specs.Settings.{sizes_in}

pub data CellValue : Type 0 where
  Widths : List MeasuredContext → CellValue
  Sizes : List SizedContext → CellValue
  Places : List PlacedContext → CellValue

-- the phase that it is of, and of how many roots
abbrev pub phase_of : CellValue → Phase
phase_of (Widths ws) = phase.Measure
phase_of (Sizes zs) = phase.Size
phase_of (Places ps) = phase.Place

abbrev pub root_count_of : CellValue → ℕ
root_count_of (Widths ws) = length ws
root_count_of (Sizes zs) = length zs
root_count_of (Places ps) = length ps

-- that of the root r
abbrev pub root_value : CellValue → ℕ → Value
root_value (Widths ws) r = value.Measure (widths_in ws r)
root_value (Sizes zs) r = value.Size (sizes_in zs r)
root_value (Places ps) r = value.Place (placed_in ps r)

-- as columns over the roots; of another phase there are none
abbrev pub own_measured : CellValue → List MeasuredContext
own_measured (Widths ws) = ws
own_measured _ = []

abbrev pub own_sizes : CellValue → List SizedContext
own_sizes (Sizes zs) = zs
own_sizes _ = []

abbrev pub own_places : CellValue → List PlacedContext
own_places (Places ps) = ps
own_places _ = []

-- of the measured ones the preferred widths, and of the placed ones their own boxes and their pieces
abbrev pub own_widths : CellValue → List PreferredWidths
own_widths v = map (λ m. m.widths) (own_measured v)

abbrev pub own_boxes : CellValue → List OwnBox
own_boxes v = map (λ p. p.placement.own) (own_places v)

abbrev pub own_pieces : CellValue → List (List Frag)
own_pieces v = map (λ p. p.placement.pieces) (own_places v)

-- none of any root
abbrev pub no_value : Phase → CellValue
no_value phase.Measure = Widths []
no_value phase.Size = Sizes []
no_value phase.Place = Places []
