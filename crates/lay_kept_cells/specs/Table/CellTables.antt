-- The contexts of a document with their formatting contexts (CSS 2.2, 9.4.1), as who makes inputs of cells knows them.
use Rattle.std.specs.Prelude.{ℕ, ◌≡◌, Bool, List}
use Rattle.lay_context.specs.MeasuredFlags.{AreMeasured}
use Rattle.lay_context.specs.PlacedContexts.{PlacedContext, not_placed}
use Rattle.lay_context_sizes.specs.ContextSizes.{SizedContext, not_sized}
use Rattle.lay_context_sizes.specs.MeasuredContexts.{MeasuredContext, not_measured}
use Rattle.lay_contexts.specs.Contexts.{AreContexts}
use Rattle.lay_contexts.specs.FormattingContextList.{AreFormattingContextsOf}
use Rattle.lay_shape.specs.declared.context_phase.ContextPhase.{ContextPhase}
use Rattle.lay_shape.specs.Shapes.{cells_of}
use Rattle.lay_shape.specs.Touched.ContextFlags.{ContextLists}
use Rattle.lay_kept_cells.specs.declared.table.cell_places.CellPlaces.{CellPlaces}
use Rattle.lay_kept_cells.specs.declared.table.context_root.ContextRoot.{ContextRoot}
use Rattle.lay_kept_cells.specs.Table.CellPlaces.{AreCellPlaces}
use Rattle.lay_kept_cells.specs.Table.RootColumns.{AreRootColumns}

-- what is known of them besides
pub record TableColumns : Type 0 where
  -- of each formatting context whether it is measured, and which root it is
  pub measured : List Bool
  pub roots : List ContextRoot
  -- of each context the number of its first formatting context
  pub firsts : List ℕ
  -- the cells in their order, and for each context where its cells stand
  pub cells : List ContextPhase
  pub places : List CellPlaces
  -- what is read of a cell that keeps nothing
  pub no_widths : MeasuredContext
  pub no_sizes : SizedContext
  pub no_place : PlacedContext

pub record AreTableColumns (t : ContextLists) (columns : TableColumns) : Type 0 where
  pub are_contexts : AreContexts t.contexts
  pub are_formatting_contexts : AreFormattingContextsOf t.contexts t.formatting_contexts
  pub measured : AreMeasured t.formatting_contexts columns.measured
  pub roots : AreRootColumns t.contexts t.formatting_contexts columns.roots columns.firsts
  pub cells : columns.cells ≡ cells_of t.contexts
  pub places : AreCellPlaces t.contexts columns.places
  pub no_widths : columns.no_widths ≡ not_measured
  pub no_sizes : columns.no_sizes ≡ not_sized
  pub no_place : columns.no_place ≡ not_placed
