-- What a placement is given is within its bounds.
use Rattle.std.proofs.Common.{◌≡◌, ◌<◌, ℕ, List, length, ◌∙◌, arith, Some, IfSome, subst}
use Rattle.std.proofs.lemmas.List.{length-map}
use Rattle.lay_box_tree.specs.declared.box_tree.BoxNode.{BoxNode}
use Rattle.lay_sizes.specs.SizeBounds.{SizeFits}
use Rattle.lay_sizes.specs.SizeColumns.{HaveSizeBounds, sizes_at}
use Rattle.lay_sizes.specs.OwnBoxes.{OwnBoxesFit}
use Rattle.lay_sizes.specs.declared.sizing.BoxSizes.{BoxSizes}
use Rattle.lay_table_grid.specs.GridBounds.{PlacesAreBelow}
use Rattle.lay_table_sizes.specs.TableSizesValue.{TableSizesValue}
use Rattle.lay_contexts.specs.FormattingContexts.{AreFormattingContexts, FormattingContext, boxes_in, formatting_context_at}
use Rattle.lay_placements.specs.InnerPieces.{AreNearInnerPieces}
use Rattle.lay_flow_boxes.specs.PlaceInputs.{HeightRuleFits, PlaceInputFits, height_rule_of}
use Rattle.lay_table.specs.TableInputs.{TableInputFits}
use Rattle.lay_context_sizes.specs.ContextSizes.{SizedContext}
use Rattle.lay_context.specs.DocumentLayout.{flow_number, flow_numbers, inner_boxes, inner_pieces, own_box_in, pieces_in}
use Rattle.lay_context.specs.Local.{flow_input, table_input}
use Rattle.lay_context.specs.Workings.{Workings}
use Rattle.lay_context.specs.Medium.{Medium}
use Rattle.lay_context.specs.Settings.{sizes_in}
use Rattle.lay_context.specs.Settling.{AreOfBoxes}

pub height_rule_fits : (z : BoxSizes) → SizeFits z → HeightRuleFits (height_rule_of z)
height_rule_fits z fits = record { given = fits.height; min = fits.min_height }

-- those of a table are some of its boxes
pub grid_within : (boxes : List BoxNode) (sized : SizedContext) (table : TableSizesValue) → AreOfBoxes boxes sized → sized.table ≡ Some table → PlacesAreBelow (length boxes) table.grid
grid_within boxes sized table of is = subst (λ o. IfSome o (λ (t : TableSizesValue). PlacesAreBelow (length boxes) t.grid)) is of.grid

module _ (contexts : List FormattingContext) (w : Workings) (i : ℕ) (are : AreFormattingContexts contexts) (within : i < length contexts)
    (of : AreOfBoxes (boxes_in contexts i) (sizes_in w.sizes i)) (bounds : HaveSizeBounds (sizes_in w.sizes i).boxes)
    (fit : OwnBoxesFit (inner_boxes contexts w.places i)) where
  number_count : length (flow_numbers contexts i) ≡ length (boxes_in contexts i)
  number_count = length-map (formatting_context_at contexts i).inner (flow_number contexts) ∙ are.count i within

  box_count : length (inner_boxes contexts w.places i) ≡ length (boxes_in contexts i)
  box_count = length-map (flow_numbers contexts i) (own_box_in w.places) ∙ number_count

  piece_count : length (inner_pieces contexts w.places i) ≡ length (boxes_in contexts i)
  piece_count = length-map (flow_numbers contexts i) (pieces_in contexts w.places) ∙ number_count

  pub flow_input_fits : (medium : Medium) → AreNearInnerPieces (inner_pieces contexts w.places i)
      → PlaceInputFits (record (flow_input medium contexts w i) { own_height = height_rule_of (sizes_at (sizes_in w.sizes i).boxes 0) })
  flow_input_fits medium near = record {
    boxes = are.boxes i within;
    size_count = of.count;
    inner_count = box_count;
    piece_count = (let e = piece_count in omega (arith, e));
    size_bounds = bounds;
    inner_bounds = fit;
    piece_bounds = near;
    own_height = (let some = (are.boxes i within).some in
        height_rule_fits (sizes_at (sizes_in w.sizes i).boxes 0) (bounds 0 (omega (arith, some, of.count))));
  }

  pub table_input_fits : (table : TableSizesValue) → (sizes_in w.sizes i).table ≡ Some table → TableInputFits (table_input contexts w i table)
  table_input_fits table is = record {
    boxes = are.boxes i within;
    size_count = of.count;
    inner_count = box_count;
    size_bounds = bounds;
    inner_bounds = fit;
    places = grid_within (boxes_in contexts i) (sizes_in w.sizes i) table of is;
  }
