-- The wrapper of a table as a block formatting context (CSS 2.2, 17.4): "The table wrapper box establishes a block formatting context." In
-- it stand the captions above the table, the table box, and the captions below it, each as a box that is laid out already. The captions
-- "are rendered as normal block boxes inside the table wrapper box", and `caption-side` says on which side of the table (17.4.1).
-- Positions are counted from the corner of the wrapper's border box.
use Rattle.std.specs.Prelude.{ℕ, ◌+ℤ◌, List, ◌∷◌, ◌++◌, map, None}
use Rattle.lay_units.specs.declared.length.Unit.{Unit as Length}
use Rattle.lay_units.specs.Lengths.{no_length}
use Rattle.lay_floats.specs.declared.requests.Clear.TheVariants.{None as clear_none}
use Rattle.lay_flow.specs.declared.blocks.flow_box.FlowBox.{FlowBox}
use Rattle.lay_flow.specs.declared.blocks.flow_box.FlowKind.TheVariants.{Block as block, Solid as solid}
use Rattle.lay_sizes.specs.declared.own_boxes.OwnBox.{OwnBox}
use Rattle.lay_sizes.specs.declared.sizing.BoxSizes.{BoxSizes}
use Rattle.lay_sizes.specs.OwnBoxes.{own_box, own_box_at}
use Rattle.lay_sizes.specs.SizeColumns.{sizes_at}
use Rattle.lay_table.specs.RowNeeds.{border_height, table_sizes}
use Rattle.lay_table.specs.TableInputs.{TableInput, grid_of}
use Rattle.lay_table.specs.TableRows.{table_content}
use Rattle.lay_table.specs.Tracks.{Tracks}
use Rattle.lay_table.specs.Captions.{captions_of}

-- the boxes of the wrapper's context in the order in which they stand, the wrapper itself first
abbrev pub places_in_wrapper : TableInput → List ℕ
places_in_wrapper i = 0 ∷ (captions_of i.boxes).above ++ (grid_of i).table ∷ (captions_of i.boxes).below

-- the wrapper
abbrev pub wrapper_box : BoxSizes → FlowBox
wrapper_box z = record {
  parent = 0;
  kind = block (record {
    clear = clear_none;
    x = no_length;
    margin = record { top = z.margin_top; bottom = z.margin_bottom };
    inset = record { top = z.edges.top; bottom = z.edges.bottom };
    content = record {
      left = z.edges.left;
      right = record { 0 = z.edges.left.0 +ℤ z.widths.width.0 };
    };
    height = record { given = z.height; min = z.min_height; max = z.max_height };
  });
}

-- a box in a wrapper whose content begins at `left`
abbrev pub box_inside : Length → OwnBox → FlowBox
box_inside left o = record {
  parent = 0;
  kind = solid (record {
    clear = clear_none;
    x = record { 0 = left.0 +ℤ o.margin.left.0 };
    margin = record { top = o.margin.top; bottom = o.margin.bottom };
    width = o.width;
    height = o.height;
  });
}

-- the table box, and a caption, as they are seen from outside
abbrev pub table_own_box : BoxSizes → Tracks → OwnBox
table_own_box table rows = own_box table (border_height table (table_content table rows)) None

abbrev pub caption_inside : TableInput → ℕ → FlowBox
caption_inside i k = box_inside (sizes_at i.sizes 0).edges.left (own_box_at i.inner k)

abbrev pub captions_inside : TableInput → List ℕ → List FlowBox
captions_inside i places = map (caption_inside i) places

-- the boxes of the wrapper's context
abbrev pub boxes_in_wrapper : TableInput → Tracks → List FlowBox
boxes_in_wrapper i rows =
    wrapper_box (sizes_at i.sizes 0)
    ∷ captions_inside i (captions_of i.boxes).above
    ++ box_inside (sizes_at i.sizes 0).edges.left (table_own_box (table_sizes i) rows)
    ∷ captions_inside i (captions_of i.boxes).below
