-- The sizes of an own box that doesn't shrink to fit are the same whatever its preferred widths, and those of a table of the fixed layout
-- whatever bounds are known of it.
use Rattle.std.proofs.Common.{◌≡◌, Bool, true, false, List, [], ◌∷◌, refl, Option, None, Some, slice_get}
use Rattle.std.proofs.lemmas.Bool.{not-false}
use Rattle.lay_units.specs.declared.length.Unit.{Unit as Length}
use Rattle.lay_units.specs.declared.records.BlockIn.{BlockIn}
use Rattle.lay_units.specs.declared.records.Len.{Len}
use Rattle.lay_units.specs.declared.records.Len.TheVariants.{Auto as auto, Of as of}
use Rattle.lay_style.specs.ComputedStyle.{style_at}
use Rattle.lay_style.specs.declared.style_lengths.LengthPercentageOrAuto.{LengthPercentageOrAuto}
use Rattle.lay_style.specs.declared.style_lengths.LengthPercentageOrAuto.TheVariants as or_auto
use Rattle.lay_style.specs.declared.style.Style.{Style}
use Rattle.lay_box_tree.specs.declared.box_tree.BoxKind.{BoxKind}
use Rattle.lay_box_tree.specs.declared.box_tree.BoxKind.TheVariants as kind
use Rattle.lay_box_tree.specs.declared.box_tree.BoxNode.{BoxNode}
use Rattle.lay_box_tree.specs.declared.box_tree.Flow.{Flow}
use Rattle.lay_box_tree.specs.declared.box_tree.Flow.TheVariants.{Absolute as Apart, Floating, InFlow}
use Rattle.lay_box_tree.specs.BoxColumns.{box_styles}
use Rattle.lay_box_tree.specs.Kinds.{is_wrapper}
use Rattle.lay_measure.specs.declared.preferred_widths.PreferredWidths.{PreferredWidths}
use Rattle.lay_sizes.specs.declared.sizing.BoxSizes.{BoxSizes}
use Rattle.lay_sizes.specs.declared.sizing.ContainingBlock.{ContainingBlock}
use Rattle.lay_sizes.specs.declared.sizing.WidthRule.TheVariants.{ShrinksToFit}
use Rattle.lay_sizes.specs.BoxSizes.{IsSized}
use Rattle.lay_sizes.specs.UsedLengths.{block_of, used_width}
use Rattle.lay_widths.specs.declared.widths.BlockOut.{BlockOut}
use Rattle.lay_widths.specs.declared.widths.UsedWidths.{UsedWidths}
use Rattle.lay_widths.specs.BlockWidths.{width_in}
use Rattle.lay_widths.specs.FloatWidths.{IsUsedFloat, SolvesFloat}
use Rattle.lay_widths.specs.MinMax.{AtMost}
use Rattle.lay_sizes.specs.SizeColumns.{sizes_at}
use Rattle.lay_table_grid.specs.TableGrid.{TableGridValue}
use Rattle.lay_table_sizes.specs.TableBounds.{TableBoundsValue}
use Rattle.lay_table_sizes.specs.TableBoxes.{wrapper_style}
use Rattle.lay_table_sizes.specs.TableLayouts.{has_width, is_fixed}
use Rattle.lay_table_sizes.specs.TableSizes.{AreTableWidthsAs, HasTableSizes}
use Rattle.lay_table_sizes.specs.TableSizesValue.{TableSizesValue}
use Rattle.lay_table_sizes.specs.declared.table_rule.TableRule.{TableRule}
use Rattle.lay_context_sizes.specs.ContextSizes.{IsSizedAs, table_rule}
use Rattle.lay_context_sizes.specs.FlowSizes.{IsOwnSized, floating_rule, own_rule, own_rule_of, rule_in_flow}
use Rattle.lay_context_sizes.specs.Inputs.{SizeInput, containing_block_in}
use Rattle.lay_context_sizes.specs.Laws.{WidthsCountWhereShrunk, is_absolute_setting}
use Rattle.lay_context_sizes.specs.MeasuredContexts.{MeasuredContext}
use Rattle.lay_context_sizes.specs.ShrinkToFit.{shrinks, shrinks_floating, shrinks_in_flow, shrinks_to_fit}
use Rattle.lay_context_sizes.specs.TableContexts.{is_table}
use Rattle.lay_context_sizes.specs.declared.setting.Setting.{Setting}
use Rattle.lay_context_sizes.specs.declared.setting.Setting.TheVariants.{Absolute, Block, Cell}

-- where a width is given, the rules of what shrinks to fit ask for no preferred widths
abbrev is_given : Len → Bool
is_given auto = false
is_given (of width) = true

is_used : (containing : Length) (width : LengthPercentageOrAuto) → has_width width ≡ true → is_given (used_width containing width) ≡ true
is_used containing or_auto.Auto has = absurd cc
is_used containing (or_auto.Length u) has = refl
is_used containing (or_auto.Percent h) has = refl

module _ (b : BlockIn) (m p n q : Length) where
  solves : (l : Len) (used : UsedWidths) → is_given l ≡ true → SolvesFloat b m p l used → SolvesFloat b n q l used
  solves auto used is s = absurd cc
  solves (of width) used is s = record { margin_left = s.margin_left; width = s.width; margin_right = s.margin_right }

  at_most : (max : Option Length) (before after : UsedWidths) → AtMost width_in (SolvesFloat b m p) max before after → AtMost width_in (SolvesFloat b n q) max before after
  at_most None before after same = same
  at_most (Some max) before after bound = (λ wide. solves (of max) after refl (bound.0 wide), bound.1)

  float_used : (out : BlockOut) → is_given b.width ≡ true → IsUsedFloat b m p out → IsUsedFloat b n q out
  float_used out is float = record {
    used = float.used;
    bounded = record {
      tentative = float.bounded.tentative;
      narrowed = float.bounded.narrowed;
      first = solves b.width float.bounded.tentative is float.bounded.first;
      second = at_most b.max_width float.bounded.tentative float.bounded.narrowed float.bounded.second;
      third = (λ narrow. solves (of b.min_width) float.used refl (float.bounded.third.0 narrow), float.bounded.third.1);
    };
    held = float.held;
  }

module _ (v w : PreferredWidths) (containing : ContainingBlock) (s : Style) (z : BoxSizes) where
  shrunk : has_width s.sizing.width ≡ true → IsSized containing (ShrinksToFit v.minimum v.preferred) s z → IsSized containing (ShrinksToFit w.minimum w.preferred) s z
  shrunk has sized = record {
    containing_is = sized.containing_is;
    widths = float_used (block_of containing.width s) v.minimum v.preferred w.minimum w.preferred z.widths (is_used containing.width s.sizing.width has) sized.widths;
    edges = sized.edges;
    margin_top = sized.margin_top;
    margin_bottom = sized.margin_bottom;
    height = sized.height;
    min_height = sized.min_height;
    max_height = sized.max_height;
  }

  in_flow : (k : BoxKind) → shrinks_in_flow k s ≡ false → IsSized containing (rule_in_flow v k) s z → IsSized containing (rule_in_flow w k) s z
  in_flow kind.InlineBlock never sized = shrunk (not-false (has_width s.sizing.width) never) sized
  in_flow (kind.Replaced width height true) never sized = sized
  in_flow (kind.Replaced width height false) never sized = sized
  in_flow kind.Block never sized = sized
  in_flow kind.Inline never sized = sized
  in_flow (kind.Text text) never sized = sized
  in_flow kind.Wrapper never sized = sized
  in_flow kind.InlineWrapper never sized = sized
  in_flow kind.Table never sized = sized
  in_flow kind.Caption never sized = sized
  in_flow kind.RowGroup never sized = sized
  in_flow kind.HeaderGroup never sized = sized
  in_flow kind.FooterGroup never sized = sized
  in_flow kind.Row never sized = sized
  in_flow (kind.ColumnGroup span) never sized = sized
  in_flow (kind.Column span) never sized = sized
  in_flow (kind.Cell columns rows) never sized = sized
  in_flow kind.Anchor never sized = sized

  floating : (k : BoxKind) → shrinks_floating k s ≡ false → IsSized containing (floating_rule v k) s z → IsSized containing (floating_rule w k) s z
  floating kind.Wrapper never sized = absurd cc
  floating kind.InlineWrapper never sized = absurd cc
  floating (kind.Replaced width height inline) never sized = sized
  floating kind.InlineBlock never sized = shrunk (not-false (has_width s.sizing.width) never) sized
  floating kind.Block never sized = shrunk (not-false (has_width s.sizing.width) never) sized
  floating kind.Inline never sized = shrunk (not-false (has_width s.sizing.width) never) sized
  floating (kind.Text text) never sized = shrunk (not-false (has_width s.sizing.width) never) sized
  floating kind.Table never sized = shrunk (not-false (has_width s.sizing.width) never) sized
  floating kind.Caption never sized = shrunk (not-false (has_width s.sizing.width) never) sized
  floating kind.RowGroup never sized = shrunk (not-false (has_width s.sizing.width) never) sized
  floating kind.HeaderGroup never sized = shrunk (not-false (has_width s.sizing.width) never) sized
  floating kind.FooterGroup never sized = shrunk (not-false (has_width s.sizing.width) never) sized
  floating kind.Row never sized = shrunk (not-false (has_width s.sizing.width) never) sized
  floating (kind.ColumnGroup span) never sized = shrunk (not-false (has_width s.sizing.width) never) sized
  floating (kind.Column span) never sized = shrunk (not-false (has_width s.sizing.width) never) sized
  floating (kind.Cell columns rows) never sized = shrunk (not-false (has_width s.sizing.width) never) sized
  floating kind.Anchor never sized = shrunk (not-false (has_width s.sizing.width) never) sized

  by_flow : (f : Flow) (k : BoxKind) → shrinks f k s ≡ false → IsSized containing (own_rule v f k) s z → IsSized containing (own_rule w f k) s z
  by_flow InFlow k never sized = in_flow k never sized
  by_flow Floating k never sized = floating k never sized
  by_flow Apart k never sized = absurd cc

module _ (v w : PreferredWidths) where
  own_same : (containing : ContainingBlock) (boxes : List BoxNode) (z : BoxSizes) → shrinks_to_fit boxes ≡ false
      → IsSized containing (own_rule_of v (slice_get boxes 0)) (style_at (box_styles boxes) 0) z → IsSized containing (own_rule_of w (slice_get boxes 0)) (style_at (box_styles boxes) 0) z
  own_same containing [] z never sized = sized
  own_same containing (b ∷ boxes) z never sized = by_flow v w containing b.style z b.flow b.kind never sized

  own_sized : (setting : Setting) (boxes : List BoxNode) (z : BoxSizes) (left : Length) → is_absolute_setting setting ≡ false → shrinks_to_fit boxes ≡ false
      → IsOwnSized setting v boxes z left → IsOwnSized setting w boxes z left
  own_sized (Block containing) boxes z left flows never own = (own_same containing boxes z never own.0, own.1)
  own_sized (Cell containing cell) boxes z left flows never own = own
  own_sized (Absolute s) boxes z left flows never own = absurd cc

-- a table that doesn't shrink is of the fixed layout
fixed_by_kind : (k : BoxKind) (s : Style) → is_wrapper k ≡ true → shrinks_in_flow k s ≡ false → is_fixed s ≡ true
fixed_by_kind kind.Wrapper s is never = not-false (is_fixed s) never
fixed_by_kind kind.InlineWrapper s is never = not-false (is_fixed s) never
fixed_by_kind kind.InlineBlock s is never = absurd cc
fixed_by_kind (kind.Replaced width height inline) s is never = absurd cc
fixed_by_kind kind.Block s is never = absurd cc
fixed_by_kind kind.Inline s is never = absurd cc
fixed_by_kind (kind.Text text) s is never = absurd cc
fixed_by_kind kind.Table s is never = absurd cc
fixed_by_kind kind.Caption s is never = absurd cc
fixed_by_kind kind.RowGroup s is never = absurd cc
fixed_by_kind kind.HeaderGroup s is never = absurd cc
fixed_by_kind kind.FooterGroup s is never = absurd cc
fixed_by_kind kind.Row s is never = absurd cc
fixed_by_kind (kind.ColumnGroup span) s is never = absurd cc
fixed_by_kind (kind.Column span) s is never = absurd cc
fixed_by_kind (kind.Cell columns rows) s is never = absurd cc
fixed_by_kind kind.Anchor s is never = absurd cc

fixed_floating : (k : BoxKind) (s : Style) → is_wrapper k ≡ true → shrinks_floating k s ≡ false → is_fixed s ≡ true
fixed_floating kind.Wrapper s is never = absurd cc
fixed_floating kind.InlineWrapper s is never = absurd cc
fixed_floating kind.InlineBlock s is never = absurd cc
fixed_floating (kind.Replaced width height inline) s is never = absurd cc
fixed_floating kind.Block s is never = absurd cc
fixed_floating kind.Inline s is never = absurd cc
fixed_floating (kind.Text text) s is never = absurd cc
fixed_floating kind.Table s is never = absurd cc
fixed_floating kind.Caption s is never = absurd cc
fixed_floating kind.RowGroup s is never = absurd cc
fixed_floating kind.HeaderGroup s is never = absurd cc
fixed_floating kind.FooterGroup s is never = absurd cc
fixed_floating kind.Row s is never = absurd cc
fixed_floating (kind.ColumnGroup span) s is never = absurd cc
fixed_floating (kind.Column span) s is never = absurd cc
fixed_floating (kind.Cell columns rows) s is never = absurd cc
fixed_floating kind.Anchor s is never = absurd cc

fixed_by_flow : (f : Flow) (k : BoxKind) (s : Style) → is_wrapper k ≡ true → shrinks f k s ≡ false → is_fixed s ≡ true
fixed_by_flow InFlow k s is never = fixed_by_kind k s is never
fixed_by_flow Floating k s is never = fixed_floating k s is never
fixed_by_flow Apart k s is never = absurd cc

fixed_table : (boxes : List BoxNode) → is_table boxes ≡ true → shrinks_to_fit boxes ≡ false → is_fixed (wrapper_style boxes) ≡ true
fixed_table [] is never = absurd cc
fixed_table (b ∷ boxes) is never = fixed_by_flow b.flow b.kind b.style is never

-- its bounds don't count
widths_as : (fixed : Bool) (containing : Length) (boxes : List BoxNode) (g : TableGridValue) (t u : TableBoundsValue) (wanted : Length) (widths : List Length) → fixed ≡ true
    → AreTableWidthsAs fixed containing boxes g t wanted widths → AreTableWidthsAs fixed containing boxes g u wanted widths
widths_as true containing boxes g t u wanted widths e are = are
widths_as false containing boxes g t u wanted widths e are = absurd cc

table_sized : (containing : ContainingBlock) (rule : TableRule) (t u : TableBoundsValue) (boxes : List BoxNode) (sizes : List BoxSizes) (table : TableSizesValue) → is_fixed (wrapper_style boxes) ≡ true
    → HasTableSizes containing rule t boxes sizes table → HasTableSizes containing rule u boxes sizes table
table_sized containing rule t u boxes sizes table fixed has = record {
  grid = has.grid;
  wanted = has.wanted;
  widths = has.widths;
  are_widths = widths_as (is_fixed (wrapper_style boxes)) containing.width boxes table.grid t u has.wanted has.widths fixed has.are_widths;
  columns = has.columns;
  cell_count = has.cell_count;
  cells = has.cells;
  table = has.table;
  table_is = has.table_is;
  wrapper = has.wrapper;
  wrapper_is = has.wrapper_is;
  count = has.count;
  each = has.each;
}

abbrev given : List BoxNode → MeasuredContext → Setting → SizeInput
given boxes m setting = record { boxes = boxes; measured = m; setting = setting }

sized_as : (v w : MeasuredContext) (b : Bool) (setting : Setting) (boxes : List BoxNode) (sizes : List BoxSizes) (table : Option TableSizesValue) (left : Length) → is_table boxes ≡ b
    → is_absolute_setting setting ≡ false → shrinks_to_fit boxes ≡ false → IsSizedAs b (given boxes v setting) sizes table left → IsSizedAs b (given boxes w setting) sizes table left
sized_as v w true setting boxes sizes (Some table) left is flows never has =
    (table_sized (containing_block_in setting) (table_rule boxes) v.table w.table boxes sizes table (fixed_table boxes is never) has.0, has.1)
sized_as v w true setting boxes sizes None left is flows never has = has
sized_as v w false setting boxes sizes None left is flows never has = record {
  own = own_sized v.widths w.widths setting boxes (sizes_at sizes 0) left flows never has.own;
  inside = has.inside;
}
sized_as v w false setting boxes sizes (Some table) left is flows never has = has

pub widths_count_where_shrunk_lem : WidthsCountWhereShrunk
widths_count_where_shrunk_lem i m sized never flows has = record {
  boxes = sized_as i.measured m (is_table i.boxes) i.setting i.boxes sized.boxes sized.table sized.left refl flows never has.boxes;
  stretched = has.stretched;
}
