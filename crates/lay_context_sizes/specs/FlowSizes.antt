-- The used sizes of the boxes of one formatting context that is laid out by block flow, from outer to inner ones (CSS 2.2, 10.1), each
-- beside its containing block. For the own box the setting is given, and so are the preferred widths of the context. The boxes of
-- inner contexts are sized there.
use Rattle.std.specs.Prelude.{ℕ, ◌≡◌, ◌<◌, true, false, List, length, slice_get, Option, Some, None, if◌then◌else◌}
use Rattle.lay_units.specs.declared.length.Unit.{Unit as Length}
use Rattle.lay_units.specs.Lengths.{no_length}
use Rattle.lay_style.specs.ComputedStyle.{style_at}
use Rattle.lay_box_tree.specs.declared.box_tree.BoxNode.{BoxNode}
use Rattle.lay_box_tree.specs.declared.box_tree.Flow.{Flow}
use Rattle.lay_box_tree.specs.declared.box_tree.Flow.TheVariants.{Floating}
use Rattle.lay_box_tree.specs.BoxColumns.{box_styles}
use Rattle.lay_box_tree.specs.declared.box_tree.BoxKind.{BoxKind}
use Rattle.lay_box_tree.specs.declared.box_tree.BoxKind.TheVariants as kind
use Rattle.lay_box_tree.specs.Roles.{is_inline_level, role_at}
use Rattle.lay_measure.specs.declared.preferred_widths.PreferredWidths.{PreferredWidths}
use Rattle.lay_sizes.specs.declared.sizing.BoxSizes.{BoxSizes}
use Rattle.lay_sizes.specs.declared.sizing.WidthRule.{WidthRule}
use Rattle.lay_sizes.specs.declared.sizing.WidthRule.TheVariants.{Fills, Inline, Replaced, ReplacedBlock, ShrinksToFit}
use Rattle.lay_sizes.specs.BoxSizes.{IsSized}
use Rattle.lay_sizes.specs.SizeColumns.{no_sizes, sizes_at}
use Rattle.lay_table_sizes.specs.CellSizes.{IsCellSized}
use Rattle.lay_box_tree.specs.ContextBoxes.{is_inner}
use Rattle.lay_placements.specs.ContainingBlocks.{block_around}
use Rattle.lay_box_tree.specs.BoxColumns.{box_at}
use Rattle.lay_abspos.specs.AbsoluteSizes.{IsAbsoluteSized}
use Rattle.lay_context_sizes.specs.Inputs.{SizeInput}
use Rattle.lay_context_sizes.specs.declared.setting.Setting.{Setting}
use Rattle.lay_context_sizes.specs.declared.setting.Setting.TheVariants.{Absolute, Block, Cell}

-- Which rule gives the context's own box its width, where these are its preferred widths. In flow an inline-block shrinks to fit
-- (10.3.9), and a block fills its containing block (10.3.3). A replaced element has the width of the rules for these, which is
-- block-level or inline-level (10.3.4 and 10.3.2).
abbrev pub rule_in_flow : PreferredWidths → BoxKind → WidthRule
rule_in_flow w kind.InlineBlock = ShrinksToFit w.minimum w.preferred
rule_in_flow w (kind.Replaced width height true) = Replaced (record { width = width; height = height })
rule_in_flow w (kind.Replaced width height false) = ReplacedBlock (record { width = width; height = height })
rule_in_flow w _ = Fills

-- what floats shrinks to fit (10.3.5), but for a replaced element (10.3.6)
abbrev pub floating_rule : PreferredWidths → BoxKind → WidthRule
floating_rule w (kind.Replaced width height inline) = Replaced (record { width = width; height = height })
floating_rule w _ = ShrinksToFit w.minimum w.preferred

abbrev pub own_rule : PreferredWidths → Flow → BoxKind → WidthRule
own_rule w Floating kind = floating_rule w kind
own_rule w _ kind = rule_in_flow w kind

abbrev pub own_rule_of : PreferredWidths → Option BoxNode → WidthRule
own_rule_of w None = Fills
own_rule_of w (Some b) = own_rule w b.flow b.kind

-- These are the used sizes of the own box in a setting. A cell has its width and its borders from the table (17.5.2, 17.6). Of an
-- absolutely positioned one they come with the place of its left border edge (10.3.7), which is nothing for others.
abbrev pub IsOwnSized : Setting → PreferredWidths → List BoxNode → BoxSizes → (left : Length) → Type 0
IsOwnSized (Block containing) w boxes z left =
    IsSized containing (own_rule_of w (slice_get boxes 0)) (style_at (box_styles boxes) 0) z × (left ≡ no_length)
IsOwnSized (Cell containing cell) w boxes z left = IsCellSized containing cell (style_at (box_styles boxes) 0) z × (left ≡ no_length)
IsOwnSized (Absolute s) w boxes z left = IsAbsoluteSized s (box_at boxes 0) w.minimum w.preferred z left

-- which rule gives the box at k in the context its width: it is a block in flow, or an inline box (10.3.1)
abbrev pub inside_rule : List BoxNode → ℕ → WidthRule
inside_rule boxes k = if is_inline_level (role_at boxes k) then Inline else Fills

-- these are the used sizes of the box at k, beside its containing block among boxes of these sizes
abbrev pub IsBoxSized : List BoxNode → List BoxSizes → ℕ → BoxSizes → Type 0
IsBoxSized boxes sizes k z = IsSized (block_around boxes sizes k) (inside_rule boxes k) (style_at (box_styles boxes) k) z

-- each box in the context has its used sizes, and those of inner contexts have none here
pub record HaveInsideSizes (boxes : List BoxNode) (sizes : List BoxSizes) : Type 0 where
  pub count : length sizes ≡ length boxes
  pub each : (k : ℕ) → 0 < k → k < length boxes → is_inner boxes k ≡ false → IsBoxSized boxes sizes k (sizes_at sizes k)
  pub inner : (k : ℕ) → 0 < k → k < length boxes → is_inner boxes k ≡ true → sizes_at sizes k ≡ no_sizes

-- and so has the own box in its setting
pub record HasFlowSizes (i : SizeInput) (sizes : List BoxSizes) (left : Length) : Type 0 where
  pub own : IsOwnSized i.setting i.measured.widths i.boxes (sizes_at sizes 0) left
  pub inside : HaveInsideSizes i.boxes sizes
