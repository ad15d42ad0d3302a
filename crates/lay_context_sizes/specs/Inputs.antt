-- What the widths and sizes of one formatting context are worked out of: its boxes with the preferred widths of inner ones and the
-- face of texts for its own preferred widths (CSS 2.2, 10.3.5), and its boxes with what these say and the setting of its own box for
-- sizes (10.1).
use Rattle.std.specs.Prelude.{List}
use Rattle.lay_units.specs.Units.{IsPosition}
use Rattle.lay_box_tree.specs.declared.box_tree.BoxNode.{BoxNode}
use Rattle.lay_face.specs.FaceValue.{FaceValue}
use Rattle.lay_measure.specs.declared.preferred_widths.PreferredWidths.{PreferredWidths}
use Rattle.lay_sizes.specs.declared.sizing.ContainingBlock.{ContainingBlock}
use Rattle.lay_box_tree.specs.ContextBoxes.{AreContextBoxes}
use Rattle.lay_context_sizes.specs.MeasuredContexts.{MeasuredContext}
use Rattle.lay_context_sizes.specs.declared.setting.Setting.{Setting}
use Rattle.lay_abspos.specs.AbsoluteSettings.{SettingFits, block_in}
use Rattle.lay_context_sizes.specs.declared.setting.Setting.TheVariants.{Absolute, Block, Cell}

pub record MeasureInput : Type 0 where
  pub boxes : List BoxNode
  pub inner : List PreferredWidths
  pub face : FaceValue

pub record SizeInput : Type 0 where
  pub boxes : List BoxNode
  pub measured : MeasuredContext
  pub setting : Setting

-- the containing block of an own box (10.1)
abbrev pub containing_block_in : Setting → ContainingBlock
containing_block_in (Block containing) = containing
containing_block_in (Cell containing cell) = containing
containing_block_in (Absolute s) = block_in s

-- lengths that calls can take
abbrev pub OwnSettingFits : Setting → Type 0
OwnSettingFits (Block containing) = IsPosition containing.width.0
OwnSettingFits (Cell containing cell) = IsPosition containing.width.0
OwnSettingFits (Absolute s) = SettingFits s

pub record SizeInputFits (i : SizeInput) : Type 0 where
  pub boxes : AreContextBoxes i.boxes
  pub setting : OwnSettingFits i.setting
