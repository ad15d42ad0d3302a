-- What an absolutely positioned box is given from outside (CSS 2.2, 10.1), as other rules take it.
use Rattle.lay_units.specs.Units.{IsPosition}
use Rattle.lay_units.specs.declared.records.Len.TheVariants.{Of as of}
use Rattle.lay_sizes.specs.declared.sizing.ContainingBlock.{ContainingBlock}
use Rattle.lay_abspos.specs.declared.setting.AbsoluteSetting.{AbsoluteSetting}

-- the containing block as other rules take one; its height doesn't depend on what is in the box
abbrev pub block_in : AbsoluteSetting → ContainingBlock
block_in s = record { width = s.rect.w; height = of s.rect.h }

-- lengths that calls can take
pub record SettingFits (s : AbsoluteSetting) : Type 0 where
  pub x : IsPosition s.rect.x.0
  pub y : IsPosition s.rect.y.0
  pub w : IsPosition s.rect.w.0
  pub h : IsPosition s.rect.h.0
  pub static_left : IsPosition s.static_left.0
  pub static_top : IsPosition s.static_top.0
