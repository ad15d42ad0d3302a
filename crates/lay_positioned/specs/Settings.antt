-- What an absolutely positioned box is given from outside (CSS 2.2, 10.1 and 10.3.7): its containing block, and where it would stand
-- in flow, its static position. The containing block is a rectangle that is counted as where the anchor stands; the static position
-- is counted from the corner of that. Where the root is absolutely positioned, both are the viewport's.
use Rattle.std.specs.Prelude.{ℕ, zero, suc, ◌≡◌, ◌-ℤ◌, List}
use Rattle.lay_units.specs.declared.records.Rect.{Rect}
use Rattle.lay_units.specs.Lengths.{no_length}
use Rattle.lay_sizes.specs.declared.sizing.ContainingBlock.{ContainingBlock}
use Rattle.lay_contexts.specs.FormattingContexts.{FormattingContext, formatting_context_at}
use Rattle.lay_placements.specs.declared.corner.Corner.{Corner}
use Rattle.lay_abspos.specs.declared.setting.AbsoluteSetting.{AbsoluteSetting}
use Rattle.lay_positioned.specs.Absolute.{is_fixed}
use Rattle.lay_positioned.specs.ContainingRects.{IsContainingRect, containing_in, viewport_rect}
use Rattle.lay_positioned.specs.Layouts.{Layout, standing_of}

-- an anchor in a containing block
abbrev pub setting_beside : Rect → Corner → AbsoluteSetting
setting_beside r anchor = record {
  rect = r;
  static_left = record { 0 = anchor.x.0 -ℤ r.x.0 };
  static_top = record { 0 = anchor.y.0 -ℤ r.y.0 };
}

abbrev pub root_setting : ContainingBlock → AbsoluteSetting
root_setting viewport = record { rect = viewport_rect viewport; static_left = no_length; static_top = no_length }

-- what the formatting context with the number i, which isn't the root's, is given
pub record IsInnerSetting (viewport : ContainingBlock) (contexts : List FormattingContext) (laid : ℕ → Layout) (i : ℕ) (s : AbsoluteSetting)
    : Type 0 where
  pub rect : Rect
  pub containing
      : IsContainingRect viewport (is_fixed contexts i) contexts laid (formatting_context_at contexts i).outer
      (formatting_context_at contexts i).outer_box rect
  pub setting_is : s ≡ setting_beside rect (standing_of contexts laid i).corner

-- what the absolutely positioned one with the number i is given
abbrev pub IsSetting : ContainingBlock → List FormattingContext → (ℕ → Layout) → ℕ → AbsoluteSetting → Type 0
IsSetting viewport contexts laid zero s = s ≡ root_setting viewport
IsSetting viewport contexts laid (suc i) s = IsInnerSetting viewport contexts laid (suc i) s

-- the value of `IsSetting`, by the laws `settings_are_values` and `settings_come_of_ways`
abbrev pub absolute_setting : ContainingBlock → List FormattingContext → (ℕ → Layout) → ℕ → AbsoluteSetting
absolute_setting viewport contexts laid zero = root_setting viewport
absolute_setting viewport contexts laid (suc i) =
    let c = formatting_context_at contexts (suc i) in
    setting_beside (containing_in (suc i) viewport (is_fixed contexts (suc i)) contexts laid c.outer c.outer_box)
    (standing_of contexts laid (suc i)).corner
