-- What is said of an absolutely positioned box has one value: its level, its holder, its containing block, what it is given, its sizes
-- and its offset. What it is given comes of the formatting contexts on the way to its containing block alone, and they have lower
-- levels.
use Rattle.std.specs.Prelude.{ℕ, ◌≡◌, ◌<◌, Bool, true, List, length, slice_index, Option}
use Rattle.lay_units.specs.declared.records.Rect.{Rect}
use Rattle.lay_box_tree.specs.declared.box_tree.BoxNode.{BoxNode}
use Rattle.lay_sizes.specs.declared.sizing.ContainingBlock.{ContainingBlock}
use Rattle.lay_contexts.specs.FormattingContexts.{AreFormattingContexts, FormattingContext}
use Rattle.lay_abspos.specs.declared.setting.AbsoluteSetting.{AbsoluteSetting}
use Rattle.lay_positioned.specs.Absolute.{is_absolute}
use Rattle.lay_positioned.specs.ContainingRects.{IsContainingRect}
use Rattle.lay_positioned.specs.Holders.{IsNearestHolder}
use Rattle.lay_positioned.specs.HoldersOutward.{Holder, IsHolderOf}
use Rattle.lay_positioned.specs.Layouts.{Layout}
use Rattle.lay_positioned.specs.Levels.{HasLevels, IsLevelCount}
use Rattle.lay_positioned.specs.Settings.{IsSetting, absolute_setting}
use Rattle.lay_positioned.specs.Ways.{AreAlikeAt, IsOnWay}

-- formatting contexts have one column of levels
abbrev pub OneLevels : Type 0
OneLevels = (contexts : List FormattingContext) (x y : List ℕ) → AreFormattingContexts contexts
    → HasLevels contexts x → HasLevels contexts y → x ≡ y

-- and these one count
abbrev pub OneLevelCount : Type 0
OneLevelCount = (levels : List ℕ) (x y : ℕ) → IsLevelCount levels x → IsLevelCount levels y → x ≡ y

-- around a box one is the nearest that can be a containing block, or none is
abbrev pub OneNearestHolder : Type 0
OneNearestHolder = (boxes : List BoxNode) (k : ℕ) (x y : Option ℕ) → IsNearestHolder boxes k x → IsNearestHolder boxes k y → x ≡ y

-- an absolutely positioned one has one holder, or none
abbrev pub OneHolder : Type 0
OneHolder = (contexts : List FormattingContext) (i : ℕ) (x y : Option Holder) → IsHolderOf contexts i x → IsHolderOf contexts i y → x ≡ y

-- and one containing block
abbrev pub OneContainingRect : Type 0
OneContainingRect =
    (viewport : ContainingBlock) (is_fixed : Bool) (contexts : List FormattingContext) (laid : ℕ → Layout) (i k : ℕ) (x y : Rect)
    → IsContainingRect viewport is_fixed contexts laid i k x → IsContainingRect viewport is_fixed contexts laid i k y → x ≡ y

-- what is on the way of an absolutely positioned one has a lower level
abbrev pub WaysLeadDown : Type 0
WaysLeadDown = (contexts : List FormattingContext) (levels : List ℕ) (i j : ℕ) → AreFormattingContexts contexts → HasLevels contexts levels
    → i < length contexts → is_absolute contexts i ≡ true → IsOnWay contexts i j → slice_index levels j < slice_index levels i

-- and stands before it
abbrev pub WaysLeadOut : Type 0
WaysLeadOut = (contexts : List FormattingContext) (i j : ℕ) → AreFormattingContexts contexts
    → i < length contexts → IsOnWay contexts i j → j < i

-- An absolutely positioned one is given one setting, and the same one among other formatting contexts with other values, wherever it
-- and those on its way are alike and those answer the same.
abbrev pub SettingsComeOfWays : Type 0
SettingsComeOfWays = (viewport : ContainingBlock) (a b : List FormattingContext) (v w : ℕ → Layout) (i : ℕ) (s t : AbsoluteSetting)
    → AreAlikeAt a b i → ((j : ℕ) → IsOnWay a i j → AreAlikeAt a b j × (v j ≡ w j))
    → IsSetting viewport a v i s → IsSetting viewport b w i t → s ≡ t

-- it is the value of `absolute_setting`
abbrev pub SettingsAreValues : Type 0
SettingsAreValues = (viewport : ContainingBlock) (contexts : List FormattingContext) (laid : ℕ → Layout) (i : ℕ)
    → AreFormattingContexts contexts
    → i < length contexts → IsSetting viewport contexts laid i (absolute_setting viewport contexts laid i)
