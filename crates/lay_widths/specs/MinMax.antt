-- Minimum and maximum widths (CSS 2.2, 10.4), and heights of absolutely positioned boxes (10.7), for any rules that
-- give used values for a computed width.
use Rattle.std.specs.Prelude.{◌≡◌, ℤ, ◌≤ℤ◌, ◌<ℤ◌, Option, Some, None}
use Rattle.lay_units.specs.declared.length.Unit.{Unit}
use Rattle.lay_units.specs.declared.records.Len.{Len}
use Rattle.lay_units.specs.declared.records.Len.TheVariants.{Of as of}

-- the used values, or where they are wider than the maximum, what the rules give for that
abbrev pub AtMost : {U : Type 0} → (U → ℤ) → (Len → U → Type 0) → Option Unit → U → U → Type 0
AtMost width Rules None before after = after ≡ before
AtMost width Rules (Some max) before after =
    (max.0 <ℤ width before → Rules (of max) after) × (width before ≤ℤ max.0 → after ≡ before)

-- the used values, or where they are narrower than the minimum, what the rules give for that
abbrev pub AtLeast : {U : Type 0} → (U → ℤ) → (Len → U → Type 0) → Unit → U → U → Type 0
AtLeast width Rules min before after =
    (width before <ℤ min.0 → Rules (of min) after) × (min.0 ≤ℤ width before → after ≡ before)

-- what the rules give for the computed width, bounded by the maximum first and by the minimum then
pub record IsBounded {U : Type 0} (width : U → ℤ) (Rules : Len → U → Type 0) (computed : Len) (min : Unit) (max : Option Unit) (used : U)
    : Type 0 where
  pub tentative : U
  pub narrowed : U
  pub first : Rules computed tentative
  pub second : AtMost width Rules max tentative narrowed
  pub third : AtLeast width Rules min narrowed used
