-- Which lengths a replaced element is given: sizes and bounds from 0, natural sizes from 1.
use Rattle.std.specs.Prelude.{pos, ◌≤ℤ◌, IfSome, ⊤}
use Rattle.lay_units.specs.Units.{IsSize}
use Rattle.lay_widths.specs.Lengths.{LenIsSize}
use Rattle.lay_widths.specs.declared.replaced.ReplacedIn.{ReplacedIn}
use Rattle.lay_widths.specs.declared.replaced.Violation.{Violation}
use Rattle.lay_widths.specs.declared.replaced.Violation.TheVariants.{Above as above, Below as below, Within as within}

pub record ReplacedFits (r : ReplacedIn) : Type 0 where
  pub natural_width : IsSize r.natural_width.0
  pub wide : pos 1 ≤ℤ r.natural_width.0
  pub natural_height : IsSize r.natural_height.0
  pub high : pos 1 ≤ℤ r.natural_height.0
  pub width : LenIsSize r.width
  pub height : LenIsSize r.height
  pub min_width : IsSize r.min_width.0
  pub max_width : IfSome r.max_width (λ v. IsSize v.0)
  pub min_height : IsSize r.min_height.0
  pub max_height : IfSome r.max_height (λ v. IsSize v.0)

-- the bound that is violated is a size
abbrev pub ViolationFits : Violation → Type 0
ViolationFits (above max) = IsSize max
ViolationFits (below min) = IsSize min
ViolationFits within = ⊤
