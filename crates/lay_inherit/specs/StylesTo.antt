-- Styles that are known up to a place, as the pass from outer to inner nodes has them.
use Rattle.std.specs.Prelude.{ℕ, ◌≡◌, ◌<◌, List, length}
use Rattle.lay_style.specs.declared.style.Style.{Style}
use Rattle.lay_style.specs.Values.{Declaration}
use Rattle.lay_style.specs.ComputedStyle.{style_at, computed_style, parent_style, declarations_at}

-- the nodes before n have their styles
pub record StylesTo (parents : List ℕ) (decls : List (List Declaration)) (styles : List Style) (n : ℕ) : Type 0 where
  pub length_is : length styles ≡ n
  pub each : (k : ℕ) → k < n → style_at styles k ≡ computed_style (parent_style parents styles k) (declarations_at decls k)
