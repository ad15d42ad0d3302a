-- Struts that hold used margins.
use Rattle.std.proofs.Common.{◌≡◌, ℤ, ◌+ℤ◌, [], ◌∷◌, arith}
use Rattle.std.proofs.lemmas.Int.{ints, clamps}
use Rattle.lay_units.specs.Units.{IsUsed}
use Rattle.lay_margins.specs.StrutValue.{StrutValue}
use Rattle.lay_margins.specs.Collapse.{Holds, collapse}
use Rattle.lay_flow.specs.Pass.Struts.{StrutFits}

pub holds_itself : (s : StrutValue) → StrutFits s → Holds s (s.positive ∷ s.negative ∷ [])
holds_itself s f = let a = f.positive_least in let b = f.negative_most in record {
  positive_is = omega (arith, ints, clamps, a, b);
  negative_is = omega (arith, ints, clamps, a, b);
}

pub fits_after : (s t : StrutValue) (m : ℤ) → StrutFits s → IsUsed m → Holds t (s.positive ∷ s.negative ∷ m ∷ []) → StrutFits t
fits_after s t m f u h =
    let a = f.positive_least in let b = f.positive_most in let c = f.negative_least in let d = f.negative_most in
    let e = h.positive_is in let g = h.negative_is in let v = u.0 in let w = u.1 in
    record {
      positive_least = omega (arith, ints, clamps, a, b, c, d, e, v, w);
      positive_most = omega (arith, ints, clamps, a, b, c, d, e, v, w);
      negative_least = omega (arith, ints, clamps, a, b, c, d, g, v, w);
      negative_most = omega (arith, ints, clamps, a, b, c, d, g, v, w);
    }

pub collapse_itself : (s : StrutValue) → StrutFits s → collapse (s.positive ∷ s.negative ∷ []) ≡ s.positive +ℤ s.negative
collapse_itself s f = let a = f.positive_least in let b = f.negative_most in omega (arith, ints, clamps, a, b)
