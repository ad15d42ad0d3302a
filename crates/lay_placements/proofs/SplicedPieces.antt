-- The pieces of an anonymous formatting context where its box stands, by their numbers.
use Rattle.std.proofs.Common.{◌≡◌, ℕ, zero, suc, ◌<◌, ◌+ℤ◌, List, [], ◌∷◌, length, refl, ap, ◌∙◌, arith, Some, option_map, slice_get}
use Rattle.std.proofs.lemmas.Option.{slice_get-map}
use Rattle.std.proofs.lemmas.List.{length-map}
use Rattle.lay_units.specs.declared.length.Unit.{Unit as Length}
use Rattle.lay_frag.specs.declared.frag.Frag.{Frag}
use Rattle.lay_frag.specs.Pieces.{moved, stretched}
use Rattle.lay_placements.specs.declared.standing.Standing.{Standing}
use Rattle.lay_placements.specs.Splicing.{border_box, spliced}

pub own_spliced : (width : Length) (s : Standing) (fs : List Frag) (f : Frag) → slice_get fs 0 ≡ Some f → slice_get (spliced width s fs) 0 ≡ Some (stretched (border_box width s) f)
own_spliced width s [] f is = absurd cc
own_spliced width s (g ∷ gs) f is = ap (option_map (stretched (border_box width s))) is

pub inner_spliced : (width : Length) (s : Standing) (fs : List Frag) (k : ℕ) (f : Frag) → 0 < k → slice_get fs k ≡ Some f → slice_get (spliced width s fs) k ≡ Some (moved s.corner.x.0 (s.corner.y.0 +ℤ s.shift.0) f)
inner_spliced width s [] k f positive is = absurd cc
inner_spliced width s (g ∷ gs) zero f positive is = absurd (omega arith)
inner_spliced width s (g ∷ gs) (suc k) f positive is = slice_get-map (moved s.corner.x.0 (s.corner.y.0 +ℤ s.shift.0)) gs k ∙ ap (option_map (moved s.corner.x.0 (s.corner.y.0 +ℤ s.shift.0))) is

pub length-spliced : (width : Length) (s : Standing) (fs : List Frag) → length (spliced width s fs) ≡ length fs
length-spliced width s [] = refl
length-spliced width s (g ∷ gs) = let e = length-map gs (moved s.corner.x.0 (s.corner.y.0 +ℤ s.shift.0)) in omega (arith, e)
