use Rattle.std.proofs.Common.{◌≡◌, ◌+◌, drop, option_map}
use Rattle.lay_style.specs.PropertyNumbers.{number_of}
use Rattle.lay_style.specs.Declarations.{properties_of}
use Rattle.lay_style.specs.Places.{place_of}
use Rattle.lay_style.proofs.declaration.place_of_property.Given as goal

abbrev pub invariant-loop-k : goal.invariant-loop-k
invariant-loop-k l = option_map (λ k. k + l.k) (place_of (number_of l.property) (drop l.k (properties_of l.decls))) ≡ place_of (number_of l.property) (properties_of l.decls)
