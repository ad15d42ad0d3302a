use Rattle.std.proofs.Common.{◌≡◌, find, drop}
use Rattle.std.specs.Str.{bytes_eq}
use Rattle.lay_values.specs.Names.{name_of, property_of}
use Rattle.lay_values.proofs.names.property_named.Given as goal

abbrev pub invariant-loop-property : goal.invariant-loop-property
invariant-loop-property l = find (λ p. bytes_eq (name_of p) l.name) (drop l.property-index l.named) ≡ property_of l.name
