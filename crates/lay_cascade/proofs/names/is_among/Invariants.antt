use Rattle.std.proofs.Common.{◌≡◌, drop}
use Rattle.std.specs.List.{list_any}
use Rattle.std.specs.Str.{bytes_eq}
use Rattle.lay_cascade.proofs.names.is_among.Given as goal

abbrev pub invariant-loop-class : goal.invariant-loop-class
invariant-loop-class l = list_any (λ class. bytes_eq class l.name) l.classes ≡ list_any (λ class. bytes_eq class l.name) (drop l.class-index l.classes)
