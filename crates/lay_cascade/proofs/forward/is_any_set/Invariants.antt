use Rattle.std.proofs.Common.{◌≡◌, drop}
use Rattle.std.specs.List.{list_any}
use Rattle.lay_cascade.proofs.forward.is_any_set.Given as goal

abbrev pub invariant-loop-told : goal.invariant-loop-told
invariant-loop-told l = list_any (λ told. told) l.column ≡ list_any (λ told. told) (drop l.told-index l.column)
