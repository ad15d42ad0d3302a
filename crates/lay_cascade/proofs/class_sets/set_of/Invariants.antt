use Rattle.std.proofs.Common.{◌≡◌, ℕ, List, take, bytes_eq}
use Rattle.std.specs.Prelude.{is_some}
use Rattle.std.specs.List.{list_any}
use Rattle.std.specs.HashMap as hash
use Rattle.lay_cascade.proofs.class_sets.set_of.Given as goal

abbrev pub invariant-loop-i : goal.invariant-loop-i
invariant-loop-i l = (q : List ℕ) → is_some (hash.get_by (λ key. bytes_eq q key.now) l.places) ≡ list_any (λ class. bytes_eq q class) (take l.i l.classes)
