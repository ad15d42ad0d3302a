use Rattle.std.proofs.Common.{◌≡◌, true}
use Rattle.lay_cascade.specs.NodeNames.{fits_at}
use Rattle.lay_cascade.specs.Columns.{IsColumn}
use Rattle.lay_cascade.proofs.forward.all_fitting.Given as goal

abbrev pub invariant-loop-k : goal.invariant-loop-k
invariant-loop-k l = IsColumn l.k (λ k. fits_at l.named.names.now k l.simple ≡ true) l.fitting.items
