use Rattle.std.proofs.Common.{ℕ}
use Rattle.std.specs.BTreeMap.{get}
use Rattle.std.specs.Ordering.{nat_cmp}
use Rattle.lay_box_tree.specs.LatestParts.{IsLatest}
use Rattle.lay_abspos.specs.Relative.OpenParts.{AreNextTo}
use Rattle.lay_abspos.proofs.relative.next_place.next_places.Given as goal

abbrev pub invariant-loop-k : goal.invariant-loop-k
invariant-loop-k l = record {
  latest : (id : ℕ) → IsLatest l.boxes l.k id (get nat_cmp l.latest id);
  next : AreNextTo l.boxes l.next.items l.k;
}
