use Rattle.std.proofs.Common.{◌≡◌, ◌<◌, ℕ, length, get_or}
use Rattle.std.specs.BTreeMap.{get}
use Rattle.std.specs.Ordering.{nat_cmp}
use Rattle.lay_box_tree.specs.InlineParts.{is_first_part, no_part}
use Rattle.lay_box_tree.specs.LatestParts.{IsLatest}
use Rattle.lay_box_tree.proofs.inline_part.first_parts.Given as goal

abbrev pub invariant-loop-k : goal.invariant-loop-k
invariant-loop-k l = record {
  count : length l.parts.items ≡ l.k;
  each : (j : ℕ) → j < l.k → (get_or l.parts.items j no_part).first ≡ is_first_part l.boxes j;
  latest : (id : ℕ) → IsLatest l.boxes l.k id (get nat_cmp l.latest id);
}
