use Rattle.std.proofs.Common.{◌≡◌, ◌<◌, ℕ, None, length, get_or}
use Rattle.lay_abspos.specs.Relative.FormerParents.{IsFormerParent}
use Rattle.lay_abspos.specs.Relative.OpenParts.{AreOpen}
use Rattle.lay_abspos.proofs.relative.former_parent.parents_of.Given as goal

abbrev pub invariant-loop-k : goal.invariant-loop-k
invariant-loop-k l = record {
  count : length l.parents.items ≡ l.k;
  each : (j : ℕ) → j < l.k → IsFormerParent l.boxes j (get_or l.parents.items j None);
  parts : AreOpen l.boxes l.k l.parts.items;
}
