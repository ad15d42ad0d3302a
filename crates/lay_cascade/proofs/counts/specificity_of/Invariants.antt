use Rattle.std.proofs.Common.{◌≡◌, ◌≤◌, ◌-◌, length, drop}
use Rattle.lay_cascade.specs.Specificity.{specificity_of}
use Rattle.lay_cascade.proofs.counts.specificity_of.Given as goal

abbrev pub invariant-loop-done : goal.invariant-loop-done
invariant-loop-done l = record {
  found : l.found ≡ specificity_of (drop (length l.steps - l.done) l.steps);
  labels : l.found.labels ≤ l.done;
  classes : l.found.classes ≤ l.done;
  tags : l.found.tags ≤ l.done;
}
