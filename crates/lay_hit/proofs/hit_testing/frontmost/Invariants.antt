use Rattle.std.proofs.Common.{◌≡◌, ◌<◌, ◌-◌, length}
use Rattle.lay_hit.specs.Questions.{seen_in}
use Rattle.lay_hit.specs.Fronts.{front_from}
use Rattle.lay_hit.proofs.hit_testing.frontmost.Given as goal

abbrev pub invariant-loop-next : goal.invariant-loop-next
invariant-loop-next l = record {
  within : l.at < length l.q.doc.now.nodes;
  seen : seen_in l.q l.at ≡ seen_in l.q 0;
  next : l.next ≡ front_from l.q 1 l.at;
}

abbrev pub decreases-loop-next : goal.decreases-loop-next
decreases-loop-next l = length l.q.doc.now.nodes - l.at
