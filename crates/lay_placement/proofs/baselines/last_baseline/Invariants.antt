use Rattle.std.proofs.Common.{◌≡◌, take, IfSome}
use Rattle.std.specs.List.{flat_map}
use Rattle.lay_sizes.specs.OwnBoxes.{IsBaseline}
use Rattle.lay_placement.specs.Baselines.{last_baseline}
use Rattle.lay_placement.proofs.baselines.last_baseline.Given as goal

abbrev pub invariant-loop-k : goal.invariant-loop-k
invariant-loop-k l = record {
  value : l.last ≡ last_baseline (flat_map (λ rows. rows) (take l.k l.lines));
  near : IfSome l.last (λ b. IsBaseline b.0);
}
