use Rattle.std.proofs.Common.{◌≡◌, take, IfSome}
use Rattle.std.specs.Option.{option_or}
use Rattle.lay_sizes.specs.OwnBoxes.{IsBaseline}
use Rattle.lay_placement.specs.Baselines.{last_baseline}
use Rattle.lay_placement.proofs.baselines.last_baseline_or.Given as goal

abbrev pub invariant-loop-k : goal.invariant-loop-k
invariant-loop-k l = record {
  value : l.last ≡ option_or (last_baseline (take l.k l.rows)) l.fn.before;
  near : IfSome l.last (λ b. IsBaseline b.0);
}
