use Rattle.std.proofs.Common.{◌≡◌, ◌<◌, ℕ, length}
use Rattle.lay_flow.specs.Blocks.Children.{flag_at}
use Rattle.lay_context.specs.Measured.{is_measured}
use Rattle.lay_context.proofs.measured.measured_flags.Given as goal

abbrev pub invariant-loop-i : goal.invariant-loop-i
invariant-loop-i l = record {
  counted : length l.flags.items ≡ l.i;
  each : (j : ℕ) → j < l.i → flag_at l.flags.items j ≡ is_measured l.contexts j;
}
