use Rattle.std.proofs.Common.{◌≡◌, ◌<◌, ℕ, length}
use Rattle.lay_abspos.specs.Relative.MoveBounds.{AreNearMoves}
use Rattle.lay_abspos.specs.Relative.Moves.{move_at, move_of}
use Rattle.lay_abspos.proofs.relative.moves.moves_of.Given as goal

abbrev pub invariant-loop-k : goal.invariant-loop-k
invariant-loop-k l = record {
  count : length l.moves.items ≡ l.k;
  each : (k : ℕ) → k < l.k → move_at l.moves.items k ≡ move_of l.boxes l.sizes l.formers.items l.moves.items k;
  near : AreNearMoves l.moves.items;
}
