use Rattle.std.proofs.Common.{◌≡◌, []}
use Rattle.lay_board.proofs.turn.take_core.Given as goal

abbrev pub invariant-loop : goal.invariant-loop
invariant-loop g l = (l.seat.table_id ≡ l.fn.seat.table_id) × (l.seat.me ≡ (l.fn.seat.me.0, []))
