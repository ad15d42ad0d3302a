use Rattle.std.proofs.Common.{ap, arith}
use Rattle.lay_board.specs.Rules.{SeatView}
use Rattle.lay_board.proofs.Steps.{makes_as}
use Rattle.lay_board.proofs.starting.next_pass.Goals as goal

pub split_seat-seat-requires : goal.split_seat-seat-requires
split_seat-seat-requires c = let t = c.requires.table in let m = c.requires.maker in (t.0, omega (arith, t.1), makes_as _ _ m.0 m.1 c.args.left m.2 _ (ap (λ (z : SeatView). z.0) m.3))
