use Rattle.std.proofs.Common.{ap, Some}
use Rattle.lay_board.specs.Rules.{SeatView}
use Rattle.lay_board.proofs.Steps.{rest_of}
use Rattle.lay_board.proofs.turn.carry.Goals as goal

pub exchange-requires : goal.exchange-requires
exchange-requires c = let o = c.requires.out in (c.requires.table, (Some o.1, rest_of _ _ (ap (λ (m : SeatView). m.1) o.2)))
