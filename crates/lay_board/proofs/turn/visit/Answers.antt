use Rattle.std.proofs.Common.{◌∙◌, ap, arith, Some, None, [], ◌∷◌}
use Rattle.lay_board.specs.Rules.{SeatView}
use Rattle.lay_board.proofs.Steps.{comes_it}
use Rattle.lay_board.proofs.Turns.{guest_meets}
use Rattle.lay_board.proofs.turn.visit.Goals as goal

pub load_new_seat-seat-requires : goal.load_new_seat-seat-requires
load_new_seat-seat-requires g c = let t = c.requires.table in (omega (arith, t.0), comes_it _ _ 0 c.args.table.now.shared.key.calls.value.items)

pub returns-clause-held : goal.returns-clause-held
returns-clause-held g c =
    c.take_core-core.ensures.held ∙ ap (λ (m : SeatView). (record (m.0) { hold = Some c.take_core-core.result.0 }, (0, None) ∷ [])) c.load_new_seat-seat.ensures.2

pub returns-clause-core : goal.returns-clause-core
returns-clause-core g c = (c.history.ensures.core, guest_meets _ _ _ c.load_new_seat-seat.ensures.2 c.take_core-core.ensures.met)
