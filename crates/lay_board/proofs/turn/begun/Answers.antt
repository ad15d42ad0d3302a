use Rattle.std.proofs.Common.{ap, length}
use Rattle.lay_board.specs.Passes.{PassOf}
use Rattle.lay_board.proofs.Turns.{begins_turn}
use Rattle.lay_board.proofs.turn.begun.Goals as goal

pub returns-clause-turn : goal.returns-clause-turn
returns-clause-turn g c =
    let p = c.pass.invariant in let t = c.take_core-core.ensures in
    begins_turn c.args.pass.knows c.take_core-core.result.0 c.pass.inside.seat.me _ _ _ _ _ _ p (ap (λ (z : PassOf). z.knows) c.pass.view_is) c.requires.left t.held t.met.pass (ap length c.history.ensures.value)
