use Rattle.std.proofs.Common.{refl, subst}
use Rattle.lay_board.specs.Batches.{IsCoreFrom}
use Rattle.lay_board.specs.Passes.{EngineOf}
use Rattle.lay_board.proofs.Guests.{gives}
use Rattle.lay_board.proofs.engine.Engine.claim_batch.Goals as goal

pub give_core-seat-requires-clause-out : goal.give_core-seat-requires-clause-out
give_core-seat-requires-clause-out g c = (_, c.visit-core.result.0, c.visit-core.ensures.held, refl, refl, c.granted-batch.ensures.quiet)

pub returns : goal.returns
returns g c =
    let core = subst (λ (e : EngineOf). IsCoreFrom e.origin c.visit-core.result.0) c.self.view_is c.visit-core.ensures.core in
    record { claims = gives _ _ _ _ c.granted-batch.result core c.granted-batch.ensures.grants }
