use Rattle.std.proofs.Common.{arith, inl, refl, subst}
use Rattle.lay_board.specs.Batches.{IsCoreFrom}
use Rattle.lay_board.specs.Passes.{EngineOf}
use Rattle.lay_board.proofs.Guests.{grants_then, quiet, quiet_then}
use Rattle.lay_board.proofs.engine.Engine.exchange_inside.Goals as goal

pub give_core-seat-requires-clause-out : goal.give_core-seat-requires-clause-out
give_core-seat-requires-clause-out g c =
    let a = c.finish_all-tally.ensures in
    let finished = quiet _ _ _ a.answers (inl (let d = a.draws in omega (arith, d))) in
    (_, c.visit-core.result.0, c.visit-core.ensures.held, refl, refl, quiet_then _ _ _ finished c.granted-batch.ensures.quiet)

pub returns-clause-exchanges : goal.returns-clause-exchanges
returns-clause-exchanges g c = record {
  before = c.visit-core.result.0;
  between = c.finish_all-tally.new.self;
  core = subst (λ (e : EngineOf). IsCoreFrom e.origin c.visit-core.result.0) c.self.view_is c.visit-core.ensures.core;
  finishes = c.finish_all-tally.ensures.answers;
  grants = grants_then _ _ _ c.granted-batch.result c.granted-batch.ensures.grants;
}
