use Rattle.std.proofs.Common.{arith, inl, refl, subst}
use Rattle.lay_board.specs.Batches.{IsCoreFrom}
use Rattle.lay_board.specs.Passes.{EngineOf}
use Rattle.lay_board.proofs.Guests.{quiet}
use Rattle.lay_board.proofs.engine.Engine.finish_all.Goals as goal

pub give_core-seat-requires-clause-out : goal.give_core-seat-requires-clause-out
give_core-seat-requires-clause-out g c =
    let a = c.finish_all-tally.ensures in
    (_, c.visit-core.result.0, c.visit-core.ensures.held, refl, refl, quiet _ _ _ a.answers (inl (let d = a.draws in omega (arith, d))))

pub returns-clause-finishes : goal.returns-clause-finishes
returns-clause-finishes g c = record {
  before = c.visit-core.result.0;
  after = c.finish_all-tally.new.self;
  core = subst (λ (e : EngineOf). IsCoreFrom e.origin c.visit-core.result.0) c.self.view_is c.visit-core.ensures.core;
  finishes = c.finish_all-tally.ensures.answers;
}
