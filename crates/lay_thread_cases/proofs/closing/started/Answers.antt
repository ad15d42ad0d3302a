use Rattle.std.proofs.Common.{ap}
use Rattle.lay_board.specs.Passes.{CloserOf}
use Rattle.lay_thread_cases.proofs.Starts.{may_call, of_table}
use Rattle.lay_thread_cases.proofs.closing.started.Goals as goal

pub without_last-requires-clause-closer : goal.without_last-requires-clause-closer
without_last-requires-clause-closer c = ap (λ (x : CloserOf). x.table) c.in_ok-engine.ensures.closer

pub without_last-requires-clause-of : goal.without_last-requires-clause-of
without_last-requires-clause-of c = of_table c.in_ok-engine.engine _ _ _ c.in_ok-engine.ensures.passes

pub without_last-requires-clause-left : goal.without_last-requires-clause-left
without_last-requires-clause-left c = may_call c.in_ok-engine.engine _ _ _ c.in_ok-engine.ensures.passes c.in_ok-vec.ensures.items

pub returns : goal.returns
returns c = c.without_last.ensures
