use Rattle.std.proofs.Common.{refl}
use Rattle.lay_board.proofs.Guests.{unchanged}
use Rattle.lay_board.proofs.engine.Engine.is_published.Goals as goal

pub give_core-seat-requires-clause-out : goal.give_core-seat-requires-clause-out
give_core-seat-requires-clause-out g c = (_, c.visit-core.result.0, c.visit-core.ensures.held, refl, refl, unchanged c.visit-core.result.0)
