use Rattle.std.proofs.Common.{◌∙◌, sym, ap, arith}
use Rattle.lay_board.specs.Passes.{EngineOf, PassOf, known_of}
use Rattle.lay_board.proofs.Steps.{looks_as}
use Rattle.lay_board.proofs.engine.Engine.front.Goals as goal

pub load-found-requires : goal.load-found-requires
load-found-requires c =
    let i = c.self.invariant in
    (ap (λ (z : PassOf). z.table) c.pass.view_is ∙ c.requires.of ∙ sym (ap (λ (z : EngineOf). z.table) c.self.view_is), omega (arith, i.0), looks_as _ _ _ _ (known_of c.pass.inside.seat.me) c.pass.invariant.me_is)
