use Rattle.std.proofs.Common.{◌∙◌, ⊎_elim, inl, inr, ap, arith}
use Rattle.lay_board.specs.Passes.{CloserOf}
use Rattle.lay_board.proofs.Turns.{maker_meets}
use Rattle.lay_board.proofs.closing.taken_last.Goals as goal

pub returns-clause-origin : goal.returns-clause-origin
returns-clause-origin g c =
    (maker_meets _ _ _ c.closer.invariant c.take_core.ensures.met.maker).origin ∙ ap (λ (z : CloserOf). z.origin) c.closer.view_is

pub returns-clause-others : goal.returns-clause-others
returns-clause-others g c n none_is =
    let i = c.closer.invariant in
    (maker_meets _ _ _ i c.take_core.ensures.met.maker).unmade n (⊎_elim (λ z. inl z) (λ lt. let e = i.made_is in let v = ap (λ (z : CloserOf). z.made) c.closer.view_is in inr (omega (arith, e, v, lt))) none_is)

pub returns-clause-draws : goal.returns-clause-draws
returns-clause-draws g c = (maker_meets _ _ _ c.closer.invariant c.take_core.ensures.met.maker).draws
