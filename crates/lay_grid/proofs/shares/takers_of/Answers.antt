use Rattle.std.proofs.Common.{ap, arith}
use Rattle.std.proofs.lemmas.List.{drop_all}
use Rattle.lay_grid.specs.Pass.Sharing.{count_takers}
use Rattle.lay_grid.proofs.SharedSteps.{takers_some}
use Rattle.lay_grid.proofs.shares.takers_of.Goals as goal

pub returns-clause-some : goal.returns-clause-some
returns-clause-some c =
    let d = ap (count_takers c.args.all) (drop_all c.loop-own.own-index c.args.owns.now c.loop-own-test.false) in
    let h = c.loop-own.invariant.count in
    takers_some _ _ c.args.owns.now c.requires.some c.requires.all (omega (arith, d, h))
