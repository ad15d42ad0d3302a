use Rattle.std.proofs.Common.{arith}
use Rattle.lay_run.specs.Gathered.Links.{itself, below}
use Rattle.lay_run.proofs.gathered.listing.last_of.Goals as goal

pub loop-at-smaller : goal.loop-at-smaller
loop-at-smaller c =
    let rising = c.requires.rising c.loop-at.at c.loop-at.invariant.within in
    let low = rising.0 in
    let high = rising.1 in
    omega (arith, low, high)

pub loop-at-preserved : goal.loop-at-preserved
loop-at-preserved c = record {
  within = (c.requires.rising c.loop-at.at c.loop-at.invariant.within).1;
  goes_on = λ n rest. c.loop-at.invariant.goes_on n (below c.loop-at.at n (λ e. omega (arith, e)) rest);
}

pub returns-clause-last : goal.returns-clause-last
returns-clause-last c = c.loop-at.invariant.goes_on c.loop-at.at (itself c.loop-at.at (omega arith))
