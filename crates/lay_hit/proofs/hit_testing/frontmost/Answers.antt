use Rattle.std.proofs.Common.{arith, refl, sym, ◌∙◌}
use Rattle.lay_hit.proofs.FrontSteps.{ends, goes_on, root_seen}
use Rattle.lay_hit.proofs.hit_testing.frontmost.Goals as goal

pub loop-next-init : goal.loop-next-init
loop-next-init c = record { within = c.requires.valid.some; seen = refl; next = c.front_at-next.ensures }

pub loop-next-smaller : goal.loop-next-smaller
loop-next-smaller c =
    let next = goes_on c.args.q.now c.requires.valid c.loop-next.at c.loop-next.next c.loop-next.invariant.within c.loop-next.invariant.next c.loop-next-test.true in
    let less = next.1 in
    let low = next.2 in
    omega arith

pub loop-next-preserved : goal.loop-next-preserved
loop-next-preserved c =
    let next = goes_on c.args.q.now c.requires.valid c.loop-next.at c.loop-next.next c.loop-next.invariant.within c.loop-next.invariant.next c.loop-next-test.true in
    record { within = next.2; seen = sym next.0 ∙ c.loop-next.invariant.seen; next = c.front_at-next-in-loop-next.ensures }

pub front_at-next-requires-in-loop-next-clause-place : goal.front_at-next-requires-in-loop-next-clause-place
front_at-next-requires-in-loop-next-clause-place c =
    (goes_on c.args.q.now c.requires.valid c.loop-next.at c.loop-next.next c.loop-next.invariant.within c.loop-next.invariant.next c.loop-next-test.true).2

pub returns : goal.returns
returns c =
    c.get.ensures
    ∙ sym (ends c.args.q.now c.requires.valid c.loop-next.at c.loop-next.next c.loop-next.invariant.within c.loop-next.invariant.next c.args.noted.now c.requires.noted c.loop-next-test.false)
    ∙ c.loop-next.invariant.seen ∙ sym (root_seen c.args.q.now c.requires.valid)
