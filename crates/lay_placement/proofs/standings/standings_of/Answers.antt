use Rattle.std.proofs.Common.{◌≡◌, ◌∙◌, ap, arith, length}
use Rattle.std.proofs.lemmas.Grind.{elements}
use Rattle.lay_placements.proofs.StandingColumns.{one_more, one_more_near}
use Rattle.lay_placement.specs.BoxStandings.{standing_of_box}
use Rattle.lay_placement.proofs.StandingCounts.{all_standings}
use Rattle.lay_placement.proofs.standings.standings_of.Goals as goal

pub loop-k-preserved : goal.loop-k-preserved
loop-k-preserved c =
    let pushed = (c.in_ok-push.ensures {u = tt}).items in
    let found = c.in_ok-standing.ensures {u = tt} in
    record {
      count = rw pushed (grind (arith, elements, c.loop-k.invariant.count));
      each = rw pushed (one_more (standing_of_box c.args.input.now c.args.places.now) c.loop-k.standings.items c.loop-k.k c.in_ok-standing.standing c.loop-k.invariant.count c.loop-k.invariant.each found.standing);
      near = rw pushed (one_more_near c.loop-k.standings.items c.in_ok-standing.standing c.loop-k.invariant.near found.near);
    }

pub returns-clause-standings : goal.returns-clause-standings
returns-clause-standings c =
    let inv = c.loop-k.invariant in
    let counted = ap length c.boxes-count.ensures.boxes in
    let done : c.loop-k.k ≡ length c.args.input.now.boxes = omega (arith, c.loop-k-test.false, c.loop-k.auto.k-end, counted) in
    all_standings c.args.input.now c.args.places.now c.loop-k.standings.items (length c.args.input.now.boxes) (inv.count ∙ done) (λ k lt. inv.each k (omega (arith, lt, done)))
