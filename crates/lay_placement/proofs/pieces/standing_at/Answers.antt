use Rattle.std.proofs.Common.{List, ap, ◌∙◌, arith, length}
use Rattle.lay_placements.specs.declared.standing.Standing.{Standing}
use Rattle.lay_placements.specs.Standings.{standing_at}
use Rattle.lay_placement.proofs.StandingCounts.{length_standings, standing_in}
use Rattle.lay_placement.proofs.pieces.standing_at.Goals as goal

pub bounds-of-k : goal.bounds-of-k
bounds-of-k c =
    let of = c.requires.painting.are_standings in
    omega (arith, c.requires.place, ap length of ∙ length_standings c.args.of.now.input.now c.args.of.now.places.now (length c.args.of.now.input.now.boxes))

pub returns-clause-standing : goal.returns-clause-standing
returns-clause-standing c =
    ap (λ (ss : List Standing). standing_at ss c.args.k) c.requires.painting.are_standings
    ∙ standing_in c.args.of.now.input.now c.args.of.now.places.now (length c.args.of.now.input.now.boxes) c.args.k c.requires.place
