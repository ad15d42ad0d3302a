use Rattle.std.proofs.Common.{rules, ap}
use Rattle.lay_floats.specs.declared.requests.Place.{Place}
use Rattle.lay_flow.specs.Blocks.BlockFloats.{Spot, no_lines}
use Rattle.lay_flow.specs.Pass.Known.{placing_of}
use Rattle.lay_flow.proofs.PlaceSteps.{knows_other}
use Rattle.lay_flow.proofs.PlacedOn.{pushed_on, counted, placed_count, placed_so_far}
use Rattle.lay_flow.proofs.placement.place_one.Goals as goal

pub returns-clause-placed : goal.returns-clause-placed
returns-clause-placed c places are was =
    let push = c.in_ok-push_spot.ensures {u = tt} in
    let here : Spot = record { place = c.nowhere.result; lines = no_lines } in
    pushed_on c.args.of.now.at.boxes.list.now c.args.of.now.marks.now c.args.placing.now c.push_spot.new.placing places are here c.args.of.now.at.k c.requires.known push.places push.rows push.met
    (rw (push.extents, push.floats) (knows_other c.args.of.now.at.boxes.list.now c.args.of.now.marks.now (placing_of c.args.placing.now places) c.args.of.now.at.k (placed_so_far _ _ _ _ c.requires.known places was) here
    (search rules) (search rules) (ap (λ (p : Place). record { place = p; lines = no_lines }) c.nowhere.ensures)))

pub returns-clause-count : goal.returns-clause-count
returns-clause-count c = counted c.args.placing.now.places.items _ _ c.args.of.now.at.k (placed_count _ _ _ _ c.requires.known) (c.in_ok-push_spot.ensures {u = tt}).places
