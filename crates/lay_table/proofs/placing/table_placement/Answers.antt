use Rattle.std.proofs.Common.{rules, ◌≡◌, ◌∙◌, refl, length}
use Rattle.lay_table.specs.PlaceBounds.{AreStandings}
use Rattle.lay_table.specs.TablePieces.{pieces_to}
use Rattle.lay_table.specs.TableStandings.{HasTablePlaces}
use Rattle.lay_table.proofs.StandingSteps.{are_all}
use Rattle.lay_table.proofs.placing.table_placement.Goals as goal

pub returns : goal.returns
returns c =
    let has : HasTablePlaces c.args.input.now c.in_ok-places.places = (c.in_ok-places.ensures {u = tt}).places in
    let stand : AreStandings c.args.input.now c.in_ok-places.places c.in_ok-standings.standings.items = search rules in
    let all = are_all c.args.input.now c.in_ok-places.places c.in_ok-standings.standings.items stand in
    let own = (c.in_ok-own.ensures {u = tt}).value in
    let pieces : c.in_ok-pieces-2.pieces.value ≡ pieces_to c.args.input.now c.in_ok-places.places (length c.args.input.now.boxes) = search rules in
    let made = c.new-3.ensures in
    record { places = c.in_ok-places.places; has_places = has; answer_is = made ∙ rw (own, pieces, all) refl }
