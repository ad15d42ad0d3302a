use Rattle.std.proofs.Common.{rules, ◌≡◌, ◌∙◌}
use Rattle.lay_contexts.specs.ListedContexts.{AreContextPlaces, AreSpots, AreStanding, boxes_of_places}
use Rattle.lay_contexts.proofs.ListedSteps.{document_contexts, same_boxes}
use Rattle.lay_contexts.proofs.SpotOrder.{are_in_order}
use Rattle.lay_contexts.proofs.context_list.context_list.Goals as goal

pub returns-clause-spots : goal.returns-clause-spots
returns-clause-spots c =
    let nodes = c.args.doc.now.nodes in
    let styles = c.args.computed.now in
    let places = c.in_ok-places.places.items in
    let listed : AreContextPlaces nodes styles places = search rules in
    let standing : AreStanding nodes styles places c.in_ok-stands.stands.items = search rules in
    let are : AreSpots places c.in_ok-stands.stands.items c.in_ok-spots.spots.items = search rules in
    document_contexts nodes styles places c.in_ok-stands.stands.items c.in_ok-spots.spots.items listed standing are

pub returns-clause-boxes : goal.returns-clause-boxes
returns-clause-boxes c =
    let nodes = c.args.doc.now.nodes in
    let styles = c.args.computed.now in
    let places = c.in_ok-places.places.items in
    let listed : AreContextPlaces nodes styles places = search rules in
    let standing : AreStanding nodes styles places c.in_ok-stands.stands.items = search rules in
    let are : AreSpots places c.in_ok-stands.stands.items c.in_ok-spots.spots.items = search rules in
    let boxes : c.in_ok-boxes.boxes.items ≡ boxes_of_places nodes styles places = search rules in
    boxes ∙ same_boxes nodes styles places c.in_ok-stands.stands.items c.in_ok-spots.spots.items listed standing are

pub returns-clause-order : goal.returns-clause-order
returns-clause-order c =
    let nodes = c.args.doc.now.nodes in
    let styles = c.args.computed.now in
    let places = c.in_ok-places.places.items in
    let listed : AreContextPlaces nodes styles places = search rules in
    let standing : AreStanding nodes styles places c.in_ok-stands.stands.items = search rules in
    let are : AreSpots places c.in_ok-stands.stands.items c.in_ok-spots.spots.items = search rules in
    let boxes : c.in_ok-boxes.boxes.items ≡ boxes_of_places nodes styles places = search rules in
    let same = boxes ∙ same_boxes nodes styles places c.in_ok-stands.stands.items c.in_ok-spots.spots.items listed standing are in
    rw same (are_in_order c.args.doc.now styles c.nodes.ensures.valid c.requires.styles c.in_ok-spots.spots.items
    (document_contexts nodes styles places c.in_ok-stands.stands.items c.in_ok-spots.spots.items listed standing are))
