use Rattle.std.proofs.Common.{rules, ◌≡◌, Some, slice_index}
use Rattle.lay_style.specs.Places.{place_of}
use Rattle.lay_doc.specs.Document.{ids_of}
use Rattle.lay_contexts.proofs.ListedSteps.{place_is}
use Rattle.lay_contexts.proofs.standing.number_of.Goals as goal

pub returns-then-branch-place-clause-node : goal.returns-then-branch-place-clause-node
returns-then-branch-place-clause-node c =
    let found : place_of c.args.id.0 (ids_of c.args.of.now.doc.now.nodes) ≡ Some c.in_ok-place.place = search rules in
    let at : slice_index c.args.of.now.places.now c.in_ok-number.field-0.now ≡ c.in_ok-place.place = search rules in
    rw at (place_is c.args.id.0 (ids_of c.args.of.now.doc.now.nodes) c.in_ok-place.place found)
