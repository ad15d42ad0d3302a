use Rattle.std.proofs.Common.{◌≡◌, ◌∙◌, ap, subst, sym}
use Rattle.lay_box_tree.specs.ContextBoxes.{AreContextBoxes}
use Rattle.lay_doc.specs.declared.node.Node.{Node}
use Rattle.lay_boxgen.specs.Listing.{boxes_of}
use Rattle.lay_contexts.specs.ContextTree.{boxes_of_place}
use Rattle.lay_after_edits.proofs.Cited.{context_boxes, context_within}
use Rattle.lay_after_edits.proofs.ContextsLemmas.ElementPlaces.{made-boxes, read-at}
use Rattle.lay_after_edits.proofs.contexts.building.boxes_after.Goals as goal

pub new-requires : goal.new-requires
new-requires c =
    let later = c.args.of.now.later.now in
    let styles = c.args.of.now.styles.now in
    let within = context_within later.nodes styles c.args.place c.requires.context in
    let read = read-at later.nodes c.nodes.result.now c.nodes.ensures.nodes c.args.place c.index-nodes-place.result c.index-nodes-place.is in
    let is : c.in_ok-tree.tree ≡ boxes_of_place later.nodes styles c.args.place =
    c.in_ok-tree.ensures {u = tt}
    ∙ (ap (λ (n : Node). boxes_of later styles n.id.0) (sym c.index-nodes-place.is) ∙ made-boxes later styles c.nodes.ensures.valid c.args.place within c.index-nodes-place.result read) in
    subst AreContextBoxes (sym is) (context_boxes later styles c.nodes.ensures.valid c.requires.styles c.args.place c.requires.context)

pub returns-then-are_unstyled_same-clause-boxes : goal.returns-then-are_unstyled_same-clause-boxes
returns-then-are_unstyled_same-clause-boxes c =
    let later = c.args.of.now.later.now in
    let styles = c.args.of.now.styles.now in
    let within = context_within later.nodes styles c.args.place c.requires.context in
    let read = read-at later.nodes c.nodes.result.now c.nodes.ensures.nodes c.args.place c.index-nodes-place.result c.index-nodes-place.is in
    let is : c.in_ok-tree.tree ≡ boxes_of_place later.nodes styles c.args.place =
    c.in_ok-tree.ensures {u = tt}
    ∙ (ap (λ (n : Node). boxes_of later styles n.id.0) (sym c.index-nodes-place.is) ∙ made-boxes later styles c.nodes.ensures.valid c.args.place within c.index-nodes-place.result read) in
    c.in_ok-made.ensures {u = tt} ∙ is
