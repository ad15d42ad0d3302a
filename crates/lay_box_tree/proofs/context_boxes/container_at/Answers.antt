use Rattle.std.proofs.Common.{arith, ◌∙◌}
use Rattle.lay_box_tree.proofs.ContainerSteps.{container_before, container_is, container_within}
use Rattle.lay_box_tree.proofs.context_boxes.container_at.Goals as goal

pub returns-clause-container : goal.returns-clause-container
returns-clause-container c =
    c.place_at.ensures ∙ container_is c.args.boxes.now c.args.containers.now c.args.k c.requires.are c.requires.found c.requires.place

pub returns-clause-within : goal.returns-clause-within
returns-clause-within c =
    let e = c.place_at.ensures ∙ container_is c.args.boxes.now c.args.containers.now c.args.k c.requires.are c.requires.found c.requires.place in
    let h = container_within c.args.boxes.now c.args.k c.requires.are c.requires.place in
    omega (arith, e, h)

pub returns-clause-before : goal.returns-clause-before
returns-clause-before c positive =
    let e = c.place_at.ensures ∙ container_is c.args.boxes.now c.args.containers.now c.args.k c.requires.are c.requires.found c.requires.place in
    let h = container_before c.args.boxes.now c.args.k c.requires.are positive c.requires.place in
    omega (arith, e, h)
