use Rattle.std.proofs.Common.{ap, subst, sym, ℤ}
use Rattle.lay_units.specs.Units.{IsNear}
use Rattle.lay_flow.specs.Pass.Known.{placing_of}
use Rattle.lay_flow.specs.Pass.Bounds.{IsEdgeNear, state_of, position_of, is_hanging}
use Rattle.lay_flow.specs.Pass.Clears.{IsEdgeWithout}
use Rattle.lay_flow.specs.Blocks.Weights.{weight}
use Rattle.lay_flow.proofs.PlacedOn.{edge_of}
use Rattle.lay_flow.proofs.ClearSteps.{hanging_edge, flowing_edge}
use Rattle.lay_flow.proofs.PassFits.{begins_near, start_edge_near, ahead_near}
use Rattle.lay_flow.proofs.clearance.edge_without.Goals as goal

pub returns-in-HangsFrom-clause-edge : goal.returns-in-HangsFrom-clause-edge
returns-in-HangsFrom-clause-edge c =
    let flow = c.args.flow.now in
    subst (λ (v : ℤ). IsEdgeWithout c.args.child.now.at.boxes.list.now flow c.args.child.now.at.k v) (ap position_of c.in-HangsFrom.is)
    (edge_of c.args.child.now.at.boxes.list.now flow c.requires.places c.requires.are c.args.child.now.at.k _ (hanging_edge c.args.child.now.at.boxes.list.now c.args.child.now.at.boxes.are.is_tree.tree c.args.child.now.at.boxes.are.is_tree (state_of flow) (placing_of flow.placing c.requires.places) c.args.child.now.at.k c.args.child.now.positive c.args.child.now.at.within c.requires.knows
    (ap is_hanging c.in-HangsFrom.is)))

pub returns-in-HangsFrom-clause-near : goal.returns-in-HangsFrom-clause-near
returns-in-HangsFrom-clause-near c =
    subst (IsEdgeNear (weight c.args.child.now.at.boxes.list.now c.args.child.now.at.k)) (ap position_of c.in-HangsFrom.is) (start_edge_near (weight c.args.child.now.at.boxes.list.now c.args.child.now.at.k) (position_of c.args.flow.now.start) c.requires.knows.near)

pub invariant_of-hypothetical_edge : goal.invariant_of-hypothetical_edge
invariant_of-hypothetical_edge c =
    record { near = subst IsNear (ap position_of c.in-At.is) (begins_near c.args.child.now.at.boxes.list.now c.args.child.now.at.boxes.are (state_of c.args.flow.now) _ _ c.requires.knows.fits) }

pub returns-in-At-clause-edge : goal.returns-in-At-clause-edge
returns-in-At-clause-edge c =
    let flow = c.args.flow.now in
    let ahead = rw (sym (ap position_of c.in-At.is)) at c.hypothetical_edge.ensures.edge in
    edge_of c.args.child.now.at.boxes.list.now flow c.requires.places c.requires.are c.args.child.now.at.k _ (flowing_edge c.args.child.now.at.boxes.list.now c.args.child.now.at.boxes.are.is_tree.tree c.args.child.now.at.boxes.are.is_tree (state_of flow) (placing_of flow.placing c.requires.places) c.args.child.now.at.k c.args.child.now.positive c.args.child.now.at.within c.requires.knows
    (ap is_hanging c.in-At.is) c.hypothetical_edge.result.0 ahead)

pub returns-in-At-clause-near : goal.returns-in-At-clause-near
returns-in-At-clause-near c =
    ahead_near (weight c.args.child.now.at.boxes.list.now c.args.child.now.at.k) (position_of c.args.flow.now.start) c.hypothetical_edge.result.0 c.requires.knows.near (rw (sym (ap position_of c.in-At.is)) at c.hypothetical_edge.ensures.near)
