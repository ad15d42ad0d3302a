use Rattle.std.proofs.Common.{inl, inr, refl, subst, ◌∙◌}
use Rattle.lay_floats.specs.ClearEdge.{IsClearEdge}
use Rattle.lay_floats.specs.declared.requests.Clear.{Clear}
use Rattle.lay_flow.specs.Pass.Bounds.{state_of}
use Rattle.lay_flow.specs.Pass.Known.{placing_of}
use Rattle.lay_flow.proofs.ClearSteps.{ready_below}
use Rattle.lay_flow.proofs.PlacedOn.{edge_known, places_count}
use Rattle.lay_flow.proofs.clearance.clear_floats.Goals as goal
use Rattle.lay_flow.proofs.clearance.clear_floats.Goals.{then-has_waiting_float-via-then-has_waiting_float, then-has_waiting_float-via-else-has_waiting_float+then-is_above}

pub returns-else-is_above : goal.returns-else-is_above
returns-else-is_above c =
    let old = c.args.flow.now in
    let is_bottom = subst (λ (s : Clear). IsClearEdge old.placing.floats s c.clear_edge-bottom.result) c.clear.ensures c.clear_edge-bottom.ensures in
    record {
      places = c.requires.known.places;
      are = c.requires.known.are;
      ready = ready_below c.args.child.now.at.boxes.list.now c.args.child.now.at.boxes.are.is_tree.tree c.args.child.now.at.boxes.are.is_tree (state_of old) (placing_of old.placing c.requires.known.places) c.args.child.now.at.k c.args.child.now.positive c.args.child.now.at.within c.requires.known.knows
          c.edge_without-hypothetical.result.0 c.clear_edge-bottom.result (places_count old.placing c.requires.known.places c.requires.known.are ∙ c.requires.settled) (edge_known c.args.child.now.at.boxes.list.now old c.requires.known.places c.requires.known.are c.args.child.now.at.k _ c.edge_without-hypothetical.ensures.edge) is_bottom (c.if-has_waiting_float.ensures.hasnt refl) (c.if-is_above.ensures.isnt refl);
    }

pub begin_cleared-requires-clause-decides : goal.begin_cleared-requires-clause-decides
begin_cleared-requires-clause-decides c =
    let is_bottom = subst (λ (s : Clear). IsClearEdge c.args.flow.now.placing.floats s c.clear_edge-bottom.result) c.clear.ensures c.clear_edge-bottom.ensures in
    elim c.then-has_waiting_float.branch [
      | then-has_waiting_float-via-then-has_waiting_float w ↦ inl (w.if-has_waiting_float.ensures.has refl)
      | then-has_waiting_float-via-else-has_waiting_float+then-is_above w ↦ inr (c.clear_edge-bottom.result, is_bottom, w.if-is_above.ensures.is refl)
    ]
