use Rattle.std.proofs.Common.{ℕ, true, arith, subst, sym, ◌∙◌, List, Option, is_some}
use Rattle.std.proofs.lemmas.List.{length-map}
use Rattle.lay_units.specs.declared.length.Unit.{Unit as Length}
use Rattle.lay_floats.specs.ClearEdge.{IsClearEdge}
use Rattle.lay_floats.specs.declared.requests.Clear.{Clear}
use Rattle.lay_flow.specs.Blocks.Lengths.{length_at}
use Rattle.lay_flow.specs.Blocks.Children.{flag_at}
use Rattle.lay_flow.specs.Pass.Bounds.{clears_of, clear_edges_of, state_of, IsMarkNear, IsEdgeNear}
use Rattle.lay_flow.specs.Pass.Knows.{AreExtentsKept}
use Rattle.lay_flow.specs.Pass.Known.{placing_of}
use Rattle.lay_flow.specs.declared.pass.RunStart.TheVariants.{HangsFrom as hangs_from}
use Rattle.lay_flow.specs.Blocks.Weights.{weight}
use Rattle.lay_flow.proofs.ClearSteps.{ready_cleared}
use Rattle.lay_flow.proofs.PassFits.{begins_near, marks_near}
use Rattle.lay_flow.specs.Pass.Known.{ArePlacedOn, IsReadyAt}
use Rattle.lay_flow.proofs.PlacedOn.{edge_known, known_placed, known_placed_on, places_count, placed_to}
use Rattle.lay_flow.proofs.PlaceSteps.{lower_near}
use Rattle.lay_flow.proofs.RunReach.{RunEnds}
use Rattle.lay_flow.proofs.SoFar.{Wrote}
use Rattle.lay_flow.proofs.WroteColumns.{wrote_cleared, wrote_edge}
use Rattle.lay_flow.proofs.clearance.begin_cleared.Goals as goal

pub end_of-end-requires : goal.end_of-end-requires
end_of-end-requires c =
    begins_near c.args.child.now.at.boxes.list.now c.args.child.now.at.boxes.are (state_of c.args.flow.now) _ _ c.requires.known.knows.fits

pub invariant_of-marked-clause-near : goal.invariant_of-marked-clause-near
invariant_of-marked-clause-near c =
    let f = c.requires.known.knows.fits in let boxes = c.args.child.now.at.boxes in
    let settles = rw c.deref.ensures.value at c.settle.ensures in
    let near = marks_near boxes.list.now boxes.are.is_tree.tree (state_of c.args.flow.now) _ _ f c.end_of-end.result.0 c.end_of-end.ensures.near c.args.child.now.at.k f.within _ settles in
    subst (λ (xs : List Length). (j : ℕ) → IsMarkNear (weight boxes.list.now j) (length_at xs j)) (sym c.deref-2.ensures.value) near

pub place_up_to-requires-clause-known : goal.place_up_to-requires-clause-known
place_up_to-requires-clause-known c =
    let settles = rw c.deref.ensures.value at c.settle.ensures in
    known_placed c.args.child.now.at.boxes.list.now c.args.child.now.at.boxes.are.is_tree.tree c.args.flow.now _ _ c.requires.known _ (λ j lt. rw c.deref-2.ensures.value (settles.before j lt))

pub write_edge-requires : goal.write_edge-requires
write_edge-requires c =
    let within = c.args.child.now.at.within in
    let l = sym (length-map c.args.flow.now.clear_edges.items is_some) ∙ c.requires.known.knows.are_clears.clears_length in
    omega (arith, within, l)

pub returns : goal.returns
returns c =
    let known = c.requires.known.knows in
    let old = c.args.flow.now in
    let k = c.args.child.now.at.k in
    let within = c.args.child.now.at.within in
    let l = sym (length-map old.clear_edges.items is_some) ∙ known.are_clears.clears_length in
    let settles = rw c.deref.ensures.value at c.settle.ensures in
    let f = known.fits in
    let done = c.in_ok-place_up_to.ensures {u = tt} in
    let there = known_placed_on c.args.child.now.at.boxes.list.now c.args.child.now.at.boxes.are.is_tree.tree c.args.flow.now _ _ c.requires.known c.settle.new.marks.items (rw c.deref.ensures.value at c.settle.ensures).before c.place_up_to.new.placing (rw c.deref-2.ensures.value at done.placed) in
    let go : ArePlacedOn c.args.child.now.at.boxes.list.now c.settle.new.marks.items c.place_up_to.new.placing c.requires.known.places → IsReadyAt c.args.child.now.at.boxes.list.now (record c.args.flow.now { marks = c.settle.new.marks; clear_edges = c.write_edge.new.clear_edges; start = hangs_from c.lower_of-edge.result; strut = c.no_margin-flow.result; first = c.args.child.now.at.k; placing = c.place_up_to.new.placing }) c.args.child.now.at.k = λ goes.
    let placed = placed_to _ _ _ _ goes _ done.count in
    let edge = c.lower_of-edge.result in
    let is_bottom = subst (λ (s : Clear). IsClearEdge c.place_up_to.new.placing.floats s c.clear_edge-bottom.result) c.clear.ensures c.clear_edge-bottom.ensures in
    let near = subst (IsEdgeNear (weight c.args.child.now.at.boxes.list.now k)) (sym c.lower_of-edge.ensures) (lower_near (weight c.args.child.now.at.boxes.list.now k) c.place_up_to.new.placing.floats _ c.clear_edge-bottom.result c.args.hypothetical.0 placed.within is_bottom c.requires.near) in
    let ends : RunEnds (state_of old) c.end_of-end.result.0 = record { hanging = c.end_of-end.ensures.hanging; value = c.end_of-end.ensures.value } in
    let flag : Wrote flag_at (clears_of old.clear_edges.items) (clears_of c.write_edge.new.clear_edges.items) k true =
    subst (λ (xs : List (Option Length)). Wrote flag_at (clears_of old.clear_edges.items) (clears_of xs) k true) (sym c.write_edge.ensures) (wrote_cleared old.clear_edges.items k edge (omega (arith, within, l))) in
    let wrote : Wrote length_at (clear_edges_of old.clear_edges.items) (clear_edges_of c.write_edge.new.clear_edges.items) k edge.0 =
    subst (λ (xs : List (Option Length)). Wrote length_at (clear_edges_of old.clear_edges.items) (clear_edges_of xs) k edge.0) (sym c.write_edge.ensures) (wrote_edge old.clear_edges.items k edge (omega (arith, within, l))) in
    record {
      places = goes.places;
      are = goes.are;
      ready = ready_cleared c.args.child.now.at.boxes.list.now c.args.child.now.at.boxes.are.is_tree.tree c.args.child.now.at.boxes.are.is_tree (state_of old) (placing_of old.placing c.requires.known.places) k c.args.child.now.positive within known
          c.args.hypothetical.0 c.requires.flows (places_count old.placing c.requires.known.places c.requires.known.are ∙ c.requires.settled) (edge_known c.args.child.now.at.boxes.list.now old c.requires.known.places c.requires.known.are k c.args.hypothetical.0 c.requires.edge) c.requires.decides
          _ _ _ (placing_of c.place_up_to.new.placing goes.places) c.end_of-end.result.0 edge.0 c.clear_edge-bottom.result c.no_margin-flow.result.strut
          ends c.end_of-end.ensures.near settles placed (subst (λ (n : ℕ). AreExtentsKept c.args.child.now.at.boxes.list.now n old.placing.extents.items c.place_up_to.new.placing.extents.items) (sym (places_count old.placing c.requires.known.places c.requires.known.are)) done.kept) goes.same is_bottom c.lower_of-edge.ensures near flag wrote c.no_margin-flow.result.fits c.no_margin-flow.ensures;
    } in
    go there
