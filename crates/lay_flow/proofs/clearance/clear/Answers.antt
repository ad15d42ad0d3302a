use Rattle.std.proofs.Common.{ℕ, refl, sym, subst}
use Rattle.lay_flow.proofs.ClearSteps.{knows_placed, ready_unasked}
use Rattle.lay_flow.proofs.PlacedOn.{known_placed, known_placed_on, places_count, placed_to}
use Rattle.lay_flow.specs.Blocks.Boxes.{parent_at}
use Rattle.lay_flow.specs.Pass.Bounds.{state_of}
use Rattle.lay_flow.specs.Pass.Known.{ArePlacedOn, IsKnown, placing_of}
use Rattle.lay_flow.specs.Pass.Knows.{AreExtentsKept}
use Rattle.lay_flow.proofs.clearance.clear.Goals as goal

pub returns-else-asks_to_clear : goal.returns-else-asks_to_clear
returns-else-asks_to_clear c =
    let old = c.args.flow.now in
    record {
      places = c.requires.places;
      are = c.requires.are;
      ready = ready_unasked c.args.child.now.at.boxes.list.now c.args.child.now.at.boxes.are.is_tree.tree c.args.child.now.at.boxes.are.is_tree (state_of old) (placing_of old.placing c.requires.places) c.args.child.now.at.k c.args.child.now.positive c.args.child.now.at.within c.requires.knows
          (c.if-asks_to_clear.ensures.passes_none refl);
    }

pub place_up_to-requires-clause-known : goal.place_up_to-requires-clause-known
place_up_to-requires-clause-known c =
    known_placed c.args.child.now.at.boxes.list.now c.args.child.now.at.boxes.are.is_tree.tree c.args.flow.now _ _ c.requires _ (λ j lt. rw c.deref.ensures.value refl)

pub clear_floats-requires-clause-known : goal.clear_floats-requires-clause-known
clear_floats-requires-clause-known c =
    let known = c.requires.knows in
    let f = known.fits in
    let early = known.early in let few = f.first_most in let within = f.within in
    let old = c.args.flow.now in
    let done = c.in_ok-place_up_to.ensures {u = tt} in
    let there = known_placed_on c.args.child.now.at.boxes.list.now c.args.child.now.at.boxes.are.is_tree.tree c.args.flow.now _ _ c.requires old.marks.items (λ j lt. refl) c.place_up_to.new.placing (rw c.deref.ensures.value at done.placed) in
    let go : ArePlacedOn c.args.child.now.at.boxes.list.now old.marks.items c.place_up_to.new.placing c.requires.places → IsKnown c.args.child.now.at.boxes.list.now (record c.args.flow.now { placing = c.place_up_to.new.placing }) (parent_at c.args.child.now.at.boxes.list.now c.args.child.now.at.k) c.args.child.now.at.k = λ goes.
    let placed = placed_to _ _ _ _ goes _ done.count in
    record {
      places = goes.places;
      are = goes.are;
      knows = knows_placed c.args.child.now.at.boxes.list.now c.args.child.now.at.boxes.are.is_tree.tree c.args.child.now.at.boxes.are.is_tree (state_of old) (placing_of old.placing c.requires.places) c.args.child.now.at.k c.args.child.now.positive c.args.child.now.at.within known
          (placing_of c.place_up_to.new.placing goes.places) placed (subst (λ (n : ℕ). AreExtentsKept c.args.child.now.at.boxes.list.now n old.placing.extents.items c.place_up_to.new.placing.extents.items) (sym (places_count old.placing c.requires.places c.requires.are)) done.kept) goes.same;
    } in
    go there

pub clear_floats-requires-clause-settled : goal.clear_floats-requires-clause-settled
clear_floats-requires-clause-settled c = (c.in_ok-place_up_to.ensures {u = tt}).count
