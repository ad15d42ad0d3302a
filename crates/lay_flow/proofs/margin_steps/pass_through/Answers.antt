use Rattle.std.proofs.Common.{sym, ◌∙◌}
use Rattle.lay_flow.specs.Pass.Known.{placing_of}
use Rattle.lay_flow.specs.Pass.Bounds.{state_of}
use Rattle.lay_flow.proofs.PassFits.{begins_near}
use Rattle.lay_flow.proofs.PassSteps.{knows_started}
use Rattle.lay_flow.proofs.margin_steps.pass_through.Goals as goal
use Rattle.lay_flow.proofs.margin_steps.pass_through.Goals.{then-is_hanging+then-flow-ending, else-is_hanging}

pub invariant_of-edge : goal.invariant_of-edge
invariant_of-edge c =
    record { near = rw c.position.ensures (begins_near c.args.ending.now.at.boxes.list.now c.args.ending.now.at.boxes.are (state_of c.args.flow.now) _ _ c.requires.known.knows.fits) }

pub close_through-requires-clause-known : goal.close_through-requires-clause-known
close_through-requires-clause-known c = elim c.if-is_hanging.branch [
  | then-is_hanging+then-flow-ending w ↦ rw w.flow-is (record {
    places = c.requires.known.places;
    are = c.requires.known.are;
    knows = knows_started c.args.ending.now.at.boxes.list.now c.args.ending.now.at.boxes.are.is_tree.tree (state_of c.args.flow.now) (placing_of c.args.flow.now.placing c.requires.known.places) c.args.ending.now.at.k c.args.ending.now.next c.args.ending.now.at.boxes.are c.args.ending.now.positive c.args.ending.now.ends c.requires.known.knows
        w.run_start-start.result.0 c.requires.through (sym c.is_hanging.ensures ∙ w.if-is_hanging.true) w.if-flow-ending.true (rw w.position.ensures at w.run_start-start.ensures.value) (rw w.position.ensures at w.run_start-start.ensures.near);
  })
  | else-is_hanging w ↦ rw w.flow-is c.requires.known
]
