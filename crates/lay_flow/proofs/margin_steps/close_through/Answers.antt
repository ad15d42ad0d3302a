use Rattle.std.proofs.Common.{arith, true, subst, sym, List, Bool, pos}
use Rattle.lay_units.specs.declared.length.Unit.{Unit as Length}
use Rattle.lay_flow.specs.Blocks.Lengths.{length_at}
use Rattle.lay_flow.specs.Blocks.Children.{flag_at}
use Rattle.lay_flow.specs.Pass.Known.{placing_of}
use Rattle.lay_flow.specs.Pass.Bounds.{state_of}
use Rattle.lay_flow.proofs.SoFar.{Wrote}
use Rattle.lay_flow.proofs.PassFits.{begins_near}
use Rattle.lay_flow.proofs.PassSteps.{knows_through}
use Rattle.lay_flow.proofs.RunReach.{RunEnds}
use Rattle.lay_flow.proofs.WroteColumns.{wrote_length, wrote_flag}
use Rattle.lay_flow.proofs.margin_steps.close_through.Goals as goal

pub end_of-mark-requires : goal.end_of-mark-requires
end_of-mark-requires c =
    begins_near c.args.ending.now.at.boxes.list.now c.args.ending.now.at.boxes.are (state_of c.args.flow.now) _ _ c.requires.known.knows.fits

pub returns : goal.returns
returns c =
    let f = c.requires.known.knows.fits in let a = f.parent in let b = f.within in
    let l1 = f.marks_length in let l2 = f.heights_length in let l3 = f.through_length in
    let holds = rw c.args.ending.now.is at c.with_margin-flow.ensures in
    let p = c.args.ending.now.at.k in
    let old = c.args.flow.now in
    let zero : Length = record { 0 = pos 0 } in
    let mark : Wrote length_at old.marks.items c.write_at.new.column.items p c.end_of-mark.result.0 =
    subst (λ (xs : List Length). Wrote length_at old.marks.items xs p c.end_of-mark.result.0) (sym c.write_at.ensures) (wrote_length old.marks.items p c.end_of-mark.result (omega (arith, a, b, l1))) in
    let height : Wrote length_at old.heights.items c.write_at-2.new.column.items p (pos 0) =
    subst (λ (xs : List Length). Wrote length_at old.heights.items xs p (pos 0)) (sym c.write_at-2.ensures) (wrote_length old.heights.items p zero (omega (arith, a, b, l2))) in
    let flag : Wrote flag_at old.through.items c.write_flag.new.flags.items p true =
    subst (λ (xs : List Bool). Wrote flag_at old.through.items xs p true) (sym c.write_flag.ensures) (wrote_flag old.through.items p true (omega (arith, a, b, l3))) in
    let ends : RunEnds (state_of old) c.end_of-mark.result.0 = record { hanging = c.end_of-mark.ensures.hanging; value = c.end_of-mark.ensures.value } in
    record {
      places = c.requires.known.places;
      are = c.requires.known.are;
      knows = knows_through c.args.ending.now.at.boxes.list.now c.args.ending.now.at.boxes.are.is_tree.tree (state_of old) (placing_of old.placing c.requires.known.places) p c.args.ending.now.next c.args.ending.now.at.boxes.are c.args.ending.now.positive c.args.ending.now.ends c.requires.known.knows
          _ _ _ c.end_of-mark.result.0 c.with_margin-flow.result.strut c.requires.through c.requires.waiting c.requires.inside ends c.end_of-mark.ensures.near mark height flag c.with_margin-flow.result.fits holds;
    }
