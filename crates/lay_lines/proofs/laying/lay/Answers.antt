use Rattle.std.proofs.Common.{◌∙◌, ◌^◌, [], List, inl, inr, ap, arith, sym, subst}
use Rattle.std.proofs.lemmas.Bool.{cases_lt}
use Rattle.lay_floats.specs.declared.placed.Placed.{Placed}
use Rattle.lay_lines.specs.declared.content.content.Stretch.{Stretch}
use Rattle.lay_lines.specs.declared.content.frame.Frame.{Frame}
use Rattle.lay_lines.specs.Content.LineContents.{boxes_of}
use Rattle.lay_lines.proofs.ContentLemmas.Outcomes.{at_err, not_both}
use Rattle.lay_lines.specs.Lines.{AreLines, lines_with_floats, frame_of}
use Rattle.lay_lines.specs.Meeting.{none_met, IsFront}
use Rattle.lay_lines.specs.Rows.{AreRows, CanLay, position_of}
use Rattle.lay_lines.proofs.LinesWithin.{can_lay_lines}
use Rattle.lay_lines.proofs.laying.lay.Goals as goal

pub lay_rows-requires : goal.lay_rows-requires
lay_rows-requires c =
    let content = c.args.content.now in
    let top = c.args.top.0 in
    let none = none_met c.args.floats.now in
    let can = can_lay_lines c.place_within.ensures content c.args.left c.args.right top c.args.floats.now (2 ^ 60) c.stretches.ensures.fits c.requires.left c.requires.right (omega arith) (omega arith) c.requires.top c.requires.floats in
    let boxes = boxes_of content.stretches in
    record {
      none = λ f. ap boxes_of c.stretches.ensures.value ∙ elim (cases_lt 0 boxes) [
        | inl some ↦ absurd (not_both c.has_boxes.result (c.has_boxes.ensures.1 some) f)
        | inr least ↦ omega (arith, least)
      ];
      can = subst (λ (fr : Frame). CanLay (position_of fr top [] c.stretches.result.now none)) (sym c.frame_of.ensures)
          (subst (λ (ss : List Stretch). CanLay (position_of (frame_of content c.args.left c.args.right) top [] ss none)) (sym c.stretches.ensures.value) can);
    }

pub returns-in_err-rows-clause-stopped : goal.returns-in_err-rows-clause-stopped
returns-in_err-rows-clause-stopped c =
    let content = c.args.content.now in
    let top = c.args.top.0 in
    let none = none_met c.args.floats.now in
    at_err c.from_residual.result _ (λ v a.
    (let ours = subst (λ (fr : Frame). AreRows (position_of fr top [] c.stretches.result.now none) a.laid) (sym c.frame_of.ensures)
    (subst (λ (ss : List Stretch). AreRows (position_of (frame_of content c.args.left c.args.right) top [] ss none) a.laid) (sym c.stretches.ensures.value) a.are) in
    subst (λ (fs : List Placed). IsFront c.lay_rows.new.floats fs) a.floats (c.in_err-rows.ensures.stopped a.laid ours)))

pub returns-clause-near : goal.returns-clause-near
returns-clause-near c r least most top all =
    let content = c.args.content.now in
    let none = none_met c.args.floats.now in
    let w = c.in_ok-rows.ensures.rows in
    let are = subst (λ (ss : List Stretch). AreRows (position_of (frame_of content c.args.left c.args.right) c.args.top.0 [] ss none) w.0) c.stretches.ensures.value
    (subst (λ (fr : Frame). AreRows (position_of fr c.args.top.0 [] c.stretches.result.now none) w.0) c.frame_of.ensures w.1) in
    let lines : AreLines content c.args.left c.args.right c.args.top.0 c.args.floats.now (lines_with_floats (record { rows = c.new.result; places = c.new-2.result; end = c.in_ok-rows.rows.end }) c.lay_rows.new.floats) =
    record { laid = w.0; are = are; rows = w.2 ∙ sym c.new.ensures; end = w.3; places = w.4 ∙ sym c.new-2.ensures; floats = w.5 } in
    c.lines_are_near.ensures content c.args.left c.args.right c.args.top.0 c.args.floats.now _ r c.stretches.ensures.fits c.requires.left c.requires.right least most top all lines
