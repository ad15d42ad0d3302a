use Rattle.std.proofs.Common.{◌≡◌, ◌∙◌, ap, false, sym}
use Rattle.lay_line_items.specs.InlineContents.{AreMarkedContents}
use Rattle.lay_flow_boxes.specs.AskedContents.{AreHolders, is_any_asked}
use Rattle.lay_flow_boxes.proofs.AskedSteps.{asked_contents, marked_asked, nothing_asked}
use Rattle.lay_flow_boxes.proofs.asked_contents.contents_of.Goals as goal

pub returns-then-not-is_any_asked-clause-kept : goal.returns-then-not-is_any_asked-clause-kept
returns-then-not-is_any_asked-clause-kept c =
    let none : is_any_asked c.args.asked c.args.boxes.now ≡ false =
    ap (is_any_asked c.args.asked) (sym c.as_slice.ensures.boxes) ∙ sym c.is_any_asked.ensures ∙ c.if-not-is_any_asked.true in
    rw c.none.ensures (nothing_asked c.args.asked c.args.boxes.now c.args.face.now none)

pub returns-clause-kept : goal.returns-clause-kept
returns-clause-kept c =
    let holders = c.in_ok-holders.holders.items in
    let held : AreHolders c.args.asked c.args.boxes.now holders = (c.in_ok-holders.ensures {u = tt}).holders in
    let marked : AreMarkedContents c.args.face.now c.args.boxes.now holders c.in_ok-contents.contents =
    rw (c.as_slice-2.ensures.boxes, c.deref.ensures.value) at (c.in_ok-contents.ensures {u = tt}) in
    marked_asked c.args.asked c.args.boxes.now c.args.face.now holders c.in_ok-contents.contents held marked

pub returns-clause-contents : goal.returns-clause-contents
returns-clause-contents c = asked_contents c.args.asked c.args.boxes.now c.args.face.now c.in_ok-contents.contents (returns-clause-kept c)
