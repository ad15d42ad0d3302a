use Rattle.std.proofs.Common.{rules}
use Rattle.lay_flow_boxes.specs.AskedContents.{AreAskedContents}
use Rattle.lay_contexts.specs.FormattingContexts.{boxes_in}
use Rattle.lay_context.specs.SharedContents.{AreContentsShared, asked_in}
use Rattle.lay_context.proofs.SharedSteps.{have_shared, one_more}
use Rattle.lay_context.proofs.shared_contents.shared_contents.Goals as goal

pub loop-i-preserved : goal.loop-i-preserved
loop-i-preserved c =
    let face = c.in_ok-face.face.value in
    let contexts = c.args.contexts.now in
    let i = c.loop-i.i in
    let kept : AreAskedContents (asked_in contexts i) face (boxes_in contexts i) c.in_ok-kept.kept =
    rw (c.asked_in-asked.ensures, c.deref.ensures, c.boxes.ensures, c.at.ensures.context) at (c.in_ok-kept.ensures {u = tt}).kept in
    rw (c.in_ok-push.ensures {u = tt}).items (one_more face contexts c.loop-i.contents.items i c.in_ok-kept.kept c.loop-i.invariant kept)

pub returns-clause-have : goal.returns-clause-have
returns-clause-have c =
    let shared : AreContentsShared c.args.medium.now.face c.args.contexts.now c.loop-i.contents.items = search rules in
    have_shared c.args.medium.now.face c.args.contexts.now c.loop-i.contents.items shared
