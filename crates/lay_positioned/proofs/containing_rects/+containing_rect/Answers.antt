use Rattle.std.proofs.Common.{◌≡◌, rules, arith}
use Rattle.std.proofs.lemmas.Result.{IfOk-weaker}
use Rattle.lay_contexts.specs.FormattingContexts.{boxes_in, formatting_context_at}
use Rattle.lay_positioned.proofs.ContainingSteps.{around, at_root, held_by}
use Rattle.lay_positioned.proofs.containing_rects.+containing_rect.Goals as goal

pub returns-in-Some-clause-rect : goal.returns-in-Some-clause-rect
returns-in-Some-clause-rect g t c =
    let contexts = c.args.contexts.now in
    let i = c.args.anchor.context in
    let inside : c.boxes-in-Some.result.now ≡ boxes_in contexts i = search rules in
    let first : c.boxes.result.now ≡ c.boxes-in-Some.result.now = search rules in
    let holder = rw first at c.in-Some.ensures.holder in
    IfOk-weaker c.padding_box.result _ _ (λ r e. held_by c.args.viewport c.args.is_fixed contexts (g.L.Layouts.laid c.args.layouts.now) c.args.anchor.place i c.in-Some.holder c.boxes-in-Some.result.now r inside holder e) c.padding_box.ensures.rect

pub returns-then-i-eq0-clause-rect : goal.returns-then-i-eq0-clause-rect
returns-then-i-eq0-clause-rect g t c =
    let contexts = c.args.contexts.now in
    let i = c.args.anchor.context in
    let first : c.boxes.result.now ≡ boxes_in contexts i = search rules in
    IfOk-weaker c.seen_from.result _ _ (λ r e. at_root c.args.viewport c.args.is_fixed contexts (g.L.Layouts.laid c.args.layouts.now) c.args.anchor.place i c.boxes.result.now r c.viewport_rect.result c.offset.result c.if-i-eq0.true first c.in_default.ensures.holder c.offset.ensures.offset c.viewport_rect.ensures.rect e) c.seen_from.ensures.rect

pub returns-clause-rect : goal.returns-clause-rect
returns-clause-rect g t c =
    let contexts = c.args.contexts.now in
    let i = c.args.anchor.context in
    let first : c.boxes.result.now ≡ boxes_in contexts i = search rules in
    let outer : c.outer.result ≡ (formatting_context_at contexts i).outer = search rules in
    let outer_box : c.outer_box.result ≡ (formatting_context_at contexts i).outer_box = search rules in
    let outside = rw (outer, outer_box) at (c.in_ok-outside.ensures {u = tt}).rect in
    IfOk-weaker c.seen_from-2.result _ _ (λ r e. around c.args.viewport c.args.is_fixed contexts (g.L.Layouts.laid c.args.layouts.now) c.args.anchor.place i c.boxes.result.now r c.in_ok-outside.outside c.in_ok-step.field-0 (omega arith) first c.in_default.ensures.holder outside (c.in_ok-step.ensures {u = tt}).step e) c.seen_from-2.ensures.rect
