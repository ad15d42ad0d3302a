use Rattle.std.proofs.Common.{◌≡◌, ◌∙◌, List, Option, IfSome, ap, subst, sym}
use Rattle.std.specs.Arc.{arc_value}
use Rattle.lay_box_tree.specs.declared.box_tree.BoxNode.{BoxNode}
use Rattle.lay_boxgen.specs.Contexts.{IsContextAt}
use Rattle.lay_contexts.specs.Contexts.{Context, context_at}
use Rattle.lay_contexts.specs.ContextTree.{boxes_of_place}
use Rattle.lay_after_edits.specs.Contexts.Unstyled.{all_unstyled}
use Rattle.lay_after_edits.proofs.ContextsLemmas.LaterList.{with_own_boxes}
use Rattle.lay_after_edits.proofs.contexts.building.context_after.Goals as goal

pub boxes_after-requires-clause-context : goal.boxes_after-requires-clause-context
boxes_after-requires-clause-context c =
    let place : c.place-place.result ≡ (context_at c.args.before.now c.args.i).place = c.place-place.ensures ∙ ap (λ (x : Context). x.place) c.at-context.ensures.context in
    subst (IsContextAt c.args.of.now.later.now.nodes c.args.of.now.styles.now) (sym place) c.requires.context

pub returns-then-not-is_made-clause-links : goal.returns-then-not-is_made-clause-links
returns-then-not-is_made-clause-links c =
    let was = context_at c.args.before.now c.args.i in
    with_own_boxes was (arc_value c.in_ok-kept.kept) was.boxes (c.in_ok-kept.ensures {u = tt})

pub returns-then-not-is_made-clause-boxes : goal.returns-then-not-is_made-clause-boxes
returns-then-not-is_made-clause-boxes c = ap (λ (x : Context). x.boxes) (c.in_ok-kept.ensures {u = tt}) ∙ c.requires.kept c.if-not-is_made.true

pub returns-then-not-is_made-clause-unstyled : goal.returns-then-not-is_made-clause-unstyled
returns-then-not-is_made-clause-unstyled c = ap (λ (x : Context). all_unstyled x.boxes) (c.in_ok-kept.ensures {u = tt})

pub returns-clause-links : goal.returns-clause-links
returns-clause-links c =
    let was = context_at c.args.before.now c.args.i in
    let boxes = c.in-Some.boxes in
    with_own_boxes was (arc_value c.in_ok-shared.shared) boxes
    ((c.in_ok-shared.ensures {u = tt}).ok ∙ (c.in_ok-later.ensures {u = tt} ∙ ap (λ (x : Context). record x { boxes = boxes }) c.at-context.ensures.context))

pub returns-clause-boxes : goal.returns-clause-boxes
returns-clause-boxes c =
    let nodes = c.args.of.now.later.now.nodes in
    let styles = c.args.of.now.styles.now in
    let place : c.place-place.result ≡ (context_at c.args.before.now c.args.i).place = c.place-place.ensures ∙ ap (λ (x : Context). x.place) c.at-context.ensures.context in
    let made : c.in-Some.boxes ≡ boxes_of_place nodes styles c.place-place.result =
    subst (λ (o : Option (List BoxNode)). IfSome o (λ b. b ≡ boxes_of_place nodes styles c.place-place.result)) c.in-Some.is (c.in_ok-boxes.ensures {u = tt}).boxes in
    ap (λ (x : Context). x.boxes) ((c.in_ok-shared.ensures {u = tt}).ok ∙ c.in_ok-later.ensures {u = tt}) ∙ (made ∙ ap (boxes_of_place nodes styles) place)

pub returns-clause-unstyled : goal.returns-clause-unstyled
returns-clause-unstyled c =
    let same : all_unstyled c.in-Some.boxes ≡ all_unstyled c.at-context.result.now.boxes =
    subst (λ (o : Option (List BoxNode)). IfSome o (λ b. all_unstyled b ≡ all_unstyled c.at-context.result.now.boxes)) c.in-Some.is (c.in_ok-boxes.ensures {u = tt}).unstyled in
    ap (λ (x : Context). all_unstyled x.boxes) ((c.in_ok-shared.ensures {u = tt}).ok ∙ c.in_ok-later.ensures {u = tt})
    ∙ (same ∙ ap (λ (x : Context). all_unstyled x.boxes) c.at-context.ensures.context)
