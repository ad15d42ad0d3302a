use Rattle.std.proofs.Common.{◌≡◌, ◌∙◌, ◌<◌, ◌++◌, ◌∷◌, [], false, List, ap, arith, length, map, slice_index, subst, sym}
use Rattle.std.proofs.lemmas.List.{get_or_default, length-map, map-append}
use Rattle.std.specs.Arc.{arc_value}
use Rattle.lay_boxgen.specs.Contexts.{IsContextAt}
use Rattle.lay_contexts.specs.ContextList.{AreContextsOf}
use Rattle.lay_contexts.specs.ContextTree.{boxes_of_place}
use Rattle.lay_contexts.specs.Contexts.{Context, boxes_in, context_at}
use Rattle.lay_after_edits.specs.Contexts.Building.{AreBuiltTo}
use Rattle.lay_after_edits.specs.Contexts.Links.{AreRestyled, is_made}
use Rattle.lay_after_edits.specs.Contexts.Unstyled.{all_unstyled}
use Rattle.lay_after_edits.proofs.ContextsLemmas.BuiltSteps.{built-are, built-contexts, is-built, later-context}
use Rattle.lay_after_edits.proofs.ContextsLemmas.LaterList.{one-more, restyled-are}
use Rattle.lay_after_edits.proofs.contexts.building.built.Goals as goal

pub index-requires : goal.index-requires
index-requires c = omega (arith, c.loop-i-test.true, c.len-i-end.ensures.count, c.requires.rebuilt.flags)

pub context_after-requires-clause-context : goal.context_after-requires-clause-context
context_after-requires-clause-context c =
    let lt : c.loop-i.i < length c.args.before.now = omega (arith, c.loop-i-test.true, c.len-i-end.ensures.count) in
    subst (IsContextAt c.args.of.now.later.now.nodes c.args.of.now.styles.now) (c.requires.rebuilt.places_are.each c.loop-i.i lt)
    (later-context c.args.of.now.doc.now c.args.of.now.later.now c.args.of.now.was.now c.args.of.now.styles.now c.args.before.now
    c.nodes-2.ensures.valid c.requires.later_styles c.requires.before c.args.places.now c.args.reached.items c.requires.rebuilt c.loop-i.i lt)

pub context_after-requires-clause-kept : goal.context_after-requires-clause-kept
context_after-requires-clause-kept c = λ is_not.
    (let lt : c.loop-i.i < length c.args.before.now = omega (arith, c.loop-i-test.true, c.len-i-end.ensures.count) in
    let flag : c.index.result.now ≡ is_made c.args.reached.items c.loop-i.i =
    c.index.ensures ∙ get_or_default c.args.reached.items c.loop-i.i c.index.result.now false (omega (arith, lt, c.requires.rebuilt.flags)) in
    c.requires.rebuilt.kept c.loop-i.i lt (sym flag ∙ is_not)
    ∙ ap (boxes_of_place c.args.of.now.later.now.nodes c.args.of.now.styles.now) (c.requires.rebuilt.places_are.each c.loop-i.i lt))

pub loop-i-preserved : goal.loop-i-preserved
loop-i-preserved c =
    let before = c.args.before.now in
    let later = c.args.of.now.later.now in
    let styles = c.args.of.now.styles.now in
    let places = c.args.places.now in
    let reached = c.args.reached.items in
    let i = c.loop-i.i in
    let lt : i < length before = omega (arith, c.loop-i-test.true, c.len-i-end.ensures.count) in
    let context = arc_value c.in-Some.context in
    let items : c.push.new.self.items ≡ c.loop-i.items.items ++ c.in-Some.context ∷ [] = (c.in_ok-push.ensures {u = tt}).items in
    let all : map arc_value c.push.new.self.items ≡ map arc_value c.loop-i.items.items ++ context ∷ [] =
    ap (map arc_value) items ∙ map-append arc_value c.loop-i.items.items (c.in-Some.context ∷ []) in
    let after = c.in_ok-context.ensures {u = tt} in
    let is : context ≡ record (context_at before i) { boxes = context.boxes } =
    rw c.in-Some.is at after.links in
    let made : context.boxes ≡ boxes_of_place later.nodes styles (context_at before i).place =
    rw c.in-Some.is at after.boxes in
    let boxes : context.boxes ≡ boxes_of_place later.nodes styles (slice_index places i) =
    made ∙ ap (boxes_of_place later.nodes styles) (sym (c.requires.rebuilt.places_are.each i lt)) in
    let same : all_unstyled context.boxes ≡ all_unstyled (boxes_in before i) =
    rw c.in-Some.is at after.unstyled in
    let built = is-built before later styles places i context (is_made reached i) context.boxes is boxes same
    (λ is_not. boxes ∙ sym (c.requires.rebuilt.kept i lt is_not)) in
    rw all (one-more before later.nodes styles places (map arc_value c.loop-i.items.items) reached context i c.loop-i.invariant built)

pub new-requires-clause-few : goal.new-requires-clause-few
new-requires-clause-few c =
    let count = c.loop-i.invariant.count in
    omega (arith, length-map c.loop-i.items.items arc_value, count, c.loop-i.auto.i-end, c.len-i-end.ensures.count, c.len-i-end.ensures.few)

pub new-requires-clause-are : goal.new-requires-clause-are
new-requires-clause-are c =
    built-contexts c.args.of.now.doc.now c.args.of.now.later.now c.args.of.now.was.now c.args.of.now.styles.now c.args.before.now
    c.nodes-2.ensures.valid c.requires.later_styles c.requires.before c.args.places.now c.args.reached.items c.requires.rebuilt
    (map arc_value c.loop-i.items.items) c.loop-i.i (omega (arith, c.loop-i-test.false, c.loop-i.auto.i-end, c.len-i-end.ensures.count)) c.loop-i.invariant

pub returns-clause-are : goal.returns-clause-are
returns-clause-are c =
    subst (AreContextsOf c.args.of.now.later.now.nodes c.args.of.now.styles.now) (sym c.new.ensures)
    (built-are c.args.of.now.doc.now c.args.of.now.later.now c.args.of.now.was.now c.args.of.now.styles.now c.args.before.now
    c.nodes-2.ensures.valid c.requires.later_styles c.requires.before c.args.places.now c.args.reached.items c.requires.rebuilt
    (map arc_value c.loop-i.items.items) c.loop-i.i (omega (arith, c.loop-i-test.false, c.loop-i.auto.i-end, c.len-i-end.ensures.count)) c.loop-i.invariant)

pub returns-clause-made : goal.returns-clause-made
returns-clause-made c =
    let n : c.loop-i.i ≡ length c.args.before.now = omega (arith, c.loop-i-test.false, c.loop-i.auto.i-end, c.len-i-end.ensures.count) in
    subst (λ (cs : List Context). AreRestyled c.args.before.now cs c.args.reached.items) (sym c.new.ensures)
    (restyled-are c.args.before.now c.args.of.now.later.now.nodes c.args.of.now.styles.now c.args.places.now (map arc_value c.loop-i.items.items) c.args.reached.items
    c.requires.rebuilt.flags
    (subst (AreBuiltTo c.args.before.now c.args.of.now.later.now.nodes c.args.of.now.styles.now c.args.places.now (map arc_value c.loop-i.items.items) c.args.reached.items) n c.loop-i.invariant))
