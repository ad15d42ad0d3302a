use Rattle.std.proofs.Common.{◌≡◌, ◌∙◌, List, ℕ, ap, arith, length, subst, sym}
use Rattle.lay_style.specs.declared.style.Style.{Style}
use Rattle.lay_after_edits.proofs.Cited.{length-parents}
use Rattle.lay_contexts.specs.ListedContexts.{AreContextPlaces}
use Rattle.lay_after_edits.specs.Contexts.Reach.{AreAlike, AreReachFlags, IsEditReach}
use Rattle.lay_after_edits.specs.Contexts.Rebuilt.{AreRebuilt}
use Rattle.lay_after_edits.proofs.ContextsLemmas.BuiltSteps.{from-within, rebuilt-of, until-within}
use Rattle.lay_after_edits.proofs.ContextsLemmas.ElementPlaces.{context-places}
use Rattle.lay_after_edits.proofs.ContextsLemmas.Restyling.{restyling-of, subject-there}
use Rattle.lay_after_edits.proofs.contexts.later_contexts.restyled_contexts.Goals as goal

pub reach_of-reach-requires-clause-places : goal.reach_of-reach-requires-clause-places
reach_of-reach-requires-clause-places c =
    subst (AreContextPlaces c.args.of.now.doc.now.nodes c.args.of.now.was.now) (sym c.deref.ensures.value)
    (context-places c.args.of.now.doc.now c.args.of.now.was.now c.args.before.now c.nodes.ensures.valid c.requires.before c.in_ok-places.places.items (c.in_ok-places.ensures {u = tt}))

pub are_alike-requires-clause-here : goal.are_alike-requires-clause-here
are_alike-requires-clause-here c =
    let d = c.args.of.now.doc.now in
    let until = until-within d c.args.of.now.was.now c.deref.result.now c.args.node.0 c.reach_of-reach.result c.nodes.ensures.valid c.reach_of-reach.ensures in
    let same : length c.as_slice.result.now ≡ length c.args.of.now.was.now = ap length c.as_slice.ensures in
    omega (arith, until, same, c.requires.edited.before.length_is, length-parents d.nodes)

pub are_alike-requires-clause-there : goal.are_alike-requires-clause-there
are_alike-requires-clause-there c =
    let d = c.args.of.now.doc.now in
    let e = c.args.of.now.later.now in
    let until = until-within d c.args.of.now.was.now c.deref.result.now c.args.node.0 c.reach_of-reach.result c.nodes.ensures.valid c.reach_of-reach.ensures in
    let parents = ap length (restyling-of d e c.args.of.now.was.now c.args.of.now.styles.now c.args.of.now.edit.now c.args.node.0 c.reach_of-reach.result.from
    c.nodes.ensures.valid c.requires.edited c.requires.node c.reach_of-reach.ensures.subject).parents in
    let same : length c.as_slice-2.result.now ≡ length c.args.of.now.styles.now = ap length c.as_slice-2.ensures in
    omega (arith, until, same, c.requires.edited.after.length_is, parents, length-parents d.nodes)

pub reach_of-reach-requires-clause-node : goal.reach_of-reach-requires-clause-node
reach_of-reach-requires-clause-node c = subject-there c.args.of.now.doc.now c.args.of.now.edit.now c.args.node.0 c.requires.edited.accepted c.requires.node

pub stays_seen-requires : goal.stays_seen-requires
stays_seen-requires c = from-within c.args.of.now.doc.now c.args.of.now.was.now c.deref.result.now c.args.node.0 c.reach_of-reach.result c.reach_of-reach.ensures

pub narrowed-requires-clause-places : goal.narrowed-requires-clause-places
narrowed-requires-clause-places c =
    subst (AreContextPlaces c.args.of.now.doc.now.nodes c.args.of.now.was.now) (sym c.deref-2.ensures.value)
    (context-places c.args.of.now.doc.now c.args.of.now.was.now c.args.before.now c.nodes.ensures.valid c.requires.before c.in_ok-places.places.items (c.in_ok-places.ensures {u = tt}))

pub narrowed-requires-clause-within : goal.narrowed-requires-clause-within
narrowed-requires-clause-within c = from-within c.args.of.now.doc.now c.args.of.now.was.now c.deref.result.now c.args.node.0 c.reach_of-reach.result c.reach_of-reach.ensures

pub narrowed-requires-clause-styles : goal.narrowed-requires-clause-styles
narrowed-requires-clause-styles c = c.requires.edited.before.length_is ∙ length-parents c.args.of.now.doc.now.nodes

pub built-requires-clause-rebuilt : goal.built-requires-clause-rebuilt
built-requires-clause-rebuilt c =
    let d = c.args.of.now.doc.now in
    let e = c.args.of.now.later.now in
    let ss = c.args.of.now.was.now in
    let ts = c.args.of.now.styles.now in
    let r = c.reach_of-reach.result in
    let placed : c.deref.result.now ≡ c.in_ok-places.places.items = c.deref.ensures.value in
    let reach : IsEditReach d.nodes ss c.in_ok-places.places.items c.args.node.0 r =
    subst (λ (places : List ℕ). IsEditReach d.nodes ss places c.args.node.0 r) placed c.reach_of-reach.ensures in
    let alike : AreAlike ss ts r.from r.until =
    subst (λ (xs : List Style). AreAlike xs ts r.from r.until) c.as_slice.ensures
    (subst (λ (ys : List Style). AreAlike c.as_slice.result.now ys r.from r.until) c.as_slice-2.ensures (c.are_alike.ensures c.if-not-are_alike.false)) in
    subst (λ (places : List ℕ). AreRebuilt d.nodes e.nodes ss ts c.args.before.now places c.in_ok-reached.reached.items) (sym c.deref-4.ensures.value)
    (rebuilt-of d e ss ts c.args.of.now.edit.now c.args.before.now c.nodes.ensures.valid c.nodes-2.ensures.valid c.requires.edited c.requires.before
    c.in_ok-places.places.items (c.in_ok-places.ensures {u = tt}) r
    (record { id = c.args.node.0; change = c.requires.node; reach = reach; alike = alike; text = c.stays_seen.ensures c.if-not-stays_seen.false })
    c.narrowed.result c.narrowed.ensures c.in_ok-reached.reached.items (length c.deref-3.result.now) (ap length c.deref-3.ensures.value)
    (subst (λ (places : List ℕ). AreReachFlags c.narrowed.result places c.in_ok-reached.reached.items (length c.deref-3.result.now)) c.deref-3.ensures.value (c.in_ok-reached.ensures {u = tt})))

pub built-requires-clause-styles : goal.built-requires-clause-styles
built-requires-clause-styles c = c.requires.edited.before.length_is ∙ length-parents c.args.of.now.doc.now.nodes

pub built-requires-clause-later_styles : goal.built-requires-clause-later_styles
built-requires-clause-later_styles c = c.requires.edited.after.length_is ∙ length-parents c.args.of.now.later.now.nodes
