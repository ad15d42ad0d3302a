use Rattle.std.proofs.Common.{List, ℕ, sym, subst}
use Rattle.lay_contexts.specs.ListedContexts.{AreContextPlaces}
use Rattle.lay_after_edits.specs.Contexts.Near.{AreReached}
use Rattle.lay_after_edits.specs.Contexts.Rebuilt.{AreRebuilt}
use Rattle.lay_after_edits.proofs.ContextsLemmas.ElementPlaces.{context-places}
use Rattle.lay_after_edits.proofs.ContextsLemmas.RebuiltContexts.{as-many, rebuilt-after-all}
use Rattle.lay_after_edits.proofs.contexts.after_all.contexts_after_all.Goals as goal

pub are_alike_nodes-requires-clause-as_many : goal.are_alike_nodes-requires-clause-as_many
are_alike_nodes-requires-clause-as_many c = as-many c.args.of.now.doc.now.nodes c.args.of.now.later.now.nodes c.requires.made.nodes.parents

pub reached_contexts-requires-clause-places : goal.reached_contexts-requires-clause-places
reached_contexts-requires-clause-places c =
    subst (AreContextPlaces c.args.of.now.doc.now.nodes c.args.of.now.was.now) (sym c.deref.ensures.value)
    (context-places c.args.of.now.doc.now c.args.of.now.was.now c.args.before.now c.nodes.ensures.valid c.requires.before c.in_ok-places.places.items (c.in_ok-places.ensures {u = tt}))

pub built-requires-clause-rebuilt : goal.built-requires-clause-rebuilt
built-requires-clause-rebuilt c =
    let d = c.args.of.now.doc.now in
    let e = c.args.of.now.later.now in
    let ss = c.args.of.now.was.now in
    let ts = c.args.of.now.styles.now in
    subst (λ (places : List ℕ). AreRebuilt d.nodes e.nodes ss ts c.args.before.now places c.in_ok-reached.reached.items) (sym c.deref-then-are_alike_nodes.ensures.value)
    (rebuilt-after-all d e ss ts c.args.made.now c.requires.made (c.are_alike_nodes.ensures c.if-are_alike_nodes.true)
    c.args.before.now c.in_ok-places.places.items c.in_ok-reached.reached.items c.nodes.ensures.valid c.nodes-then-are_alike_nodes.ensures.valid
    c.requires.styles c.requires.later_styles c.requires.before (c.in_ok-places.ensures {u = tt})
    (subst (λ (places : List ℕ). AreReached d.nodes ss places c.args.made.now c.in_ok-reached.reached.items) c.deref.ensures.value (c.in_ok-reached.ensures {u = tt})))
