use Rattle.std.proofs.Common.{rules, ◌≡◌, ◌∙◌, ℕ, true, false, is_some, slice_index, arith, subst, sym}
use Rattle.lay_after_edits.proofs.Cited.{length-parents}
use Rattle.lay_contexts.specs.ContextTree.{IsAround}
use Rattle.lay_after_edits.proofs.ContextsLemmas.Climbing.{above-root, answered, on-outward, unanswered}
use Rattle.lay_after_edits.proofs.contexts.reach.number_around.Goals as goal

pub returns-then-is_some : goal.returns-then-is_some
returns-then-is_some c =
    let some : is_some c.number_at-number.result ≡ true = search rules in
    λ i lt around. answered c.args.of.now.doc.now.nodes c.args.of.now.was.now c.args.places.now c.requires.places c.loop-at.at c.parent_place-at.result
    c.parent_place-at.ensures c.number_at-number.result c.number_at-number.ensures.some some i lt (c.loop-at.invariant.1 i lt around)

pub loop-at-preserved : goal.loop-at-preserved
loop-at-preserved c =
    let nodes = c.args.of.now.doc.now.nodes in
    let styles = c.args.of.now.was.now in
    let none : is_some c.number_at-number.result ≡ false = search rules in
    let here = c.loop-at.invariant.0 in
    let up = c.parent_place-at.ensures in
    let before = c.nodes.ensures.valid.tree.before c.loop-at.at c.loop-at-test.true (omega (arith, here, length-parents nodes)) in (
      omega (arith, up, before, here),
      λ i lt around. subst (λ (k : ℕ). IsAround nodes styles k (slice_index c.args.places.now i)) (sym up)
          (on-outward nodes styles c.args.places.now c.requires.places c.loop-at.at i
          (λ j lj at. unanswered nodes styles c.args.places.now c.requires.places c.parent_place-at.result c.number_at-number.result c.number_at-number.ensures.none none j lj (at ∙ sym up))
          lt (c.loop-at.invariant.1 i lt around)),
    )

pub returns : goal.returns
returns c = λ i lt around.
    (let above = above-root c.args.of.now.doc.now.nodes c.args.of.now.was.now c.loop-at.at (slice_index c.args.places.now i) (c.loop-at.invariant.1 i lt around) in
    absurd (omega (arith, above, c.loop-at-test.false)))
