use Rattle.std.proofs.Common.{◌≡◌, ◌∙◌, ◌-◌, ℕ, zero, suc, ◌<◌, List, ap, arith, drop, length, refl, slice_index}
use Rattle.lay_style.specs.declared.style.Style.{Style}
use Rattle.lay_doc.specs.declared.node.Node.{Node}
use Rattle.lay_boxgen.specs.ContextWalk.{boxes_at_places}
use Rattle.lay_boxgen.proofs.context_walk.boxes_of_contexts.Goals as goal

none_left : (places : List ℕ) (left n : ℕ) → n ≡ 0 → ((j : ℕ) → j < left → slice_index places j < n) → left ≡ 0
none_left places zero n none before = refl
none_left places (suc left) n none before = (let low = before 0 (omega arith) in absurd (omega (arith, none, low)))

pub returns : goal.returns
returns c =
    let places = c.args.places.now in
    let walked = c.loop-done.invariant in
    let end : length c.nodes.result.now - c.loop-done.done ≡ 0 = omega (arith, c.loop-done-test.false) in
    let left = none_left places c.loop-done.walk.left (length c.nodes.result.now - c.loop-done.done) end walked.before in
    walked.made ∙ ap (λ (m : ℕ). boxes_at_places c.nodes.result.now c.as_slice.result.now (drop m places)) left
    ∙ ap (λ (ns : List Node). boxes_at_places ns c.as_slice.result.now places) c.nodes.ensures.nodes
    ∙ ap (λ (ss : List Style). boxes_at_places c.args.doc.now.nodes ss places) c.as_slice.ensures

pub walk_over-requires-clause-contexts : goal.walk_over-requires-clause-contexts
walk_over-requires-clause-contexts c j lt = rw (c.nodes.ensures.nodes, c.as_slice.ensures) (c.requires.contexts j lt)
