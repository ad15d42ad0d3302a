use Rattle.std.proofs.Common.{rules, ◌≡◌, ◌<◌, ◌++◌, ◌∷◌, [], IsTrue, false, length, slice_index_or, arith}
use Rattle.lay_contexts.proofs.ListedSteps.{all_places, no_more, not_true, one_more}
use Rattle.lay_contexts.proofs.context_places.context_places.Goals.{then-flags-k+in_ok-push, else-flags-k}
use Rattle.lay_contexts.proofs.context_places.context_places.Goals as goal

pub loop-k-preserved : goal.loop-k-preserved
loop-k-preserved c =
    let flags = c.in_ok-flags.ensures {u = tt} in
    let k = c.loop-k.k in
    let within : k < length c.args.doc.now.nodes = omega (arith, flags.count, c.loop-k-test.true) in
    elim c.if-flags-k.branch [
      | then-flags-k+in_ok-push w ↦ (let items : c.if-flags-k.places.items ≡ c.loop-k.places.items ++ k ∷ [] = search rules in
          let flag : IsTrue (slice_index_or c.in_ok-flags.flags.items k false) = search rules in
          rw items (one_more c.args.doc.now.nodes c.args.computed.now c.loop-k.places.items k c.loop-k.invariant ((flags.each k within).0 flag)))
      | else-flags-k w ↦ (let items : c.if-flags-k.places.items ≡ c.loop-k.places.items = search rules in
          let not : slice_index_or c.in_ok-flags.flags.items k false ≡ false = search rules in
          rw items (no_more c.args.doc.now.nodes c.args.computed.now c.loop-k.places.items k c.loop-k.invariant
          (λ is. not_true (slice_index_or c.in_ok-flags.flags.items k false) not ((flags.each k within).1 is))))
    ]

pub returns : goal.returns
returns c =
    let flags = c.in_ok-flags.ensures {u = tt} in
    all_places c.args.doc.now.nodes c.args.computed.now c.loop-k.places.items c.loop-k.k (omega (arith, flags.count)) c.loop-k.invariant
