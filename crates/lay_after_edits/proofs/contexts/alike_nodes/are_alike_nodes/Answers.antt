use Rattle.std.proofs.Common.{◌≡◌, ℕ, true, arith, inl, inr, subst, sym}
use Rattle.std.proofs.lemmas.Bool.{cases_lt}
use Rattle.lay_after_edits.specs.Contexts.Changed.{IsAlikeNode}
use Rattle.lay_after_edits.specs.Contexts.Links.{is_made}
use Rattle.lay_after_edits.proofs.contexts.alike_nodes.are_alike_nodes.Goals as goal

pub loop-k-preserved : goal.loop-k-preserved
loop-k-preserved c = λ m less flag. elim (cases_lt m c.loop-k.k) [
  | inl before ↦ c.loop-k.invariant m before flag
  | inr high ↦ (let z : m ≡ c.loop-k.k = omega (arith, less, high) in
      subst (λ (n : ℕ). IsAlikeNode c.args.of.now.doc.now.nodes c.args.of.now.later.now.nodes c.args.of.now.was.now c.args.of.now.styles.now n) (sym z)
      (c.stays_alike.ensures c.if-not-stays_alike.false (subst (λ (n : ℕ). is_made c.args.made.now n ≡ true) z flag)))
]
