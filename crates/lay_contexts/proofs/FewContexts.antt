-- A document has no more contexts than nodes.
use Rattle.std.proofs.Common.{◌≡◌, ◌<◌, ◌≤◌, ℕ, zero, suc, List, length, refl, arith}
use Rattle.lay_style.specs.declared.style.Style.{Style}
use Rattle.lay_doc.specs.declared.node.Node.{Node}
use Rattle.lay_contexts.proofs.ListedSteps.{context_within}
use Rattle.lay_contexts.specs.DocumentContexts.{AreDocumentContexts, spot_at}
use Rattle.lay_contexts.specs.declared.context_spot.ContextSpot.{ContextSpot}

module _ (nodes : List Node) (styles : List Style) (spots : List ContextSpot) (are : AreDocumentContexts nodes styles spots) where
  rises : (i : ℕ) → i < length spots → i ≤ (spot_at spots i).place
  rises zero lt = omega arith
  rises (suc i) lt =
      let before = rises i (omega (arith, lt)) in
      let more = are.rising i (suc i) (omega arith) lt in
      omega (arith, before, more)

  few_to : (n : ℕ) → length spots ≡ n → length spots ≤ length nodes
  few_to zero e = omega (arith, e)
  few_to (suc n) e =
      let last = rises n (omega (arith, e)) in
      let within = context_within nodes styles (spot_at spots n).place (are.are n (omega (arith, e))) in
      omega (arith, e, last, within)

  pub few_contexts : length spots ≤ length nodes
  few_contexts = few_to (length spots) refl
