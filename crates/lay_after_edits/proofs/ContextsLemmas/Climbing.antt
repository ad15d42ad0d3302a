-- The nearest context around a node is the first one that is met on the way outward.
use Rattle.std.proofs.Common.{◌≡◌, ◌⊎◌, inl, inr, ℕ, ◌<◌, true, false, List, length, refl, ap, sym, ◌∙◌, arith, slice_index, Option, None, Some, IfNone, IfSome, is_some}
use Rattle.std.proofs.lemmas.Bool.{cases_lt}
use Rattle.lay_style.specs.declared.style.Style.{Style}
use Rattle.lay_doc.specs.declared.node.Node.{Node}
use Rattle.lay_boxgen.specs.Contexts.{box_at, is_marked}
use Rattle.lay_contexts.specs.ContextTree.{IsAround, further, parent, parent_of}
use Rattle.lay_contexts.specs.ListedContexts.{AreContextPlaces}
use Rattle.lay_after_edits.proofs.Cited.{marked-true}

module _ (nodes : List Node) (styles : List Style) where
  pub above-root : (k a : ℕ) → IsAround nodes styles k a → 0 < k
  above-root _ _ (parent k positive e) = positive
  above-root _ _ (further k a positive e above) = positive

  pub one-step : (k a : ℕ) → IsAround nodes styles k a
      → (a ≡ parent_of nodes k) ⊎ ((is_marked (box_at nodes styles (parent_of nodes k)) ≡ false) × IsAround nodes styles (parent_of nodes k) a)
  one-step _ _ (parent k positive e) = inl refl
  one-step _ _ (further k a positive e above) = inr (e, above)

  module _ (places : List ℕ) (are : AreContextPlaces nodes styles places) where
    pub same-number : (i j : ℕ) → i < length places → j < length places → slice_index places i ≡ slice_index places j → i ≡ j
    same-number i j li lj e = elim (cases_lt i j) [
      | inl low ↦ absurd (let r = are.rising i j low lj in omega (arith, r, e))
      | inr high ↦ elim (cases_lt j i) [ inl over ↦ absurd (let r = are.rising j i over li in omega (arith, r, e)) | inr under ↦ omega (arith, high, under) ]
    ]

    pub found : (k j i : ℕ) → j < length places → slice_index places j ≡ parent_of nodes k → i < length places → IsAround nodes styles k (slice_index places i) → j ≡ i
    found k j i lj at li around = elim (one-step k (slice_index places i) around) [
      | inl is ↦ same-number j i lj li (at ∙ sym is)
      | inr more ↦ absurd (let m : is_marked (box_at nodes styles (slice_index places j)) ≡ true = marked-true (is_marked (box_at nodes styles (slice_index places j))) (are.are j lj).establishes in
          let z : true ≡ false = sym m ∙ (ap (λ (n : ℕ). is_marked (box_at nodes styles n)) at ∙ more.0) in cc)
    ]

    pub on-outward : (k i : ℕ) → ((j : ℕ) → j < length places → slice_index places j ≡ parent_of nodes k → ⊥) → i < length places → IsAround nodes styles k (slice_index places i)
        → IsAround nodes styles (parent_of nodes k) (slice_index places i)
    on-outward k i none li around = elim (one-step k (slice_index places i) around) [
      | inl is ↦ absurd (none i li is)
      | inr more ↦ more.1
    ]

    pub answered : (k p : ℕ) → p ≡ parent_of nodes k → (o : Option ℕ) → IfSome o (λ j. (j < length places) × (slice_index places j ≡ p)) → is_some o ≡ true
        → (i : ℕ) → i < length places → IsAround nodes styles k (slice_index places i) → o ≡ Some i
    answered k p e None some h i li around = absurd cc
    answered k p e (Some j) some h i li around = ap Some (found k j i some.0 (some.1 ∙ e) li around)

    pub unanswered : (p : ℕ) (o : Option ℕ) → IfNone o ((i : ℕ) → i < length places → slice_index places i ≡ p → ⊥) → is_some o ≡ false
        → (i : ℕ) → i < length places → slice_index places i ≡ p → ⊥
    unanswered p None none h = none
    unanswered p (Some j) none h = absurd cc
