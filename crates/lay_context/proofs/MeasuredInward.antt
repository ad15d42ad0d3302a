-- A formatting context is measured just where something shrinks to fit from it outward, and so what is inside it is, too.
use Rattle.std.proofs.Common.{◌≡◌, ◌<◌, ◌≤◌, ℕ, zero, suc, Bool, true, false, ◌||◌, List, length, refl, ap, sym, ◌∙◌, arith}
use Rattle.std.proofs.lemmas.Bool.{or_right}
use Rattle.lay_contexts.specs.FormattingContexts.{AreFormattingContexts, FormattingContext, boxes_in, formatting_context_at}
use Rattle.lay_context_sizes.specs.ShrinkToFit.{shrinks_to_fit}
use Rattle.lay_context.specs.Laws.{MeasuredGoesInward, MeasuredWhereShrunk}
use Rattle.lay_context.specs.Measured.{ShrinksOutward, around, is_measured, own, shrinks_within}
use Rattle.lay_context.proofs.ShrinkSteps.{shrinks_here}

module _ (contexts : List FormattingContext) (are : AreFormattingContexts contexts) where
  -- further ones than those around it change nothing
  enough : (most many i : ℕ) → many ≤ most → i ≤ many → i < length contexts → shrinks_within many contexts i ≡ is_measured contexts i
  enough most zero zero few le within = refl
  enough most zero (suc i) few le within = absurd (omega (arith, le))
  enough most (suc many) zero few le within = refl
  enough zero (suc many) (suc i) few le within = absurd (omega (arith, few))
  enough (suc most) (suc many) (suc i) few le within =
      let outer : ℕ = (formatting_context_at contexts (suc i)).outer in
      let before : outer < suc i = are.outer (suc i) (omega arith) within in
      let more : shrinks_within many contexts outer ≡ is_measured contexts outer = enough most many outer (omega (arith, few)) (omega (arith, before, le)) (omega (arith, before, within)) in
      let less : shrinks_within i contexts outer ≡ is_measured contexts outer = enough most i outer (omega (arith, few, le)) (omega (arith, before)) (omega (arith, before, within)) in
      ap (λ (b : Bool). shrinks_to_fit (boxes_in contexts (suc i)) || b) (more ∙ sym less)

  measured_by : (i j : ℕ) → i < j → j < length contexts → (formatting_context_at contexts j).outer ≡ i → is_measured contexts i ≡ true → is_measured contexts j ≡ true
  measured_by i zero behind within outside is = absurd (omega (arith, behind))
  measured_by i (suc j) behind within outside is =
      let here : shrinks_within j contexts i ≡ true = enough j j i (omega arith) (omega (arith, behind)) (omega (arith, behind, within)) ∙ is in
      let out : shrinks_within j contexts (formatting_context_at contexts (suc j)).outer ≡ true = ap (shrinks_within j contexts) outside ∙ here in
      ap (λ (b : Bool). shrinks_to_fit (boxes_in contexts (suc j)) || b) out ∙ or_right (shrinks_to_fit (boxes_in contexts (suc j))) true refl

  -- of the own box or the ones around it one shrinks to fit
  outward_by : (most i : ℕ) → i ≤ most → i < length contexts → (b : Bool) → shrinks_to_fit (boxes_in contexts i) ≡ b → is_measured contexts i ≡ true → ShrinksOutward contexts i
  outward_by most i few within true here is = own i here
  outward_by most zero few within false here is = own zero is
  outward_by zero (suc i) few within false here is = absurd (omega (arith, few))
  outward_by (suc most) (suc i) few within false here is =
      let outer : ℕ = (formatting_context_at contexts (suc i)).outer in
      let before : outer < suc i = are.outer (suc i) (omega arith) within in
      let out : shrinks_within i contexts outer ≡ true = sym (ap (λ (b : Bool). b || shrinks_within i contexts outer) here) ∙ is in
      let less : shrinks_within i contexts outer ≡ is_measured contexts outer = enough i i outer (omega arith) (omega (arith, before)) (omega (arith, before, within)) in
      around (suc i) (omega arith) (outward_by most outer (omega (arith, before, few)) (omega (arith, before, within)) (shrinks_to_fit (boxes_in contexts outer)) refl (sym less ∙ out))

  measured_of : (i : ℕ) → i < length contexts → ShrinksOutward contexts i → is_measured contexts i ≡ true
  measured_of i within (own k here) = shrinks_here i contexts i here
  measured_of i within (around k some there) =
      let before = are.outer i some within in
      measured_by (formatting_context_at contexts i).outer i before within refl (measured_of (formatting_context_at contexts i).outer (omega (arith, before, within)) there)

pub measured_where_shrunk_lem : MeasuredWhereShrunk
measured_where_shrunk_lem contexts i are within =
    (λ is. outward_by contexts are i i (omega arith) within (shrinks_to_fit (boxes_in contexts i)) refl is, measured_of contexts are i within)

pub measured_goes_inward_lem : MeasuredGoesInward
measured_goes_inward_lem contexts i j are within inside is =
    measured_by contexts are i j (are.behind i j within inside) (are.within i j within inside) (are.around i j within inside) is
