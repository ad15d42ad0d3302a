-- Floats of a side to clear whose mark is in a run: there is one, or there is none.
use Rattle.std.proofs.Common.{◌≡◌, ◌⊎◌, ℕ, zero, suc, ◌<◌, ◌≤◌, true, false, List, refl, sym, ap, ◌∙◌, arith, inl, inr, Option, Some, None, subst}
use Rattle.std.proofs.lemmas.Bool.{cases_lt}
use Rattle.lay_flow.specs.declared.blocks.flow_box.FlowBox.{FlowBox}
use Rattle.lay_units.specs.declared.length.Unit.{Unit as Length}
use Rattle.lay_floats.specs.declared.placed.Placed.{Placed}
use Rattle.lay_floats.specs.declared.requests.Side.{Side}
use Rattle.lay_floats.specs.declared.requests.Side.TheVariants.{Left as left, Right as right}
use Rattle.lay_floats.specs.declared.requests.Clear.{Clear}
use Rattle.lay_floats.specs.declared.requests.Clear.TheVariants.{None as clear_none, Left as clear_left, Right as clear_right, Both as clear_both}
use Rattle.lay_floats.specs.ClearEdge.{Clears, IsClearEdge}
use Rattle.lay_flow.specs.Blocks.Boxes.{box_at}
use Rattle.lay_flow.specs.Blocks.MarginRuns.{Entry, has_top}
use Rattle.lay_flow.specs.Blocks.BlockLayout.{BlockLayout}
use Rattle.lay_flow.specs.Blocks.BlockFloats.{shape_at}
use Rattle.lay_flow.specs.Blocks.Clearance.{HasClearedFloat, NeedsClearance}
use Rattle.lay_flow.specs.Blocks.FlowBoxes.{is_in_lines}
use Rattle.lay_flow.proofs.BlocksLemmas.FlowBoxFacts.{in_lines_unclear}
use Rattle.lay_flow.proofs.BlocksLemmas.Truths.{true_or}

clears_or : (c : Clear) (s : Side) → Clears c s ⊎ (Clears c s → ⊥)
clears_or clear_none s = inr (λ w. w)
clears_or clear_left left = inl refl
clears_or clear_left right = inr (λ w. right_left w)
  where
    right_left : right ≡ left → ⊥
    right_left e = grind (arith, e)
clears_or clear_right left = inr (λ w. left_right w)
  where
    left_right : left ≡ right → ⊥
    left_right e = grind (arith, e)
clears_or clear_both s = inl tt
clears_or clear_right right = inl refl

-- no float of a side to clear before the box at n has its mark in the run
abbrev pub NoneWaits : List FlowBox → Clear → List Entry → ℕ → Type 0
NoneWaits boxes clear run n = (j : ℕ) (side : Side) → j < n → (shape_at boxes j).float ≡ Some side → Clears clear side → has_top j run ≡ false

pub some_waits : (boxes : List FlowBox) (k : ℕ) (run : List Entry) (n : ℕ) → n ≤ k → HasClearedFloat boxes k run ⊎ NoneWaits boxes (shape_at boxes k).clear run n
some_waits boxes k run zero le = inr (λ j side lt. absurd (omega (arith, lt)))
some_waits boxes k run (suc n) le = elim (some_waits boxes k run n (omega (arith, le))) [
  | inl w ↦ inl w
  | inr before ↦ at_float (shape_at boxes n).float refl before
]
  where
    none_here : NoneWaits boxes (shape_at boxes k).clear run n → ((side : Side) → (shape_at boxes n).float ≡ Some side → Clears (shape_at boxes k).clear side → has_top n run ≡ false) → NoneWaits boxes (shape_at boxes k).clear run (suc n)
    none_here before here j side lt e c = elim (cases_lt j n) [
      | inl low ↦ before j side low e c
      | inr ge ↦ (let same : j ≡ n = omega (arith, lt, ge) in ap (λ (j : ℕ). has_top j run) same ∙ here side (ap (λ (j : ℕ). (shape_at boxes j).float) (sym same) ∙ e) c)
    ]

    one_side : (s t : Side) → Some s ≡ Some t → s ≡ t
    one_side s t e = grind (arith, e)

    none_some : (t : Side) → None ≡ Some t → ⊥
    none_some t e = grind (arith, e)

    at_float : (o : Option Side) → (shape_at boxes n).float ≡ o → NoneWaits boxes (shape_at boxes k).clear run n → HasClearedFloat boxes k run ⊎ NoneWaits boxes (shape_at boxes k).clear run (suc n)
    at_float None e before = inr (none_here before (λ side f c. absurd (none_some side (sym e ∙ f))))
    at_float (Some s) e before = elim (clears_or (shape_at boxes k).clear s) [
      | inr not_it ↦ inr (none_here before (λ side f c. absurd (not_it (subst (Clears (shape_at boxes k).clear) (sym (one_side s side (sym e ∙ f))) c))))
      | inl it ↦ true_or (has_top n run) (HasClearedFloat boxes k run ⊎ NoneWaits boxes (shape_at boxes k).clear run (suc n))
          (λ t. inl (n, s, omega (arith, le), e, it, t))
          (λ f. inr (none_here before (λ side g c. f)))
    ]

-- what stands in lines needs no clearance
pub no_need : (boxes : List FlowBox) (k : ℕ) → is_in_lines (box_at boxes k).kind ≡ true → (floats : List Placed) (without : BlockLayout) (bottom : Option Length)
    → IsClearEdge floats (shape_at boxes k).clear bottom → NeedsClearance boxes without k bottom → ⊥
no_need boxes k in_lines floats without bottom is_bottom (inl w) = subst (λ (clear : Clear). Clears clear w.1) (in_lines_unclear boxes k in_lines) w.4
no_need boxes k in_lines floats without bottom is_bottom (inr above) =
    let there = subst (IsClearEdge floats (shape_at boxes k).clear) above.1 is_bottom in
    let w = there.one_of in
    subst (λ (clear : Clear). Clears clear w.1.side) (in_lines_unclear boxes k in_lines) w.3.0
