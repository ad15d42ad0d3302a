-- A box that holds no blocks is in no run that comes to a box outside lines: its run ends in it.
use Rattle.std.proofs.Common.{◌≡◌, ◌⊎◌, zero, suc, subst, ℕ, ◌+◌, ◌<◌, ◌≤◌, ◌&&◌, Bool, true, false, List, length, sym, ◌∙◌, arith, inl, inr}
use Rattle.std.proofs.lemmas.Bool.{cases_lt}
use Rattle.lay_flow.specs.declared.blocks.flow_box.FlowBox.{FlowBox}
use Rattle.lay_flow.specs.declared.blocks.block.Block.{Block}
use Rattle.lay_flow.specs.Blocks.Boxes.{box_at, parent_at}
use Rattle.lay_flow.specs.Blocks.Children.{flag_at}
use Rattle.lay_flow.specs.Blocks.FlowBoxes.{IsFlowTree, is_in_lines}
use Rattle.lay_flow.specs.Blocks.MarginRuns.{Runs, HasRuns, block_at, is_blocks, may_collapse_through}
use Rattle.lay_flow.specs.Blocks.BlockPositions.{is_placed}
use Rattle.lay_flow.specs.Blocks.Gathered.{Gathered}
use Rattle.lay_flow.proofs.BlocksLemmas.BlockKinds.{blocks_not_placed}
use Rattle.lay_flow.proofs.BlocksLemmas.FlowBoxFacts.{around_holds}
use Rattle.lay_flow.proofs.BlocksLemmas.RunFacts.{passes_is}
use Rattle.lay_flow.specs.Blocks.MarginPlace.{margin_place}

passes_blocks : (b : Block) (more : Bool) → (may_collapse_through b && more) ≡ true → is_blocks b.inside ≡ true
passes_blocks b more e = grind (arith, e)

module _ (boxes : List FlowBox) (are : IsFlowTree boxes) (r : Runs) (is : HasRuns boxes r) (first k : ℕ) (positive : 0 < k) (within : k < length boxes) (out : is_in_lines (box_at boxes k).kind ≡ false)
    (gathered : Gathered boxes r first (margin_place (parent_at boxes k) k)) where
  pub placed_in_run : (j : ℕ) → first ≤ j → j < k → is_placed (block_at boxes j).inside ≡ false
  placed_in_run j from lt = elim (cases_lt (parent_at boxes k) j) [
    | inl over ↦ through (gathered.closed j from over lt)
    | inr under ↦ elim (some_outside j k (omega arith)) [
      | inl w ↦ through (gathered.gone j w.0 from w.1 w.2 w.3)
      | inr around ↦ around_holds boxes are (k + 1) k j (omega arith) positive within out under around
    ]
  ]
    where
      through : flag_at r.through j ≡ true → is_placed (block_at boxes j).inside ≡ false
      through t =
          let least = gathered.least in
          blocks_not_placed (block_at boxes j).inside (passes_blocks (block_at boxes j) _ (sym (passes_is boxes r is j (omega (arith, least, from)) (omega (arith, lt, within))) ∙ t))

      -- the box at j is around the place m, or there is a box behind it that isn't in it
      some_outside : (j m : ℕ) → m ≤ k → ((i : ℕ) × (j < i) × (i < k) × (parent_at boxes i < j)) ⊎ ((i : ℕ) → j < i → i < m → j ≤ parent_at boxes i)
      some_outside j zero le = inr (λ i low high. absurd (omega (arith, high)))
      some_outside j (suc m) le = elim (some_outside j m (omega (arith, le))) [
        | inl w ↦ inl w
        | inr before ↦ elim (cases_lt j m) [
          | inr ge ↦ inr (λ i low high. absurd (omega (arith, low, high, ge)))
          | inl low ↦ elim (cases_lt (parent_at boxes m) j) [
            | inl less ↦ inl (m, low, omega (arith, le), less)
            | inr holds ↦ inr (λ i a b. elim (cases_lt i m) [
              | inl earlier ↦ before i a earlier
              | inr ge ↦ (let e : i ≡ m = omega (arith, b, ge) in subst (λ (i : ℕ). j ≤ parent_at boxes i) (sym e) holds)
            ])
          ]
        ]
      ]
