-- Boxes weigh more than those before them.
use Rattle.std.proofs.Common.{◌≡◌, ℕ, zero, suc, ◌+◌, ◌<◌, ◌≤◌, List, length, sym, ap, arith, inl, inr, subst}
use Rattle.std.proofs.lemmas.Bool.{cases_lt}
use Rattle.lay_flow.specs.declared.blocks.flow_box.FlowBox.{FlowBox}
use Rattle.lay_flow.specs.declared.blocks.flow_box.FlowKind.{FlowKind}
use Rattle.lay_flow.specs.declared.blocks.flow_box.FlowKind.TheVariants.{Block as block, Lines as lines, Solid as solid, Float as float, LineFloat as line_float, Inline as inline}
use Rattle.lay_flow.specs.Blocks.Boxes.{box_at}
use Rattle.lay_flow.specs.Blocks.FlowBoxes.{AreFlowBoxes}
use Rattle.lay_flow.specs.Blocks.Weights.{weight, box_weight}

some_weight : (kind : FlowKind) → 1 ≤ box_weight kind
some_weight (block b) = omega arith
some_weight (lines l) = omega arith
some_weight (solid b) = omega arith
some_weight (float b) = omega arith
some_weight (line_float b) = omega arith
some_weight inline = omega arith

pub weight_next : (boxes : List FlowBox) (k : ℕ) → weight boxes (k + 1) ≡ weight boxes k + box_weight (box_at boxes k).kind
weight_next boxes k = let one : k + 1 ≡ suc k = omega arith in ap (weight boxes) one

pub weight_one_more : (boxes : List FlowBox) (k : ℕ) → weight boxes k + 1 ≤ weight boxes (k + 1)
weight_one_more boxes k = let e = weight_next boxes k in let s = some_weight (box_at boxes k).kind in omega (arith, e, s)

pub weight_up : (boxes : List FlowBox) (j k : ℕ) → j ≤ k → weight boxes j ≤ weight boxes k
weight_up boxes j zero le = let e : j ≡ 0 = omega (arith, le) in subst (λ (i : ℕ). weight boxes i ≤ weight boxes 0) (sym e) (omega arith)
weight_up boxes j (suc k) le = elim (cases_lt k j) [
  | inl lt ↦ (let e : j ≡ suc k = omega (arith, lt, le) in subst (λ (i : ℕ). weight boxes i ≤ weight boxes (suc k)) (sym e) (omega arith))
  | inr ge ↦ (let was = weight_up boxes j k ge in let s = some_weight (box_at boxes k).kind in omega (arith, was, s))
]

pub weight_over : (boxes : List FlowBox) (j k : ℕ) → j < k → weight boxes j < weight boxes k
weight_over boxes j k lt =
    let one = weight_one_more boxes j in
    let up = weight_up boxes (j + 1) k (omega (arith, lt)) in
    omega (arith, one, up)

pub light_at : (boxes : List FlowBox) → AreFlowBoxes boxes → (k : ℕ) → k ≤ length boxes → weight boxes k ≤ 16711680
light_at boxes are k le = let up = weight_up boxes k (length boxes) le in let light = are.light in omega (arith, up, light)
