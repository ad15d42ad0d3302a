-- A list of boxes that grows.
use Rattle.std.proofs.Common.{◌≡◌, ℕ, ◌+◌, ◌<◌, List, [], ◌∷◌, ◌++◌, length, sym, ◌∙◌, arith, inl, inr}
use Rattle.std.proofs.lemmas.Bool.{cases_lt}
use Rattle.std.proofs.lemmas.Grind.{elements}
use Rattle.lay_flow.specs.declared.blocks.flow_box.FlowBox.{FlowBox}
use Rattle.lay_flow.specs.Blocks.Boxes.{box_at}

read_before : (ss : List FlowBox) (s : FlowBox) (k : ℕ) → k < length ss → box_at (ss ++ s ∷ []) k ≡ box_at ss k
read_before ss s k lt = grind (arith, elements)

read_last : (ss : List FlowBox) (s : FlowBox) (k : ℕ) → k ≡ length ss → box_at (ss ++ s ∷ []) k ≡ s
read_last ss s k is = grind (arith, elements)

-- with one more the places before n + 1 are as they have to be
pub one_more : (of : ℕ → FlowBox) (ss : List FlowBox) (n : ℕ) (s : FlowBox) → length ss ≡ n → ((k : ℕ) → k < n → box_at ss k ≡ of k) → s ≡ of n → (k : ℕ) → k < n + 1 → box_at (ss ++ s ∷ []) k ≡ of k
one_more of ss n s counted so_far is k lt = elim (cases_lt k n) [
  | inl low ↦ read_before ss s k (omega (arith, counted)) ∙ so_far k low
  | inr high ↦ (let q : k ≡ n = omega arith in read_last ss s k (q ∙ sym counted) ∙ rw q is)
]
