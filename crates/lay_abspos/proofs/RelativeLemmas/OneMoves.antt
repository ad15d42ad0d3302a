-- The boxes of a formatting context are moved in one way.
use Rattle.std.proofs.Common.{◌≡◌, ℕ, zero, suc, ◌<◌, ◌≤◌, List, length, slice_index_or, Option, None, sym, ap, ◌∙◌, arith, inl, inr}
use Rattle.std.proofs.lemmas.Bool.{cases_lt}
use Rattle.std.proofs.lemmas.List.{ext_get_or}
use Rattle.lay_box_tree.specs.declared.box_tree.BoxNode.{BoxNode}
use Rattle.lay_abspos.specs.Relative.FormerParents.{AreFormerParents}
use Rattle.lay_abspos.proofs.RelativeLemmas.Nearest.{one_former_parent as one_former_parent_lem}
use Rattle.lay_box_tree.specs.ContextBoxes.{AreContextBoxes}
use Rattle.lay_sizes.specs.declared.sizing.BoxSizes.{BoxSizes}
use Rattle.lay_abspos.specs.declared.relative.offset.Offset.{Offset}
use Rattle.lay_abspos.specs.Relative.Laws.{OneColumnOfMoves}
use Rattle.lay_abspos.specs.Relative.Moves.{HasMoves, move_at, move_of}
use Rattle.lay_abspos.specs.Relative.RelativeOffsets.{no_offset}
use Rattle.lay_abspos.proofs.RelativeLemmas.MoveSteps.{move_before}

one_former_list : (boxes : List BoxNode) (a b : List (Option ℕ)) → AreFormerParents boxes a → AreFormerParents boxes b → a ≡ b
one_former_list boxes a b are and =
    ext_get_or None a b (are.count ∙ sym and.count)
    (λ k lt. (let within : k < length boxes = omega (arith, lt, are.count) in one_former_parent_lem boxes k (slice_index_or a k None) (slice_index_or b k None) (are.each k within) (and.each k within)))

-- moves agree from the own box on
moves_to : (boxes : List BoxNode) (sizes : List BoxSizes) (m n : List Offset) → AreContextBoxes boxes → (a : HasMoves boxes sizes m) → (b : HasMoves boxes sizes n) → a.formers ≡ b.formers → (l : ℕ) → l ≤ length boxes
    → (k : ℕ) → k < l → move_at m k ≡ move_at n k
moves_to boxes sizes m n are a b same zero le k lt = absurd (omega arith)
moves_to boxes sizes m n are a b same (suc l) le k lt = elim (cases_lt k l) [
  | inl low ↦ moves_to boxes sizes m n are a b same l (omega arith) k low
  | inr high ↦ a.each k (omega arith)
      ∙ move_before boxes sizes a.formers m n k are a.are_formers (omega arith) (λ j jl. moves_to boxes sizes m n are a b same l (omega arith) j (omega arith))
      ∙ ap (λ (fs : List (Option ℕ)). move_of boxes sizes fs n k) same ∙ sym (b.each k (omega arith))
]

pub one_column_of_moves_lem : OneColumnOfMoves
one_column_of_moves_lem boxes sizes m n are a b =
    let same = one_former_list boxes a.formers b.formers a.are_formers b.are_formers in
    ext_get_or no_offset m n (a.count ∙ sym b.count) (λ k lt. moves_to boxes sizes m n are a b same (length boxes) (omega arith) k (omega (arith, lt, a.count)))
