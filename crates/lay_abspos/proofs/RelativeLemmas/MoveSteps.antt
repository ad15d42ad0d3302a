-- A column of moves that grows, from outer to inner boxes.
use Rattle.std.proofs.Common.{◌≡◌, ℕ, zero, suc, ◌+◌, ◌<◌, List, [], ◌∷◌, ◌++◌, length, length-append, Option, None, Some, refl, sym, ap, ◌∙◌, arith, inl, inr}
use Rattle.std.specs.Option.{unwrap_or}
use Rattle.std.proofs.lemmas.Bool.{cases_lt}
use Rattle.std.proofs.lemmas.Grind.{elements}
use Rattle.lay_box_tree.specs.declared.box_tree.BoxNode.{BoxNode}
use Rattle.lay_box_tree.specs.Containers.{box_parent}
use Rattle.lay_abspos.proofs.Cited.{length-parents}
use Rattle.lay_abspos.specs.Relative.FormerParents.{AreFormerParents, IsFormerParent}
use Rattle.lay_box_tree.specs.ContextBoxes.{AreContextBoxes}
use Rattle.lay_sizes.specs.declared.sizing.BoxSizes.{BoxSizes}
use Rattle.lay_abspos.specs.declared.relative.offset.Offset.{Offset}
use Rattle.lay_abspos.specs.Relative.MoveBounds.{AreNearMoves, IsMoveNear}
use Rattle.lay_abspos.specs.Relative.Moves.{carrier, move_at, move_of, own_offset, offset_sum}

pub read_before : (ms : List Offset) (m : Offset) (k : ℕ) → k < length ms → move_at (ms ++ m ∷ []) k ≡ move_at ms k
read_before ms m k lt = grind (arith, elements)

pub read_last : (ms : List Offset) (m : Offset) (k : ℕ) → k ≡ length ms → move_at (ms ++ m ∷ []) k ≡ m
read_last ms m k is = grind (arith, elements)

former_before : (boxes : List BoxNode) (k up : ℕ) (o : Option ℕ) → up < k → IsFormerParent boxes k o → unwrap_or o up < k
former_before boxes k up None above is = above
former_before boxes k up (Some p) above is = is.0.before

-- what a box is moved with stands before it
pub carrier_before : (boxes : List BoxNode) (formers : List (Option ℕ)) (k : ℕ) → AreContextBoxes boxes → AreFormerParents boxes formers → 0 < k → k < length boxes → carrier boxes formers k < k
carrier_before boxes formers k are of positive within =
    former_before boxes k (box_parent boxes k) _ (are.tree.before k positive (omega (arith, within, length-parents boxes))) (of.each k within)

-- by how much another box than the own one is moved
pub positive_move : (boxes : List BoxNode) (sizes : List BoxSizes) (formers : List (Option ℕ)) (ms : List Offset) (k : ℕ) → 0 < k → move_of boxes sizes formers ms k ≡ offset_sum (own_offset boxes sizes k) (move_at ms (carrier boxes formers k))
positive_move boxes sizes formers ms zero positive = absurd (omega arith)
positive_move boxes sizes formers ms (suc k) positive = refl

-- a move rests on those before it alone
pub move_before : (boxes : List BoxNode) (sizes : List BoxSizes) (formers : List (Option ℕ)) (ms ns : List Offset) (k : ℕ) → AreContextBoxes boxes → AreFormerParents boxes formers → k < length boxes
    → ((j : ℕ) → j < k → move_at ms j ≡ move_at ns j) → move_of boxes sizes formers ms k ≡ move_of boxes sizes formers ns k
move_before boxes sizes formers ms ns zero are of within same = refl
move_before boxes sizes formers ms ns (suc k) are of within same =
    ap (offset_sum (own_offset boxes sizes (suc k))) (same (carrier boxes formers (suc k)) (carrier_before boxes formers (suc k) are of (omega arith) within))

-- with one more those before n + 1 are as they have to be
pub one_more : (boxes : List BoxNode) (sizes : List BoxSizes) (formers : List (Option ℕ)) (ms : List Offset) (n : ℕ) (m : Offset) → AreContextBoxes boxes → AreFormerParents boxes formers → n < length boxes → length ms ≡ n
    → ((k : ℕ) → k < n → move_at ms k ≡ move_of boxes sizes formers ms k) → m ≡ move_of boxes sizes formers ms n
    → (k : ℕ) → k < n + 1 → move_at (ms ++ m ∷ []) k ≡ move_of boxes sizes formers (ms ++ m ∷ []) k
one_more boxes sizes formers ms n m are of within counted so_far is k lt = elim (cases_lt k n) [
  | inl low ↦ read_before ms m k (omega (arith, counted)) ∙ so_far k low
      ∙ move_before boxes sizes formers ms (ms ++ m ∷ []) k are of (omega (arith, low, within)) (λ j jl. sym (read_before ms m j (omega (arith, jl, low, counted))))
  | inr high ↦ (let q : k ≡ n = omega arith in
      rw q (read_last ms m n (sym counted) ∙ is ∙ move_before boxes sizes formers ms (ms ++ m ∷ []) n are of within (λ j jl. sym (read_before ms m j (omega (arith, jl, counted))))))
]

pub one_more_near : (ms : List Offset) (m : Offset) → AreNearMoves ms → IsMoveNear m → AreNearMoves (ms ++ m ∷ [])
one_more_near ms m are is k lt = elim (cases_lt k (length ms)) [
  | inl low ↦ rw (read_before ms m k low) (are k low)
  | inr high ↦ (let counted : length (ms ++ m ∷ []) ≡ length ms + 1 = length-append ms (m ∷ []) in rw (read_last ms m k (omega (arith, high, lt, counted))) is)
]
