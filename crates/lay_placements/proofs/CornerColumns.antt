-- A column of corners that grows.
use Rattle.std.proofs.Common.{◌≡◌, ℕ, ◌+◌, ◌<◌, List, [], ◌∷◌, ◌++◌, length, length-append, sym, ◌∙◌, arith, inl, inr}
use Rattle.std.proofs.lemmas.Bool.{cases_lt}
use Rattle.std.proofs.lemmas.Grind.{elements}
use Rattle.lay_placements.specs.declared.corner.Corner.{Corner}
use Rattle.lay_placements.specs.Corners.{AreNearCorners, IsCornerNear, corner_at}

pub read_before : (cs : List Corner) (c : Corner) (k : ℕ) → k < length cs → corner_at (cs ++ c ∷ []) k ≡ corner_at cs k
read_before cs c k lt = grind (arith, elements)

pub read_last : (cs : List Corner) (c : Corner) (k : ℕ) → k ≡ length cs → corner_at (cs ++ c ∷ []) k ≡ c
read_last cs c k e = grind (arith, elements)

-- with one more the corners before n + 1 are as they have to be
pub one_more : (of : ℕ → Corner) (cs : List Corner) (n : ℕ) (c : Corner) → length cs ≡ n → ((k : ℕ) → k < n → corner_at cs k ≡ of k) → c ≡ of n → (k : ℕ) → k < n + 1 → corner_at (cs ++ c ∷ []) k ≡ of k
one_more of cs n c counted so_far is k lt = elim (cases_lt k n) [
  | inl low ↦ read_before cs c k (omega (arith, counted)) ∙ so_far k low
  | inr high ↦ (let q : k ≡ n = omega arith in read_last cs c k (q ∙ sym counted) ∙ rw q is)
]

pub one_more_near : (cs : List Corner) (c : Corner) → AreNearCorners cs → IsCornerNear c → AreNearCorners (cs ++ c ∷ [])
one_more_near cs c are is i lt = elim (cases_lt i (length cs)) [
  | inl low ↦ rw (read_before cs c i low) (are i low)
  | inr high ↦ (let counted : length (cs ++ c ∷ []) ≡ length cs + 1 = length-append cs (c ∷ []) in rw (read_last cs c i (omega (arith, high, lt, counted))) is)
]
