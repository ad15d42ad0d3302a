-- A column of standings that grows.
use Rattle.std.proofs.Common.{◌≡◌, ℕ, ◌+◌, ◌<◌, List, [], ◌∷◌, ◌++◌, length, length-append, sym, ◌∙◌, arith, inl, inr}
use Rattle.std.proofs.lemmas.Bool.{cases_lt}
use Rattle.std.proofs.lemmas.Grind.{elements}
use Rattle.lay_placements.specs.declared.standing.Standing.{Standing}
use Rattle.lay_placements.specs.Standings.{AreNearStandings, IsStandingNear, standing_at}

pub read_before : (ss : List Standing) (s : Standing) (k : ℕ) → k < length ss → standing_at (ss ++ s ∷ []) k ≡ standing_at ss k
read_before ss s k lt = grind (arith, elements)

pub read_last : (ss : List Standing) (s : Standing) (k : ℕ) → k ≡ length ss → standing_at (ss ++ s ∷ []) k ≡ s
read_last ss s k e = grind (arith, elements)

-- with one more those before n + 1 are as they have to be
pub one_more : (of : ℕ → Standing) (ss : List Standing) (n : ℕ) (s : Standing) → length ss ≡ n → ((k : ℕ) → k < n → standing_at ss k ≡ of k) → s ≡ of n → (k : ℕ) → k < n + 1 → standing_at (ss ++ s ∷ []) k ≡ of k
one_more of ss n s counted so_far is k lt = elim (cases_lt k n) [
  | inl low ↦ read_before ss s k (omega (arith, counted)) ∙ so_far k low
  | inr high ↦ (let q : k ≡ n = omega arith in read_last ss s k (q ∙ sym counted) ∙ rw q is)
]

pub one_more_near : (ss : List Standing) (s : Standing) → AreNearStandings ss → IsStandingNear s → AreNearStandings (ss ++ s ∷ [])
one_more_near ss s are is i lt = elim (cases_lt i (length ss)) [
  | inl low ↦ rw (read_before ss s i low) (are i low)
  | inr high ↦ (let counted : length (ss ++ s ∷ []) ≡ length ss + 1 = length-append ss (s ∷ []) in rw (read_last ss s i (omega (arith, high, lt, counted))) is)
]
