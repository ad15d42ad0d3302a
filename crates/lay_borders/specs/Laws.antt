-- The rules of a conflict put all borders in one order (CSS 2.2, 17.6.2.1), and so each edge has
-- one winner.
use Rattle.std.specs.Prelude.{◌≡◌, ◌⊎◌, List, Option}
use Rattle.lay_borders.specs.declared.candidate.Cand.{Cand}
use Rattle.lay_borders.specs.Edges.{AreResolved}
use Rattle.lay_borders.specs.Winner.{Beats, IsWinner}

-- a total order: none beats itself, beating goes on, and of two that differ one beats the other
pub record IsStrictTotalOrder (R : Cand → Cand → Type 0) : Type 0 where
  pub not_itself : (a : Cand) → R a a → ⊥
  pub goes_on : (a b c : Cand) → R a b → R b c → R a c
  pub one_of_two : (a b : Cand) → (a ≡ b) ⊎ (R a b ⊎ R b a)

abbrev pub BordersAreOrdered : Type 0
BordersAreOrdered = IsStrictTotalOrder Beats

abbrev pub OneWinner : Type 0
OneWinner = (borders : List Cand) (v w : Cand) → IsWinner borders v → IsWinner borders w → v ≡ w

abbrev pub OneBorderEach : Type 0
OneBorderEach = (meeting : List (List Cand)) (xs ys : List (Option Cand))
    → AreResolved meeting xs → AreResolved meeting ys → xs ≡ ys
