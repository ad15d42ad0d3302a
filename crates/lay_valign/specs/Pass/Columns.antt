-- The roots and the rises of the first n parts, and bounds of sums of lengths.
use Rattle.std.specs.Prelude.{ℕ, ◌≡◌, ◌*◌, ◌<◌, ◌≤◌, ℤ, pos, neg_ℤ, ◌≤ℤ◌, List, length}
use Rattle.std.specs.Prelude.{slice_index, All}
use Rattle.lay_units.specs.Units.{IsWithinPower}
use Rattle.lay_valign.specs.declared.parts.Part.{Part}
use Rattle.lay_valign.specs.Parts.{at}
use Rattle.lay_valign.specs.Subtrees.{Subtrees, AreSubtrees, root_of, rise_of}

-- the rise of a part with so many before it
abbrev pub IsRise : ℕ → ℤ → Type 0
IsRise k v =
    (neg_ℤ (pos (2147483648 * k)) ≤ℤ v) × (v ≤ℤ pos (2147483648 * k))

pub record RootsTo (parts : List Part) (n : ℕ) (roots : List ℕ) : Type 0 where
  pub as_many : length roots ≡ n
  pub each : (k : ℕ) → k < n → slice_index roots k ≡ root_of parts roots k

pub record RisesTo (parts : List Part) (n : ℕ) (rises : List ℤ) : Type 0 where
  pub as_many : length rises ≡ n
  pub each : (k : ℕ) → k < n → at rises k ≡ rise_of parts rises k
  pub fits : (k : ℕ) → k < n → IsRise k (at rises k)

-- a root stands no later than the parts of its subtree
abbrev pub StandFirst : List ℕ → Type 0
StandFirst roots = (k : ℕ) → k < length roots → slice_index roots k ≤ k

-- the subtrees of a line, and bounds
pub record SubtreesFit (parts : List Part) (s : Subtrees) : Type 0 where
  pub are_subtrees : AreSubtrees parts s
  pub first : StandFirst s.roots
  pub rises : All (IsWithinPower 63) s.rises
  pub as_many_aboves : length s.aboves ≡ length parts
  pub as_many_belows : length s.belows ≡ length parts
  pub aboves : All (IsWithinPower 64) s.aboves
  pub belows : All (IsWithinPower 64) s.belows
