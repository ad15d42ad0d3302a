-- How far subtrees reach, and how far a line does, after the first n parts.
use Rattle.std.specs.Prelude.{ℕ, ◌≡◌, ◌<◌, ℤ, ◌≤ℤ◌, ◌⊎◌, List, [], ◌∷◌, ◌++◌, length, slice_index}
use Rattle.std.specs.Prelude.{slice_set, All}
use Rattle.std.specs.Int.{int_max}
use Rattle.lay_units.specs.Units.{IsWithinPower}
use Rattle.lay_valign.specs.declared.parts.LineEdge.{LineEdge}
use Rattle.lay_valign.specs.declared.parts.Part.{Part}
use Rattle.lay_valign.specs.Parts.{at}
use Rattle.lay_valign.specs.LineShape.{IsAligned}

-- v is the greatest value of the first n places whose root is this one
pub record IsGreatestTo (roots : List ℕ) (value : ℕ → ℤ) (n root : ℕ) (v : ℤ) : Type 0 where
  pub one_of : (k : ℕ) × (k < n) × (slice_index roots k ≡ root) × (value k ≡ v)
  pub most : (k : ℕ) → k < n → slice_index roots k ≡ root → value k ≤ℤ v

pub record ReachesTo (roots : List ℕ) (value : ℕ → ℤ) (n : ℕ) (reaches : List ℤ) : Type 0 where
  pub as_many : length reaches ≡ n
  pub each : (root : ℕ) → root < n → slice_index roots root ≡ root
      → IsGreatestTo roots value n root (at reaches root)
  pub fits : All (IsWithinPower 64) reaches

-- one more value stands at the end, and that of its root is no less
abbrev pub widened : List ℤ → ℕ → ℤ → List ℤ
widened reaches root v =
    slice_set (reaches ++ v ∷ []) root (int_max (at (reaches ++ v ∷ []) root) v)

-- v is the least number that is at least `floor` and at least the value of each such place before n
pub record IsRaisedTo (edge : LineEdge) (parts : List Part) (value : ℕ → ℤ) (floor : ℤ) (n : ℕ)
    (v : ℤ) : Type 0 where
  pub from : floor ≤ℤ v
  pub most : (k : ℕ) → k < n → IsAligned edge parts k → value k ≤ℤ v
  pub least : (floor ≡ v) ⊎ ((k : ℕ) × IsAligned edge parts k × (value k ≡ v))
