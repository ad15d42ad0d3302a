-- The shifts of the first n parts.
use Rattle.std.specs.Prelude.{ℕ, ◌≡◌, ◌<◌, ℤ, List, length}
use Rattle.lay_units.specs.declared.length.Unit.{Unit}
use Rattle.lay_valign.specs.declared.parts.Part.{Part}
use Rattle.lay_valign.specs.Parts.{shift_at}
use Rattle.lay_valign.specs.Subtrees.{Subtrees}
use Rattle.lay_valign.specs.LineShape.{shift_of}

pub record AreShiftsTo (parts : List Part) (s : Subtrees) (above below : ℤ) (n : ℕ) (shifts : List Unit)
    : Type 0 where
  pub as_many : length shifts ≡ n
  pub each : (k : ℕ) → k < n → shift_at shifts k ≡ shift_of parts s above below k
