-- The advances of the first code points of a face, as a list: those of ASCII.
use Rattle.std.specs.Prelude.{ℕ, ◌≡◌, List, length, slice_get}
use Rattle.std.specs.Option.{IfSome, unwrap_or}
use Rattle.lay_face.specs.Faces.{table_entry}

-- each of these is the advance of the code point at its place, in a face with this table and this advance of all others
abbrev pub AreEntries : List (ℕ × ℕ) → ℕ → List ℕ → Type 0
AreEntries table other entries = (c : ℕ) → IfSome (slice_get entries c) (λ e. e ≡ unwrap_or (table_entry table c) other)

-- and they are those of ASCII
pub record AreFirstEntries (table : List (ℕ × ℕ)) (other : ℕ) (entries : List ℕ) : Type 0 where
  pub are : AreEntries table other entries
  pub count : length entries ≡ 128
