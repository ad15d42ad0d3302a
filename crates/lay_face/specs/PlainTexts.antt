-- Texts of ASCII without CR: each byte is a character and a grapheme cluster of its own (CR LF would be
-- one cluster of two). What the code knows of such a text is said here in bytes.
use Rattle.std.specs.Prelude.{ℕ, ◌==◌, ◌+◌, ℤ, pos, neg_ℤ, ◌+ℤ◌, ◌≤ℤ◌, ◌<◌, ◌≢◌, List, [], ◌∷◌, if◌then◌else◌}
use Rattle.lay_units.specs.declared.records.ClusterWidth.{ClusterWidth}
use Rattle.lay_face.specs.declared.clusters.Setting.{Setting}
use Rattle.lay_face.specs.FaceValue.{FaceValue}
use Rattle.lay_face.specs.Clusters.{char_width}

abbrev pub IsPlain : List ℕ → Type 0
IsPlain [] = Unit {0}
IsPlain (b ∷ bs) = (b < 128) × (b ≢ 13) × IsPlain bs

-- the width of a cluster of one byte
abbrev pub plain_width_of : FaceValue → Setting → ℕ → ℤ
plain_width_of face s b = if b == 10 then pos 0 else char_width face s b +ℤ s.letter.0

-- at most 2^36 from 0, as the width of a character of ASCII is where it is set in used lengths
abbrev pub IsNear : ℤ → Type 0
IsNear v = (neg_ℤ (pos 68719476736) ≤ℤ v) × (v ≤ℤ pos 68719476736)

-- the widths of a plain text from a byte on
abbrev pub plain_widths : FaceValue → Setting → ℕ → List ℕ → List ClusterWidth
plain_widths face s k [] = []
plain_widths face s k (b ∷ bs) = record { place = k; width = record { 0 = plain_width_of face s b } } ∷ plain_widths face s (k + 1) bs
