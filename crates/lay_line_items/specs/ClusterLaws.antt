-- Where the grapheme clusters of a text begin (CSS 2.2, 16.4): each at a character, and no earlier than the one before it.
use Rattle.std.specs.Prelude.{ℕ, List}
use Rattle.std.specs.Str.{IsUtf8}
use Rattle.lay_face.specs.declared.clusters.Setting.{Setting}
use Rattle.lay_face.specs.FaceValue.{FaceValue}
use Rattle.lay_face.specs.Clusters.{widths_of}
use Rattle.lay_space.specs.SegmentLaws.{StandOnBoundaries}

abbrev pub ClustersBeginAtCharacters : Type 0
ClustersBeginAtCharacters = (face : FaceValue) (s : Setting) (text : List ℕ) → IsUtf8 text → StandOnBoundaries text (widths_of face s text)
