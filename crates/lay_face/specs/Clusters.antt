-- The widths of the grapheme clusters of a text (CSS 2.2, 16.4 and 10.8.1). A cluster is as wide as the
-- advances of its characters. Word-spacing is added at each U+0020 and U+00A0, and letter-spacing once
-- after each cluster, so a letter and its combining marks aren't parted. A linefeed ends its line and has
-- no width: CR LF, one cluster, is as wide as the CR.
use Rattle.std.specs.Prelude.{ℕ, ◌+◌, ◌==◌, ◌||◌, ◌&&◌, slice_index, ℤ, pos, ◌+ℤ◌, Bool}
use Rattle.std.specs.Prelude.{true, List, [], ◌∷◌, All, length, if◌then◌else◌, chars}
use Rattle.lay_units.specs.Units.{IsPosition, IsUsed}
use Rattle.lay_units.specs.declared.records.ClusterWidth.{ClusterWidth}
use Rattle.lay_face.specs.declared.clusters.Setting.{Setting}
use Rattle.lay_face.specs.FaceValue.{FaceValue}
use Rattle.lay_face.specs.Faces.{entry_of, thousandths_of}
use Rattle.unicode_segmentation.specs.Grapheme.{graphemes}

abbrev pub is_word_space : ℕ → Bool
is_word_space c = c == 32 || c == 160

-- the advance of a character, with word-spacing
abbrev pub char_width : FaceValue → Setting → ℕ → ℤ
char_width face s c =
    if c == 10 then pos 0
    else thousandths_of (entry_of face c) s.size.0 +ℤ (if is_word_space c then s.word.0 else pos 0)

abbrev pub chars_width : FaceValue → Setting → List ℕ → ℤ
chars_width face s [] = pos 0
chars_width face s (c ∷ cs) = char_width face s c +ℤ chars_width face s cs

abbrev pub is_linefeed_cluster : List ℕ → Bool
is_linefeed_cluster cluster = length cluster == 1 && slice_index cluster 0 == 10

-- the letter-spacing after a cluster of these bytes
abbrev pub spacing_after : Setting → List ℕ → ℤ
spacing_after s cluster = if is_linefeed_cluster cluster then pos 0 else s.letter.0

-- the width of a cluster of these bytes
abbrev pub cluster_width : FaceValue → Setting → List ℕ → ℤ
cluster_width face s cluster = chars_width face s (chars cluster) +ℤ spacing_after s cluster

-- clusters that follow one another from this byte on, each with its width
abbrev pub placed_widths : FaceValue → Setting → ℕ → List (List ℕ) → List ClusterWidth
placed_widths face s place [] = []
placed_widths face s place (g ∷ gs) =
    record { place = place; width = record { 0 = cluster_width face s g } } ∷ placed_widths face s (place + length g) gs

-- the clusters of a text, each with its width
abbrev pub widths_of : FaceValue → Setting → List ℕ → List ClusterWidth
widths_of face s text = placed_widths face s 0 (graphemes true text)

-- The lengths that a text is set in, the advances and the widths that follow are below 2^62 in absolute
-- value.
pub record TextSettingFits (face : FaceValue) (s : Setting) : Type 0 where
  pub size : IsPosition s.size.0
  pub letter : IsPosition s.letter.0
  pub word : IsPosition s.word.0
  pub advances : (c : ℕ) → IsPosition (thousandths_of (entry_of face c) s.size.0)

pub record WidthsFit (face : FaceValue) (s : Setting) (text : List ℕ) : Type 0 where
  pub setting : TextSettingFits face s
  pub widths : All (λ (w : ClusterWidth). IsPosition w.width.0) (widths_of face s text)

-- used lengths, as those of a document's styles are
pub record IsUsedSetting (s : Setting) : Type 0 where
  pub size : IsUsed s.size.0
  pub letter : IsUsed s.letter.0
  pub word : IsUsed s.word.0
