-- A text that stands alone in the lines of its container, where white space collapses and wraps (CSS 2.2, 16.6 and 16.6.1). A
-- collapsible space is removed where a line begins, a line may break behind each collapsible space and each zero width space,
-- and has to behind a preserved linefeed. Nothing else of such a text is where a line breaks.
use Rattle.std.specs.Prelude.{ℕ, nat_lt, Bool, true, false, ◌&&◌, not, List, [], ◌∷◌, if◌then◌else◌}
use Rattle.lay_units.specs.declared.records.ClusterWidth.{ClusterWidth}
use Rattle.lay_space.specs.declared.tokens.ClusterKind.{ClusterKind}
use Rattle.lay_space.specs.declared.tokens.ClusterKind.TheVariants.{CollapsibleSpace, PreservedSpace, Linefeed, Tab, ZeroWidthSpace, Other}
use Rattle.lay_space.specs.Segments.{is_boundary}
use Rattle.lay_lines.specs.declared.content.content.Part.{Part}
use Rattle.lay_lines.specs.declared.content.content.Part.TheVariants as part
use Rattle.lay_lines.specs.declared.content.content.Stretch.{Stretch}
use Rattle.lay_line_measures.specs.declared.text_parts.TextBox.{TextBox}
use Rattle.lay_line_measures.specs.TextParts.{advance, parts_between}

-- whether it is removed where a line begins
abbrev pub is_space : ClusterKind → Bool
is_space CollapsibleSpace = true
is_space PreservedSpace = false
is_space Linefeed = false
is_space Tab = false
is_space ZeroWidthSpace = false
is_space Other = false

-- whether a line may break behind it, or has to
abbrev pub breaks : ClusterKind → Bool
breaks CollapsibleSpace = true
breaks PreservedSpace = false
breaks Linefeed = true
breaks Tab = false
breaks ZeroWidthSpace = true
breaks Other = false

-- the text can be cut at both places, of which the second isn't before the first
abbrev pub cuts : List ℕ → ℕ → ℕ → Bool
cuts text from to = not (nat_lt to from) && is_boundary text from && is_boundary text to

-- The cluster of a text of the box t that ends at `to`, cut out of it. Where it can't be cut out, it is as wide, but none of its
-- characters is told.
abbrev pub cut_parts : TextBox → List ℕ → ClusterWidth → ℕ → List Part
cut_parts t text w to = if cuts text w.place to then parts_between t text w to else part.Text (advance t.node w.width) ∷ []

-- no float stands in a text
abbrev pub text_stretch : List Part → Bool → Stretch
text_stretch parts forced = record { heads = []; parts = parts; floats = []; forced = forced }

-- what stands behind the last break is a stretch where it is anything
abbrev pub last_stretch : List Part → List Stretch
last_stretch [] = []
last_stretch (p ∷ ps) = text_stretch (p ∷ ps) false ∷ []
