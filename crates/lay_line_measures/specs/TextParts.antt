-- Texts in lines (CSS 2.2, 16.6 and 16.6.1): each grapheme cluster that has a width of its own is a part of its line, and so
-- are those of a word, which have one together. A collapsible space goes at the
-- start and the end of a line, and a space of `pre-wrap` at the end doesn't count for what fits; one of `pre` counts as
-- any character. A preserved tab reaches to the next tab stop. A preserved linefeed ends the line; of CR LF, a cluster,
-- the CR is a character before it.
use Rattle.std.specs.Prelude.{ℕ, ◌+◌, ◌==◌, Bool, List, [], ◌∷◌, ◌++◌, if◌then◌else◌}
use Rattle.lay_units.specs.declared.length.Unit.{Unit as Length}
use Rattle.lay_units.specs.declared.records.ClusterWidth.{ClusterWidth}
use Rattle.lay_space.specs.declared.tokens.ClusterKind.{ClusterKind}
use Rattle.lay_space.specs.declared.tokens.ClusterKind.TheVariants.{CollapsibleSpace, PreservedSpace, Linefeed, Tab, ZeroWidthSpace, Other}
use Rattle.lay_space.specs.Modes.{wraps}
use Rattle.lay_space.specs.Tokens.{kind_of, next_place}
use Rattle.lay_lines.specs.declared.content.content.Advance.{Advance}
use Rattle.lay_lines.specs.declared.content.content.Part.{Part}
use Rattle.lay_lines.specs.declared.content.content.Part.TheVariants as part
use Rattle.lay_line_measures.specs.declared.text_parts.TextBox.{TextBox}

-- text of the box of this number
abbrev pub advance : ℕ → Length → Advance
advance node width = record { text = node; width = width }

abbrev pub linefeed_parts : Bool → Advance → List Part
linefeed_parts lone a = if lone then part.Linefeed ∷ [] else part.Text a ∷ part.Linefeed ∷ []

-- A cluster of this kind and width of a text of the box t, as parts. `lone` says that it is one byte.
abbrev pub cluster_parts : TextBox → ClusterKind → Bool → Length → List Part
cluster_parts t CollapsibleSpace lone width = part.Space (advance t.node width) ∷ []
cluster_parts t PreservedSpace lone width =
    if wraps t.mode then part.PreservedSpace (advance t.node width) ∷ [] else part.Text (advance t.node width) ∷ []
cluster_parts t Linefeed lone width = linefeed_parts lone (advance t.node width)
cluster_parts t Tab lone width = part.Tab t.node ∷ []
cluster_parts t ZeroWidthSpace lone width = part.Text (advance t.node width) ∷ []
cluster_parts t Other lone width = part.Text (advance t.node width) ∷ []

-- the cluster of a text that begins at this place, where the next one begins at `to`
abbrev pub parts_between : TextBox → List ℕ → ClusterWidth → ℕ → List Part
parts_between t text w to = cluster_parts t (kind_of t.mode text w.place to) (to == w.place + 1) w.width

-- the clusters of a text
abbrev pub text_parts : TextBox → List ℕ → List ClusterWidth → List Part
text_parts t text [] = []
text_parts t text (w ∷ ws) = parts_between t text w (next_place text ws) ++ text_parts t text ws
