-- The clusters of a text, gathered: those that are nothing but text to a line, a space, a tab, a linefeed and U+200B being
-- more, have one width together where they follow one another, since no line breaks between them (CSS 2.2, 16.6). So a
-- text has a width for each word and each space.
use Rattle.std.specs.Prelude.{ℕ, ◌^◌, nat_lt, ℤ, pos, negsuc, ◌+ℤ◌, Bool, true, false, ◌&&◌, List}
use Rattle.std.specs.Prelude.{[], ◌∷◌, ◌++◌, Option, Some, None, option_to_list, if◌then◌else◌}
use Rattle.lay_units.specs.declared.records.ClusterWidth.{ClusterWidth}
use Rattle.lay_space.specs.declared.item.Mode.TheVariants.{Pre}
use Rattle.lay_space.specs.declared.tokens.ClusterKind.{ClusterKind}
use Rattle.lay_space.specs.declared.tokens.ClusterKind.TheVariants.{CollapsibleSpace, PreservedSpace, Linefeed, Tab, ZeroWidthSpace, Other}
use Rattle.lay_space.specs.Tokens.{kind_of, next_place}

abbrev pub is_more : ClusterKind → Bool
is_more CollapsibleSpace = true
is_more PreservedSpace = true
is_more Linefeed = true
is_more Tab = true
is_more ZeroWidthSpace = true
is_more Other = false

-- the cluster between two places is more than text, where nothing collapses
abbrev pub stands_alone : List ℕ → ℕ → ℕ → Bool
stands_alone text from to = is_more (kind_of Pre text from to)

-- Widths so far from 0 that none of a document is are not added up.
abbrev pub is_small : ℤ → Bool
is_small (pos n) = nat_lt n (2 ^ 61)
is_small (negsuc n) = nat_lt n (2 ^ 61)

-- a cluster goes on what stands before it, if there is anything
abbrev pub joins_cluster : Option ClusterWidth → ClusterWidth → Bool
joins_cluster None w = true
joins_cluster (Some v) w = is_small v.width.0 && is_small w.width.0

abbrev pub with_cluster : Option ClusterWidth → ClusterWidth → ClusterWidth
with_cluster None w = w
with_cluster (Some v) w = record { place = v.place; width = record { 0 = v.width.0 +ℤ w.width.0 } }

-- clusters behind others of the text that are gathered so far
abbrev pub gathered_after : List ℕ → Option ClusterWidth → List ClusterWidth → List ClusterWidth
gathered_after text before [] = option_to_list before
gathered_after text before (w ∷ ws) =
    if stands_alone text w.place (next_place text ws) then option_to_list before ++ w ∷ gathered_after text None ws
    else (if joins_cluster before w then gathered_after text (Some (with_cluster before w)) ws
    else option_to_list before ++ gathered_after text (Some w) ws)

-- the clusters of a text
abbrev pub gathered : List ℕ → List ClusterWidth → List ClusterWidth
gathered text widths = gathered_after text None widths
