-- 17.2.1, the first stage: irrelevant boxes are removed. What goes are children of columns, children of
-- column groups that aren't columns, and white space in and between table boxes.
use Rattle.std.specs.Prelude.{Bool, true, false, ◌&&◌, ◌||◌, List, [], ◌∷◌, ◌++◌, if◌then◌else◌, filter, Option, None, Some}
use Rattle.lay_boxgen.specs.Boxes.{Tree, facts_of}
use Rattle.lay_boxgen.specs.Forms.{is_column, is_column_group, is_table_part}
use Rattle.lay_boxgen.specs.Forms.{is_tabular_container, is_proper_table_descendant, is_in_flow}
use Rattle.lay_boxgen.specs.Runs.{is_white_box}
use Rattle.lay_boxgen.specs.declared.facts.Facts.{Facts}
use Rattle.lay_boxgen.specs.declared.facts.Form.{Form}

-- "All child boxes of a table-column parent are treated as if they had display: none."
-- `column (cell text)` is `column ()`.
abbrev pub column_children : List Tree → List Tree
column_children children = []

abbrev pub is_column_box : Tree → Bool
is_column_box t = is_column (facts_of t).form

-- "If a child C of a table-column-group parent is not a table-column box, then it is treated as if it had
-- display: none." `column-group (column " " block column)` is `column-group (column column)`.
abbrev pub column_group_children : List Tree → List Tree
column_group_children children = filter is_column_box children

-- a neighbour, if there is one, that is a caption or an internal table box and a proper table descendant of
-- the container
abbrev pub is_descendant_or_none : Form → Option Facts → Bool
is_descendant_or_none container None = true
is_descendant_or_none container (Some f) = is_in_flow f.flow && is_proper_table_descendant container f.form

-- "If a child C of a tabular container P is an anonymous inline box that contains only white space, and its
-- immediately preceding and following sibling boxes, if any, are proper table descendants of P and are either
-- table-caption or internal table boxes, then it is treated as if it had display: none."
-- `row (" " cell " " cell " ")` is `row (cell cell)`; `row (cell " " block)` stays.
abbrev pub is_irrelevant_in_container : Form → Option Facts → Option Facts → Bool
is_irrelevant_in_container parent before after =
    is_tabular_container parent && is_descendant_or_none parent before && is_descendant_or_none parent after

-- a neighbour that is a caption or an internal table box
abbrev pub is_table_part_there : Option Facts → Bool
is_table_part_there None = false
is_table_part_there (Some f) = is_in_flow f.flow && is_table_part f.form

-- "If a box B is an anonymous inline containing only white space, and is between two immediate siblings each
-- of which is either an internal table box or a table-caption box then B is treated as if it had
-- display: none." `block (cell " " cell " " inline)` is `block (cell cell " " inline)`.
abbrev pub is_irrelevant_between : Option Facts → Option Facts → Bool
is_irrelevant_between before after = is_table_part_there before && is_table_part_there after

abbrev pub is_table_part_box : Tree → Bool
is_table_part_box t = is_table_part (facts_of t).form

-- white space that is irrelevant in such a parent, between these neighbours
abbrev pub is_irrelevant : Form → Option Facts → Option Facts → Bool
is_irrelevant parent before after = is_irrelevant_in_container parent before after || is_irrelevant_between before after

abbrev pub kept_gap : Form → Option Facts → List Tree → Option Facts → List Tree
kept_gap parent before gap after = if is_irrelevant parent before after then [] else gap

-- The children from some child on that are kept: `before` is the last sibling before them that is no white
-- space, and `gap` the white space since. Texts of white space that stand together are one anonymous inline.
abbrev pub kept_from : Form → Option Facts → List Tree → List Tree → List Tree
kept_from parent before gap [] = kept_gap parent before gap None
kept_from parent before gap (t ∷ ts) =
    if is_white_box t then kept_from parent before (gap ++ t ∷ []) ts
    else kept_gap parent before gap (Some (facts_of t)) ++ t ∷ [] ++ kept_from parent (Some (facts_of t)) [] ts

abbrev pub without_white_space : Form → List Tree → List Tree
without_white_space parent children = kept_from parent None [] children

-- the children of a box that aren't irrelevant
abbrev pub relevant : Facts → List Tree → List Tree
relevant f children =
    if is_column f.form then column_children children
    else (if is_column_group f.form then column_group_children children
    else without_white_space f.form children)
