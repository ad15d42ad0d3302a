-- 17.4: a table is a wrapper box that holds the table box itself and the boxes of the captions.
use Rattle.std.specs.Prelude.{Bool, false, not, List, [], ◌∷◌, ◌++◌, if◌then◌else◌, filter}
use Rattle.lay_boxgen.specs.Boxes.{Tree, tree, trees_of, facts_of}
use Rattle.lay_boxgen.specs.Forms.{is_caption, is_table}
use Rattle.lay_boxgen.specs.declared.facts.Facts.{Facts}
use Rattle.lay_box_tree.specs.declared.box_tree.Flow.TheVariants.{InFlow}
use Rattle.lay_boxgen.specs.declared.facts.Form.TheVariants.{Table}

abbrev pub is_caption_box : Tree → Bool
is_caption_box t = is_caption (facts_of t).form

abbrev pub is_no_caption_box : Tree → Bool
is_no_caption_box t = not (is_caption_box t)

-- the facts of the table box in a wrapper: it is a block of the same node, and in flow there
abbrev pub table_facts : Facts → Facts
table_facts f = record f { form = Table; flow = InFlow; inner = false }

abbrev pub table_box : Facts → List Tree → Tree
table_box f children = tree (table_facts f) (trees_of (filter is_no_caption_box children))

-- the captions and the table box. `wrapper (row caption row)` is `wrapper (caption table (row row))`.
abbrev pub captions_and_table : Facts → List Tree → List Tree
captions_and_table f children = filter is_caption_box children ++ table_box f children ∷ []

-- the children of a box, with a table box where it is a wrapper
abbrev pub in_wrapper : Facts → List Tree → List Tree
in_wrapper f children = if is_table f.form then captions_and_table f children else children
