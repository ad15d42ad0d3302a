-- 9.2.1.1: "When an inline box contains an in-flow block-level box, the inline box (and its inline ancestors
-- within the same line box) are broken around the block-level box (and any block-level siblings that are
-- consecutive or separated only by collapsible whitespace and/or out-of-flow elements), splitting the inline
-- box into two boxes (even if either side is empty), one on each side of the block-level box(es)."
--
-- `inline ("a" block "b")` is `inline ("a") block inline ("b")`; `inline (block " " float block)` is
-- `inline () block float block inline ()`, in which both parts are boxes of the one element. BreakLaws.antt
-- says the same without going from child to child.
use Rattle.std.specs.Prelude.{Bool, true, false, ◌&&◌, ◌||◌, not, List, [], ◌∷◌, ◌++◌, if◌then◌else◌, filter}
use Rattle.std.specs.List.{list_any}
use Rattle.lay_boxgen.specs.Boxes.{Tree, tree, trees_of, facts_of}
use Rattle.lay_boxgen.specs.Forms.{is_block, is_inline, is_text, is_blank_text, is_in_flow}
use Rattle.lay_boxgen.specs.declared.facts.Facts.{Facts}

abbrev pub is_block_box : Tree → Bool
is_block_box t = is_block (facts_of t)

-- what parts no blocks: boxes out of flow, and white space that would be collapsed away
abbrev pub is_unseen : Facts → Bool
is_unseen f = not (is_in_flow f.flow) || is_blank_text f.form

abbrev pub is_no_text_box : Tree → Bool
is_no_text_box t = not (is_text (facts_of t).form)

-- what stands for the boxes held back where a part ends: the part of the inline box with them in it, or,
-- between two blocks of one break, the boxes out of flow alone
abbrev pub part_over : Facts → Bool → List Tree → List Tree
part_over f true held = filter is_no_text_box held
part_over f false held = tree f (trees_of held) ∷ []

-- The parts of an inline box and the blocks between them, from some child on: `held` are the latest
-- children, and `after` says that these follow a block and are unseen.
abbrev pub parts_from : Facts → Bool → List Tree → List Tree → List Tree
parts_from f after held [] = part_over f false held
parts_from f after held (t ∷ ts) =
    if is_block_box t then part_over f after held ++ t ∷ [] ++ parts_from f true [] ts
    else parts_from f (after && is_unseen (facts_of t)) (held ++ t ∷ []) ts

-- what stands for a box with these children: an inline box with a block in it is broken. Children were
-- broken before, so a block has reached its outermost inline box by then.
abbrev pub broken : Facts → List Tree → List Tree
broken f children =
    if is_inline f.form && list_any is_block_box children then parts_from f false [] children
    else (tree f (trees_of children) ∷ [])
