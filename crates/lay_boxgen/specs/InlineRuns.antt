-- 9.2.1.1: "If a block container box has a block-level box inside it, then we force it to have only
-- block-level boxes inside it", by anonymous block boxes round what is inline. 9.2.2.1: "White space content
-- that would subsequently be collapsed away does not generate any anonymous inline boxes."
--
-- `block ("a" inline block " ")` is `block (*block ("a" inline) block)`, `*` for an anonymous box.
use Rattle.std.specs.Prelude.{Bool, ◌&&◌, ◌||◌, not, List, [], ◌∷◌, if◌then◌else◌, filter}
use Rattle.std.specs.List.{list_any}
use Rattle.lay_boxgen.specs.Boxes.{Tree, facts_of}
use Rattle.lay_boxgen.specs.BrokenInlines.{is_block_box, is_no_text_box, is_unseen}
use Rattle.lay_boxgen.specs.Forms.{is_block, is_block_container, is_text}
use Rattle.lay_boxgen.specs.Runs.{gathered, anonymous_box}
use Rattle.lay_boxgen.specs.declared.facts.Facts.{Facts}
use Rattle.lay_boxgen.specs.declared.facts.Form.TheVariants.{Block}

abbrev pub is_no_block : Facts → Bool
is_no_block f = not (is_block f)

abbrev pub is_seen_box : Tree → Bool
is_seen_box t = not (is_unseen (facts_of t))

-- What stands for a run that has no block: an anonymous block with all of it, where an inline-level box in
-- flow is seen in it. Else its floats and anchors alone, for white space is collapsed away there.
-- `block (block float " " block)` is `block (block float block)`.
abbrev pub block_round : Facts → List Tree → List Tree
block_round f run = if list_any is_seen_box run then (anonymous_box f Block run ∷ []) else filter is_no_text_box run

-- a box that among blocks is not left as it is: an inline-level box in flow, or a text
abbrev pub is_loose : Facts → Bool
is_loose f = not (is_block f) && (not (is_unseen f) || is_text f.form)

abbrev pub is_loose_box : Tree → Bool
is_loose_box t = is_loose (facts_of t)

abbrev pub run_wrapped : Facts → List Tree → List Tree
run_wrapped f children =
    if is_block_container f.form && list_any is_block_box children then gathered is_no_block (block_round f) children
    else children
