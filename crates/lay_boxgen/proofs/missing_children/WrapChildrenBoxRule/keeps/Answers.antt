use Rattle.std.proofs.Common.{rules, ◌≡◌, false}
use Rattle.std.specs.List.{list_any}
use Rattle.lay_boxgen.specs.MissingChildren.{cell_round, child_wrapped, is_no_cell, is_no_proper_table_child, is_no_row, row_round}
use Rattle.lay_boxgen.specs.Runs.{gathered, is_faulty_box}
use Rattle.lay_boxgen.proofs.Kept.{in_box_kept, isnt, none_gathered}
use Rattle.lay_boxgen.proofs.missing_children.WrapChildrenBoxRule.keeps.Goals as goal

pub returns-then-is_table : goal.returns-then-is_table
returns-then-is_table c h =
    let f = c.args.facts in
    let ts = c.args.children.now in
    let none : list_any (is_faulty_box is_no_proper_table_child) ts ≡ false = (let e = isnt c.has_faulty.result h in search rules) in
    let same : gathered is_no_proper_table_child (row_round f) ts ≡ ts = none_gathered is_no_proper_table_child (row_round f) ts none in
    in_box_kept child_wrapped f ts (search rules)

pub returns-then-is_row_group : goal.returns-then-is_row_group
returns-then-is_row_group c h =
    let f = c.args.facts in
    let ts = c.args.children.now in
    let none : list_any (is_faulty_box is_no_row) ts ≡ false = (let e = isnt c.has_faulty-then-is_row_group.result h in search rules) in
    let same : gathered is_no_row (row_round f) ts ≡ ts = none_gathered is_no_row (row_round f) ts none in
    in_box_kept child_wrapped f ts (search rules)

pub returns-else-not-is_row : goal.returns-else-not-is_row
returns-else-not-is_row c h =
    let f = c.args.facts in
    let ts = c.args.children.now in
    let none : list_any (is_faulty_box is_no_cell) ts ≡ false = (let e = isnt c.has_faulty-else-not-is_row.result h in search rules) in
    let same : gathered is_no_cell (cell_round f) ts ≡ ts = none_gathered is_no_cell (cell_round f) ts none in
    in_box_kept child_wrapped f ts (search rules)
