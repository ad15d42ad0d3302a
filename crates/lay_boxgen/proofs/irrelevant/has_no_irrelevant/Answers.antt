use Rattle.std.proofs.Common.{rules, ◌≡◌, false}
use Rattle.std.specs.List.{list_any}
use Rattle.lay_boxgen.specs.Irrelevant.{is_table_part_box}
use Rattle.lay_boxgen.specs.Runs.{is_white_box}
use Rattle.lay_boxgen.proofs.Kept.{isnt, no_part_kept, no_white_kept}
use Rattle.lay_boxgen.proofs.irrelevant.has_no_irrelevant.Goals as goal

pub returns-then-not-has_white : goal.returns-then-not-has_white
returns-then-not-has_white c h =
    let none : list_any is_white_box c.args.children.now ≡ false = search rules in
    no_white_kept c.args.parent c.args.children.now none

pub returns-then-not-is_tabular_container : goal.returns-then-not-is_tabular_container
returns-then-not-is_tabular_container c h =
    let part = isnt c.has_table_part.result h in
    let none : list_any is_table_part_box c.args.children.now ≡ false = search rules in
    no_part_kept c.args.parent c.args.children.now (search rules) none
