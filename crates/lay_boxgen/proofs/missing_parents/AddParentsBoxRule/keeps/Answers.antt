use Rattle.std.proofs.Common.{rules, ◌≡◌, false, ap, ◌∙◌}
use Rattle.std.specs.List.{list_any}
use Rattle.lay_boxgen.specs.MissingParents.{cells_in_rows, is_cell_in_flow, is_misparented, parented, row_of_cells, table_round}
use Rattle.lay_boxgen.specs.Runs.{gathered, is_faulty_box}
use Rattle.lay_boxgen.proofs.Kept.{in_box_kept, isnt, none_gathered}
use Rattle.lay_boxgen.proofs.missing_parents.AddParentsBoxRule.keeps.Goals as goal
use Rattle.lay_boxgen.proofs.missing_parents.AddParentsBoxRule.keeps.Goals.{then-is_row, else-is_row}

pub returns-then-not-has_faulty : goal.returns-then-not-has_faulty
returns-then-not-has_faulty c h =
    let f = c.args.facts in
    let ts = c.args.children.now in
    let fine : list_any (is_faulty_box (is_misparented f.form)) ts ≡ false = (let e = isnt c.has_faulty-then-not-has_faulty.result h in search rules) in
    let rows : cells_in_rows f ts ≡ ts = elim c.if-is_row.branch [
      | then-is_row w ↦ search rules
      | else-is_row w ↦ (
          let none : list_any (is_faulty_box is_cell_in_flow) ts ≡ false = search rules in
          let same : gathered is_cell_in_flow (row_of_cells f) ts ≡ ts = none_gathered is_cell_in_flow (row_of_cells f) ts none in
          search rules)
    ] in
    in_box_kept parented f ts (ap (gathered (is_misparented f.form) (table_round f)) rows ∙ none_gathered (is_misparented f.form) (table_round f) ts fine)
