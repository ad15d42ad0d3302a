use Rattle.std.proofs.Common.{◌≡◌, ℕ, Option, None, pos, get_or, length, List, arith, sym, subst}
use Rattle.lay_units.specs.declared.length.Unit.{Unit}
use Rattle.lay_grid.specs.Pass.Baselines.{BaselinesTo}
use Rattle.lay_grid.specs.Pass.Needs.{AllNeedsTo}
use Rattle.lay_grid.specs.declared.heights.RowCell.{RowCell}
use Rattle.lay_grid.proofs.LeastRooms.{no_needs, needs_more, is_need}
use Rattle.lay_grid.proofs.needs.needs_by_last_row.Goals as goal

pub loop-cell-init : goal.loop-cell-init
loop-cell-init c = no_needs _ _ _ c.in_ok-needs.ensures

pub loop-cell-preserved : goal.loop-cell-preserved
loop-cell-preserved c =
    let d : RowCell = record { row = 0; span = 0; height = record { 0 = pos 0 }; baseline = None } in
    let f = c.requires c.loop-cell.cell-index d c.loop-cell-test.true in
    let some = f.some in let inside = f.inside in
    let n = c.need_of.ensures in
    let b = subst (λ (xs : List (Option Unit)). BaselinesTo c.args.cells.now (length c.args.cells.now) c.args.rows xs) (sym c.as_slice.ensures.value)
    c.in_ok-baselines.ensures.found in
    let a = c.in_ok-add_need.ensures {u = tt} in
    let r = n.row in let s = n.span in
    needs_more _ _ _ _ c.need_of.result _ _ c.loop-cell-test.true (omega arith)
    (is_need _ _ _ (get_or c.as_slice.result.now (get_or c.args.cells.now c.loop-cell.cell-index d).row None) _ c.loop-cell-test.true
    (b.each _ (omega arith)) n.row n.span n.room n.within)
    a c.loop-cell.invariant

pub returns : goal.returns
returns c =
    let all : c.loop-cell.cell-index ≡ length c.args.cells.now = omega arith in
    subst (λ (n : ℕ). AllNeedsTo c.args.cells.now n c.args.rows c.loop-cell.needs.items) all c.loop-cell.invariant
