use Rattle.std.proofs.Common.{List, ℕ, ◌+◌, subst, sym, ap, ◌∙◌}
use Rattle.lay_grid.specs.declared.cells.Cell.{Cell}
use Rattle.lay_grid.specs.Pass.Known.{Known}
use Rattle.lay_grid.specs.Places.{areas_of}
use Rattle.lay_grid.proofs.Standing.{known_more, Fits, areas_more}
use Rattle.lay_grid.proofs.placing.place_cell.Goals as goal

pub returns-clause-known : goal.returns-clause-known
returns-clause-known c =
    let f = c.free_left-left.ensures in
    let o = c.in_ok-occupy.ensures in
    let push = c.in_ok-push.ensures {u = tt} in
    let old = c.as_slice.ensures.value in
    let fits : Fits c.as_slice.result.now c.args.area c.args.next c.free_left-left.result = record { from = f.from; free = f.free; least = f.least } in
    let fits2 = subst (λ (b : List ℕ). Fits b c.args.area c.args.next c.free_left-left.result) old fits in
    subst (λ (cells : List Cell). Known cells c.occupy.new.busy.items c.args.area.row (c.free_left-left.result + c.args.area.columns)) (sym push.items)
    (known_more c.args.cells.now.items c.args.busy.now.items c.occupy.new.busy.items c.args.area c.args.next c.free_left-left.result c.requires.known
    c.requires.covers fits2 o)

pub returns-clause-areas : goal.returns-clause-areas
returns-clause-areas c =
    let push = c.in_ok-push.ensures {u = tt} in
    ap areas_of push.items ∙ areas_more c.args.cells.now.items _
