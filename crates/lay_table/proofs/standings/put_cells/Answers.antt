use Rattle.std.proofs.Common.{◌≡◌, length, ◌∙◌, arith}
use Rattle.std.proofs.lemmas.List.{length-map}
use Rattle.lay_table_grid.specs.declared.grid.TableCell.{TableCell}
use Rattle.lay_table.specs.TableStandings.{cell_places, cell_standing}
use Rattle.lay_table.proofs.StandingSteps.{one_more}
use Rattle.lay_table.proofs.standings.put_cells.Goals as goal

pub loop-c-preserved : goal.loop-c-preserved
loop-c-preserved c =
    let put = c.put.ensures in
    let inv = c.loop-c.invariant in
    let stands = (c.in_ok-standing.ensures {u = tt}).standing in
    let place = c.cell_place.ensures.place in
    record {
      count = put.count ∙ inv.count;
      each = λ k less. (let old = inv.each k less in
          let e = put.each k (omega (arith, less, inv.count)) in
          let f = rw (place, old) at e in
          f ∙ one_more (cell_places c.args.input.now) (cell_standing c.args.input.now c.args.places.now) k c.loop-c.c _ _ stands);
      near = put.near;
    }

pub returns-clause-each : goal.returns-clause-each
returns-clause-each c =
    let mapped = length-map c.args.input.now.table.grid.cells (λ (cell : TableCell). cell.place) in
    let cells = c.cells-c-end.ensures.value in
    let grid = c.grid.ensures in
    let end = rw (cells, grid) at c.loop-c.auto.c-end in
    let past = rw (cells, grid) at c.loop-c-test.false in
    let all : length (cell_places c.args.input.now) ≡ c.loop-c.c = omega (arith, mapped, end, past) in
    λ k less. rw all (c.loop-c.invariant.each k less)
