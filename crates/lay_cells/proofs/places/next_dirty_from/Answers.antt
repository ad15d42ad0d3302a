use Rattle.std.proofs.Common.{◌≡◌, ◌∙◌, ⊎_elim, ap, arith, map, slice_get, sym}
use Rattle.std.proofs.lemmas.Bool.{cases_lt}
use Rattle.lay_cells.specs.Rows.{row_of}
use Rattle.lay_cells.proofs.Lists.{in_bounds}
use Rattle.lay_cells.proofs.Wires.{bit_is}
use Rattle.lay_cells.proofs.places.next_dirty_from.Goals as goal

pub loop-at-preserved : goal.loop-at-preserved
loop-at-preserved g c j from lt r at =
    let rows = map row_of c.args.cells.now in
    ⊎_elim
    (λ low. c.loop-at.invariant j from low r at)
    (λ high. let e : j ≡ c.loop-at.at = omega (arith, lt, high) in
    bit_is rows c.loop-at.at c.is_dirty.result c.is_dirty.ensures r (ap (slice_get rows) (sym e) ∙ at) ∙ c.if-is_dirty.false)
    (cases_lt j c.loop-at.at)

pub returns-clause-none : goal.returns-clause-none
returns-clause-none g c j from r at =
    let within = in_bounds row_of c.args.cells.now j r at in c.loop-at.invariant j from (omega (arith, within, c.loop-at-test.false)) r at
