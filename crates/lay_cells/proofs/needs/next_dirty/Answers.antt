use Rattle.std.proofs.Common.{below_more, ◌∙◌, map, length, arith}
use Rattle.lay_cells.specs.Rows.{row_of}
use Rattle.lay_cells.proofs.Lists.{in_bounds}
use Rattle.lay_cells.proofs.Wires.{bit_is}
use Rattle.lay_cells.proofs.needs.next_dirty.Goals as goal

pub returns-then-is_dirty : goal.returns-then-is_dirty
returns-then-is_dirty g c = record {
  before = c.loop-place.invariant;
  at = λ r at. bit_is (map row_of c.args.cells.now) c.loop-place.place c.is_dirty.result c.is_dirty.ensures r at ∙ c.if-is_dirty.true;
}

pub loop-place-preserved : goal.loop-place-preserved
loop-place-preserved g c =
    below_more _ _ c.loop-place.invariant (λ r at. bit_is (map row_of c.args.cells.now) c.loop-place.place c.is_dirty.result c.is_dirty.ensures r at ∙ c.if-is_dirty.false)

pub returns : goal.returns
returns g c = record {
  before = λ j lt r at. c.loop-place.invariant j (omega (arith, lt, c.loop-place-test.false)) r at;
  at = λ r at. let within = in_bounds row_of c.args.cells.now (length c.args.cells.now) r at in absurd (omega (arith, within));
}
