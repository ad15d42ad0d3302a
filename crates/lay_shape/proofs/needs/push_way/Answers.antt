use Rattle.std.proofs.Common.{arith}
use Rattle.lay_shape.proofs.needs.push_way.Goals as goal

pub push_on_way-requires : goal.push_on_way-requires
push_on_way-requires c =
    let within = (c.in_ok-way.ensures {u = tt}).within c.loop-place.place c.index.result.now (omega (arith, c.loop-place-test.true, c.len-place-end.ensures, c.in_ok-way.way.ok)) in
    let is = c.index.ensures in
    omega (arith, within, is)
