use Rattle.std.proofs.Common.{refl, arith}
use Rattle.lay_placement.proofs.CornerColumns.{none_kept}
use Rattle.lay_placement.proofs.corners.corners_of.Goals as goal

pub returns-then-not-has_atomics : goal.returns-then-not-has_atomics
returns-then-not-has_atomics c = rw c.new.ensures.items (record {
  each = λ k lt. none_kept c.args.input.now c.args.places.now c.args.on_lines.now k c.requires.on_lines (c.if-not-has_atomics.ensures refl);
  near = λ k lt. absurd (omega (arith, lt));
})
