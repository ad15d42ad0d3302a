use Rattle.std.proofs.Common.{refl}
use Rattle.lay_abspos.proofs.RelativeLemmas.NoMoves.{none_moved}
use Rattle.lay_abspos.proofs.relative.moves.relative_moves.Goals as goal

pub returns-then-not-has_relative : goal.returns-then-not-has_relative
returns-then-not-has_relative c =
    rw (c.none.ensures, c.as_slice.ensures.boxes) (none_moved c.args.boxes.now c.args.sizes.now c.as_slice.ensures.are (c.if-not-has_relative.ensures refl))
