use Rattle.std.proofs.Common.{arith, refl}
use Rattle.lay_hit.proofs.Cited.{inner_piece, page_in_range}
use Rattle.lay_hit.proofs.point.holds_at.Goals as goal

pub is_in_moved-requires : goal.is_in_moved-requires
is_in_moved-requires c =
    let piece = rw c.requires.moved.pieces at c.piece_at.ensures in
    rw (c.requires.moved.down, c.requires.moved.right) (record { range = page_in_range c.args.placed.now c.args.k _ c.requires.range c.requires.place (inner_piece c.args.placed.now c.args.k c.piece_at.result.now (omega (arith, c.if-k-eq0.false)) piece) })

pub returns : goal.returns
returns c =
    let piece = rw c.requires.moved.pieces at c.piece_at.ensures in
    let is = inner_piece c.args.placed.now c.args.k c.piece_at.result.now (omega (arith, c.if-k-eq0.false)) piece in
    rw is (rw (c.is_in_moved.ensures, c.requires.moved.down, c.requires.moved.right) refl)
