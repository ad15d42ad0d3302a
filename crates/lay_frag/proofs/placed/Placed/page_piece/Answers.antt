use Rattle.std.proofs.Common.{arith, ap}
use Rattle.lay_frag.specs.Pieces.{Context}
use Rattle.lay_frag.proofs.PieceLemmas.{own_piece, inner_piece, page_in_range}
use Rattle.lay_frag.proofs.placed.Placed.page_piece.Goals as goal

pub returns-then-k-eq0 : goal.returns-then-k-eq0
returns-then-k-eq0 c =
    let rect = ap (λ (p : Context). p.rect) c.self.view_is in
    let pieces = ap (λ (p : Context). p.pieces) c.self.view_is in
    let piece = rw (c.as_slice.ensures, c.deref.ensures, pieces, c.if-k-eq0.true) at c.piece_at-piece.ensures in
    rw (rect, c.if-k-eq0.true) (own_piece c.args.self.now c.piece_at-piece.result piece)

pub moved-requires-clause-right : goal.moved-requires-clause-right
moved-requires-clause-right c =
    let x = ap (λ (p : Context). p.rect.x.0) c.self.view_is in
    let pieces = ap (λ (p : Context). p.pieces) c.self.view_is in
    let piece = rw (c.as_slice.ensures, c.deref.ensures, pieces) at c.piece_at-piece.ensures in
    rw x (page_in_range c.args.self.now c.args.k _ c.requires.range c.requires.place (inner_piece c.args.self.now c.args.k c.piece_at-piece.result (omega (arith, c.if-k-eq0.false)) piece)).x

pub moved-requires-clause-down : goal.moved-requires-clause-down
moved-requires-clause-down c =
    let y = ap (λ (p : Context). p.rect.y.0) c.self.view_is in
    let shift = ap (λ (p : Context). p.shift.0) c.self.view_is in
    let pieces = ap (λ (p : Context). p.pieces) c.self.view_is in
    let piece = rw (c.as_slice.ensures, c.deref.ensures, pieces) at c.piece_at-piece.ensures in
    rw (c.further.ensures, y, shift) (page_in_range c.args.self.now c.args.k _ c.requires.range c.requires.place (inner_piece c.args.self.now c.args.k c.piece_at-piece.result (omega (arith, c.if-k-eq0.false)) piece)).y

pub returns : goal.returns
returns c =
    let x = ap (λ (p : Context). p.rect.x.0) c.self.view_is in
    let y = ap (λ (p : Context). p.rect.y.0) c.self.view_is in
    let shift = ap (λ (p : Context). p.shift.0) c.self.view_is in
    let pieces = ap (λ (p : Context). p.pieces) c.self.view_is in
    let piece = rw (c.as_slice.ensures, c.deref.ensures, pieces) at c.piece_at-piece.ensures in
    rw (c.moved.ensures, c.further.ensures, x, y, shift) (inner_piece c.args.self.now c.args.k c.piece_at-piece.result (omega (arith, c.if-k-eq0.false)) piece)
