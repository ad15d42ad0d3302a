use Rattle.std.proofs.Common.{◌∙◌, map, [], arith, sym, refl}
use Rattle.std.proofs.lemmas.List.{length-map}
use Rattle.lay_placements.specs.InnerPieces.{pieces_or_none}
use Rattle.lay_cell_work.proofs.Cited.{one_more_at, same_lists as equal_lists}
use Rattle.lay_cell_work.proofs.same_input.shared_pieces.same_lists.Goals as goal

pub loop-k-init : goal.loop-k-init
loop-k-init c = λ m lt. absurd (omega (arith, lt))

pub loop-k-preserved : goal.loop-k-preserved
loop-k-preserved c =
    let xs = map pieces_or_none c.args.a.now in
    let ys = map pieces_or_none c.args.b.now in
    let left = length-map c.args.a.now pieces_or_none in
    let right = length-map c.args.b.now pieces_or_none in
    one_more_at xs ys c.loop-k.k [] c.loop-k.invariant (omega (arith, left, c.loop-k-test.true)) (omega (arith, right, c.loop-k-test.true, c.if-a-b.false))
    (sym c.pieces_at.ensures ∙ c.same_pieces.ensures.0 c.if-not-same_pieces.false ∙ c.pieces_at-in-loop-k.ensures)

pub returns : goal.returns
returns c =
    let xs = map pieces_or_none c.args.a.now in
    let ys = map pieces_or_none c.args.b.now in
    let left = length-map c.args.a.now pieces_or_none in
    let right = length-map c.args.b.now pieces_or_none in
    (λ t. equal_lists xs ys (omega (arith, left, right, c.if-a-b.false)) (λ k lt. c.loop-k.invariant k (omega (arith, left, lt, c.loop-k-test.false))), λ e. refl)
