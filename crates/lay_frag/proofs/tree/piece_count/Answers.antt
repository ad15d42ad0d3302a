use Rattle.std.proofs.Common.{◌+◌, arith, length, Some, ap, sym, ◌∙◌, drop, length-append}
use Rattle.std.proofs.lemmas.Option.{slice_get-get_or}
use Rattle.lay_frag.specs.Pieces.{page_pieces, frags_of}
use Rattle.lay_frag.proofs.PieceLemmas.{frags-drop, length-page_pieces}
use Rattle.lay_frag.proofs.tree.piece_count.Goals as goal

pub loop-placed-preserved : goal.loop-placed-preserved
loop-placed-preserved c =
    let here = slice_get-get_or c.args.contexts.now c.loop-placed.placed-index c.placed-item.result c.loop-placed-test.true ∙ ap Some (sym c.placed-item.is) in
    let parts = ap length (frags-drop c.args.contexts.now c.loop-placed.placed-index c.placed-item.result here) in
    let both = length-append (page_pieces c.placed-item.result) (frags_of (drop (c.loop-placed.placed-index + 1) c.args.contexts.now)) in
    omega (arith, c.loop-placed.invariant, parts, both, length-page_pieces c.placed-item.result, ap length c.pieces.ensures)

pub overflow_add-count : goal.overflow_add-count
overflow_add-count c =
    let here = slice_get-get_or c.args.contexts.now c.loop-placed.placed-index c.placed-item.result c.loop-placed-test.true ∙ ap Some (sym c.placed-item.is) in
    let parts = ap length (frags-drop c.args.contexts.now c.loop-placed.placed-index c.placed-item.result here) in
    let both = length-append (page_pieces c.placed-item.result) (frags_of (drop (c.loop-placed.placed-index + 1) c.args.contexts.now)) in
    omega (arith, c.loop-placed.invariant, parts, both, length-page_pieces c.placed-item.result, ap length c.pieces.ensures)
