use Rattle.std.proofs.Common.{◌+◌, ◌-◌, arith, length, Some, ap, sym, ◌∙◌, drop, slice_get}
use Rattle.std.proofs.lemmas.Option.{slice_get-get_or}
use Rattle.lay_frag.specs.Pieces.{page_pieces, frags_of}
use Rattle.lay_frag.proofs.PieceLemmas.{frags-drop, length-page_pieces, slice_get-append_left, slice_get-append_right}
use Rattle.lay_frag.proofs.tree.frag_at.Goals as goal

pub returns-then-left-count : goal.returns-then-left-count
returns-then-left-count c =
    let here = slice_get-get_or c.args.contexts.now c.loop-placed.placed-index c.placed-item.result c.loop-placed-test.true ∙ ap Some (sym c.placed-item.is) in
    let rest = frags_of (drop (c.loop-placed.placed-index + 1) c.args.contexts.now) in
    sym c.page_piece.ensures ∙ sym (slice_get-append_left (page_pieces c.placed-item.result) rest c.loop-placed.left (omega (arith, c.if-left-count.true, length-page_pieces c.placed-item.result, ap length c.pieces-count.ensures)))
    ∙ ap (λ fs. slice_get fs c.loop-placed.left) (sym (frags-drop c.args.contexts.now c.loop-placed.placed-index c.placed-item.result here)) ∙ c.loop-placed.invariant

pub loop-placed-preserved : goal.loop-placed-preserved
loop-placed-preserved c =
    let here = slice_get-get_or c.args.contexts.now c.loop-placed.placed-index c.placed-item.result c.loop-placed-test.true ∙ ap Some (sym c.placed-item.is) in
    let rest = frags_of (drop (c.loop-placed.placed-index + 1) c.args.contexts.now) in
    let size = length-page_pieces c.placed-item.result ∙ sym (ap length c.pieces-count.ensures) in
    let behind = slice_get-append_right (page_pieces c.placed-item.result) rest c.loop-placed.left (omega (arith, size, c.if-left-count.false)) in
    ap (λ n. slice_get rest (c.loop-placed.left - n)) (sym size) ∙ sym behind
    ∙ ap (λ fs. slice_get fs c.loop-placed.left) (sym (frags-drop c.args.contexts.now c.loop-placed.placed-index c.placed-item.result here)) ∙ c.loop-placed.invariant
