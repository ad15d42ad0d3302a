use Rattle.std.proofs.Common.{◌∙◌, ◌+◌, sym, ap, drop}
use Rattle.lay_frag.specs.Pieces.{page_pieces}
use Rattle.lay_generator.specs.Summary.{mark_from}
use Rattle.lay_generator.proofs.Steps.{drop_step}
use Rattle.lay_generator.proofs.summary.context_mark.Goals as goal

pub loop-k-preserved : goal.loop-k-preserved
loop-k-preserved c =
    let pages = page_pieces c.args.placed.now in
    let step = drop_step pages c.loop-k.k c.page_piece.result c.page_piece.ensures in
    ap (λ m. mark_from m (drop (c.loop-k.k + 1) pages)) c.piece_mark-mark.ensures ∙ (sym (ap (mark_from c.loop-k.mark) step) ∙ c.loop-k.invariant)
