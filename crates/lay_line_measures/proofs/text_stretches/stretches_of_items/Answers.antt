use Rattle.std.proofs.Common.{◌∙◌}
use Rattle.lay_line_measures.proofs.TextStretches.{one_text}
use Rattle.lay_line_measures.proofs.text_stretches.stretches_of_items.Goals as goal

pub returns : goal.returns
returns c =
    c.in_ok-stretches.ensures c.args.measures.now c.args.container
    ∙ rw (c.as_str.ensures, c.as_slice.ensures) (one_text c.args.measures.now c.args.container c.args.items.now _ _ c.if-items-eq1.true c.index-items-0.is c.in-Text.is)
