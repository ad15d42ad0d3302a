use Rattle.std.proofs.Common.{◌∙◌, ◌++◌, ◌+◌, List, ap, pos, sym, drop, append_assoc}
use Rattle.std.proofs.lemmas.List.{drop_more}
use Rattle.lay_grid.specs.declared.automatic.bounds.GroupSpan.{GroupSpan}
use Rattle.lay_grid.specs.declared.automatic.bounds.SpanCell.{SpanCell}
use Rattle.lay_grid.specs.Automatic.Bounds.{minimum_spans}
use Rattle.lay_grid.proofs.automatic.bounds.minimums.Goals as goal

abbrev none : SpanCell
none = record { column = 0; span = 0; min = record { 0 = pos 0 }; max = record { 0 = pos 0 } }

pub loop-cell-preserved : goal.loop-cell-preserved
loop-cell-preserved c =
    let d = ap minimum_spans (drop_more c.args.cells.now c.loop-cell.cell-index none c.loop-cell-test.true) in
    let rest = minimum_spans (drop (c.loop-cell.cell-index + 1) c.args.cells.now) in
    ap (λ (xs : List GroupSpan). xs ++ rest) (c.in_ok-push.ensures {u = tt}).items ∙ append_assoc c.loop-cell.spans.items _ rest
    ∙ ap (λ (xs : List GroupSpan). c.loop-cell.spans.items ++ xs) (sym d) ∙ c.loop-cell.invariant
