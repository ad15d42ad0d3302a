use Rattle.std.proofs.Common.{List, sym, subst}
use Rattle.lay_contexts.specs.FormattingContexts.{FormattingContext}
use Rattle.lay_context.specs.Settling.{AreKnown}
use Rattle.lay_kept_cells.specs.Table.TableCells.{workings_in}
use Rattle.lay_kept_cells.proofs.table.tree.tree_of.Goals as goal

pub invariant_of-laid : goal.invariant_of-laid
invariant_of-laid c =
    let t = c.args.table.now in
    let on = c.requires.cells.1 in
    record {
      are = subst (λ (all : List FormattingContext). AreKnown all (workings_in t c.args.cells.now.rows)) (sym c.formatting_contexts.ensures.contexts)
          (c.clean_cells_are_known.ensures on.document on.face t.contexts t.formatting_contexts c.args.cells.now on.cells c.requires.clean);
    }
