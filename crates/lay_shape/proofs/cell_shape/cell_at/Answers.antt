use Rattle.std.proofs.Common.{List, slice_index_or, subst}
use Rattle.std.proofs.lemmas.Option.{slice_get-get_or}
use Rattle.lay_cells.specs.Shapes.{IsIn}
use Rattle.lay_context.specs.declared.task.Phase.TheVariants.{Measure}
use Rattle.lay_shape.specs.declared.context_phase.ContextPhase.{ContextPhase}
use Rattle.lay_shape.proofs.CellOrder.{cell_within}
use Rattle.lay_shape.proofs.cell_shape.cell_at.Goals as goal

pub returns-clause-within : goal.returns-clause-within
returns-clause-within c =
    let cells : List ContextPhase = c.args.cells.now in
    let none : ContextPhase = record { context = 0; phase = Measure } in
    let at = slice_get-get_or cells c.args.k none c.requires.within in
    cell_within c.args.contexts.now c.len.ensures.are (slice_index_or cells c.args.k none)
    (subst (λ (l : List ContextPhase). IsIn l (slice_index_or cells c.args.k none)) c.requires.cells (c.args.k, at))
