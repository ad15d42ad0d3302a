use Rattle.std.proofs.Common.{◌∙◌, List, slice_get, ap, sym}
use Rattle.std.proofs.lemmas.Option.{slice_get-get_or}
use Rattle.lay_shape.specs.declared.context_phase.ContextPhase.{ContextPhase}
use Rattle.lay_kept_cells.proofs.table.cell_places.cell_in.Goals as goal

pub returns-clause-within : goal.returns-clause-within
returns-clause-within c =
    c.cells_are_of_contexts.ensures c.args.contexts.now _ c.len.ensures.are
    (c.args.k, ap (λ (xs : List ContextPhase). slice_get xs c.args.k) (sym c.requires.cells) ∙ slice_get-get_or c.args.cells.now c.args.k _ c.requires.within)
