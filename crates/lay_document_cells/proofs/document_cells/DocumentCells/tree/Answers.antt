use Rattle.std.proofs.Common.{subst, sym, ◌∙◌}
use Rattle.lay_cells.specs.Reads.{AllClean}
use Rattle.lay_contexts.specs.Contexts.{AreContexts}
use Rattle.lay_document_cells.specs.State.{State}
use Rattle.lay_document_cells.proofs.Answered.{cells_on, counted, ok_then, solved}
use Rattle.lay_document_cells.proofs.document_cells.DocumentCells.tree.Goals as goal

pub tree_of-requires-clause-cells : goal.tree_of-requires-clause-cells
tree_of-requires-clause-cells c =
    (c.self.inside.medium, cells_on c.self.inside.doc c.self.inside.face.value c.self.inside.cells c.self.inside.laid c.self.inside.medium c.self.inside.table c.self.invariant.kept c.cells-2.result.now c.cells-2.ensures.contexts c.cells-2.ensures.formatting)

pub tree_of-requires-clause-clean : goal.tree_of-requires-clause-clean
tree_of-requires-clause-clean c = subst (λ (s : State). AllClean s.cells.rows) (sym c.self.view_is) c.requires

pub returns-clause-solves : goal.returns-clause-solves
returns-clause-solves c =
    ok_then c.tree_of.result _ _ c.tree_of.ensures
    (λ tree assembled. solved c.self.inside.doc c.self.inside.face.value c.self.inside.cells c.self.inside.laid c.self.inside.medium c.self.inside.table c.self.invariant.kept c.args.self.now c.self.view_is c.requires
    c.cells-2.result.now c.cells-2.ensures.contexts c.cells-2.ensures.formatting tree assembled c.assembled_trees_solve.ensures)

pub returns-clause-counted : goal.returns-clause-counted
returns-clause-counted c =
    ok_then c.tree_of.result _ _ c.tree_of.ensures
    (λ tree assembled. counted c.self.inside.doc c.self.inside.face.value c.self.inside.cells c.self.inside.laid c.self.inside.medium c.self.inside.table c.self.invariant.kept c.args.self.now c.self.view_is c.requires
    c.cells-2.result.now c.cells-2.ensures.contexts c.cells-2.ensures.formatting tree assembled c.trees_list_contexts.ensures
    c.clean_cells_are_counted.ensures
    (subst AreContexts (c.contexts.ensures ∙ c.cells.ensures.contexts ∙ sym c.cells-2.ensures.contexts) c.len.ensures.are))
