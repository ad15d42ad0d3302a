-- A tree lists of the formatting contexts of each context the first one.
use Rattle.std.proofs.Common.{length, arith, ap, ◌∙◌}
use Rattle.lay_context.specs.Solves.{page_contexts}
use Rattle.lay_document_cells.specs.TreeLengths.{TreesListContexts}
use Rattle.lay_document_cells.proofs.Cited.{listed_to}

pub trees_list_contexts_lem : TreesListContexts
trees_list_contexts_lem contexts all w tree contexts_are are assembled =
    ap length assembled.tree_is
    ∙ ap (λ n. length (page_contexts all w assembled.corners n)) are.count
    ∙ listed_to contexts all are w assembled.corners (length contexts) (omega arith) contexts_are
