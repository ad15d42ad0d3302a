use Rattle.lay_document_cells.proofs.KnownSteps.{finish_known}
use Rattle.lay_document_cells.proofs.KeptSteps.{finish_kept, finished_to}
use Rattle.lay_document_cells.proofs.document_cells.DocumentCells.finish_known.Goals as goal

pub invariant_of-self : goal.invariant_of-self
invariant_of-self c = record {
  kept = finish_kept c.self.inside.doc c.self.inside.face.value c.self.inside.cells c.self.inside.laid c.self.inside.medium c.self.inside.table c.self.invariant.kept
      c.finishes_keep_cells.ensures c.finishes_count.ensures c.finishes_keep_rows.ensures c.args.done c.finish_known-answer.result c.finish_known-answer.new.self
      c.finish_known-answer.ensures c.sound.ensures;
  known = finish_known c.self.inside.medium c.self.inside.table.lists.contexts c.self.inside.cells c.finish_known-answer.new.self c.self.inside.since c.self.invariant.known
      c.finishes_keep_since.ensures c.args.done c.finish_known-answer.result c.finish_known-answer.ensures;
}

pub returns : goal.returns
returns c =
    finished_to c.self.inside.doc c.self.inside.face.value c.self.inside.cells c.self.inside.laid c.args.self.now c.self.view_is c.args.done c.finish_known-answer.result
    c.finish_known-answer.new.self c.finish_known-answer.ensures c.value-value.ensures.meets
