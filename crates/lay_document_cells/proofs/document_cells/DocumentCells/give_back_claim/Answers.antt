use Rattle.lay_document_cells.proofs.KnownSteps.{back_known}
use Rattle.lay_document_cells.proofs.KeptSteps.{give_back_kept, given_back_to}
use Rattle.lay_document_cells.proofs.document_cells.DocumentCells.give_back_claim.Goals as goal

pub invariant_of-self : goal.invariant_of-self
invariant_of-self c = record {
  kept = give_back_kept c.self.inside.doc c.self.inside.face.value c.self.inside.cells c.self.inside.laid c.self.inside.medium c.self.inside.table c.self.invariant.kept
      c.give_backs_keep_cells.ensures c.give_backs_count.ensures c.give_backs_keep_rows.ensures c.args.key c.args.number c.give_back-answer.result
      c.give_back-answer.new.self c.give_back-answer.ensures c.sound.ensures;
  known = back_known c.self.inside.medium c.self.inside.table.lists.contexts c.self.inside.cells c.give_back-answer.new.self c.self.inside.since c.self.invariant.known
      c.give_backs_keep_since.ensures c.args.key c.args.number c.give_back-answer.result c.give_back-answer.ensures;
}

pub returns : goal.returns
returns c =
    given_back_to c.self.inside.doc c.self.inside.face.value c.self.inside.cells c.self.inside.laid c.args.self.now c.self.view_is c.args.key c.args.number
    c.give_back-answer.result c.give_back-answer.new.self c.give_back-answer.ensures
