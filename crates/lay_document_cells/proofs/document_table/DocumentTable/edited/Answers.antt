use Rattle.std.proofs.Common.{IfSome, subst, sym}
use Rattle.std.proofs.lemmas.Result.{IfOk-weaker}
use Rattle.lay_after_edits.specs.Styles.WrittenOver.{AreSameOutside}
use Rattle.lay_document_cells.proofs.document_table.DocumentTable.edited.Goals as goal

pub returns-in-Some-clause-part : goal.returns-in-Some-clause-part
returns-in-Some-clause-part c =
    IfOk-weaker c.edited_nodes.result _ _ (λ t none. subst (λ o. IfSome o (AreSameOutside c.args.self.now.styles t.table.styles)) (sym none) tt) c.edited_nodes.ensures.part
