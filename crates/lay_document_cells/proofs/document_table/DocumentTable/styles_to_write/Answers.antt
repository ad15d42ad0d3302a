use Rattle.std.proofs.Common.{◌≡◌, ◌∙◌, IfSome, ap, subst, sym}
use Rattle.std.specs.Arc.{arc_value}
use Rattle.lay_document_cells.specs.Kept.{TableValue}
use Rattle.lay_document_cells.proofs.document_table.DocumentTable.styles_to_write.Goals as goal

pub returns-in-Some-clause-styles : goal.returns-in-Some-clause-styles
returns-in-Some-clause-styles c =
    subst (λ o. IfSome o (λ s. s.items ≡ arc_value c.self.inside.styles)) (sym c.take.ensures.value ∙ c.in-Some.is) c.self.invariant.1
    ∙ ap (λ (t : TableValue). t.styles) c.self.view_is
