use Rattle.std.proofs.Common.{◌≡◌, ◌∙◌, List, ap, subst, sym}
use Rattle.std.specs.Arc.{arc_value}
use Rattle.lay_style.specs.declared.style.Style.{Style}
use Rattle.lay_style.specs.ComputedStyle.{HasStyles}
use Rattle.lay_doc.specs.Document.{Document, declarations_of, parents_of}
use Rattle.lay_doc.specs.Edits.{after}
use Rattle.lay_document_cells.specs.Kept.{TableValue}
use Rattle.lay_document_cells.proofs.TextStyles.{none_written_over, texts-have-no-styles}
use Rattle.lay_document_cells.proofs.document_table.DocumentTable.styles_after.Goals as goal

pub returns-in_ok-styles-in-SetText-clause-styles : goal.returns-in_ok-styles-in-SetText-clause-styles
returns-in_ok-styles-in-SetText-clause-styles c =
    let was = c.args.doc.now in
    let now = arc_value c.in_ok-styles-in-SetText.styles in
    let same : c.args.self.now.styles ≡ now = sym (ap (λ (t : TableValue). t.styles) c.self.view_is) ∙ sym c.in_ok-styles-in-SetText.ensures.cases in
    let kept = subst (λ (styles : List Style). HasStyles (parents_of was.nodes) (declarations_of was.nodes) styles) same c.requires.styles in
    subst (λ (d : Document). HasStyles (parents_of d.nodes) (declarations_of d.nodes) now)
    (sym (c.requires.later ∙ ap (after was) c.in-SetText.is)) (texts-have-no-styles was c.in-SetText.node c.in-SetText.text now kept)

pub returns-in_ok-styles-in-SetText-clause-part : goal.returns-in_ok-styles-in-SetText-clause-part
returns-in_ok-styles-in-SetText-clause-part c =
    let now = arc_value c.in_ok-styles-in-SetText.styles in
    let same : now ≡ c.args.self.now.styles = c.in_ok-styles-in-SetText.ensures.cases ∙ ap (λ (t : TableValue). t.styles) c.self.view_is in
    none_written_over c.args.self.now.styles now same
