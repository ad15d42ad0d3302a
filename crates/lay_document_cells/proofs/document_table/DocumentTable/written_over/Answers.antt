use Rattle.std.proofs.Common.{◌≡◌, ◌∙◌, List, subst, sym}
use Rattle.std.specs.Arc.{arc_value}
use Rattle.lay_style.specs.declared.style.Style.{Style}
use Rattle.lay_style.specs.ComputedStyle.{HasStyles}
use Rattle.lay_doc.specs.Document.{declarations_of, parents_of}
use Rattle.lay_after_edits.specs.Styles.WrittenOver.{AreSameOutside}
use Rattle.lay_document_cells.proofs.document_table.DocumentTable.written_over.Goals as goal

pub write_over-part-requires-clause-styles : goal.write_over-part-requires-clause-styles
write_over-part-requires-clause-styles c =
    subst (λ (styles : List Style). HasStyles (parents_of c.args.doc.now.nodes) (declarations_of c.args.doc.now.nodes) styles) (sym (c.in_ok-styles.ensures {u = tt}).styles) c.requires.styles

pub returns-clause-styles : goal.returns-clause-styles
returns-clause-styles c =
    let nodes = c.args.later.now.nodes in
    let is : arc_value c.in_ok-shared.shared ≡ c.write_over-part.new.styles.items = c.in_ok-shared.ensures.ok ∙ c.new.ensures in
    subst (λ (styles : List Style). HasStyles (parents_of nodes) (declarations_of nodes) styles) (sym is) c.write_over-part.ensures.styles

pub returns-clause-part : goal.returns-clause-part
returns-clause-part c =
    let is : arc_value c.in_ok-shared.shared ≡ c.write_over-part.new.styles.items = c.in_ok-shared.ensures.ok ∙ c.new.ensures in
    let part = c.write_over-part.result in
    subst (λ (was : List Style). AreSameOutside was (arc_value c.in_ok-shared.shared) part) (c.in_ok-styles.ensures {u = tt}).styles
    (subst (λ (styles : List Style). AreSameOutside c.in_ok-styles.styles.items styles part) (sym is) c.write_over-part.ensures.same)
