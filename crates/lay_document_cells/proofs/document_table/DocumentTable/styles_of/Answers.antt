use Rattle.std.proofs.Common.{◌≡◌, ◌∙◌, List, Bool, IfSome, ap, subst, sym}
use Rattle.std.specs.Arc.{arc_value}
use Rattle.lay_style.specs.declared.style.Style.{Style}
use Rattle.lay_style.specs.ComputedStyle.{HasStyles, style_at}
use Rattle.lay_doc.specs.Document.{Document, declarations_of, parents_of}
use Rattle.lay_history.specs.Edits.EditLists.{after_all}
use Rattle.lay_after_edits.specs.Contexts.Changed.{AreMadeAnew, AreStaying}
use Rattle.lay_document_cells.specs.Kept.{TableValue}
use Rattle.lay_document_cells.proofs.TextStyles.{texts-keep-styles}
use Rattle.lay_document_cells.proofs.document_table.DocumentTable.styles_of.Goals as goal

pub returns-then-are_texts-clause-styles : goal.returns-then-are_texts-clause-styles
returns-then-are_texts-clause-styles c =
    let was = c.args.doc.now in
    let now = arc_value c.in_ok-styles.styles in
    let same : c.args.self.now.styles ≡ now = sym (ap (λ (t : TableValue). t.styles) c.self.view_is) ∙ sym c.in_ok-styles.ensures.cases in
    let kept = subst (λ (styles : List Style). HasStyles (parents_of was.nodes) (declarations_of was.nodes) styles) same c.requires.styles in
    subst (λ (d : Document). HasStyles (parents_of d.nodes) (declarations_of d.nodes) now) (sym c.requires.later)
    (texts-keep-styles was c.args.edits.now now (c.are_texts.ensures c.if-are_texts.true) kept)

pub returns-then-are_texts-clause-made : goal.returns-then-are_texts-clause-made
returns-then-are_texts-clause-made c =
    let was = c.args.doc.now in
    let now = arc_value c.in_ok-styles.styles in
    let flags = c.in-Some.changed.items in
    let same : c.args.self.now.styles ≡ now = sym (ap (λ (t : TableValue). t.styles) c.self.view_is) ∙ sym c.in_ok-styles.ensures.cases in
    record {
      nodes = subst (λ (d : Document). AreStaying was.nodes d.nodes flags) (sym c.requires.later)
          (subst (λ o. IfSome o (λ v. AreStaying was.nodes (after_all was c.args.edits.now).nodes v.items)) c.in-Some.is (c.in_ok-changed.ensures {u = tt}));
      styles = λ k lt is_not. ap (λ (styles : List Style). style_at styles k) (sym same);
    }

pub restyled_nodes-requires-clause-stays : goal.restyled_nodes-requires-clause-stays
restyled_nodes-requires-clause-stays c =
    let was = c.args.doc.now in
    subst (λ (flags : List Bool). AreStaying was.nodes c.args.later.now.nodes flags) (sym c.deref-2.ensures.value)
    (subst (λ (d : Document). AreStaying was.nodes d.nodes c.in-Some.changed.items) (sym c.requires.later)
    (subst (λ o. IfSome o (λ v. AreStaying was.nodes (after_all was c.args.edits.now).nodes v.items)) c.in-Some.is (c.in_ok-changed.ensures {u = tt})))
