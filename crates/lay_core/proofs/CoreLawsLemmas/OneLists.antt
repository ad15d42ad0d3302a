-- A document has one list of contexts and one of formatting contexts.
use Rattle.std.proofs.Common.{◌≡◌, length, ◌∙◌}
use Rattle.lay_doc.specs.Document.{Document, IsDocument, declarations_of, parents_of}
use Rattle.lay_doc.specs.Laws.{OneStyleColumn}
use Rattle.lay_core.proofs.Cited.{are_contexts, contexts_are_of_own_nodes_lem, length-parents}
use Rattle.lay_contexts.specs.Contexts.{AreContexts}
use Rattle.lay_contexts.specs.FormattingLaws.{OneFormattingContextList}
use Rattle.lay_contexts.specs.Laws.{OneContextList}
use Rattle.lay_shape.specs.Touched.ContextFlags.{ContextLists}
use Rattle.lay_shape.specs.Keys.{AreOfOwnNodes}
use Rattle.lay_document_cells.specs.State.{AreListsOf}

module _ (d : Document) (lists : ContextLists) (is : IsDocument d) (are : AreListsOf d lists) where
  pub counted : length are.0 ≡ length d.nodes
  counted = are.1.has_styles.length_is ∙ length-parents d.nodes

  pub in_order : AreContexts lists.contexts
  in_order = are_contexts d are.0 lists.contexts is counted are.1.are_contexts

  pub apart : AreOfOwnNodes lists.contexts
  apart = contexts_are_of_own_nodes_lem d are.0 lists.contexts is counted are.1.are_contexts

module _ (one_style_column : OneStyleColumn) (one_context_list : OneContextList) (one_formatting_context_list : OneFormattingContextList) where
  pub one_lists : (d : Document) (x y : ContextLists) → IsDocument d → AreListsOf d x → AreListsOf d y → x ≡ y
  one_lists d x y is a b =
      let styles : a.0 ≡ b.0 = one_style_column (parents_of d.nodes) (declarations_of d.nodes) a.0 b.0 is.tree a.1.has_styles b.1.has_styles in
      let contexts : x.contexts ≡ y.contexts =
      one_context_list d a.0 x.contexts y.contexts is (counted d x is a) a.1.are_contexts (rw styles b.1.are_contexts) in
      let all : x.formatting_contexts ≡ y.formatting_contexts =
      one_formatting_context_list x.contexts x.formatting_contexts y.formatting_contexts (in_order d x is a) a.1.are_formatting_contexts
      (rw contexts b.1.are_formatting_contexts) in
      (λ i. record { contexts = contexts i; formatting_contexts = all i })
