-- An edit leaves one state.
use Rattle.std.proofs.Common.{◌≡◌, ℕ, ◌≤◌, List, [], length, map, refl, arith, ap, sym, subst, ◌∙◌}
use Rattle.lay_document_cells.proofs.Cited.{are_contexts, few_contexts, length-parents}
use Rattle.lay_contexts.specs.FormattingLaws.{OneFormattingContextList}
use Rattle.lay_contexts.specs.Laws.{OneContextList}
use Rattle.lay_doc.specs.declared.edit.Edit.{Edit}
use Rattle.lay_doc.specs.Document.{Document, IsDocument, declarations_of, parents_of}
use Rattle.lay_history.specs.Edits.EditLists.{after_all}
use Rattle.lay_doc.specs.Laws.{OneStyleColumn}
use Rattle.lay_style.specs.declared.style.Style.{Style}
use Rattle.lay_cells.specs.Laws.{OneMarking, OneReshape}
use Rattle.lay_cells.specs.Rows.{entry_of}
use Rattle.lay_cells.specs.Shapes.{IsShape}
use Rattle.lay_shape.specs.Laws.{CellsHaveAShape, ContextsAreOfOwnNodes}
use Rattle.lay_shape.specs.Shapes.{shape_of}
use Rattle.lay_shape.specs.declared.cell_key.CellKey.{CellKey}
use Rattle.lay_cell_work.specs.CellInputs.{CellInput}
use Rattle.lay_cell_work.specs.CellValues.{CellValue}
use Rattle.lay_cell_work.specs.CellLaws.SoundCells.{CellRow, CellState}
use Rattle.lay_shape.specs.Touched.ContextFlags.{ContextLists}
use Rattle.lay_shape.specs.Touched.Laws.{OneListOfTouchedKeys}
use Rattle.lay_document_cells.specs.Edits.{CellsEditTo, FollowsLists}
use Rattle.lay_document_cells.specs.Laws.{OneEdit}
use Rattle.lay_document_cells.specs.State.{AreListsOf, IsOfDocument, State}

module _ (one_style_column : OneStyleColumn) (one_context_list : OneContextList) (one_formatting_context_list : OneFormattingContextList) where
  pub one_lists : (d : Document) (x y : ContextLists) → IsDocument d → AreListsOf d x → AreListsOf d y → x ≡ y
  one_lists d x y is a b =
      let styles : a.0 ≡ b.0 = one_style_column (parents_of d.nodes) (declarations_of d.nodes) a.0 b.0 is.tree a.1.has_styles b.1.has_styles in
      let counted = a.1.has_styles.length_is ∙ length-parents d.nodes in
      let contexts : x.contexts ≡ y.contexts =
      one_context_list d a.0 x.contexts y.contexts is counted a.1.are_contexts (rw styles b.1.are_contexts) in
      let are = are_contexts d a.0 x.contexts is counted a.1.are_contexts in
      let all : x.formatting_contexts ≡ y.formatting_contexts =
      one_formatting_context_list x.contexts x.formatting_contexts y.formatting_contexts are a.1.are_formatting_contexts
      (rw contexts b.1.are_formatting_contexts) in
      (λ i. record { contexts = contexts i; formatting_contexts = all i })

module _ (have_a_shape : CellsHaveAShape) (own : ContextsAreOfOwnNodes) where
  pub lists_shape : (d : Document) (x : ContextLists) → IsDocument d → AreListsOf d x → IsShape (shape_of x.contexts)
  lists_shape d x is a =
      let counted = a.1.has_styles.length_is ∙ length-parents d.nodes in
      let few = few_contexts d.nodes a.0 a.1.are_contexts.spots a.1.are_contexts.are in
      have_a_shape x.contexts (are_contexts d a.0 x.contexts is counted a.1.are_contexts)
      (omega (arith, few, a.1.are_contexts.numbered.count, is.few))
      (own d a.0 x.contexts is counted a.1.are_contexts)

module _ (one_keys : OneListOfTouchedKeys) (one_reshape : OneReshape CellKey CellInput CellValue) (one_marking : OneMarking CellKey CellInput CellValue) where
  one_following : (before later : ContextLists) (s t u : CellState) → IsShape (map entry_of s.rows) → IsShape (shape_of later.contexts)
      → FollowsLists before later s t → FollowsLists before later s u → t ≡ u
  one_following before later s t u was shape a b =
      let keys = one_keys before.contexts later.contexts before.formatting_contexts later.formatting_contexts a.keys b.keys a.touched b.touched in
      let shaped : a.shaped ≡ b.shaped = one_reshape s a.shaped b.shaped (shape_of later.contexts) [] was shape a.reshapes b.reshapes in
      let rows : t.rows ≡ u.rows = one_marking a.shaped.rows t.rows u.rows a.keys a.marks (rw (keys, shaped) b.marks) in
      let draws : t.draws ≡ u.draws = a.draws ∙ ap (λ (x : CellState). x.draws) shaped ∙ sym b.draws in
      (λ i. record { rows = rows i; draws = draws i })

  pub one_edit_lem : OneStyleColumn → OneContextList → OneFormattingContextList → CellsHaveAShape → ContextsAreOfOwnNodes → OneEdit
  one_edit_lem columns one_contexts one_all have own s t u edits of is a b =
      let was : AreListsOf s.document of.lists = (
        of.cells.styles,
        record {
          has_styles = of.cells.has_styles;
          are_contexts = of.cells.are_contexts;
          are_formatting_contexts = of.cells.are_formatting_contexts;
        },
      ) in
      let before : a.before ≡ b.before = one_lists columns one_contexts one_all s.document a.before b.before of.cells.is_document a.before_are b.before_are in
      let later : a.later ≡ b.later = one_lists columns one_contexts one_all (after_all s.document edits) a.later b.later is a.later_are b.later_are in
      let cells : a.cells ≡ b.cells = one_following a.before a.later s.cells a.cells b.cells of.cells.cells.sound.shaped
      (lists_shape have own (after_all s.document edits) a.later is a.later_are) a.follows (rw (before, later) b.follows) in
      a.state ∙ ap (λ (c : CellState). record s { document = after_all s.document edits; cells = c }) cells ∙ sym b.state
