-- Cells that follow contexts from one document to another: those that are clean after that, or have a claim that isn't stale, were carried
-- over from untouched contexts, and so were those that they depend on, which keep the same values.
use Rattle.std.proofs.Common.{◌≡◌, ◌⊎◌, ⊎_elim, inl, inr, ◌<◌, ℕ, false, List, [], length, map, slice_get, Some, ap, sym, subst, ◌∙◌}
use Rattle.std.specs.Prelude.{◌↔◌}
use Rattle.std.proofs.lemmas.Bool.{false≢true}
use Rattle.lay_style.specs.declared.style.Style.{Style}
use Rattle.lay_style.specs.ComputedStyle.{HasStyles}
use Rattle.lay_doc.specs.declared.node.NodeId.{NodeId}
use Rattle.lay_doc.specs.Document.{Document, IsDocument, declarations_of, parents_of}
use Rattle.lay_kept_cells.proofs.Cited.{are_contexts, contexts_are_of_own_nodes_lem, in_map, length-parents}
use Rattle.lay_face.specs.FaceValue.{FaceValue}
use Rattle.lay_cells.specs.Looks.{AreClean, IsClean}
use Rattle.lay_cells.specs.Marks.{Reached, listed}
use Rattle.lay_cells.specs.Rows.{entry_of}
use Rattle.lay_cells.specs.Shapes.{IsIn}
use Rattle.lay_cells.specs.Sound.{IsSound}
use Rattle.lay_cells.specs.Steps.{HasKept, IsStale}
use Rattle.lay_contexts.specs.Contexts.{AreContexts, Context}
use Rattle.lay_contexts.specs.ContextList.{AreContextsOf}
use Rattle.lay_contexts.specs.FormattingContexts.{FormattingContext}
use Rattle.lay_contexts.specs.FormattingContextList.{AreFormattingContextsOf}
use Rattle.lay_context.specs.declared.task.Phase.{Phase}
use Rattle.lay_context.specs.Medium.{Medium}
use Rattle.lay_context.specs.Solves.{medium_of}
use Rattle.lay_shape.specs.declared.cell_key.CellKey.{CellKey}
use Rattle.lay_shape.specs.Dependencies.{in_phase, needs_in}
use Rattle.lay_shape.specs.Keys.{AreOfOwnNodes, key_of as key_of_cell, node_of}
use Rattle.lay_shape.specs.Shapes.{shape_of}
use Rattle.lay_cell_work.specs.CellLocal.{IsCellLocal}
use Rattle.lay_cell_work.specs.PresentInputs.{key_of}
use Rattle.lay_cell_work.specs.CellLaws.DocumentCells.{AreDocumentCells}
use Rattle.lay_cell_work.specs.CellLaws.SameContexts.{IsSameContext}
use Rattle.lay_cell_work.specs.CellLaws.SoundCells.{CellRow, CellState, IsCellOf, input_now}
use Rattle.lay_cell_work.specs.CellLaws.KeptInputs.{InputsAreKept, IsSameCell}
use Rattle.lay_shape.specs.Touched.TouchedContexts.{IsUntouched, IsUntouchedFrom}
use Rattle.lay_kept_cells.specs.Steps.EditedCells.{FollowsContexts, TakesShape}
use Rattle.lay_kept_cells.proofs.StepsLemmas.CarriedRows.{IsIdle, marks_entries, marks_rows, rebuilt_entries, rebuilt_rows}
use Rattle.lay_kept_cells.proofs.StepsLemmas.ChangedRow.{apart, counted, in_order}
use Rattle.lay_kept_cells.proofs.StepsLemmas.InputsBeside.{is_table, table}
use Rattle.lay_kept_cells.proofs.StepsLemmas.RowsOfContexts.{cell_there, needs_are, value_is}

-- the root's context stays the root's
abbrev pub RootStays : (contexts later : List Context) → Type 0
RootStays contexts later = (i j : ℕ) → i < length contexts → j < length later → node_of contexts i ≡ node_of later j → (i ≡ 0) ↔ (j ≡ 0)

-- a cell that is clean, or has a claim that isn't stale
abbrev IsActive : CellRow → Type 0
IsActive z = (z.dirty ≡ false) ⊎ IsStale z false

not_idle : (z : CellRow) → IsActive z → IsIdle z → ⊥
not_idle z (inl clean) idle = false≢true (sym clean ∙ idle.dirty)
not_idle z (inr opened) idle = idle.fresh opened

-- of cells that take a shape
taken_entries : (later : List Context) (s t : CellState) → TakesShape later s t → map entry_of t.rows ≡ shape_of later
taken_entries later s t (inl h) = rebuilt_entries s.rows (IsIn []) t.rows s.draws (shape_of later) t.rows t.draws h
taken_entries later s t (inr h) = ap (λ (z : CellState). map entry_of z.rows) h.1 ∙ h.0

taken_rows : (later : List Context) (s t : CellState) → TakesShape later s t → (i : ℕ) (z : CellRow) → slice_get t.rows i ≡ Some z → IsIdle z ⊎ IsIn s.rows z
taken_rows later s t (inl h) i z at = rebuilt_rows s.rows (IsIn []) t.rows s.draws (shape_of later) t.rows t.draws h i z at
taken_rows later s t (inr h) i z at = inr (i, ap (λ (x : CellState). slice_get x.rows i) (sym h.1) ∙ at)

module _ (kept : InputsAreKept) (d e : Document) (face : FaceValue) (contexts later : List Context) (all rest : List FormattingContext) (s t : CellState) (cells : AreDocumentCells d face contexts all s)
    (others : List Style) (is : IsDocument e) (has_styles : HasStyles (parents_of e.nodes) (declarations_of e.nodes) others) (are : AreContextsOf e.nodes others later) (of : AreFormattingContextsOf later rest)
    (root : RootStays contexts later) (follows : FollowsContexts contexts later all rest s t) (sound : IsSound IsCellLocal t) where
  counted_now : length others ≡ length e.nodes
  counted_now = has_styles.length_is ∙ length-parents e.nodes

  order_now : AreContexts later
  order_now = are_contexts e others later is counted_now are

  apart_now : AreOfOwnNodes later
  apart_now = contexts_are_of_own_nodes_lem e others later is counted_now are

  shaped_now : map entry_of t.rows ≡ shape_of later
  shaped_now = marks_entries (λ (r : CellRow). Reached follows.shaped.rows follows.keys r.key) follows.shaped.rows t.rows follows.marks ∙ taken_entries later s follows.shaped follows.takes

  carried : (z : CellRow) → IsIn t.rows z → IsActive z → IsIn s.rows z × (IsIn follows.keys z.key → ⊥)
  carried z there active =
      ⊎_elim
      (λ (idle : IsIdle z). absurd (not_idle z active idle))
      (λ (h : IsIn follows.shaped.rows z × (Reached follows.shaped.rows follows.keys z.key → ⊥)). ⊎_elim
      (λ (idle : IsIdle z). absurd (not_idle z active idle))
      (λ (old : IsIn s.rows z). (old, λ has. h.1 (listed z.key has)))
      (taken_rows later s follows.shaped follows.takes h.0.0 z h.0.1))
      (marks_rows follows.shaped.rows t.rows follows.keys follows.marks there.0 z there.1)

  untouched : (j : ℕ) (p : Phase) (z : CellRow) → j < length later → IsIn t.rows z → z.key ≡ key_of later j p → IsActive z → IsUntouched contexts later all rest j
  untouched j p z lt there key active =
      ⊎_elim
      (λ (u : IsUntouched contexts later all rest j). u)
      (λ (touched : (q : Phase) → IsIn follows.keys (key_of later j q)). absurd ((carried z there active).1 (subst (λ (k : CellKey). IsIn follows.keys k) (sym key) (touched p))))
      (follows.touched j lt)

  same_context : (i j : ℕ) → j < length later → IsUntouchedFrom contexts later all rest i j → IsSameContext (table contexts all s.rows) (table later rest t.rows) i j
  same_context i j lt u = record { within = u.within; there = lt; root = root i j u.within lt u.node; boxes = u.boxes }

  same_key : (i j : ℕ) (p : Phase) → IsUntouchedFrom contexts later all rest i j → key_of contexts i p ≡ key_of later j p
  same_key i j p u = ap (λ (n : NodeId). record { node = n; phase = p }) u.node

  -- a cell that one depends on
  need_same : (x y : ℕ) (needed : Phase) → x < length contexts → y < length later → key_of contexts x needed ≡ key_of later y needed → IsClean t.rows (key_of later y needed)
      → IsSameCell (table contexts all s.rows) (table later rest t.rows) x y needed
  need_same x y needed in_x in_y key clean =
      let u : CellRow = clean.0 in
      let old = (carried u clean.1 (inl clean.3)).0 in
      let from = untouched y needed u in_y clean.1 clean.2 (inl clean.3) in
      let same : from.0 ≡ x = apart d face contexts all s cells from.0 x from.1.within in_x (from.1.node ∙ sym (ap (λ (k : CellKey). k.node) key)) in
      let same_from = subst (λ (n : ℕ). IsUntouchedFrom contexts later all rest n y) same from.1 in
      record {
        own = same_context x y in_y same_from;
        kept = value_is s.rows cells.cells.sound.shaped (key_of contexts x needed) u old (clean.2 ∙ sym key) ∙ sym (value_is t.rows sound.shaped (key_of later y needed) u clean.1 clean.2);
      }

  input_same : (i j : ℕ) (p : Phase) (z : CellRow) → j < length later → IsUntouchedFrom contexts later all rest i j → IsIn s.rows z → IsIn t.rows z → z.key ≡ key_of later j p → AreClean t.rows z.needs
      → input_now (medium_of d face) contexts all s.rows i p ≡ input_now (medium_of d face) later rest t.rows j p
  input_same i j p z lt u old new key clean =
      let before = needs_are contexts (in_order d face contexts all s cells) s.rows cells.shaped (apart d face contexts all s cells) i p z u.within old (key ∙ sym (same_key i j p u)) in
      let now = needs_are later order_now t.rows shaped_now apart_now j p z lt new key in
      kept (medium_of d face) (table contexts all s.rows) (table later rest t.rows) i j p
      (is_table d cells.styles contexts all s.rows cells.is_document (counted d face contexts all s cells) cells.are_contexts cells.are_formatting_contexts)
      (is_table e others later rest t.rows is counted_now are of)
      (record { own = same_context i j lt u; measured = λ _. u.measured }) (sym before ∙ now)
      (λ x y needed in_x in_y has k.
      let named : IsIn z.needs (key_of contexts x needed) =
      subst (λ (ns : List CellKey). IsIn ns (key_of contexts x needed)) (sym before) (in_map (key_of_cell contexts) (needs_in contexts (in_phase p i)) (in_phase needed x) has) in
      need_same x y needed in_x in_y k (clean (key_of later y needed) (subst (λ (n : CellKey). IsIn z.needs n) k named)))

  module _ (medium : medium_of d face ≡ medium_of e face) where
    moved : (j : ℕ) (p : Phase) → input_now (medium_of d face) later rest t.rows j p ≡ input_now (medium_of e face) later rest t.rows j p
    moved j p = ap (λ (m : Medium). input_now m later rest t.rows j p) medium

    clean_now : (j : ℕ) (p : Phase) (z : CellRow) → j < length later → IsCellOf t.rows later j p z → z.dirty ≡ false → HasKept z (input_now (medium_of e face) later rest t.rows j p)
    clean_now j p z lt cell clean =
        let u = untouched j p z lt cell.there cell.key (inl clean) in
        let old = (carried z cell.there (inl clean)).0 in
        cells.cells.present u.0 p z u.1.within (record { there = old; key = cell.key ∙ sym (same_key u.0 j p u.1) }) clean
        ∙ ap Some (input_same u.0 j p z lt u.1 old cell.there cell.key ((sound.each z cell.there).clean clean) ∙ moved j p)

    open_now : (j : ℕ) (p : Phase) (z : CellRow) → j < length later → IsCellOf t.rows later j p z → IsStale z false → z.given ≡ Some (input_now (medium_of e face) later rest t.rows j p)
    open_now j p z lt cell opened =
        let u = untouched j p z lt cell.there cell.key (inr opened) in
        let old = (carried z cell.there (inr opened)).0 in
        cells.cells.open_present u.0 p z u.1.within (record { there = old; key = cell.key ∙ sym (same_key u.0 j p u.1) }) opened
        ∙ ap Some (input_same u.0 j p z lt u.1 old cell.there cell.key ((sound.each z cell.there).fresh opened) ∙ moved j p)

    pub followed : AreDocumentCells e face later rest t
    followed = record {
      is_document = is;
      styles = others;
      has_styles = has_styles;
      are_contexts = are;
      are_formatting_contexts = of;
      shaped = shaped_now;
      cells = record {
        sound = sound;
        has_cells = λ j p lt. cell_there later order_now t.rows shaped_now j p lt;
        present = clean_now;
        open_present = open_now;
      };
    }
