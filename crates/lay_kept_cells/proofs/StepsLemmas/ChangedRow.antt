-- The cells of a document after a change of one row. Where its value changes the cell was dirty, so cells that are clean, or have a claim
-- that isn't stale, don't depend on it.
use Rattle.std.proofs.Common.{◌≡◌, ◌⊎◌, ⊎_elim, inl, inr, ◌<◌, ℕ, true, false, List, length, map, slice_get, slice_set, Some, refl, ap, sym, subst, ◌∙◌}
use Rattle.std.proofs.lemmas.Bool.{false≢true}
use Rattle.lay_doc.specs.Document.{Document}
use Rattle.lay_kept_cells.proofs.Cited.{are_contexts, contexts_are_of_own_nodes_lem, in_map, length-parents, map_set_kept, set_cases, set_keeps_at, set_same}
use Rattle.lay_face.specs.FaceValue.{FaceValue}
use Rattle.lay_cells.specs.Looks.{AreClean}
use Rattle.lay_cells.specs.Rows.{entry_of}
use Rattle.lay_cells.specs.Shapes.{Entry, IsIn, IsShape}
use Rattle.lay_cells.specs.Sound.{IsSound}
use Rattle.lay_cells.specs.Steps.{HasKept, IsStale}
use Rattle.lay_contexts.specs.Contexts.{AreContexts, Context}
use Rattle.lay_contexts.specs.FormattingContexts.{FormattingContext}
use Rattle.lay_context.specs.declared.task.Phase.{Phase}
use Rattle.lay_context.specs.Solves.{medium_of}
use Rattle.lay_shape.specs.declared.cell_key.CellKey.{CellKey}
use Rattle.lay_shape.specs.Dependencies.{in_phase, needs_in}
use Rattle.lay_shape.specs.Keys.{AreOfOwnNodes, key_of as key_of_cell}
use Rattle.lay_shape.specs.Shapes.{shape_of}
use Rattle.lay_cell_work.specs.CellLocal.{IsCellLocal}
use Rattle.lay_cell_work.specs.KeptValues.{kept_value, value_or_none}
use Rattle.lay_cell_work.specs.PresentInputs.{key_of}
use Rattle.lay_cell_work.specs.CellLaws.DocumentCells.{AreDocumentCells}
use Rattle.lay_cell_work.specs.CellLaws.SoundCells.{CellRow, CellState, IsCellOf, input_now}
use Rattle.lay_cell_work.specs.CellLaws.KeptInputs.{InputsAreKept}
use Rattle.lay_kept_cells.proofs.StepsLemmas.InputsBeside.{inputs_same}
use Rattle.lay_kept_cells.proofs.StepsLemmas.RowsOfContexts.{needs_are, value_is}

-- the contexts of cells
module _ (d : Document) (face : FaceValue) (contexts : List Context) (all : List FormattingContext) (s : CellState) (cells : AreDocumentCells d face contexts all s) where
  pub counted : length cells.styles ≡ length d.nodes
  counted = cells.has_styles.length_is ∙ length-parents d.nodes

  pub in_order : AreContexts contexts
  in_order = are_contexts d cells.styles contexts cells.is_document counted cells.are_contexts

  pub apart : AreOfOwnNodes contexts
  apart = contexts_are_of_own_nodes_lem d cells.styles contexts cells.is_document counted cells.are_contexts

module _ (kept : InputsAreKept) (d : Document) (face : FaceValue) (contexts : List Context) (all : List FormattingContext) (s : CellState) (cells : AreDocumentCells d face contexts all s)
    (i : ℕ) (r q : CellRow) (at : slice_get s.rows i ≡ Some r) (same : entry_of q ≡ entry_of r) where
  abbrev New : List CellRow
  New = slice_set s.rows i q

  same_key : q.key ≡ r.key
  same_key = ap (λ (e : Entry CellKey). e.key) same

  new_shaped : map entry_of New ≡ shape_of contexts
  new_shaped = map_set_kept entry_of s.rows i r q at same ∙ cells.shaped

  old_shape : IsShape (map entry_of s.rows)
  old_shape = cells.cells.sound.shaped

  new_shape : IsShape (map entry_of New)
  new_shape = subst IsShape (sym (map_set_kept entry_of s.rows i r q at same)) old_shape

  -- what becomes of a row
  became : (u : CellRow) (j : ℕ) → slice_get s.rows j ≡ Some u → (u ≡ r → q.kept ≡ r.kept) → (w : CellRow) × IsIn New w × (w.key ≡ u.key) × (w.kept ≡ u.kept)
  became u j at_u keeps =
      ⊎_elim
      (λ (h : (j ≡ i) × (u ≡ r)). (q, (i, set_same s.rows i r q at), same_key ∙ ap (λ (x : CellRow). x.key) (sym h.1), keeps h.1 ∙ ap (λ (x : CellRow). x.kept) (sym h.1)))
      (λ (h : slice_get New j ≡ Some u). (u, (j, h), refl, refl))
      (set_keeps_at s.rows i r q j u at at_u)

  kept_same : (x : ℕ) (p : Phase) (u : CellRow) → IsIn s.rows u → u.key ≡ key_of contexts x p → (u ≡ r → q.kept ≡ r.kept) → kept_value s.rows contexts x p ≡ kept_value New contexts x p
  kept_same x p u there key keeps =
      let w = became u there.0 there.1 keeps in
      value_is s.rows old_shape (key_of contexts x p) u there key ∙ ap (value_or_none p) (sym w.3) ∙ sym (value_is New new_shape (key_of contexts x p) w.0 w.1 (w.2 ∙ key))

  -- the value is as it was, or it changed and the cell of z doesn't depend on it
  abbrev IsSpared : CellRow → Type 0
  IsSpared z = (q.kept ≡ r.kept) ⊎ ((r.dirty ≡ true) × AreClean s.rows z.needs)

  need_same : (c : ℕ) (p : Phase) (z : CellRow) → c < length contexts → IsCellOf s.rows contexts c p z → IsSpared z
      → (x : ℕ) (needed : Phase) → x < length contexts → IsIn (needs_in contexts (in_phase p c)) (in_phase needed x) → kept_value s.rows contexts x needed ≡ kept_value New contexts x needed
  need_same c p z lt of (inl e) x needed in_x has = let u = cells.cells.has_cells x needed in_x in kept_same x needed u.0 u.1.there u.1.key (λ _. e)
  need_same c p z lt of (inr h) x needed in_x has =
      let needs = needs_are contexts (in_order d face contexts all s cells) s.rows cells.shaped (apart d face contexts all s cells) c p z lt of.there of.key in
      let listed : IsIn z.needs (key_of contexts x needed) =
      subst (λ (ns : List CellKey). IsIn ns (key_of contexts x needed)) (sym needs) (in_map (key_of_cell contexts) (needs_in contexts (in_phase p c)) (in_phase needed x) has) in
      let u = h.1 (key_of contexts x needed) listed in
      kept_same x needed u.0 u.1 u.2 (λ e. absurd (false≢true (sym u.3 ∙ ap (λ (w : CellRow). w.dirty) e ∙ h.0)))

  input_same : (c : ℕ) (p : Phase) (z : CellRow) → c < length contexts → IsCellOf s.rows contexts c p z → IsSpared z
      → input_now (medium_of d face) contexts all s.rows c p ≡ input_now (medium_of d face) contexts all New c p
  input_same c p z lt of spared =
      inputs_same kept (medium_of d face) d cells.styles contexts all cells.is_document (counted d face contexts all s cells) cells.are_contexts cells.are_formatting_contexts (apart d face contexts all s cells) s.rows New
      c p lt (need_same c p z lt of spared)

  -- the value stays, or the cell was dirty, and has clean dependencies where it is clean after that, or has a claim that isn't stale
  abbrev pub IsCalm : Type 0
  IsCalm = (q.kept ≡ r.kept) ⊎ ((r.dirty ≡ true) × (q.dirty ≡ false → AreClean s.rows r.needs) × (IsStale q false → AreClean s.rows r.needs))

  other_spared : IsCalm → (z : CellRow) → AreClean s.rows z.needs → IsSpared z
  other_spared (inl e) z clean = inl e
  other_spared (inr h) z clean = inr (h.0, clean)

  clean_spared : IsCalm → q.dirty ≡ false → IsSpared r
  clean_spared (inl e) clean = inl e
  clean_spared (inr h) clean = inr (h.0, h.1 clean)

  open_spared : IsCalm → IsStale q false → IsSpared r
  open_spared (inl e) fresh = inl e
  open_spared (inr h) fresh = inr (h.0, h.2 fresh)

  -- the changed row is of the same cell
  own_cell : (c : ℕ) (p : Phase) (z : CellRow) → IsCellOf New contexts c p z → z ≡ q → IsCellOf s.rows contexts c p r
  own_cell c p z of e = record { there = (i, at); key = sym same_key ∙ ap (λ (w : CellRow). w.key) (sym e) ∙ of.key }

  -- what the changed row is after that
  pub record IsPresent : Type 0 where
    pub calm : IsCalm
    pub clean : (c : ℕ) (p : Phase) → c < length contexts → IsCellOf s.rows contexts c p r → q.dirty ≡ false → HasKept q (input_now (medium_of d face) contexts all s.rows c p)
    pub opened : (c : ℕ) (p : Phase) → c < length contexts → IsCellOf s.rows contexts c p r → IsStale q false → q.given ≡ Some (input_now (medium_of d face) contexts all s.rows c p)

  module _ (present : IsPresent) where
    clean_now : (c : ℕ) (p : Phase) (z : CellRow) → c < length contexts → IsCellOf New contexts c p z → z.dirty ≡ false → HasKept z (input_now (medium_of d face) contexts all New c p)
    clean_now c p z lt of clean =
        ⊎_elim
        (λ (h : (of.there.0 ≡ i) × (z ≡ q) × (i < length s.rows)).
        let own = own_cell c p z of h.1 in
        let clean_q : q.dirty ≡ false = ap (λ (w : CellRow). w.dirty) (sym h.1) ∙ clean in
        let is = present.clean c p lt own clean_q ∙ ap Some (input_same c p r lt own (clean_spared present.calm clean_q)) in
        subst (λ (w : CellRow). HasKept w (input_now (medium_of d face) contexts all New c p)) (sym h.1) is)
        (λ (h : (of.there.0 ≡ i → ⊥) × (slice_get s.rows of.there.0 ≡ Some z)).
        let own : IsCellOf s.rows contexts c p z = record { there = (of.there.0, h.1); key = of.key } in
        cells.cells.present c p z lt own clean ∙ ap Some (input_same c p z lt own (other_spared present.calm z ((cells.cells.sound.each z own.there).clean clean))))
        (set_cases s.rows i q of.there.0 z of.there.1)

    open_now : (c : ℕ) (p : Phase) (z : CellRow) → c < length contexts → IsCellOf New contexts c p z → IsStale z false → z.given ≡ Some (input_now (medium_of d face) contexts all New c p)
    open_now c p z lt of fresh =
        ⊎_elim
        (λ (h : (of.there.0 ≡ i) × (z ≡ q) × (i < length s.rows)).
        let own = own_cell c p z of h.1 in
        let fresh_q : IsStale q false = subst (λ (w : CellRow). IsStale w false) h.1 fresh in
        ap (λ (w : CellRow). w.given) h.1 ∙ present.opened c p lt own fresh_q ∙ ap Some (input_same c p r lt own (open_spared present.calm fresh_q)))
        (λ (h : (of.there.0 ≡ i → ⊥) × (slice_get s.rows of.there.0 ≡ Some z)).
        let own : IsCellOf s.rows contexts c p z = record { there = (of.there.0, h.1); key = of.key } in
        cells.cells.open_present c p z lt own fresh ∙ ap Some (input_same c p z lt own (other_spared present.calm z ((cells.cells.sound.each z own.there).fresh fresh))))
        (set_cases s.rows i q of.there.0 z of.there.1)

    there_now : (c : ℕ) (p : Phase) → c < length contexts → (z : CellRow) × IsCellOf New contexts c p z
    there_now c p lt =
        let u = cells.cells.has_cells c p lt in
        ⊎_elim
        (λ (h : (u.1.there.0 ≡ i) × (u.0 ≡ r)). (q, record { there = (i, set_same s.rows i r q at); key = same_key ∙ ap (λ (w : CellRow). w.key) (sym h.1) ∙ u.1.key }))
        (λ (h : slice_get New u.1.there.0 ≡ Some u.0). (u.0, record { there = (u.1.there.0, h); key = u.1.key }))
        (set_keeps_at s.rows i r q u.1.there.0 u.0 at u.1.there.1)

    pub changed : (draws : ℕ) → IsSound IsCellLocal (record { rows = New; draws = draws }) → AreDocumentCells d face contexts all (record { rows = New; draws = draws })
    changed draws sound = record {
      is_document = cells.is_document;
      styles = cells.styles;
      has_styles = cells.has_styles;
      are_contexts = cells.are_contexts;
      are_formatting_contexts = cells.are_formatting_contexts;
      shaped = new_shaped;
      cells = record { sound = sound; has_cells = there_now; present = clean_now; open_present = open_now };
    }
