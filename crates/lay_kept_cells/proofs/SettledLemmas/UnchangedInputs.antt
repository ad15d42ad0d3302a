-- An unchanged cell is given what it was when all cells were clean, of which its kept pair is.
use Rattle.std.proofs.Common.{◌≡◌, ◌<◌, ℕ, false, List, length, map, slice_get, Some, option_map, arith, ap, sym, subst, ◌∙◌}
use Rattle.std.proofs.lemmas.Option.{same_Some}
use Rattle.lay_doc.specs.Document.{Document}
use Rattle.lay_face.specs.FaceValue.{FaceValue}
use Rattle.lay_cells.specs.Places.{AtPlace}
use Rattle.lay_cells.specs.Rows.{Solved, entry_of}
use Rattle.lay_cells.specs.Shapes.{Entry, IsIn}
use Rattle.lay_cells.specs.Steps.{HasKept}
use Rattle.lay_kept_cells.proofs.Cited.{cell_within, in_map, map_at, one_at}
use Rattle.lay_contexts.specs.Contexts.{Context}
use Rattle.lay_doc.specs.declared.node.NodeId.{NodeId}
use Rattle.lay_contexts.specs.FormattingContexts.{FormattingContext}
use Rattle.lay_context.specs.declared.task.Phase.{Phase}
use Rattle.lay_context.specs.Medium.{Medium}
use Rattle.lay_context.specs.Solves.{medium_of}
use Rattle.lay_shape.specs.declared.cell_key.CellKey.{CellKey}
use Rattle.lay_shape.specs.declared.context_phase.ContextPhase.{ContextPhase}
use Rattle.lay_shape.specs.Dependencies.{in_phase, needs_in, needs_of}
use Rattle.lay_shape.specs.Keys.{key_of as key_of_cell}
use Rattle.lay_shape.specs.Shapes.{cells_of, entry_of as entry_of_cell}
use Rattle.lay_cell_work.specs.CellInputs.{CellInput}
use Rattle.lay_cell_work.specs.CellValues.{CellValue}
use Rattle.lay_cell_work.specs.KeptValues.{kept_value, value_or_none}
use Rattle.lay_cell_work.specs.PresentInputs.{key_of}
use Rattle.lay_cell_work.specs.CellLaws.DocumentCells.{AreDocumentCells}
use Rattle.lay_cell_work.specs.CellLaws.KeptInputs.{AreNeedsKept, InputsAreKept, IsSameCell}
use Rattle.lay_cell_work.specs.CellLaws.SameContexts.{IsSameContext, Table, input_in}
use Rattle.lay_cell_work.specs.CellLaws.SoundCells.{CellRow, CellState, input_now}
use Rattle.lay_kept_cells.proofs.StepsLemmas.ChangedRow.{apart, counted, in_order}
use Rattle.lay_kept_cells.proofs.StepsLemmas.InputsBeside.{is_table, table}
use Rattle.lay_kept_cells.proofs.StepsLemmas.RowsOfContexts.{needs_are, same_context, same_phase, value_is}
use Rattle.lay_after_edits.specs.Contexts.Links.{is_made}
use Rattle.lay_kept_cells.specs.Settled.Laws.{UnchangedCellsKeepInputs}
use Rattle.lay_kept_cells.specs.Settled.Since.{IsSince, IsUnchanged, KeepsThen, Since}

abbrev key_by : NodeId → Phase → CellKey
key_by node phase = record { node = node; phase = phase }

module _ (kept : InputsAreKept) (d : Document) (face : FaceValue) (contexts : List Context) (all : List FormattingContext) (s : CellState) (since : Since)
    (cells : AreDocumentCells d face contexts all s) (is : IsSince (medium_of d face) contexts s since) where
  abbrev Was : List Context
  Was = is.before.contexts

  abbrev Then : Table
  Then = table is.before.contexts is.before.formatting_contexts is.settled.rows

  abbrev Now : Table
  Now = table contexts all s.rows

  was_within : (c : ℕ) → c < length contexts → c < length Was
  was_within c lt = let e = is.same.boxes.nodes.count in omega (arith, lt, e)

  keys : (c : ℕ) (p : Phase) → c < length contexts → key_of contexts c p ≡ key_of Was c p
  keys c p lt = ap (λ (n : NodeId). key_by n p) (is.same.boxes.nodes.each c (was_within c lt))

  entries : map entry_of s.rows ≡ map entry_of is.settled.rows
  entries = cells.shaped ∙ is.same.shape ∙ sym is.were.shaped

  -- a row is of the cell of the one that was there
  same_entry : (place : ℕ) (r q : CellRow) → slice_get s.rows place ≡ Some r → slice_get is.settled.rows place ≡ Some q → entry_of r ≡ entry_of q
  same_entry place r q at at_q =
      same_Some (entry_of r) (entry_of q)
      (sym (map_at entry_of s.rows place r at) ∙ ap (λ (es : List (Entry CellKey)). slice_get es place) entries ∙ map_at entry_of is.settled.rows place q at_q)

  row_key : (place : ℕ) (r : CellRow) (c : ContextPhase) → slice_get s.rows place ≡ Some r → slice_get (cells_of contexts) place ≡ Some c
      → r.key ≡ key_of contexts c.context c.phase
  row_key place r c at at_c =
      ap (λ (e : Entry CellKey). e.key)
      (same_Some (entry_of r) (entry_of_cell contexts c)
      (sym (map_at entry_of s.rows place r at) ∙ ap (λ (es : List (Entry CellKey)). slice_get es place) cells.shaped
      ∙ map_at (entry_of_cell contexts) (cells_of contexts) place c at_c))

  same_boxes : (c : ℕ) → c < length contexts → is_made since.changed c ≡ false → IsSameContext Then Now c c
  same_boxes c lt same = record {
    within = was_within c lt;
    there = lt;
    root = (λ z. z, λ z. z);
    boxes = sym (is.same.boxes.kept c (was_within c lt) same);
  }

  -- of a cell that keeps what it kept
  module _ (place : ℕ) (k : KeepsThen contexts s.rows since place) where
    abbrev CellContext : ℕ
    CellContext = k.cell.context

    abbrev CellPhase : Phase
    CellPhase = k.cell.phase

    cell_there : CellContext < length contexts
    cell_there = cell_within contexts (in_order d face contexts all s cells) k.cell (place, k.cell_is)

    now_key : k.row.key ≡ key_of contexts CellContext CellPhase
    now_key = row_key place k.row k.cell k.there k.cell_is

    old : AtPlace is.settled.rows place (λ q. q.kept ≡ Some k.done)
    old = is.keep.kept place k.row k.done k.there k.kept k.number

    old_key : old.0.key ≡ key_of Was CellContext CellPhase
    old_key = ap (λ (e : Entry CellKey). e.key) (sym (same_entry place k.row old.0 k.there old.1)) ∙ now_key ∙ keys CellContext CellPhase cell_there

    same_value : kept_value is.settled.rows Was CellContext CellPhase ≡ kept_value s.rows contexts CellContext CellPhase
    same_value =
        value_is is.settled.rows is.were.cells.sound.shaped (key_of Was CellContext CellPhase) old.0 (place, old.1) old_key
        ∙ ap (value_or_none CellPhase) (old.2 ∙ sym k.kept)
        ∙ sym (value_is s.rows cells.cells.sound.shaped (key_of contexts CellContext CellPhase) k.row (place, k.there) now_key)

    same_cell : IsSameCell Then Now CellContext CellContext CellPhase
    same_cell = record { own = same_boxes CellContext cell_there k.same; kept = same_value }

    -- by its key
    cell_same : (x y : ℕ) (needed : Phase) → x < length Was → y < length contexts → key_of Was x needed ≡ key_of contexts y needed
        → k.row.key ≡ key_of contexts y needed → IsSameCell Then Now x y needed
    cell_same x y needed in_x in_y key row =
        let found : key_of contexts CellContext CellPhase ≡ key_of contexts y needed = sym now_key ∙ row in
        let number : CellContext ≡ y = same_context contexts (apart d face contexts all s cells) CellContext y CellPhase needed cell_there in_y found in
        let phase : CellPhase ≡ needed = same_phase contexts CellContext y CellPhase needed found in
        let before : x ≡ y = same_context Was (apart is.document is.face Was is.before.formatting_contexts is.settled is.were) x y needed needed in_x (was_within y in_y) (key ∙ keys y needed in_y) in
        subst (λ (n : ℕ). IsSameCell Then Now n y needed) (sym before)
        (subst (λ (n : ℕ). IsSameCell Then Now n n needed) number (subst (λ (p : Phase). IsSameCell Then Now CellContext CellContext p) phase same_cell))

  module _ (place : ℕ) (un : IsUnchanged contexts s.rows since place) where
    abbrev Own : KeepsThen contexts s.rows since place
    Own = un.own

    abbrev C : ℕ
    C = un.own.cell.context

    abbrev P : Phase
    P = un.own.cell.phase

    abbrev Old : AtPlace is.settled.rows place (λ q. q.kept ≡ Some un.own.done)
    Old = old place un.own

    needs_was : Old.0.needs ≡ needs_of Was (in_phase P C)
    needs_was =
        needs_are Was (in_order is.document is.face Was is.before.formatting_contexts is.settled is.were) is.settled.rows is.were.shaped
        (apart is.document is.face Was is.before.formatting_contexts is.settled is.were) C P Old.0 (was_within C (cell_there place Own)) (place, Old.1) (old_key place Own)

    needs_now : un.own.row.needs ≡ needs_of contexts (in_phase P C)
    needs_now =
        needs_are contexts (in_order d face contexts all s cells) s.rows cells.shaped (apart d face contexts all s cells) C P un.own.row (cell_there place Own)
        (place, un.own.there) (now_key place Own)

    needs_row : needs_of Was (in_phase P C) ≡ un.own.row.needs
    needs_row = sym needs_was ∙ ap (λ (e : Entry CellKey). e.needs) (sym (same_entry place un.own.row Old.0 un.own.there Old.1))

    needs_kept : AreNeedsKept Then Now C P
    needs_kept x y needed in_x in_y has key =
        let named : IsIn un.own.row.needs (key_of contexts y needed) =
        subst (λ (k : CellKey). IsIn un.own.row.needs k) key
        (subst (λ (ns : List CellKey). IsIn ns (key_of Was x needed)) needs_row (in_map (key_of_cell Was) (needs_in Was (in_phase P C)) (in_phase needed x) has)) in
        let u = cells.cells.has_cells y needed in_y in
        let at_u = u.1.there in
        let k = un.needs named.0 at_u.0 (un.own.row, un.own.there, (u.0, at_u.1, named.1 ∙ ap Some (sym u.1.key))) in
        let one : k.row ≡ u.0 = one_at s.rows at_u.0 k.row u.0 k.there at_u.1 in
        cell_same at_u.0 k x y needed in_x in_y key (ap (λ (r : CellRow). r.key) one ∙ u.1.key)

    same_input : input_in (medium_of d face) Then C P ≡ input_in (medium_of d face) Now C P
    same_input =
        kept (medium_of d face) Then Now C C P
        (is_table is.document is.were.styles Was is.before.formatting_contexts is.settled.rows is.were.is_document
        (counted is.document is.face Was is.before.formatting_contexts is.settled is.were) is.were.are_contexts is.were.are_formatting_contexts)
        (is_table d cells.styles contexts all s.rows cells.is_document (counted d face contexts all s cells) cells.are_contexts cells.are_formatting_contexts)
        (record { own = same_boxes C (cell_there place Own) un.own.same; measured = λ e. absurd (un.phase e) })
        (needs_row ∙ needs_now)
        needs_kept

    moved : input_now (medium_of is.document is.face) Was is.before.formatting_contexts is.settled.rows C P
        ≡ input_now (medium_of d face) Was is.before.formatting_contexts is.settled.rows C P
    moved = ap (λ (m : Medium). input_now m Was is.before.formatting_contexts is.settled.rows C P) (sym is.medium_is)

    keeps_present : HasKept un.own.row (input_now (medium_of d face) contexts all s.rows C P)
    keeps_present =
        ap (option_map (λ (x : Solved CellKey CellInput CellValue). x.input)) (un.own.kept ∙ sym Old.2)
        ∙ is.were.cells.present C P Old.0 (was_within C (cell_there place Own)) (record { there = (place, Old.1); key = old_key place Own }) (is.clean Old.0 (place, Old.1))
        ∙ ap Some (moved ∙ same_input)

pub unchanged_cells_keep_inputs_lem : InputsAreKept → UnchangedCellsKeepInputs
unchanged_cells_keep_inputs_lem kept d face contexts all s since place cells is un = (
  un.own.row,
  un.own.there,
  record {
    context = un.own.cell.context;
    phase = un.own.cell.phase;
    within = cell_there kept d face contexts all s since cells is place un.own;
    key_is = now_key kept d face contexts all s since cells is place un.own;
    kept = keeps_present kept d face contexts all s since cells is place un;
  },
)
