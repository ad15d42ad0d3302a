-- A cell that is known to be unchanged keeps what it is given now.
use Rattle.std.proofs.Common.{◌≡◌, ◌<◌, ◌∙◌, ℕ, List, length, refl, ap, subst, sym}
use Rattle.std.proofs.lemmas.List.{length-map}
use Rattle.std.proofs.lemmas.Option.{slice_get_within}
use Rattle.lay_doc.specs.Document.{Document}
use Rattle.lay_face.specs.FaceValue.{FaceValue}
use Rattle.lay_cells.specs.Places.{AtPlace}
use Rattle.lay_cells.specs.Reuses.{CanReuse}
use Rattle.lay_cells.specs.Rows.{entry_of}
use Rattle.lay_cells.specs.Shapes.{Entry}
use Rattle.lay_document_cells.proofs.Cited.{one_at}
use Rattle.lay_context.specs.Medium.{Medium}
use Rattle.lay_context.specs.Solves.{medium_of}
use Rattle.lay_contexts.specs.Contexts.{Context}
use Rattle.lay_cell_work.specs.CellLaws.SoundCells.{CellRow, CellState, input_now}
use Rattle.lay_shape.specs.declared.cell_key.CellKey.{CellKey}
use Rattle.lay_shape.specs.Shapes.{cells_of, entry_of as entry_of_cell}
use Rattle.lay_kept_cells.specs.Settled.Laws.{UnchangedCellsKeepInputs}
use Rattle.lay_kept_cells.specs.Settled.Since.{IsSince, IsUnchanged, Since}
use Rattle.lay_document_cells.specs.Kept.{IsKept, TableValue}
use Rattle.lay_document_cells.specs.State.{State}
use Rattle.lay_document_cells.specs.Unchanged.{CanReuseGiven, KeepsGiven}
use Rattle.lay_document_cells.proofs.KeptSteps.{state_of}

module _ (d : Document) (face : FaceValue) (cells : CellState) (laid : ℕ) (medium : Medium) (table : TableValue)
    (kept : IsKept (state_of d face cells laid) medium table) (contexts : List Context) (same : contexts ≡ table.lists.contexts) where
  -- there are as many flags as contexts
  pub flags_fit : (since : Since) → IsSince medium table.lists.contexts cells since → length since.changed ≡ length contexts
  flags_fit since is = is.same.boxes.flags ∙ sym is.same.boxes.nodes.count ∙ ap length (sym same)

  -- and as many rows as cells
  pub rows_fit : length cells.rows ≡ length (cells_of contexts)
  rows_fit =
      sym (length-map cells.rows entry_of)
      ∙ ap (λ (es : List (Entry CellKey)). length es) kept.cells.shaped
      ∙ length-map (cells_of table.lists.contexts) (entry_of_cell table.lists.contexts)
      ∙ ap (λ (cs : List Context). length (cells_of cs)) (sym same)

  pub keeps_given : UnchangedCellsKeepInputs → (s : State) → state_of d face cells laid ≡ s → (since : Since) → IsSince medium table.lists.contexts cells since
      → (place : ℕ) → IsUnchanged contexts cells.rows since place → AtPlace s.cells.rows place (λ r. KeepsGiven s r)
  keeps_given law s is since known place un =
      let p =
      law d face table.lists.contexts table.lists.formatting_contexts cells since place kept.cells
      (subst (λ (m : Medium). IsSince m table.lists.contexts cells since) kept.medium_is known)
      (subst (λ (cs : List Context). IsUnchanged cs cells.rows since place) same un) in
      subst (λ (x : State). AtPlace x.cells.rows place (λ r. KeepsGiven x r)) is (
        p.0,
        p.1,
        record {
          input = input_now (medium_of d face) table.lists.contexts table.lists.formatting_contexts cells.rows p.2.context p.2.phase;
          given = record {
            lists = table.lists;
            lists_are = (table.styles, kept.lists_are);
            context = p.2.context;
            phase = p.2.phase;
            within = p.2.within;
            key_is = p.2.key_is;
            input_is = refl;
          };
          kept = p.2.kept;
        },
      )

-- a row at a place is within
pub at_within : (v s : State) → v ≡ s → (P : CellRow → Type 0) (place : ℕ) → AtPlace s.cells.rows place P → place < length v.cells.rows
at_within v s is P place at = let h = subst (λ (x : State). AtPlace x.cells.rows place P) (sym is) at in slice_get_within v.cells.rows place h.0 h.1

-- it keeps what it is given, and has no open claim of that
pub reusable : (v s : State) → v ≡ s → (place : ℕ) → AtPlace s.cells.rows place (λ r. KeepsGiven s r) → AtPlace v.cells.rows place (λ r. CanReuse r)
    → AtPlace s.cells.rows place (λ r. CanReuseGiven s r)
reusable v s is place keeps can =
    let q = subst (λ (x : State). AtPlace x.cells.rows place (λ r. CanReuse r)) is can in
    (keeps.0, keeps.1, record { keeps = keeps.2; can = subst (λ (z : CellRow). CanReuse z) (one_at s.cells.rows place q.0 keeps.0 q.1 keeps.1) q.2 })
