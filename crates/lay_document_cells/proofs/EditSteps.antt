-- What an edit leaves of a document with its cells.
use Rattle.std.proofs.Common.{◌≡◌, inl, ℕ, ◌≤◌, List, All, arith, ap, sym, subst, None, Option}
use Rattle.lay_doc.specs.Document.{Document}
use Rattle.lay_doc.specs.declared.edit.Edit.{Edit}
use Rattle.lay_history.specs.Edits.EditLists.{after_all, first}
use Rattle.lay_doc.specs.Laws.{PutsNode}
use Rattle.lay_face.specs.FaceValue.{FaceValue}
use Rattle.lay_context.specs.Medium.{Medium}
use Rattle.lay_context.specs.Solves.{medium_of}
use Rattle.lay_cells.specs.Sound.{IsSound}
use Rattle.lay_cells.specs.Progress.Grants.{laid_of_all}
use Rattle.lay_cell_work.specs.CellLocal.{IsCellLocal}
use Rattle.lay_cell_work.specs.CellLaws.DocumentCells.{AreDocumentCells}
use Rattle.lay_cell_work.specs.CellLaws.SoundCells.{CellState}
use Rattle.lay_kept_cells.specs.ListSteps.EditedLists.{ListsKeepCells}
use Rattle.lay_shape.specs.Touched.Laws.{TouchedContextsAreListed}
use Rattle.lay_document_cells.specs.Edits.{CellsEditTo, FollowsLists}
use Rattle.lay_kept_cells.specs.Settled.Since.{Since}
use Rattle.lay_document_cells.specs.Kept.{IsKept, IsKeptWith, TableValue}
use Rattle.lay_document_cells.specs.State.{AreStyledLists, State}
use Rattle.lay_document_cells.proofs.KeptSteps.{state_of}

module _ (d : Document) (face : FaceValue) (cells : CellState) (laid : ℕ) (medium : Medium) (table : TableValue)
    (kept : IsKept (state_of d face cells laid) medium table) (edits : List Edit) (e : Document) (is : e ≡ after_all d edits)
    (later : TableValue) (lists : AreStyledLists e later.styles later.lists) (t : CellState) (follows : FollowsLists table.lists later.lists cells t) where
  lists_after : AreStyledLists (after_all d edits) later.styles later.lists
  lists_after = subst (λ x. AreStyledLists x later.styles later.lists) is lists

  pub edit_kept : ListsKeepCells → TouchedContextsAreListed → All PutsNode edits → first d edits ≡ None → IsSound IsCellLocal t → (m : Medium) → m ≡ medium_of e face
      → laid_of_all t.rows ≤ laid_of_all cells.rows → cells.draws ≤ t.draws → IsKept (state_of e face t laid) m later
  edit_kept law listed puts accepted sound m same count draws =
      record {
        medium_is = same;
        lists_are = lists;
        cells = subst (λ x. AreDocumentCells x face later.lists.contexts later.lists.formatting_contexts t) (sym is)
            (law d edits face table.styles later.styles table.lists.contexts later.lists.contexts table.lists.formatting_contexts later.lists.formatting_contexts cells t
            record {
              document = kept.cells.is_document;
              puts = puts;
              accepted = accepted;
              before = kept.lists_are.has_styles;
              after = lists_after.has_styles;
            }
            kept.cells lists_after.are_contexts lists_after.are_formatting_contexts
            record {
              shaped = follows.shaped;
              takes = inl follows.reshapes;
              keys = follows.keys;
              touched = listed _ _ _ _ _ follows.touched;
              marks = follows.marks;
            }
            sound);
        counted = omega (arith, count, kept.counted);
        drawn = omega (arith, draws, kept.drawn);
      }

  pub edited_to : (s : State) → state_of d face cells laid ≡ s → CellsEditTo s edits (state_of e face t laid)
  edited_to s same =
      subst (λ (x : State). CellsEditTo x edits (state_of e face t laid)) same record {
        before = table.lists;
        before_are = (table.styles, kept.lists_are);
        later = later.lists;
        later_are = (later.styles, lists_after);
        cells = t;
        follows = follows;
        state = ap (λ x. state_of x face t laid) is;
      }

-- what is kept with a table is kept with an equal one
pub still_kept : (s : State) (medium : Medium) (table now : TableValue) (since : Option Since) → now ≡ table → IsKeptWith s medium table since → IsKeptWith s medium now since
still_kept s medium table now since same kept = subst (λ (t : TableValue). IsKeptWith s medium t since) (sym same) kept
