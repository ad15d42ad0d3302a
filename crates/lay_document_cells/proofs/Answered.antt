-- What calls answer of a document with its cells.
use Rattle.std.proofs.Common.{◌≡◌, ℕ, ◌+◌, ◌*◌, ◌≤◌, ◌<◌, Bool, true, false, not, List, [], length, slice_get, Option, None, Some, Result, Ok, Err, IfOk, IfSome, IfNone, OnOk, OnErr, IsErr, IsTrue, is_some, refl, arith, ap, sym, subst, ◌∙◌}
use Rattle.std.proofs.lemmas.Bool.{false≢true}
use Rattle.lay_doc.specs.Document.{Document, IsDocument}
use Rattle.lay_doc.specs.declared.edit.Edit.{Edit}
use Rattle.lay_doc.specs.Edits.{after, fault}
use Rattle.lay_doc.specs.Laws.{PutsNode}
use Rattle.lay_document_cells.proofs.Cited.{length-parents, one_at}
use Rattle.lay_face.specs.FaceValue.{FaceValue}
use Rattle.lay_frag.specs.Pieces.{Context as PageContext}
use Rattle.lay_contexts.specs.Contexts.{AreContexts, Context}
use Rattle.lay_contexts.specs.FormattingContexts.{FormattingContext}
use Rattle.lay_context.specs.Medium.{Medium}
use Rattle.lay_context.specs.Solves.{IsAssembled, Solves, medium_of}
use Rattle.lay_cells.specs.Places.{AtPlace}
use Rattle.lay_cells.specs.Reads.{AllClean, IsFirstDirtyKey}
use Rattle.lay_cells.specs.Reshapes.{Reshapes}
use Rattle.lay_cells.specs.Shapes.{IsIn}
use Rattle.lay_cells.specs.Sound.{IsSound}
use Rattle.lay_shape.specs.Keys.{AreOfOwnNodes}
use Rattle.lay_shape.specs.Laws.{ContextsAreOfOwnNodes}
use Rattle.lay_shape.specs.Shapes.{shape_of}
use Rattle.lay_shape.specs.declared.cell_key.CellKey.{CellKey}
use Rattle.lay_cells.specs.Progress.Grants.{laid_of_all}
use Rattle.lay_cell_work.specs.CellInputs.{CellInput}
use Rattle.lay_cell_work.specs.CellLocal.{IsCellLocal}
use Rattle.lay_cell_work.specs.PresentInputs.{key_of}
use Rattle.lay_cell_work.specs.CellLaws.DocumentCells.{AreDocumentCells}
use Rattle.lay_cell_work.specs.CellLaws.SoundCells.{CellRow, CellState, input_now}
use Rattle.lay_kept_cells.specs.Steps.CellSteps.{NewCellsAreSound, no_cells}
use Rattle.lay_kept_cells.specs.Steps.ReadyCells.{AssembledTreesSolve}
use Rattle.lay_shape.specs.Touched.ContextFlags.{ContextLists}
use Rattle.lay_kept_cells.specs.Table.TableCells.{AreCellsOn, IsGivenBy as IsGivenThere, workings_in}
use Rattle.lay_document_cells.specs.Kept.{IsKept, TableValue}
use Rattle.lay_document_cells.specs.Laws.{CleanCellsAreCounted}
use Rattle.lay_document_cells.specs.Settling.{FinishesWork, GivesBackWork, IsClaimedFor}
use Rattle.lay_document_cells.specs.State.{AreStyledLists, IsOfDocument, State}
use Rattle.lay_document_cells.specs.Steps.{IsGivenNow}
use Rattle.lay_document_cells.specs.TreeLengths.{TreesListContexts}
use Rattle.lay_document_cells.proofs.KeptSteps.{state_of}

pub ok_then : {A E : Type 0} (o : Result A E) (P Q : A → Type 0) → IfOk o P → ((a : A) → P a → Q a) → IfOk o Q
ok_then (Ok a) P Q h f = f a h
ok_then (Err e) P Q h f = tt

pub on_ok : {A E : Type 0} (o : Result A E) (P Q : Type 0) → OnOk o P → (P → Q) → OnOk o Q
on_ok (Ok a) P Q h f = f h
on_ok (Err e) P Q h f = tt

pub on_err : {A E : Type 0} (o : Result A E) (P Q : Type 0) → OnErr o P → (P → Q) → OnErr o Q
on_err (Ok a) P Q h f = tt
on_err (Err e) P Q h f = f h

pub err_any : {A E : Type 0} (o : Result A E) (P : Type 0) → P → OnErr o P
err_any (Ok a) P h = tt
err_any (Err e) P h = h

pub ok_none : {A E : Type 0} (o : Result A E) (P : Type 0) → IsErr o → OnOk o P
ok_none (Ok a) P h = absurd (false≢true h)
ok_none (Err e) P h = tt

pub settled_iff : (o : Option CellKey) (b : Bool) (rows : List CellRow) → IfSome o (IsFirstDirtyKey rows) → IfNone o (AllClean rows) → is_some o ≡ not b
    → (IsTrue b → AllClean rows) × (AllClean rows → IsTrue b)
settled_iff None true rows some none e = (λ _. none, λ _. refl)
settled_iff None false rows some none e = absurd (false≢true e)
settled_iff (Some k) true rows some none e = absurd (false≢true (sym e))
settled_iff (Some k) false rows some none e = (λ t. absurd (false≢true t), λ clean. absurd (false≢true (sym (clean some.1 (some.0, some.2.0)) ∙ some.3)))

-- the key that was read is that of the row at the place
pub key_same : (v s : State) → v ≡ s → (place : ℕ) (key : CellKey) → AtPlace v.cells.rows place (λ r. key ≡ r.key) → (r : CellRow)
    → slice_get s.cells.rows place ≡ Some r → key ≡ r.key
key_same v s is place key h r at =
    let k = subst (λ (x : State). AtPlace x.cells.rows place (λ r. key ≡ r.key)) is h in
    k.2 ∙ ap (λ (z : CellRow). z.key) (one_at s.cells.rows place k.0 r k.1 at)

pub work_as : (mid t : State) (key other : CellKey) (number : ℕ) (input same : CellInput) → key ≡ other → same ≡ input
    → FinishesWork mid key number input t → FinishesWork mid other number same t
work_as mid t key other number input same e f h =
    subst (λ i. FinishesWork mid other number i t) (sym f) (subst (λ k. FinishesWork mid k number input t) e h)

pub claim_as : (t : State) (key other : CellKey) (number : ℕ) (input same : CellInput) → key ≡ other → same ≡ input
    → IsClaimedFor t other number same → IsClaimedFor t key number input
claim_as t key other number input same e f h =
    subst (λ i. IsClaimedFor t key number i) f (subst (λ k. IsClaimedFor t k number same) (sym e) h)

pub back_as : (mid t : State) (key other : CellKey) (number : ℕ) → key ≡ other → GivesBackWork mid key number t → GivesBackWork mid other number t
back_as mid t key other number e h = subst (λ k. GivesBackWork mid k number t) e h

pub own_nodes : ContextsAreOfOwnNodes → (d : Document) (table : TableValue) → IsDocument d → AreStyledLists d table.styles table.lists
    → AreOfOwnNodes table.lists.contexts
own_nodes own d table is lists = own d table.styles table.lists.contexts is (lists.has_styles.length_is ∙ length-parents d.nodes) lists.are_contexts

module _ (d : Document) (face : FaceValue) (cells : CellState) (laid : ℕ) (medium : Medium) (table : TableValue)
    (kept : IsKept (state_of d face cells laid) medium table) where
  pub given_here : (s : State) → state_of d face cells laid ≡ s → (t : ContextLists) → t.contexts ≡ table.lists.contexts
      → t.formatting_contexts ≡ table.lists.formatting_contexts → (place : ℕ) (input : CellInput)
      → AtPlace cells.rows place (λ r. IsGivenThere medium t cells.rows r.key input) → AtPlace s.cells.rows place (λ r. IsGivenNow s r.key input)
  given_here s is t e f place input g =
      subst (λ (x : State). AtPlace x.cells.rows place (λ r. IsGivenNow x r.key input)) is (
        g.0,
        g.1,
        record {
          lists = table.lists;
          lists_are = (table.styles, kept.lists_are);
          context = g.2.context;
          phase = g.2.phase;
          within = subst (λ (cs : List Context). g.2.context < length cs) e g.2.within;
          key_is = g.2.key_is ∙ ap (λ (cs : List Context). key_of cs g.2.context g.2.phase) e;
          input_is = g.2.input_is
              ∙ ap (λ (m : Medium). input_now m t.contexts t.formatting_contexts cells.rows g.2.context g.2.phase) kept.medium_is
              ∙ ap (λ (cs : List Context). input_now (medium_of d face) cs t.formatting_contexts cells.rows g.2.context g.2.phase) e
              ∙ ap (λ (fs : List FormattingContext). input_now (medium_of d face) table.lists.contexts fs cells.rows g.2.context g.2.phase) f;
        },
      )

  document_cells_in : (t : ContextLists) → t.contexts ≡ table.lists.contexts → t.formatting_contexts ≡ table.lists.formatting_contexts
      → AreDocumentCells d face t.contexts t.formatting_contexts cells
  document_cells_in t e f =
      subst (λ (cs : List Context). AreDocumentCells d face cs t.formatting_contexts cells) (sym e)
      (subst (λ (fs : List FormattingContext). AreDocumentCells d face table.lists.contexts fs cells) (sym f) kept.cells)

  pub cells_on : (t : ContextLists) → t.contexts ≡ table.lists.contexts → t.formatting_contexts ≡ table.lists.formatting_contexts → AreCellsOn medium t cells
  cells_on t e f = record { document = d; face = face; medium_is = kept.medium_is; cells = document_cells_in t e f }

  module _ (s : State) (is : state_of d face cells laid ≡ s) (clean : AllClean s.cells.rows) (t : ContextLists) (e : t.contexts ≡ table.lists.contexts)
      (f : t.formatting_contexts ≡ table.lists.formatting_contexts) (tree : List PageContext)
      (assembled : IsAssembled t.formatting_contexts (workings_in t cells.rows) tree) where
    clean_here : AllClean cells.rows
    clean_here = subst (λ (x : State). AllClean x.cells.rows) (sym is) clean

    pub solved : AssembledTreesSolve → Solves s.document s.face tree
    solved law =
        subst (λ (x : State). Solves x.document x.face tree) is
        (law d face t.contexts t.formatting_contexts cells tree (document_cells_in t e f) clean_here assembled)

    pub counted : TreesListContexts → CleanCellsAreCounted → AreContexts t.contexts → 3 * length tree ≤ s.laid
    counted lists counts are =
        let long = lists t.contexts t.formatting_contexts _ tree are (document_cells_in t e f).are_formatting_contexts assembled in
        let of : IsOfDocument (state_of d face cells laid) =
        record { lists = table.lists; cells = kept.cells; counted = kept.counted; drawn = kept.drawn } in
        let paid = counts (state_of d face cells laid) of clean_here in
        let same = ap (λ (cs : List Context). length cs) e in
        subst (λ (x : State). 3 * length tree ≤ x.laid) is (omega (arith, long, paid, same))
