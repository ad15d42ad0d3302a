-- What is known of the cells since all of them were clean, through work on a cell and through an edit.
use Rattle.std.proofs.Common.{◌≡◌, ◌∙◌, ℕ, ◌<◌, Bool, true, false, List, [], length, map, Option, None, Some, IfSome, IsTrue, option_map, refl, arith, ap, sym, subst}
use Rattle.std.specs.Prelude.{◌↔◌}
use Rattle.std.proofs.lemmas.Option.{IfSome_then}
use Rattle.lay_doc.specs.Document.{Document}
use Rattle.lay_face.specs.FaceValue.{FaceValue}
use Rattle.lay_cells.specs.Marks.{Marks}
use Rattle.lay_cells.specs.Places.{AtPlace}
use Rattle.lay_cells.specs.Reads.{AllClean}
use Rattle.lay_cells.specs.Reshapes.{Reshapes}
use Rattle.lay_cells.specs.Rows.{entry_of}
use Rattle.lay_cells.specs.Shapes.{Entry, IsShape}
use Rattle.lay_cells.specs.Sound.{IsSound}
use Rattle.lay_cells.specs.Steps.{ClaimsIn, FinishesIn, GivesBackIn}
use Rattle.lay_cells.specs.declared.answers.Claimed.{Claimed}
use Rattle.lay_cells.specs.declared.answers.Finished.{Finished}
use Rattle.lay_cells.specs.declared.answers.Released.{Released}
use Rattle.lay_document_cells.proofs.Cited.{one_reshape_lem, reshapes_to_itself}
use Rattle.lay_context.specs.Medium.{Medium}
use Rattle.lay_context.specs.Solves.{medium_of}
use Rattle.lay_contexts.specs.Contexts.{Context}
use Rattle.lay_shape.specs.declared.cell_key.CellKey.{CellKey}
use Rattle.lay_shape.specs.Shapes.{shape_of}
use Rattle.lay_cell_work.specs.CellInputs.{CellInput}
use Rattle.lay_cell_work.specs.CellLocal.{IsCellLocal}
use Rattle.lay_cell_work.specs.CellLaws.DocumentCells.{AreDocumentCells}
use Rattle.lay_cell_work.specs.CellLaws.SoundCells.{CellState}
use Rattle.lay_shape.specs.Touched.ContextFlags.{ContextLists}
use Rattle.lay_shape.specs.KeptShapes.KeptBoxes.{KeepCells}
use Rattle.lay_kept_cells.specs.Settled.Laws.{ClaimsKeepSince, EditsBeginSince, EditsKeepSince, FinishesKeepSince, GiveBacksKeepSince}
use Rattle.lay_kept_cells.specs.Settled.Since.{IsSince, Since}
use Rattle.lay_document_cells.specs.Edits.{FollowsLists}
use Rattle.lay_document_cells.specs.Kept.{HaveCount, since_edit}
use Rattle.lay_cell_work.specs.ClaimLists.Outcomes.{Work}

module _ (medium : Medium) (contexts : List Context) (cells t : CellState) (since : Option Since) (known : IfSome since (IsSince medium contexts cells)) where
  pub claim_known : ClaimsKeepSince → (place : ℕ) (input : CellInput) (a : Claimed) → AtPlace cells.rows place (λ r. ClaimsIn cells r.key input a t)
      → IfSome since (IsSince medium contexts t)
  claim_known law place input a h = IfSome_then since known (λ x is. law medium contexts cells t x h.0.key input a is h.2)

  pub finish_known : FinishesKeepSince → (done : Work) (a : Finished) → FinishesIn cells done a t → IfSome since (IsSince medium contexts t)
  finish_known law done a h = IfSome_then since known (λ x is. law medium contexts cells t x done a is h)

  pub back_known : GiveBacksKeepSince → (key : CellKey) (number : ℕ) (a : Released) → GivesBackIn cells key number a t → IfSome since (IsSince medium contexts t)
  back_known law key number a h = IfSome_then since known (λ x is. law medium contexts cells t x key number a is h)

-- where the cells keep their shape, those that follow are marked
module _ (before later : ContextLists) (s t : CellState) (made : List Bool) (kept : KeepCells before.contexts later.contexts made)
    (shaped : map entry_of s.rows ≡ shape_of before.contexts) (sound : IsSound IsCellLocal s) (follows : FollowsLists before later s t) where
  shape_stays : map entry_of s.rows ≡ shape_of later.contexts
  shape_stays = shaped ∙ sym kept.shape

  shape_is : IsShape (shape_of later.contexts)
  shape_is = subst (λ (es : List (Entry CellKey)). IsShape es) shape_stays sound.shaped

  reshaped : follows.shaped ≡ s
  reshaped =
      one_reshape_lem s follows.shaped s (shape_of later.contexts) [] sound.shaped shape_is follows.reshapes
      (subst (λ (es : List (Entry CellKey)). Reshapes s es [] s) shape_stays (reshapes_to_itself IsCellLocal s sound))

  pub only_marked : Marks s.rows follows.keys t.rows
  only_marked = subst (λ (z : CellState). Marks z.rows follows.keys t.rows) reshaped follows.marks

  pub none_drawn : t.draws ≡ s.draws
  none_drawn = follows.draws ∙ ap (λ (z : CellState). z.draws) reshaped

pub some_map : {X Y : Type 0} (f : X → Y) (o : Option X) (P : Y → Type 0) → IfSome o (λ x. P (f x)) → IfSome (option_map f o) P
some_map f None P h = tt
some_map f (Some x) P h = h

-- of as many contexts
pub counts_fit : (medium : Medium) (contexts later : List Context) (cells : CellState) (was : Option Since) (made : Option (List Bool))
    → IfSome was (IsSince medium contexts cells) → IfSome made (KeepCells contexts later) → HaveCount was made
counts_fit medium contexts later cells was made known flags =
    IfSome_then was known (λ x is. IfSome_then made flags (λ v are. (let e = is.same.boxes.flags in let n = is.same.boxes.nodes.count in let m = are.boxes.flags in omega (arith, e, n, m))))

-- what is known after an edit
module _ (begins : EditsBeginSince) (keeps : EditsKeepSince) (d e : Document) (face : FaceValue) (medium : Medium) (before later : ContextLists)
    (s t : CellState) (cells : AreDocumentCells d face before.contexts before.formatting_contexts s) (follows : FollowsLists before later s t)
    (is : medium ≡ medium_of d face) (same : medium_of d face ≡ medium_of e face) where
  step : (was : Option Since) (clean : Bool) (made : Option (List Bool)) → IfSome was (IsSince medium before.contexts s) → (IsTrue clean → AllClean s.rows)
      → IfSome made (KeepCells before.contexts later.contexts) → IfSome (since_edit was clean s.draws made) (IsSince (medium_of d face) later.contexts t)
  step None clean None known settled flags = tt
  step (Some x) clean None known settled flags = tt
  step None true (Some made) known settled flags =
      begins d face before.contexts later.contexts before.formatting_contexts s t made follows.keys cells (settled refl) flags
      (only_marked before later s t made flags cells.shaped cells.cells.sound follows) (none_drawn before later s t made flags cells.shaped cells.cells.sound follows)
  step (Some x) true (Some made) known settled flags =
      begins d face before.contexts later.contexts before.formatting_contexts s t made follows.keys cells (settled refl) flags
      (only_marked before later s t made flags cells.shaped cells.cells.sound follows) (none_drawn before later s t made flags cells.shaped cells.cells.sound follows)
  step None false (Some made) known settled flags = tt
  step (Some x) false (Some made) known settled flags =
      keeps (medium_of d face) before.contexts later.contexts s t x made follows.keys (subst (λ (m : Medium). IsSince m before.contexts s x) is known) flags
      (only_marked before later s t made flags cells.shaped cells.cells.sound follows) (none_drawn before later s t made flags cells.shaped cells.cells.sound follows)

  pub edit_known : (was : Option Since) (clean : Bool) (made : Option (List Bool)) → IfSome was (IsSince medium before.contexts s) → (IsTrue clean → AllClean s.rows)
      → IfSome made (KeepCells before.contexts later.contexts) → (m : Medium) → m ≡ medium_of e face → (since : Option Since) → since ≡ since_edit was clean s.draws made
      → IfSome since (IsSince m later.contexts t)
  edit_known was clean made known settled flags m m_is since since_is =
      subst (λ (o : Option Since). IfSome o (IsSince m later.contexts t)) (sym since_is)
      (subst (λ (x : Medium). IfSome (since_edit was clean s.draws made) (IsSince x later.contexts t)) (same ∙ sym m_is) (step was clean made known settled flags))
