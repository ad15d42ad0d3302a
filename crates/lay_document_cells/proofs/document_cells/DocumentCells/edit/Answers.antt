use Rattle.std.proofs.Common.{◌≡◌, ◌∙◌, ℕ, All, IfSome, List, Option, None, option_map, ap, subst, sym}
use Rattle.lay_context.specs.Solves.{medium_of}
use Rattle.lay_doc.specs.Document.{Document, IsDocument}
use Rattle.lay_doc.specs.Laws.{PutsNode}
use Rattle.lay_doc.specs.declared.edit.Edit.{Edit}
use Rattle.lay_history.specs.Edits.EditLists.{first}
use Rattle.lay_cells.specs.Reads.{AllClean}
use Rattle.lay_document_cells.proofs.Cited.{one_medium_of_all}
use Rattle.lay_shape.specs.KeptShapes.KeptBoxes.{KeepCells}
use Rattle.lay_kept_cells.specs.Settled.Since.{IsSince, Since}
use Rattle.lay_after_edits.specs.Styles.WrittenOver.{AreSameOutside}
use Rattle.lay_document_cells.specs.Kept.{TableValue, since_edit}
use Rattle.lay_document_cells.specs.State.{AreStyledLists, State}
use Rattle.lay_document_cells.proofs.KnownSteps.{counts_fit, edit_known, some_map}
use Rattle.lay_document_cells.proofs.Answered.{err_any, ok_none, own_nodes}
use Rattle.lay_document_cells.proofs.KeptSteps.{state_of}
use Rattle.lay_document_cells.proofs.EditSteps.{edit_kept, edited_to, still_kept}
use Rattle.lay_document_cells.proofs.ListFaults.{if_err_all, none_at_first, ran_out_answers}
use Rattle.lay_document_cells.proofs.document_cells.DocumentCells.edit.Goals as goal

pub follow_lists-requires-clause-apart : goal.follow_lists-requires-clause-apart
follow_lists-requires-clause-apart c =
    let kept = still_kept (state_of c.self.inside.doc c.self.inside.face.value c.self.inside.cells c.self.inside.laid) c.self.inside.medium
    c.self.inside.table c.edited-2.new.self c.self.inside.since c.edited-2.ensures.same c.self.invariant in
    own_nodes c.contexts_are_of_own_nodes.ensures c.self.inside.doc c.edited-2.new.self (subst IsDocument c.doc.ensures c.nodes.ensures.valid) kept.kept.lists_are

pub follow_lists-requires-clause-later_apart : goal.follow_lists-requires-clause-later_apart
follow_lists-requires-clause-later_apart c =
    own_nodes c.contexts_are_of_own_nodes.ensures c.in_ok-doc.doc c.in_ok-later.later.table c.nodes-2.ensures.valid c.in_ok-later.ensures.lists

pub since_after-requires : goal.since_after-requires
since_after-requires c =
    let kept = still_kept (state_of c.self.inside.doc c.self.inside.face.value c.self.inside.cells c.self.inside.laid) c.self.inside.medium
    c.self.inside.table c.edited-2.new.self c.self.inside.since c.edited-2.ensures.same c.self.invariant in
    counts_fit c.self.inside.medium c.edited-2.new.self.lists.contexts c.in_ok-later.later.table.lists.contexts c.self.inside.cells c.take.result
    (option_map (λ v. v.items) c.in_ok-changed.changed)
    (subst (λ (o : Option Since). IfSome o (IsSince c.self.inside.medium c.edited-2.new.self.lists.contexts c.self.inside.cells)) (sym c.take.ensures.value) kept.known)
    (some_map (λ v. v.items) c.in_ok-changed.changed (KeepCells c.edited-2.new.self.lists.contexts c.in_ok-later.later.table.lists.contexts) c.in_ok-changed.ensures.kept)

pub invariant_of-self-2 : goal.invariant_of-self-2
invariant_of-self-2 c =
    let kept = still_kept (state_of c.self.inside.doc c.self.inside.face.value c.self.inside.cells c.self.inside.laid) c.self.inside.medium
    c.self.inside.table c.edited-2.new.self c.self.inside.since c.edited-2.ensures.same c.self.invariant in
    let lists = subst (λ (x : Document). AreStyledLists x c.in_ok-later.later.table.styles c.in_ok-later.later.table.lists) (sym c.become_edited.ensures) c.in_ok-later.ensures.lists in
    let medium =
    c.medium_of-medium.ensures
    ∙ (ap (medium_of c.in_ok-doc.doc) c.in_ok-shared.ensures ∙ ap (λ (x : Document). medium_of x c.self.inside.face.value) (sym c.become_edited.ensures)) in
    let after = c.become_edited.ensures ∙ c.in_ok-doc.ensures.edited in
    still_kept (state_of c.become_edited.new.self c.self.inside.face.value c.follow_lists.new.cells c.self.inside.laid) c.medium_of-medium.result
    c.in_ok-later.later.table c.become_edited-2.new.self c.since_after.result c.become_edited-2.ensures
    record {
      kept = edit_kept c.self.inside.doc c.self.inside.face.value c.self.inside.cells c.self.inside.laid c.self.inside.medium c.edited-2.new.self kept.kept
          c.args.edits.now c.become_edited.new.self after
          c.in_ok-later.later.table lists c.follow_lists.new.cells c.in_ok-changed.ensures.ok
          c.lists_keep_cells.ensures c.touched_contexts_are_listed.ensures
          (subst (λ (es : List Edit). All PutsNode es) c.as_slice.ensures.edits c.put_nodes.ensures)
          (rw c.in_ok-doc.was at c.edited.ensures.answer) c.sound.ensures
          c.medium_of-medium.result medium
          c.in_ok-changed.ensures.counted c.in_ok-changed.ensures.drawn;
      known = edit_known c.edits_begin_since.ensures c.edits_keep_since.ensures c.self.inside.doc c.become_edited.new.self c.self.inside.face.value c.self.inside.medium
          c.edited-2.new.self.lists c.in_ok-later.later.table.lists c.self.inside.cells c.follow_lists.new.cells kept.kept.cells
          c.in_ok-changed.ensures.ok kept.kept.medium_is
          (one_medium_of_all c.self.inside.doc c.args.edits.now c.self.inside.face.value ∙ ap (λ (x : Document). medium_of x c.self.inside.face.value) (sym after))
          c.self.inside.since c.is_settled-clean.result (option_map (λ v. v.items) c.in_ok-changed.changed) kept.known
          (λ t. subst (λ (x : State). AllClean x.cells.rows) (sym c.self.view_is) (c.is_settled-clean.ensures.0 t))
          (some_map (λ v. v.items) c.in_ok-changed.changed (KeepCells c.edited-2.new.self.lists.contexts c.in_ok-later.later.table.lists.contexts) c.in_ok-changed.ensures.kept)
          c.medium_of-medium.result medium c.since_after.result
          (c.since_after.ensures ∙ ap (λ (o : Option Since). since_edit o c.is_settled-clean.result c.draws-draws.result (option_map (λ v. v.items) c.in_ok-changed.changed)) c.take.ensures.value
          ∙ ap (λ (n : ℕ). since_edit c.self.inside.since c.is_settled-clean.result n (option_map (λ v. v.items) c.in_ok-changed.changed))
          (c.draws-draws.ensures ∙ ap (λ (x : State). x.cells.draws) (sym c.self.view_is)));
    }

pub returns-clause-ok : goal.returns-clause-ok
returns-clause-ok c =
    let kept = still_kept (state_of c.self.inside.doc c.self.inside.face.value c.self.inside.cells c.self.inside.laid) c.self.inside.medium
    c.self.inside.table c.edited-2.new.self c.self.inside.since c.edited-2.ensures.same c.self.invariant in
    let lists = subst (λ (x : Document). AreStyledLists x c.in_ok-later.later.table.styles c.in_ok-later.later.table.lists) (sym c.become_edited.ensures) c.in_ok-later.ensures.lists in
    edited_to c.self.inside.doc c.self.inside.face.value c.self.inside.cells c.self.inside.laid c.self.inside.medium c.edited-2.new.self kept.kept
    c.args.edits.now c.become_edited.new.self (c.become_edited.ensures ∙ c.in_ok-doc.ensures.edited)
    c.in_ok-later.later.table lists c.follow_lists.new.cells c.in_ok-changed.ensures.ok
    c.args.self.now c.self.view_is

pub returns-in_err-changed-clause-ok : goal.returns-in_err-changed-clause-ok
returns-in_err-changed-clause-ok c = ok_none c.from_residual-in_err-changed.result _ c.from_residual-in_err-changed.ensures.0

pub returns-in_err-changed-clause-err : goal.returns-in_err-changed-clause-err
returns-in_err-changed-clause-err c =
    err_any c.from_residual-in_err-changed.result _
    (ap (λ (d : Document). state_of d c.self.inside.face.value c.follow_lists.new.cells c.self.inside.laid) c.edited.ensures.same
    ∙ (ap (λ cells. state_of c.self.inside.doc c.self.inside.face.value cells c.self.inside.laid) c.in_err-changed.ensures.err ∙ c.self.view_is))

pub become_edited-requires-clause-no_fault : goal.become_edited-requires-clause-no_fault
become_edited-requires-clause-no_fault c =
    subst (λ (d : Document). first d c.args.edits.now ≡ None) (sym c.edited.ensures.same) (rw c.in_ok-doc.was at c.edited.ensures.answer)

pub become_edited-requires-2 : goal.become_edited-requires-2
become_edited-requires-2 c =
    subst (λ (t : TableValue). IfSome c.in_ok-later.later.part (AreSameOutside t.styles c.in_ok-later.later.table.styles)) (sym c.edited-2.ensures.same) c.in_ok-later.ensures.part

pub returns-in_err-later-clause-memory : goal.returns-in_err-later-clause-memory
returns-in_err-later-clause-memory c =
    let none = subst (λ (x : State). first x.document c.args.edits.now ≡ None) c.self.view_is (rw c.in_ok-doc.was at c.edited.ensures.answer) in
    if_err_all c.from_residual-in_err-later.result _ (λ e ran_out. none_at_first c.args.self.now.document c.args.edits.now none)

pub returns-in_err-shared-clause-memory : goal.returns-in_err-shared-clause-memory
returns-in_err-shared-clause-memory c =
    let none = subst (λ (x : State). first x.document c.args.edits.now ≡ None) c.self.view_is (rw c.in_ok-doc.was at c.edited.ensures.answer) in
    if_err_all c.from_residual-in_err-shared.result _ (λ e ran_out. none_at_first c.args.self.now.document c.args.edits.now none)

pub returns-in_err-changed-clause-memory : goal.returns-in_err-changed-clause-memory
returns-in_err-changed-clause-memory c =
    let none = subst (λ (x : State). first x.document c.args.edits.now ≡ None) c.self.view_is (rw c.in_ok-doc.was at c.edited.ensures.answer) in
    if_err_all c.from_residual-in_err-changed.result _ (λ e ran_out. none_at_first c.args.self.now.document c.args.edits.now none)

pub returns-in_err-changed-clause-answer : goal.returns-in_err-changed-clause-answer
returns-in_err-changed-clause-answer c =
    ran_out_answers c.args.self.now.document c.args.edits.now c.from_residual-in_err-changed.result c.from_residual-in_err-changed.ensures.1

pub returns-in_err-shared-clause-answer : goal.returns-in_err-shared-clause-answer
returns-in_err-shared-clause-answer c =
    ran_out_answers c.args.self.now.document c.args.edits.now c.from_residual-in_err-shared.result c.from_residual-in_err-shared.ensures.1

pub returns-in_err-shared-clause-ok : goal.returns-in_err-shared-clause-ok
returns-in_err-shared-clause-ok c = ok_none c.from_residual-in_err-shared.result _ c.from_residual-in_err-shared.ensures.0

pub returns-in_err-shared-clause-err : goal.returns-in_err-shared-clause-err
returns-in_err-shared-clause-err c =
    err_any c.from_residual-in_err-shared.result _
    (ap (λ (d : Document). state_of d c.self.inside.face.value c.self.inside.cells c.self.inside.laid) c.edited.ensures.same ∙ c.self.view_is)
