use Rattle.std.proofs.Common.{refl, subst, sym}
use Rattle.std.specs.Arc.{arc_value}
use Rattle.lay_cells.specs.Sound.{IsSound}
use Rattle.lay_cell_work.specs.CellLocal.{IsCellLocal}
use Rattle.lay_document_cells.specs.Settling.{GivesUpAt}
use Rattle.lay_document_cells.specs.State.{State}
use Rattle.lay_document_cells.proofs.Answered.{back_as, claim_as, err_any, key_same, on_err, on_ok, work_as}
use Rattle.lay_document_cells.proofs.SettledPlaces.{claimed_for, computed_at, granted_up, nothing_claimed, reused_at, taken_up}
use Rattle.lay_document_cells.proofs.document_cells.DocumentCells.settle_ready.Goals as goal

pub returns-then-can_reuse-clause-ok : goal.returns-then-can_reuse-clause-ok
returns-then-can_reuse-clause-ok c =
    let h = c.reuse_given.ensures in
    reused_at c.args.self.now (subst (λ (x : State). IsSound IsCellLocal x.cells) c.self.view_is c.sound.ensures) c.args.place h.0 h.1 c.requires.clean
    c.claims_keep_rows.ensures c.reused_cells_are_clean.ensures c.reuse_given.new.self h.2.input h.2.claims

pub returns-in_err-input-clause-err : goal.returns-in_err-input-clause-err
returns-in_err-input-clause-err c = err_any c.from_residual.result _ (nothing_claimed c.args.self.now)

pub returns-in_err-shared-clause-err : goal.returns-in_err-shared-clause-err
returns-in_err-shared-clause-err c = err_any c.from_residual-in_err-shared.result _ (nothing_claimed c.args.self.now)

pub returns-in-Reused-clause-ok : goal.returns-in-Reused-clause-ok
returns-in-Reused-clause-ok c =
    let h = c.in-Reused.ensures in
    reused_at c.args.self.now (subst (λ (x : State). IsSound IsCellLocal x.cells) c.self.view_is c.sound.ensures) c.args.place h.0 h.1 c.requires.clean
    c.claims_keep_rows.ensures c.reused_cells_are_clean.ensures c.claim_input.new.self (arc_value c.in_ok-shared.shared) h.2

pub returns-in-Granted-clause-ok : goal.returns-in-Granted-clause-ok
returns-in-Granted-clause-ok c =
    let h = c.in-Granted.ensures in
    on_ok c.finish_granted.result _ _ c.finish_granted.ensures.ok
    (λ work. computed_at c.args.self.now (subst (λ (x : State). IsSound IsCellLocal x.cells) c.self.view_is c.sound.ensures) c.args.place h.0 h.1 c.requires.clean
    c.claims_keep_rows.ensures c.finished_cells_are_clean.ensures c.finishes_keep_rows.ensures c.claim_input.new.self c.finish_granted.new.self
    (arc_value c.in_ok-shared.shared) _ c.in-Granted.number h.2 refl
    (work_as c.claim_input.new.self c.finish_granted.new.self c.key_at-key.result h.0.key c.in-Granted.number (arc_value c.in_ok-input.input)
    (arc_value c.in_ok-shared.shared) (key_same _ c.args.self.now c.self.view_is c.args.place c.key_at-key.result c.key_at-key.ensures h.0 h.1) c.in_ok-shared.ensures.cases work))

pub returns-in-Granted-clause-err : goal.returns-in-Granted-clause-err
returns-in-Granted-clause-err c =
    let h = c.in-Granted.ensures in
    on_err c.finish_granted.result _ _ c.finish_granted.ensures.err
    (λ back. granted_up c.args.self.now (subst (λ (x : State). IsSound IsCellLocal x.cells) c.self.view_is c.sound.ensures) c.args.place h.0 h.1 c.requires.clean
    c.claims_keep_rows.ensures c.granted_claims_are_released.ensures c.give_backs_keep_rows.ensures c.claim_input.new.self c.finish_granted.new.self
    (arc_value c.in_ok-shared.shared) c.in-Granted.number h.2
    (back_as c.claim_input.new.self c.finish_granted.new.self c.key_at-key.result h.0.key c.in-Granted.number (key_same _ c.args.self.now c.self.view_is c.args.place c.key_at-key.result c.key_at-key.ensures h.0 h.1) back))

pub returns-in-Taken-clause-ok : goal.returns-in-Taken-clause-ok
returns-in-Taken-clause-ok c =
    let h = c.in-Taken.ensures in
    on_ok c.finish_claimed.result _ _ c.finish_claimed.ensures.ok
    (λ work. computed_at c.args.self.now (subst (λ (x : State). IsSound IsCellLocal x.cells) c.self.view_is c.sound.ensures) c.args.place h.0 h.1 c.requires.clean
    c.claims_keep_rows.ensures c.finished_cells_are_clean.ensures c.finishes_keep_rows.ensures c.claim_input.new.self c.finish_claimed.new.self
    (arc_value c.in_ok-shared.shared) _ c.in-Taken.number h.2 refl
    (work_as c.claim_input.new.self c.finish_claimed.new.self c.key_at-key.result h.0.key c.in-Taken.number (arc_value c.in_ok-input.input)
    (arc_value c.in_ok-shared.shared) (key_same _ c.args.self.now c.self.view_is c.args.place c.key_at-key.result c.key_at-key.ensures h.0 h.1) c.in_ok-shared.ensures.cases work))

pub returns-in-Taken-clause-err : goal.returns-in-Taken-clause-err
returns-in-Taken-clause-err c =
    let h = c.in-Taken.ensures in
    on_err c.finish_claimed.result _ _ c.finish_claimed.ensures.err
    (λ same. subst (GivesUpAt c.args.self.now) (sym same)
    (taken_up c.args.self.now (subst (λ (x : State). IsSound IsCellLocal x.cells) c.self.view_is c.sound.ensures) c.args.place h.0 h.1 c.requires.clean
    c.claims_keep_rows.ensures c.claim_input.new.self (arc_value c.in_ok-shared.shared) c.in-Taken.number h.2))

pub finish_granted-requires : goal.finish_granted-requires
finish_granted-requires c =
    let h = c.in-Granted.ensures in
    record {
      claimed = claim_as c.claim_input.new.self c.key_at-key.result h.0.key c.in-Granted.number (arc_value c.in_ok-input.input) (arc_value c.in_ok-shared.shared)
          (key_same _ c.args.self.now c.self.view_is c.args.place c.key_at-key.result c.key_at-key.ensures h.0 h.1) c.in_ok-shared.ensures.cases
          (claimed_for c.args.self.now (subst (λ (x : State). IsSound IsCellLocal x.cells) c.self.view_is c.sound.ensures) c.args.place h.0 h.1 c.requires.clean
          c.claim_input.new.self (arc_value c.in_ok-shared.shared) _ c.in-Granted.number h.2 refl);
    }

pub finish_claimed-requires : goal.finish_claimed-requires
finish_claimed-requires c =
    let h = c.in-Taken.ensures in
    record {
      claimed = claim_as c.claim_input.new.self c.key_at-key.result h.0.key c.in-Taken.number (arc_value c.in_ok-input.input) (arc_value c.in_ok-shared.shared)
          (key_same _ c.args.self.now c.self.view_is c.args.place c.key_at-key.result c.key_at-key.ensures h.0 h.1) c.in_ok-shared.ensures.cases
          (claimed_for c.args.self.now (subst (λ (x : State). IsSound IsCellLocal x.cells) c.self.view_is c.sound.ensures) c.args.place h.0 h.1 c.requires.clean
          c.claim_input.new.self (arc_value c.in_ok-shared.shared) _ c.in-Taken.number h.2 refl);
    }
