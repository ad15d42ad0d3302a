use Rattle.std.proofs.Common.{◌∙◌, sym}
use Rattle.lay_core.proofs.CellWork.{settle_work, stop_work}
use Rattle.lay_core.proofs.Kept.{work_keeps}
use Rattle.lay_core.proofs.CoreLawsLemmas.LeadsOn.{leads_on}
use Rattle.lay_core.proofs.PartsSteps.{changes_of, on_err, on_ok, settle_called, settled_already, settled_numbers, settling_work}
use Rattle.lay_core.proofs.core_state.Core.settle.Goals as goal

pub returns-then-are_clean-clause-ok : goal.returns-then-are_clean-clause-ok
returns-then-are_clean-clause-ok c = settled_already _ _ c.self.view_is (sym c.are_clean.ensures ∙ c.if-are_clean.true)

pub invariant_of-self : goal.invariant_of-self
invariant_of-self c =
    let few = rw (← c.self.view_is) at c.requires.draws in
    let kept = work_keeps _ c.settle-settled.new.self _ _ c.self.invariant.0
    (settling_work c.settle-settled.result _ _ c.settle-settled.ensures.ok c.settle-settled.ensures.err) c.sound.ensures in (
      kept,
      settled_numbers _ _ _ _ c.self.invariant.0 few c.settle-settled.ensures.few,
      leads_on _ _ c.self.invariant.2
          (settle_called c.settle-settled.result _ c.settle-settled.new.self c.settle-settled.ensures.ok c.settle-settled.ensures.err) kept.is_core,
    )

pub returns-clause-ok : goal.returns-clause-ok
returns-clause-ok c =
    on_ok c.settle-settled.result _ _ (changes_of _ _ _ c.settle-settled.new.self c.self.view_is settle_work) c.settle-settled.ensures.ok

pub returns-clause-err : goal.returns-clause-err
returns-clause-err c =
    on_err c.settle-settled.result _ _ (changes_of _ _ _ c.settle-settled.new.self c.self.view_is stop_work) c.settle-settled.ensures.err
