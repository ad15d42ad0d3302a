use Rattle.std.proofs.Common.{Some, refl}
use Rattle.lay_report.specs.Report.{run_report}
use Rattle.lay_cli.proofs.DrivenRuns.{driven}
use Rattle.lay_cli.proofs.Endings.{broken_not_read, broken_not_usage, ends_broken, ends_ok}
use Rattle.lay_cli.proofs.drive.driven.Goals as goal

pub returns-in-Ok-write_run-clause-ends : goal.returns-in-Ok-write_run-clause-ends
returns-in-Ok-write_run-clause-ends g c =
    let s = c.in-Ok.core in
    let by = c.in-Ok.ensures {u = tt} in
    let took = rw (c.history.ensures.value, c.trees.ensures.value, c.claims_of.ensures.value) at (c.in-Ok-write_run.ensures {u = tt}).ok in
    ends_ok _ _ _ _ (Some s) (run_report s.history s.trees s.laid)
    (record { driven = driven _ s by.init by.face c.history.ensures.core c.history.ensures.reached by.scripts by.whole; within = c.claims_of.ensures.within; text_is = refl }) took

pub returns-in-Err-write_run-clause-ends : goal.returns-in-Err-write_run-clause-ends
returns-in-Err-write_run-clause-ends g c =
    let s = c.in-Ok.core in
    let by = c.in-Ok.ensures {u = tt} in
    let e = c.in-Err-write_run.ensures {u = tt} in
    let front = rw (c.history.ensures.value, c.trees.ensures.value, c.claims_of.ensures.value) at e.front in
    rw (c.requires.kept, c.status_of.ensures) (ends_broken _ _ _ _ (Some s) (run_report s.history s.trees s.laid) c.in-Err-write_run.fault
    (record { driven = driven _ s by.init by.face c.history.ensures.core c.history.ensures.reached by.scripts by.whole; within = c.claims_of.ensures.within; text_is = refl }) front e.failed)

pub returns-in-Err-write_run-clause-never_usage : goal.returns-in-Err-write_run-clause-never_usage
returns-in-Err-write_run-clause-never_usage g c = rw c.status_of.ensures (broken_not_usage c.in-Err-write_run.fault)

pub returns-in-Err-write_run-clause-never_read_fault : goal.returns-in-Err-write_run-clause-never_read_fault
returns-in-Err-write_run-clause-never_read_fault g c = rw c.status_of.ensures (broken_not_read c.in-Err-write_run.fault)
