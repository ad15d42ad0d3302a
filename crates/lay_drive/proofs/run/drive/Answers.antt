use Rattle.lay_core.proofs.Shown.{whole_of}
use Rattle.lay_drive.proofs.JobsRun.{calls_left, ended_answers, ended_tables, made_is, refreshed_answers, started, tables_of}
use Rattle.lay_drive.proofs.run.drive.Goals as goal

pub run_all-requires-clause-of : goal.run_all-requires-clause-of
run_all-requires-clause-of g c κs within =
    tables_of _ _ c.args.run.scripts _
    (started _ _ c.args.run.scripts _ _ _ _ _ c.into_parts-doc.ensures.scripts c.as_slice.ensures.value (c.in_ok-counts.ensures {u = tt}) c.in_ok-engine.ensures.passes
    c.in_ok-jobs.ensures.passes c.in_ok-jobs.ensures.scripts)

pub run_all-requires-clause-left : goal.run_all-requires-clause-left
run_all-requires-clause-left g c κs within =
    calls_left _ _ c.args.run.scripts _
    (started _ _ c.args.run.scripts _ _ _ _ _ c.into_parts-doc.ensures.scripts c.as_slice.ensures.value (c.in_ok-counts.ensures {u = tt}) c.in_ok-engine.ensures.passes
    c.in_ok-jobs.ensures.passes c.in_ok-jobs.ensures.scripts)

pub close-requires-clause-of : goal.close-requires-clause-of
close-requires-clause-of g c =
    ended_tables _ _ c.args.run.scripts _ _
    (started _ _ c.args.run.scripts _ _ _ _ _ c.into_parts-doc.ensures.scripts c.as_slice.ensures.value (c.in_ok-counts.ensures {u = tt}) c.in_ok-engine.ensures.passes
    c.in_ok-jobs.ensures.passes c.in_ok-jobs.ensures.scripts) (c.in_ok-items.ensures {u = tt})

pub returns-clause-scripts : goal.returns-clause-scripts
returns-clause-scripts g c =
    let closed = c.in-Ok.ensures {u = tt} in
    let new = started _ _ c.args.run.scripts _ _ _ _ _ c.into_parts-doc.ensures.scripts c.as_slice.ensures.value (c.in_ok-counts.ensures {u = tt}) c.in_ok-engine.ensures.passes
    c.in_ok-jobs.ensures.passes c.in_ok-jobs.ensures.scripts in
    let made = made_is _ _ _ c.args.run.scripts _ _ _ c.in_ok-engine.ensures.closer c.into_parts-doc.ensures.scripts c.as_slice.ensures.value (c.in_ok-counts.ensures {u = tt}) in
    refreshed_answers c.args.run.scripts c.in-Ok.core c.refresh.new.self c.in_ok-refresh.ensures.ok
    (ended_answers _ _ c.args.run.scripts _ _ _ _ made new (c.in_ok-items.ensures {u = tt}) closed.known closed.others)

pub returns-clause-whole : goal.returns-clause-whole
returns-clause-whole g c = whole_of c.in-Ok.core c.refresh.new.self c.in_ok-refresh.ensures.ok
