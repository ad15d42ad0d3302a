use Rattle.std.proofs.Common.{◌∙◌}
use Rattle.std.proofs.lemmas.Result.{err_from_is_err_and}
use Rattle.lay_placements.proofs.NodeCountSteps.{outside, same_apart, set_here, set_other}
use Rattle.lay_placements.proofs.node_counts.NodeCounts.put.Goals as goal

pub returns-in-Some-clause-here : goal.returns-in-Some-clause-here
returns-in-Some-clause-here c =
    let room = c.make_room.new.self in
    let there = c.in-Some.ensures.there in
    set_here room.others room.first room.table.items c.in-Some.place c.args.id c.args.counts there.0 there.1

pub returns-in-Some-clause-others : goal.returns-in-Some-clause-others
returns-in-Some-clause-others c = λ other apart.
    let room = c.make_room.new.self in
    let there = c.in-Some.ensures.there in
    set_other room.others room.first room.table.items c.in-Some.place c.args.id other c.args.counts there.0 apart ∙ c.make_room.ensures other

pub returns-in_ok-put_apart-in-None-clause-here : goal.returns-in_ok-put_apart-in-None-clause-here
returns-in_ok-put_apart-in-None-clause-here c =
    let room = c.make_room.new.self in
    outside c.put_apart.new.map room.first room.table.items c.args.id (c.place.ensures.outside c.in-None.is) ∙ (c.in_ok-put_apart-in-None.ensures {u = tt}).here

pub returns-in_ok-put_apart-in-None-clause-others : goal.returns-in_ok-put_apart-in-None-clause-others
returns-in_ok-put_apart-in-None-clause-others c = λ other apart.
    let room = c.make_room.new.self in
    same_apart room.others c.put_apart.new.map room.first room.table.items other ((c.in_ok-put_apart-in-None.ensures {u = tt}).others other apart) ∙ c.make_room.ensures other

pub returns-in_err-put_apart-in-None-clause-err : goal.returns-in_err-put_apart-in-None-clause-err
returns-in_err-put_apart-in-None-clause-err c =
    let room = c.make_room.new.self in
    let failed = err_from_is_err_and c.from_residual-in_err-put_apart-in-None.result c.from_residual-in_err-put_apart-in-None.ensures.1 in
    rw failed.1 (λ other. same_apart room.others c.put_apart.new.map room.first room.table.items other (c.in_err-put_apart-in-None.ensures.err other) ∙ c.make_room.ensures other)
