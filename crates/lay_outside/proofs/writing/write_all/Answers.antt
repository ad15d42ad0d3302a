use Rattle.std.proofs.Common.{◌+◌, arith}
use Rattle.std.proofs.lemmas.List.{length-drop}
use Rattle.lay_outside.proofs.TakenFronts.{took_more}
use Rattle.lay_outside.proofs.writing.write_all.Goals as goal

pub loop-done-preserved : goal.loop-done-preserved
loop-done-preserved g c =
    let e = rw c.behind.ensures at c.in-Ok.ensures in
    record {
      within = omega (arith, length-drop c.loop-done.done c.args.text.now, e.count);
      took = took_more (g.K.Sink.taken c.args.sink.now) (g.K.Sink.taken c.loop-done.sink) (g.K.Sink.taken c.write.new.self) c.args.text.now c.loop-done.done c.in-Ok.n c.loop-done.invariant.took e.takes;
      never_falls = omega (arith, c.write.ensures.never_falls, c.loop-done.invariant.never_falls);
    }

pub returns-in-Err-clause-front : goal.returns-in-Err-clause-front
returns-in-Err-clause-front g c =
    let e = rw c.behind.ensures at c.in-Err.ensures in
    let more = e.takes_front in (
      c.loop-done.done + more.0,
      omega (arith, length-drop c.loop-done.done c.args.text.now, more.1, c.loop-done.invariant.within),
      took_more (g.K.Sink.taken c.args.sink.now) (g.K.Sink.taken c.loop-done.sink) (g.K.Sink.taken c.write.new.self) c.args.text.now c.loop-done.done more.0 c.loop-done.invariant.took more.2,
    )
