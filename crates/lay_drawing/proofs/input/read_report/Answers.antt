use Rattle.std.proofs.Common.{arith, ◌∙◌}
use Rattle.lay_drawing.proofs.Sources.{first_more, bad_piece}
use Rattle.lay_drawing.proofs.input.read_report.Goals as goal

pub loop-preserved : goal.loop-preserved
loop-preserved g c =
    let read = c.in-Ok-read.ensures {u = tt} in
    record {
      wanted = read.ok.wanted_is ∙ c.loop.invariant.wanted;
      first = first_more (g.S.Source.left c.args.source.now) (g.S.Source.left c.loop.source) (g.S.Source.left c.read.new.self) c.loop.reading c.read-in-Ok.new.self c.read.new.buf c.in-Ok.n c.loop.invariant.first (c.in-Ok.ensures {u = tt}).gives read.ok;
      never_falls = omega (arith, c.read.ensures.never_falls, c.loop.invariant.never_falls);
    }

pub returns-in-Err-read-clause-cause : goal.returns-in-Err-read-clause-cause
returns-in-Err-read-clause-cause g c =
    rw c.fault_of.ensures
    (bad_piece (g.S.Source.faults c.args.source.now) (g.S.Source.faults c.read.new.self) (g.S.Source.left c.args.source.now) (g.S.Source.left c.loop.source) (g.S.Source.left c.read.new.self) c.loop.reading c.in-Err-read.stop c.read.new.buf c.in-Ok.n c.loop.invariant.first (c.in-Ok.ensures {u = tt}).gives (c.in-Err-read.ensures {u = tt}).err)
