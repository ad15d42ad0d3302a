use Rattle.std.proofs.Common.{arith, ◌∙◌, inl, inr}
use Rattle.lay_drawing.proofs.Sources.{first_more, bad_piece}
use Rattle.lay_drawing.proofs.input.read_both.Goals as goal

pub loop-preserved : goal.loop-preserved
loop-preserved g c =
    let read = c.in-Ok-both_read.ensures {u = tt} in
    record {
      before_wanted = read.ok.0.wanted_is ∙ c.loop.invariant.before_wanted;
      after_wanted = read.ok.1.wanted_is ∙ c.loop.invariant.after_wanted;
      before = first_more (g.S.Source.left c.args.source.now) (g.S.Source.left c.loop.source) (g.S.Source.left c.read.new.self) c.loop.both.before c.both_read.new.both.before c.read.new.buf c.in-Ok.n c.loop.invariant.before (c.in-Ok.ensures {u = tt}).gives read.ok.0;
      after = first_more (g.S.Source.left c.args.source.now) (g.S.Source.left c.loop.source) (g.S.Source.left c.read.new.self) c.loop.both.after c.both_read.new.both.after c.read.new.buf c.in-Ok.n c.loop.invariant.after (c.in-Ok.ensures {u = tt}).gives read.ok.1;
      never_falls = omega (arith, c.read.ensures.never_falls, c.loop.invariant.never_falls);
    }

pub returns-in-Err-both_read-clause-cause : goal.returns-in-Err-both_read-clause-cause
returns-in-Err-both_read-clause-cause g c =
    rw c.fault_of.ensures
    (elim (c.in-Err-both_read.ensures {u = tt}).err [
      | inl stops ↦ bad_piece (g.S.Source.faults c.args.source.now) (g.S.Source.faults c.read.new.self) (g.S.Source.left c.args.source.now) (g.S.Source.left c.loop.source) (g.S.Source.left c.read.new.self) c.loop.both.before c.in-Err-both_read.stop c.read.new.buf c.in-Ok.n c.loop.invariant.before (c.in-Ok.ensures {u = tt}).gives stops
      | inr stops ↦ bad_piece (g.S.Source.faults c.args.source.now) (g.S.Source.faults c.read.new.self) (g.S.Source.left c.args.source.now) (g.S.Source.left c.loop.source) (g.S.Source.left c.read.new.self) c.loop.both.after c.in-Err-both_read.stop c.read.new.buf c.in-Ok.n c.loop.invariant.after (c.in-Ok.ensures {u = tt}).gives stops
    ])
