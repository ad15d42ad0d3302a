use Rattle.std.proofs.Common.{get_or, refl}
use Rattle.lay_drawing.proofs.ByteSteps.{reads_more, stops_more}
use Rattle.lay_drawing.proofs.state.Reading.read.Goals as goal

pub returns-in-Err-clause-err : goal.returns-in-Err-clause-err
returns-in-Err-clause-err c =
    stops_more c.args.self.now c.loop-byte.self c.in-Err.stop c.args.bytes.now c.loop-byte.byte-index (get_or c.args.bytes.now c.loop-byte.byte-index 0) c.loop-byte-test.true refl c.loop-byte.invariant (c.in-Err.ensures {u = tt}).err

pub loop-byte-preserved : goal.loop-byte-preserved
loop-byte-preserved c =
    reads_more c.args.self.now c.loop-byte.self c.read_byte.new.self c.args.bytes.now c.loop-byte.byte-index (get_or c.args.bytes.now c.loop-byte.byte-index 0) c.loop-byte-test.true refl c.loop-byte.invariant (c.in-Ok.ensures {u = tt}).ok
