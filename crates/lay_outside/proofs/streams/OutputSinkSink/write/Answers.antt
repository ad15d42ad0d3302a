use Rattle.lay_outside.proofs.TakenFronts.{front_written}
use Rattle.lay_outside.proofs.streams.OutputSinkSink.write.Goals as goal

pub returns-clause-takes_front : goal.returns-clause-takes_front
returns-clause-takes_front g c =
    front_written c.write-written.result (g.W.Write.contents c.args.self.now.writer) (g.W.Write.contents c.write-written.new.self)
    (g.W.Write.contents c.flush-flushed.new.self) c.args.piece.now c.write-written.ensures.bound c.write-written.ensures.bytes c.flush-flushed.ensures.bytes
