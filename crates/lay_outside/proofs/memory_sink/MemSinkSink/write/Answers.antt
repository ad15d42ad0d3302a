use Rattle.std.proofs.Common.{rules, inl}
use Rattle.lay_outside.proofs.memory_sink.MemSinkSink.write.Goals as goal

pub returns-then-fails-clause-fails_only : goal.returns-then-fails-clause-fails_only
returns-then-fails-clause-fails_only c = λ small failed. inl (search rules)
