use Rattle.std.proofs.Common.{take}
use Rattle.lay_drawing.specs.States.{Reads}
use Rattle.lay_drawing.proofs.state.Reading.read.Given as goal

abbrev pub invariant-loop-byte : goal.invariant-loop-byte
invariant-loop-byte l = Reads l.fn.self (take l.byte-index l.bytes) l.self
