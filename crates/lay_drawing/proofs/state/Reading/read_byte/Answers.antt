use Rattle.std.proofs.Common.{arith}
use Rattle.std.proofs.lemmas.Bool.{ne_eqb}
use Rattle.lay_drawing.proofs.ByteSteps.{stops_long}
use Rattle.lay_drawing.proofs.state.Reading.read_byte.Goals as goal

pub returns-then-len-eq-LONGEST-clause-err : goal.returns-then-len-eq-LONGEST-clause-err
returns-then-len-eq-LONGEST-clause-err c =
    stops_long c.args.self.now c.args.byte c.bad_line.result (ne_eqb c.args.byte 10 c.if-byte-eq10.false) (omega arith) c.bad_line.ensures
