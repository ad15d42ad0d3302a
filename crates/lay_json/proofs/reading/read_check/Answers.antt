use Rattle.std.proofs.Common.{arith}
use Rattle.serde_json.specs.View.{view}
use Rattle.lay_json.specs.CheckDocuments.{check_of}
use Rattle.lay_json.specs.Reading.{check_json}
use Rattle.lay_json.proofs.Answered.{is_read}
use Rattle.lay_json.proofs.reading.read_check.Goals as goal

pub returns-in-Ok : goal.returns-in-Ok
returns-in-Ok c = λ named.
    check_json (view c.in-Ok.value) (omega arith) (c.in-Ok.ensures.ok) (is_read c.check_of.result (check_of (view c.in-Ok.value)) c.check_of.ensures named)
