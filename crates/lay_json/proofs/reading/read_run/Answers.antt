use Rattle.std.proofs.Common.{arith}
use Rattle.serde_json.specs.View.{view}
use Rattle.lay_json.specs.RunDocument.{run_of}
use Rattle.lay_json.specs.Reading.{json}
use Rattle.lay_json.proofs.Answered.{is_read}
use Rattle.lay_json.proofs.reading.read_run.Goals as goal

pub returns-in-Ok : goal.returns-in-Ok
returns-in-Ok c = λ named.
    json (view c.in-Ok.value) (omega arith) (c.in-Ok.ensures.ok) (is_read c.run_of.result (run_of (view c.in-Ok.value)) c.run_of.ensures named)
