use Rattle.std.proofs.Common.{◌<◌, ◌≤◌, length, arith, subst}
use Rattle.lay_json.specs.Reading.{IsInput}
use Rattle.lay_json.proofs.OneInput.{input_read, input_too_long}
use Rattle.lay_json.proofs.reading.read_input.Goals as goal

pub returns-then-bytes-gt-MOST_BYTES : goal.returns-then-bytes-gt-MOST_BYTES
returns-then-bytes-gt-MOST_BYTES c = λ named.
    let more : 16777216 < length c.args.bytes.now = omega (arith, c.if-bytes-gt-MOST_BYTES.true) in
    input_too_long c.args.bytes.now more

pub returns-in-Ok : goal.returns-in-Ok
returns-in-Ok c = λ named.
    let few : length c.args.bytes.now ≤ 16777216 = omega (arith, c.if-bytes-gt-MOST_BYTES.false) in
    let said = c.in-Ok.ensures in
    subst (IsInput c.args.bytes.now) said.2 (input_read c.args.bytes.now said.0 few said.1)
