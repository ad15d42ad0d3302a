use Rattle.std.proofs.Common.{arith, rules, sym, subst}
use Rattle.std.proofs.lemmas.Grind.{common_steps}
use Rattle.serde_json.specs.View.{view}
use Rattle.lay_json.specs.SheetNames.{input_of}
use Rattle.lay_json.specs.Reading.{IsInput, IsNoJson}
use Rattle.lay_json.proofs.Answered.{is_read}
use Rattle.lay_json.proofs.OneInput.{input_read, input_bad_json}
use Rattle.lay_json.proofs.reading.whole_input.Goals as goal

pub returns-in-Err-2 : goal.returns-in-Err-2
returns-in-Err-2 c = λ named.
    let none : IsNoJson c.args.bytes.now = first_of (search rules, grind (arith, common_steps)) in
    input_bad_json c.args.bytes.now c.requires none

pub returns-in-Ok : goal.returns-in-Ok
returns-in-Ok c = λ named.
    subst (IsInput c.args.bytes.now) (sym (is_read c.input_of.result (input_of (view c.in-Ok.value)) c.input_of.ensures named))
    (input_read c.args.bytes.now (view c.in-Ok.value) c.requires (c.in-Ok.ensures.ok))
