use Rattle.std.proofs.Common.{◌≡◌, Some, rules, arith}
use Rattle.std.proofs.lemmas.Grind.{common_steps}
use Rattle.lay_values.specs.Reading.{value_of}
use Rattle.lay_values.proofs.Ascii.{declared_utf8}
use Rattle.lay_values.proofs.reading.declared_value.Goals as goal

pub returns-clause-utf8 : goal.returns-clause-utf8
returns-clause-utf8 c =
    let is : value_of c.args.property c.trimmed.result.now ≡ Some c.in-Some.value = first_of (search rules, grind (arith, common_steps)) in
    declared_utf8 c.args.property c.args.text.now c.trimmed.result.now c.in-Some.value c.new.result is c.trimmed.ensures.ascii
