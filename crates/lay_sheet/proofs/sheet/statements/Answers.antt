use Rattle.std.proofs.Common.{◌≡◌, length, rules, arith}
use Rattle.std.proofs.lemmas.Grind.{common_steps}
use Rattle.lay_sheet.proofs.Grammar.{text_ends}
use Rattle.lay_sheet.proofs.sheet.statements.Goals as goal

pub returns : goal.returns
returns c =
    let none : length c.loop-rest.rest.now ≡ 0 = first_of (search rules, grind (arith, common_steps)) in
    text_ends c.args.text.now c.loop-rest.rules.items c.loop-rest.rest.now c.loop-rest.invariant none
