use Rattle.std.proofs.Common.{◌≡◌, ◌∙◌, ◌<◌, length, drop, ap, subst, rules, arith, IfOk}
use Rattle.std.proofs.lemmas.Grind.{common_steps}
use Rattle.lay_values.specs.Reading.{trimmed}
use Rattle.lay_sheet.proofs.Grammar.{declared_is}
use Rattle.lay_sheet.proofs.declaration.declared.Goals as goal

pub returns : goal.returns
returns c =
    let some : 0 < length c.args.rest.now = first_of (search rules, grind (arith, common_steps)) in
    let value : c.trimmed.result.now ≡ trimmed (drop 1 c.args.rest.now) = c.trimmed.ensures.rest ∙ ap trimmed c.behind_first.ensures in
    subst (λ z. IfOk c.weighed.result (λ d. d ≡ z)) (declared_is c.args.name.now c.args.rest.now c.trimmed.result.now some value) c.weighed.ensures
