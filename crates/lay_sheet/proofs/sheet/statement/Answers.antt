use Rattle.std.proofs.Common.{◌≡◌, ◌∙◌, true, false, ap, rules, arith}
use Rattle.std.proofs.lemmas.Grind.{common_steps}
use Rattle.std.specs.Prelude.{◌==◌, slice_index}
use Rattle.std.specs.Char.{is_ascii_whitespace}
use Rattle.lay_sheet.specs.Pieces.{behind_at_rule}
use Rattle.lay_sheet.proofs.Grammar.{one_space, one_at_rule}
use Rattle.lay_sheet.proofs.sheet.statement.Goals as goal

pub returns-then-is_ascii_whitespace-clause-grammar : goal.returns-then-is_ascii_whitespace-clause-grammar
returns-then-is_ascii_whitespace-clause-grammar c =
    let space : is_ascii_whitespace (slice_index c.args.text.now 0) ≡ true = first_of (search rules, grind (arith, common_steps)) in
    one_space c.args.text.now c.requires space c.behind_first.result.now c.behind_first.ensures

pub returns-then-text-eq64-clause-grammar : goal.returns-then-text-eq64-clause-grammar
returns-then-text-eq64-clause-grammar c =
    let no_space : is_ascii_whitespace (slice_index c.args.text.now 0) ≡ false = first_of (search rules, grind (arith, common_steps)) in
    let sign : (slice_index c.args.text.now 0 == 64) ≡ true = first_of (search rules, grind (arith, common_steps)) in
    one_at_rule c.args.text.now c.requires no_space sign c.behind_at_rule.result.now (c.behind_at_rule.ensures.rest ∙ ap behind_at_rule c.behind_first-then-text-eq64.ensures)
