use Rattle.std.proofs.Common.{Some, None, rules, arith}
use Rattle.std.proofs.lemmas.Grind.{common_steps}
use Rattle.lay_sheet.specs.Pieces.{block_to}
use Rattle.lay_sheet.specs.SelectorTexts.{AreSelectors}
use Rattle.lay_sheet.specs.Declarations.{AreDeclarations}
use Rattle.lay_sheet.specs.Sheets.{kept, ignored}
use Rattle.lay_sheet.proofs.rule.rule_of.Goals as goal

pub returns-in_default-clause-rule : goal.returns-in_default-clause-rule
returns-in_default-clause-rule c =
    let none : AreSelectors c.args.prelude.now None = first_of (search rules, grind (arith, common_steps)) in
    ignored c.args.prelude.now (block_to 0 c.args.text.now) none

pub returns-clause-rule : goal.returns-clause-rule
returns-clause-rule c =
    let some : AreSelectors c.args.prelude.now (Some c.in-Some.selectors.items) = first_of (search rules, grind (arith, common_steps)) in
    let decls : AreDeclarations (block_to 0 c.args.text.now) c.in_ok-decls.decls.items = first_of (search rules, grind (arith, common_steps)) in
    kept c.args.prelude.now (block_to 0 c.args.text.now) c.in-Some.selectors.items c.in_ok-decls.decls.items some decls
