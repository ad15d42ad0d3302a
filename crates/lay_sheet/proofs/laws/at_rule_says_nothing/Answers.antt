use Rattle.lay_sheet.proofs.Closing.{at_rule_says_nothing_lem}
use Rattle.lay_sheet.proofs.laws.at_rule_says_nothing.Goals as goal

pub returns : goal.returns
returns c = at_rule_says_nothing_lem
