use Rattle.std.proofs.Common.{rules, sym}
use Rattle.lay_boxgen.proofs.Kept.{none_gathered}
use Rattle.lay_boxgen.proofs.runs.gather.Goals as goal

-- nothing is faulty
pub returns-then-not-has_faulty : goal.returns-then-not-has_faulty
returns-then-not-has_faulty g c = sym (none_gathered (g.R.RunRule.faulty c.args.rule.now) (g.R.RunRule.closed c.args.rule.now) c.args.children.items (search rules))
