use Rattle.std.proofs.Common.{rules}
use Rattle.lay_abspos.proofs.absolute.held.Goals as goal

pub returns : goal.returns
returns c = record {
  left = search rules;
  margin_left = search rules;
  width = search rules;
  margin_right = search rules;
  right = search rules;
}
