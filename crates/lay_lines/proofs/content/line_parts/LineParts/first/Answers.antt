use Rattle.std.proofs.Common.{drop}
use Rattle.lay_lines.proofs.ContentLemmas.LineParts.{first_few}
use Rattle.lay_lines.proofs.content.line_parts.LineParts.first.Goals as goal

pub open-requires : goal.open-requires
open-requires c = first_few c.loop-k.line (drop c.loop-k.k c.args.boxes.now) _ c.loop-k.invariant c.requires
