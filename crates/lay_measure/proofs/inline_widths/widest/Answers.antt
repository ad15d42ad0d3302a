use Rattle.std.proofs.Common.{[], arith}
use Rattle.lay_measure.specs.LineWidths.{lines_of}
use Rattle.lay_measure.proofs.WidestLines.{zero_first}
use Rattle.lay_measure.proofs.inline_widths.widest.Goals as goal

pub loop-k-init : goal.loop-k-init
loop-k-init c = (omega arith, zero_first c.args.how c.args.tab.0 c.args.start (lines_of c.args.how [] c.args.parts.now))
