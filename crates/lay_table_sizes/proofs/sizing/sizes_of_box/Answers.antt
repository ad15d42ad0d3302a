use Rattle.std.proofs.Common.{sym}
use Rattle.lay_table_sizes.proofs.SizeSteps.{sizes_later}
use Rattle.lay_table_sizes.proofs.sizing.sizes_of_box.Goals as goal

pub returns-then-k-place-clause-value : goal.returns-then-k-place-clause-value
returns-then-k-place-clause-value c = sym (sizes_later c.args.place c.args.wrapper c.args.table c.args.k c.if-k-place.true c.if-k-eq0.false)
