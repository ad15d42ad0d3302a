use Rattle.std.proofs.Common.{refl}
use Rattle.lay_inlines.proofs.RemovedSpaces.{spaces_at_the_end_lem}
use Rattle.lay_inlines.proofs.laws.removed_spaces_show_nothing.Goals as goal

pub returns : goal.returns
returns c = record { start = λ k areas fr row ns w xs. refl; end = spaces_at_the_end_lem }
