use Rattle.lay_measure.proofs.ChildLaws.{lone_block_lem}
use Rattle.lay_measure.proofs.laws.lone_block_gives_its_widths.Goals as goal

pub returns : goal.returns
returns c = lone_block_lem
