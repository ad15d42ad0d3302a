use Rattle.lay_box_tree.proofs.OneEnd.{ends_are_one}
use Rattle.lay_box_tree.proofs.part_laws.ends_are_one.Goals as goal

pub returns : goal.returns
returns c = ends_are_one
