use Rattle.std.proofs.Common.{arith}
use Rattle.lay_doc.proofs.NodeColumns.{text_within}
use Rattle.lay_doc.proofs.faults.text_fault_at.Goals as goal

pub overflow_sub-all : goal.overflow_sub-all
overflow_sub-all c = let within = text_within c.args.nodes.now c.args.place c.requires.place in omega arith
