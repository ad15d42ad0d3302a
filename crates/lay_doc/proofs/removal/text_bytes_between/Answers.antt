use Rattle.std.proofs.Common.{arith}
use Rattle.lay_doc.proofs.Removed.{text_size_cut}
use Rattle.lay_doc.proofs.removal.text_bytes_between.Goals as goal

pub overflow_add-bytes : goal.overflow_add-bytes
overflow_add-bytes c =
    let cut = text_size_cut c.args.nodes.now c.args.from c.loop-k.k (omega arith) in
    omega (arith, c.loop-k.invariant)

pub loop-k-preserved : goal.loop-k-preserved
loop-k-preserved c =
    let cut = text_size_cut c.args.nodes.now c.args.from c.loop-k.k (omega arith) in
    omega (arith, c.loop-k.invariant)
