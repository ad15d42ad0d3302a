use Rattle.std.proofs.Common.{arith}
use Rattle.lay_doc.specs.Document.{parents_of}
use Rattle.lay_doc.proofs.NodeColumns.{length-parents}
use Rattle.lay_doc.proofs.Removed.{CutsSubtree, cut_kept, cut_before}
use Rattle.lay_doc.proofs.removal.remove_between.Goals as goal

pub close_parents-requires-clause-kept : goal.close_parents-requires-clause-kept
close_parents-requires-clause-kept c =
    let len = length-parents c.args.nodes.now.items in
    let cuts : CutsSubtree (parents_of c.args.nodes.now.items) c.args.from c.args.to = record { tree = c.requires.tree; has = omega (arith, c.requires.from); not_root = c.requires.not_root; slot = c.requires.end } in
    rw c.cut.ensures (cut_kept c.args.nodes.now.items c.args.from c.args.to cuts)

pub close_parents-requires-clause-before : goal.close_parents-requires-clause-before
close_parents-requires-clause-before c =
    let len = length-parents c.args.nodes.now.items in
    let cuts : CutsSubtree (parents_of c.args.nodes.now.items) c.args.from c.args.to = record { tree = c.requires.tree; has = omega (arith, c.requires.from); not_root = c.requires.not_root; slot = c.requires.end } in
    rw c.cut.ensures (cut_before c.args.nodes.now.items c.args.from c.args.to cuts)
