use Rattle.std.proofs.Common.{◌+◌, ap, subst, sym}
use Rattle.std.specs.BTreeMap.{get}
use Rattle.std.specs.Ordering.{nat_cmp}
use Rattle.lay_doc.specs.declared.node.NodeId.{NodeId}
use Rattle.lay_shape.specs.Touched.NumbersByNode.{IsNumberOf}
use Rattle.lay_shape.proofs.TouchedLemmas.NodeNumbers.{number_more}
use Rattle.lay_shape.proofs.touched.numbers_by_node.numbers_by_node.Goals as goal

pub loop-i-preserved : goal.loop-i-preserved
loop-i-preserved c = λ x.
    subst (IsNumberOf c.args.contexts.now (c.loop-i.i + 1) x) (sym ((c.in_ok-add_number.ensures {u = tt}).ok x))
    (number_more c.args.contexts.now c.loop-i.i x c.node_of.result.0 (get nat_cmp c.loop-i.numbers x) (ap (λ (n : NodeId). n.0) (sym c.node_of.ensures)) (c.loop-i.invariant x))
