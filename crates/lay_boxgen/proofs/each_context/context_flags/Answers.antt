use Rattle.std.proofs.Common.{◌↔◌, IsTrue}
use Rattle.lay_boxgen.specs.Contexts.{IsContextAt}
use Rattle.lay_boxgen.proofs.ContextFlags.{marked_generated, one_flag_more, one_generated}
use Rattle.lay_boxgen.proofs.each_context.context_flags.Goals as goal

pub loop-k-preserved : goal.loop-k-preserved
loop-k-preserved c =
    let nodes = c.nodes-nodes.result.now in
    let styles = c.as_slice-styles.result.now in
    let k = c.loop-k.k in
    let is = c.generated_box-facts.ensures in
    let context : IsTrue c.is_marked.result ↔ IsContextAt nodes styles k = rw c.is_marked.ensures (marked_generated nodes styles k c.generated_box-facts.result is) in
    let contexts = (c.in_ok-push.ensures {u = tt}).items in
    let generated = (c.in_ok-push-2.ensures {u = tt}).items in (
      rw generated (one_generated nodes styles k c.loop-k.generated.items c.generated_box-facts.result c.loop-k.invariant.0 is),
      rw contexts (one_flag_more (IsContextAt nodes styles) k c.loop-k.contexts.items c.is_marked.result c.loop-k.invariant.1 context),
    )
