use Rattle.lay_doc.specs.Changes.{without_style}
use Rattle.lay_doc.proofs.Changed.{changed_is}
use Rattle.lay_doc.proofs.changing.clear_style.Goals as goal

pub returns : goal.returns
returns c = rw c.clear.ensures (changed_is c.args.nodes.now.items c.args.place c.index_mut.result.now (without_style c.args.property) c.requires c.index_mut.ensures.value)
