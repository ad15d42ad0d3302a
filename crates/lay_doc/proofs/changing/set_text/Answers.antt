use Rattle.lay_doc.specs.Changes.{with_text}
use Rattle.lay_doc.proofs.Changed.{changed_is}
use Rattle.lay_doc.proofs.changing.set_text.Goals as goal

pub returns : goal.returns
returns c = changed_is c.args.nodes.now.items c.args.place c.index_mut.result.now (with_text c.args.text) c.requires c.index_mut.ensures.value
