use Rattle.lay_doc.specs.Changes.{with_style}
use Rattle.lay_doc.proofs.Changed.{changed_is}
use Rattle.lay_doc.proofs.changing.set_style.Goals as goal

pub returns-clause-ok : goal.returns-clause-ok
returns-clause-ok c =
    let new = c.in_ok-set.ensures {u = tt} in
    rw new.ok (changed_is c.args.nodes.now.items c.args.place c.index_mut.result.now (with_style c.args.decl) c.requires c.index_mut.ensures.value)
