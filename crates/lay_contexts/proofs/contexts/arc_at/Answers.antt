use Rattle.std.specs.Arc.{arc_value}
use Rattle.lay_contexts.specs.Contexts.{no_context}
use Rattle.lay_contexts.proofs.SharedContexts.{value_at}
use Rattle.lay_contexts.proofs.contexts.arc_at.Goals as goal

pub returns : goal.returns
returns c = value_at arc_value no_context c.args.items.now c.args.i c.index-items-i.result c.requires c.index-items-i.is
