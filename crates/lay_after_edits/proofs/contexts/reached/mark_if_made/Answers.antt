use Rattle.lay_after_edits.proofs.ContextsLemmas.NearSteps.{none-nearest, one-nearest}
use Rattle.lay_after_edits.proofs.contexts.reached.mark_if_made.Goals as goal

pub returns-then-not-made-k-clause-to : goal.returns-then-not-made-k-clause-to
returns-then-not-made-k-clause-to c = none-nearest c.args.doc.now.nodes c.args.near.now c.args.made.now c.args.reached.now.items c.args.k c.if-not-made-k.true c.requires.known

pub returns-clause-to : goal.returns-clause-to
returns-clause-to c =
    one-nearest c.args.doc.now.nodes c.args.near.now c.args.made.now c.args.reached.now.items c.mark_nearest.new.reached.items c.args.k c.mark_nearest.ensures c.requires.known
