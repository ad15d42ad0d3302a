use Rattle.lay_context.proofs.plan.Plan.contents_of.Goals as goal

pub returns-clause-contents : goal.returns-clause-contents
returns-clause-contents c = rw c.contents_at.ensures (c.args.self.now.have_contents.each c.args.i c.requires)

pub returns-clause-texts : goal.returns-clause-texts
returns-clause-texts c = rw c.contents_at.ensures (c.args.self.now.have_contents.texts c.args.i c.requires)
