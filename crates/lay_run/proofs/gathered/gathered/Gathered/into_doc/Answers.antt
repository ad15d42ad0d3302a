use Rattle.lay_run.proofs.gathered.gathered.Gathered.into_doc.Goals as goal

pub in_order-requires : goal.in_order-requires
in_order-requires c = c.self.invariant.stands
