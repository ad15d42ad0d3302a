use Rattle.lay_style.proofs.Cleared.{distinct_without}
use Rattle.lay_style.proofs.declaration.Decls.clear.Goals as goal

pub invariant_of-self : goal.invariant_of-self
invariant_of-self c = rw c.take_away.ensures (distinct_without c.args.property c.self.inside.items.items c.self.invariant)
