use Rattle.lay_style.proofs.Declared.{distinct_with}
use Rattle.lay_style.proofs.declaration.Decls.set.Goals as goal

pub invariant_of-self-2 : goal.invariant_of-self-2
invariant_of-self-2 c =
    let new = c.in_ok-put.ensures {u = tt} in
    rw new.ok (distinct_with c.args.decl c.self.inside.items.items c.self.invariant)
