use Rattle.std.proofs.Common.{sym, ◌∙◌}
use Rattle.lay_style.proofs.Declared.{with_none, with_some}
use Rattle.lay_style.proofs.declaration.put.Goals as goal

pub returns-in-Some-clause-ok : goal.returns-in-Some-clause-ok
returns-in-Some-clause-ok c =
    let some = sym c.place_of_property.ensures.value ∙ c.in-Some.is in
    sym (with_some c.args.decl c.args.decls.now.items c.in-Some.k (rw (c.as_slice.ensures.value, c.property.ensures) at some))

pub returns-in_ok-push-in-None-clause-ok : goal.returns-in_ok-push-in-None-clause-ok
returns-in_ok-push-in-None-clause-ok c =
    let none = sym c.place_of_property.ensures.value ∙ c.in-None.is in
    let new = c.in_ok-push-in-None.ensures {u = tt} in
    new.items ∙ sym (with_none c.args.decl c.args.decls.now.items (rw (c.as_slice.ensures.value, c.property.ensures) at none))
