use Rattle.std.proofs.Common.{sym, ◌∙◌}
use Rattle.lay_style.proofs.Cleared.{without_none, without_some}
use Rattle.lay_style.proofs.declaration.take_away.Goals as goal

pub returns-in-Some : goal.returns-in-Some
returns-in-Some c =
    let some = sym c.place_of_property.ensures.value ∙ c.in-Some.is in
    c.remove.ensures.items ∙ sym (without_some c.args.property c.args.decls.now.items c.in-Some.k (rw c.as_slice.ensures.value at some))

pub returns-in_default : goal.returns-in_default
returns-in_default c =
    let none = sym c.place_of_property.ensures.value ∙ c.in_default.is in
    sym (without_none c.args.property c.args.decls.now.items (rw c.as_slice.ensures.value at none))
