use Rattle.std.proofs.Common.{◌≡◌, sym, ap, ◌∙◌, Some}
use Rattle.lay_style.specs.Values.{Declaration}
use Rattle.lay_style.proofs.Declared.{declared_none, declared_some}
use Rattle.lay_style.proofs.declaration.Decls.get.Goals as goal

pub returns-in_err-k : goal.returns-in_err-k
returns-in_err-k c =
    let items : c.as_slice.result.now ≡ c.args.self.now = c.as_slice.ensures.value ∙ c.self.view_is in
    let none = sym c.place_of_property.ensures.value ∙ c.in_err-k.was {u = tt} in
    c.from_residual.ensures ∙ sym (declared_none c.args.property c.args.self.now (rw items at none))

pub returns : goal.returns
returns c =
    let items : c.as_slice.result.now ≡ c.args.self.now = c.as_slice.ensures.value ∙ c.self.view_is in
    let some = sym c.place_of_property.ensures.value ∙ c.in_ok-k.was {u = tt} in
    let value = declared_some c.args.property c.args.self.now c.in_ok-k.k c.index.result.now (rw items at some) in
    let read = rw c.self.view_is at c.index.ensures in
    rw value (ap (λ v. Some v) (c.value.ensures.value ∙ ap (λ (d : Declaration). d.value) read))
