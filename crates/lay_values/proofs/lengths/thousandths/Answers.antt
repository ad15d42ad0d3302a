use Rattle.std.proofs.Common.{◌^◌, ◌∙◌, subst, sym}
use Rattle.lay_values.proofs.Thousandths.{IsWithin, thousandths-within, same-narrow, fits-narrow}
use Rattle.lay_values.proofs.lengths.thousandths.Goals as goal

pub overflow_cast-result : goal.overflow_cast-result
overflow_cast-result c =
    fits-narrow c.scaled.result (subst (IsWithin (10 ^ 12)) (sym c.scaled.ensures) (thousandths-within c.args.number c.requires))

pub returns : goal.returns
returns c =
    same-narrow c.scaled.result (subst (IsWithin (10 ^ 12)) (sym c.scaled.ensures) (thousandths-within c.args.number c.requires)) ∙ c.scaled.ensures
