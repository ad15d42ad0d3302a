use Rattle.std.proofs.Common.{sym, subst}
use Rattle.std.proofs.lemmas.Result.{IfOk-weaker}
use Rattle.lay_cascade.specs.ClassSets.{IsSetOf, MaySetOf}
use Rattle.lay_cascade.proofs.class_sets.set_for.Goals as goal

pub returns : goal.returns
returns c =
    IfOk-weaker c.set_of.result (IsSetOf c.as_slice-classes.result.now) (MaySetOf c.args.names.now.classes)
    (λ set is. λ many. subst (λ z. IsSetOf z set) c.as_slice-classes.ensures is) c.set_of.ensures
