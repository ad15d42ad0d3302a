use Rattle.std.proofs.Common.{◌≡◌, ap, sym, ◌∙◌, arith}
use Rattle.lay_contexts.specs.WholePartings.{parting_of, whole_parting}
use Rattle.lay_contexts.proofs.WholePartings.{count_other, count_own}
use Rattle.lay_contexts.proofs.parting.Parting.count_at_home.Goals as goal

pub returns-then-r-eq0 : goal.returns-then-r-eq0
returns-then-r-eq0 c =
    let now : c.args.self.now ≡ whole_parting c.in-Whole.first c.in-Whole.next c.in-Whole.inside = sym c.self.view_is ∙ ap parting_of c.in-Whole.is in
    rw now (sym (count_own c.in-Whole.inside c.args.r c.if-r-eq0.true))

pub returns-else-r-eq0 : goal.returns-else-r-eq0
returns-else-r-eq0 c =
    let now : c.args.self.now ≡ whole_parting c.in-Whole.first c.in-Whole.next c.in-Whole.inside = sym c.self.view_is ∙ ap parting_of c.in-Whole.is in
    rw now (sym (count_other c.in-Whole.inside c.args.r (omega (arith, c.if-r-eq0.false))))
