use Rattle.std.proofs.Common.{◌≡◌, ap, sym, ◌∙◌, arith}
use Rattle.lay_contexts.specs.WholePartings.{parting_of, whole_parting}
use Rattle.lay_contexts.proofs.WholePartings.{member_is, member_low}
use Rattle.lay_contexts.proofs.parting.Parting.at_home.Goals as goal

pub overflow_add-result : goal.overflow_add-result
overflow_add-result c =
    let now : c.args.self.now ≡ whole_parting c.in-Whole.first c.in-Whole.next c.in-Whole.inside = sym c.self.view_is ∙ ap parting_of c.in-Whole.is in
    let low = member_low c.in-Whole.inside c.args.r c.args.a (rw now at c.requires.place) in
    omega (arith, low)

pub returns-in-Whole : goal.returns-in-Whole
returns-in-Whole c =
    let now : c.args.self.now ≡ whole_parting c.in-Whole.first c.in-Whole.next c.in-Whole.inside = sym c.self.view_is ∙ ap parting_of c.in-Whole.is in
    rw now (sym (member_is c.in-Whole.inside c.args.r c.args.a (rw now at c.requires.place)))
