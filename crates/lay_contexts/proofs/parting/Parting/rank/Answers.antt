use Rattle.std.proofs.Common.{◌≡◌, ap, sym, ◌∙◌, arith}
use Rattle.lay_contexts.specs.WholePartings.{parting_of, whole_parting}
use Rattle.lay_contexts.proofs.WholePartings.{length_ranks, rank_at}
use Rattle.lay_contexts.proofs.parting.Parting.rank.Goals as goal

pub returns-in-Whole : goal.returns-in-Whole
returns-in-Whole c =
    let now : c.args.self.now ≡ whole_parting c.in-Whole.first c.in-Whole.next c.in-Whole.inside = sym c.self.view_is ∙ ap parting_of c.in-Whole.is in
    let lt = rw now at c.requires in
    rw now (sym (rank_at c.in-Whole.inside c.args.k (omega (arith, lt, length_ranks c.in-Whole.inside))))
