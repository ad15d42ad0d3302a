use Rattle.std.proofs.Common.{ap, ◌∙◌}
use Rattle.std.specs.Int.{int_min, int_max}
use Rattle.lay_margins.specs.StrutValue.{StrutValue}
use Rattle.lay_margins.proofs.Margins.{holds_one_more}
use Rattle.lay_margins.proofs.strut.Strut.add.Goals as goal

pub returns : goal.returns
returns c margins holds =
    let positive = ap (λ (s : StrutValue). int_max s.positive c.args.margin.0) c.self.view_is in
    let negative = ap (λ (s : StrutValue). int_min s.negative c.args.margin.0) c.self.view_is in
    holds_one_more c.args.self _ margins c.args.margin.0 holds (c.greater.ensures ∙ positive) (c.lesser.ensures ∙ negative)
