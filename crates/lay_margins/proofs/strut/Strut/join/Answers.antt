use Rattle.std.proofs.Common.{◌≡◌}
use Rattle.std.specs.Int.{int_min, int_max}
use Rattle.lay_margins.proofs.Margins.{holds_both}
use Rattle.lay_margins.proofs.strut.Strut.join.Goals as goal

pub returns : goal.returns
returns c margins others holds also =
    let p = c.self.view_is in
    let q = c.other.view_is in
    let positive : c.greater.result.0 ≡ int_max c.args.self.positive c.args.other.positive = rw (← p, ← q) c.greater.ensures in
    let negative : c.lesser.result.0 ≡ int_min c.args.self.negative c.args.other.negative = rw (← p, ← q) c.lesser.ensures in
    holds_both c.args.self c.args.other _ margins others holds also positive negative
