use Rattle.std.proofs.Common.{rules, refl, FitsSigned, ◌-ℤ◌}
use Rattle.std.specs.Int.{w64, w128}
use Rattle.std.proofs.lemmas.Int.{to_z-of_z}
use Rattle.lay_drawing.proofs.label.fits.Goals as goal

pub returns : goal.returns
returns c =
    let f1 : FitsSigned w128 c.from.result = search rules in
    let f2 : FitsSigned w128 c.from-2.result = search rules in
    let f3 : FitsSigned w128 c.from-3.result = search rules in
    let f4 : FitsSigned w128 (c.from-2.result -ℤ c.from-3.result) = search rules in
    let f5 : FitsSigned w64 c.args.size = search rules in
    let f6 : FitsSigned w64 c.args.most = search rules in
    let f7 : FitsSigned w64 c.args.from = search rules in
    rw (
      to_z-of_z w128 c.from.result f1,
      to_z-of_z w128 c.from-2.result f2,
      to_z-of_z w128 c.from-3.result f3,
      to_z-of_z w128 (c.from-2.result -ℤ c.from-3.result) f4,
      c.from.ensures,
      c.from-2.ensures,
      c.from-3.ensures,
      to_z-of_z w64 c.args.size f5,
      to_z-of_z w64 c.args.most f6,
      to_z-of_z w64 c.args.from f7,
    )
    refl
