use Rattle.std.proofs.Common.{◌∙◌, ◌+◌, ◌↔◌, IsTrue, ap, subst}
use Rattle.lay_lines.specs.Filling.{HasFit}
use Rattle.lay_lines.proofs.top.first_fits.Goals as goal

pub returns-clause-fits : goal.returns-clause-fits
returns-clause-fits c =
    let one = c.next-first.ensures.count ∙ ap (λ n. n + 1) c.requires.count in
    subst (λ n. IsTrue c.fits.result ↔ HasFit c.args.line.now.frame c.args.line.now.top.0 c.args.line.now.stretches.now n c.args.floats.now) one c.fits.ensures
