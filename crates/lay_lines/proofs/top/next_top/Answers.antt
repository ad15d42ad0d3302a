use Rattle.std.proofs.Common.{ℤ, ◌≤ℤ◌, subst}
use Rattle.lay_units.specs.declared.length.Unit.{Unit}
use Rattle.lay_floats.specs.Beside.{IsNextBottom}
use Rattle.lay_lines.proofs.ContentLemmas.Outcomes.{not_both, if_some_map}
use Rattle.lay_lines.specs.Filling.{Begins}
use Rattle.lay_lines.proofs.LineTops.{no_line_higher}
use Rattle.lay_lines.proofs.top.next_top.Goals as goal

pub returns-clause-none_higher : goal.returns-clause-none_higher
returns-clause-none_higher c =
    let fr = c.args.line.now.frame in
    let ss = c.args.line.now.stretches.now in
    let floats = c.args.floats.now in
    if_some_map (λ (v : Unit). IsNextBottom floats c.args.line.now.top.0 c.strut_height.result.0 v.0) (λ (v : Unit). (z : ℤ) → Begins fr z ss floats → c.args.line.now.top.0 ≤ℤ z → v.0 ≤ℤ z) c.next_bottom.result
    c.next_bottom.ensures.some (λ v is z begins down. no_line_higher fr c.args.line.now.top.0 v.0 z ss floats c.first_fits.ensures.room
    (λ fit. not_both c.first_fits.result (c.first_fits.ensures.fits.1 fit) c.if-first_fits.false)
    (subst (λ h. IsNextBottom floats c.args.line.now.top.0 h v.0) c.strut_height.ensures is) begins down)
