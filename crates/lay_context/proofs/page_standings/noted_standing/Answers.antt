use Rattle.std.proofs.Common.{◌∙◌, arith, sym, subst}
use Rattle.lay_placements.specs.Standings.{IsStandingNear}
use Rattle.lay_context.proofs.page_standings.noted_standing.Goals as goal

pub standing_at-requires : goal.standing_at-requires
standing_at-requires g c = omega (arith, c.requires.within, c.requires.noted.count)

pub returns-clause-standing : goal.returns-clause-standing
returns-clause-standing g c = c.standing_at.ensures ∙ c.requires.noted.each c.args.i c.requires.within

pub returns-clause-fits : goal.returns-clause-fits
returns-clause-fits g c =
    subst IsStandingNear (sym c.standing_at.ensures) (c.requires.near c.args.i (omega (arith, c.requires.within, c.requires.noted.count)))
