use Rattle.lay_placements.specs.Standings.{AreNearStandings}
use Rattle.lay_context.specs.PageCorners.{ArePageStandings}
use Rattle.lay_context.proofs.page_standings.page_standings.Given as goal

abbrev pub invariant-loop-i : goal.invariant-loop-i
invariant-loop-i g l = record {
  noted : ArePageStandings l.laid.contexts.now (g.V.Values.workings l.laid.known.now).places l.standings.items l.i;
  near : AreNearStandings l.standings.items;
}
