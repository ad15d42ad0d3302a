use Rattle.std.proofs.Common.{ℕ, ℤ, List, length, sym, subst}
use Rattle.lay_valign.specs.Pass.Columns.{StandFirst}
use Rattle.std.specs.Prelude.{All}
use Rattle.lay_units.specs.Units.{IsWithinPower}
use Rattle.lay_valign.specs.Subtrees.{above_of, below_of}
use Rattle.lay_valign.specs.Pass.Reaches.{ReachesTo}
use Rattle.lay_valign.proofs.Columns.{stand_first, rises_within, subtrees_fit}
use Rattle.lay_valign.proofs.subtrees.Subtrees.new.Goals as goal

pub aboves_of-requires-clause-first : goal.aboves_of-requires-clause-first
aboves_of-requires-clause-first c = subst StandFirst (sym c.as_slice.ensures.value) (stand_first _ _ c.requires.are_parts c.in_ok-roots.ensures)

pub aboves_of-requires-clause-rises : goal.aboves_of-requires-clause-rises
aboves_of-requires-clause-rises c = subst (All (IsWithinPower 63)) (sym c.as_slice-2.ensures.value) (rises_within _ _ c.requires.few c.in_ok-rises.ensures)

pub belows_of-requires-clause-first : goal.belows_of-requires-clause-first
belows_of-requires-clause-first c = subst StandFirst (sym c.as_slice-3.ensures.value) (stand_first _ _ c.requires.are_parts c.in_ok-roots.ensures)

pub belows_of-requires-clause-rises : goal.belows_of-requires-clause-rises
belows_of-requires-clause-rises c = subst (All (IsWithinPower 63)) (sym c.as_slice-4.ensures.value) (rises_within _ _ c.requires.few c.in_ok-rises.ensures)

pub returns : goal.returns
returns c =
    subtrees_fit _ _ c.requires.are_parts c.requires.few c.in_ok-roots.ensures c.in_ok-rises.ensures
    (subst (λ (r : List ℕ). ReachesTo r (above_of c.args.parts.now c.in_ok-rises.rises.items)
    (length c.args.parts.now) c.in_ok-aboves.aboves.items) c.as_slice.ensures.value
    (subst (λ (r : List ℤ). ReachesTo c.as_slice.result.now (above_of c.args.parts.now r)
    (length c.args.parts.now) c.in_ok-aboves.aboves.items) c.as_slice-2.ensures.value c.in_ok-aboves.ensures))
    (subst (λ (r : List ℕ). ReachesTo r (below_of c.args.parts.now c.in_ok-rises.rises.items)
    (length c.args.parts.now) c.in_ok-belows.belows.items) c.as_slice-3.ensures.value
    (subst (λ (r : List ℤ). ReachesTo c.as_slice-3.result.now (below_of c.args.parts.now r)
    (length c.args.parts.now) c.in_ok-belows.belows.items) c.as_slice-4.ensures.value c.in_ok-belows.ensures))
