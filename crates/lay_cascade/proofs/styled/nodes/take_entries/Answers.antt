use Rattle.std.proofs.Common.{◌<◌, ◌≤◌, ◌++◌, length, take, subst, arith, rules}
use Rattle.std.proofs.lemmas.Grind.{common_steps}
use Rattle.std.proofs.lemmas.List.{take_all}
use Rattle.lay_cascade.specs.Styled.Seen.{AreWinnersOf}
use Rattle.lay_cascade.proofs.StyledLemmas.Taking.{more_entries}
use Rattle.lay_cascade.proofs.styled.nodes.take_entries.Goals as goal

pub loop-i-preserved : goal.loop-i-preserved
loop-i-preserved c =
    let entries = c.args.entries.now in
    let i = c.loop-i.i in
    let here : i < length entries = first_of (search rules, grind (arith, common_steps)) in
    let took = c.in_ok-take_entry.ensures {u = tt} in
    record {
      count = took.count;
      so_far = λ seen was. more_entries c.args.cascade.rules.now c.args.cascade.named.nodes.now c.args.cascade.named.names.now c.args.k seen entries i c.entry_at.result c.take_entry.new.winners.items here c.entry_at.ensures
          (took.winners (seen ++ take i entries) (c.loop-i.invariant.so_far seen was));
    }

pub returns-clause-winners : goal.returns-clause-winners
returns-clause-winners c = λ seen was.
    let all : length c.args.entries.now ≤ c.loop-i.i = first_of (omega (arith, c.loop-i-test.false, c.loop-i.auto.i-end), search rules, grind (arith, common_steps)) in
    subst (λ z. AreWinnersOf c.args.cascade.rules.now c.args.cascade.named.nodes.now c.args.cascade.named.names.now c.args.k (seen ++ z) c.loop-i.winners.items) (take_all c.loop-i.i c.args.entries.now all) (c.loop-i.invariant.so_far seen was)
