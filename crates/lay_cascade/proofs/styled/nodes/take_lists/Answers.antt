use Rattle.std.proofs.Common.{◌<◌, ◌≤◌, ◌++◌, length, take, sym, subst, arith, rules}
use Rattle.std.specs.List.{Contains}
use Rattle.std.proofs.lemmas.Grind.{common_steps}
use Rattle.std.proofs.lemmas.List.{take_all}
use Rattle.lay_cascade.specs.Styled.Index.{of_lists}
use Rattle.lay_cascade.specs.Styled.Seen.{AreWinnersOf}
use Rattle.lay_cascade.proofs.StyledLemmas.Lists.{element_at, more_lists}
use Rattle.lay_cascade.proofs.styled.nodes.take_lists.Goals as goal

pub list-entries-requires-clause-within : goal.list-entries-requires-clause-within
list-entries-requires-clause-within c =
    let here : c.loop-i.i < length c.args.numbers.now = first_of (search rules, grind (arith, common_steps)) in
    c.requires.within c.number_at.result (element_at c.args.numbers.now c.loop-i.i c.number_at.result here c.number_at.ensures)

pub loop-i-preserved : goal.loop-i-preserved
loop-i-preserved c =
    let sheet = c.args.cascade.rules.now in
    let nodes = c.args.cascade.named.nodes.now in
    let names = c.args.cascade.named.names.now in
    let by_name = c.args.cascade.index.now.by_name.items in
    let numbers = c.args.numbers.now in
    let i = c.loop-i.i in
    let new = c.take_entries.new.winners.items in
    let here : i < length numbers = first_of (search rules, grind (arith, common_steps)) in
    let took = c.in_ok-take_entries.ensures {u = tt} in
    record {
      count = took.count;
      so_far = λ seen was. more_lists sheet nodes names c.args.k seen by_name c.args.cascade.index.now.rest numbers i c.number_at.result new here c.number_at.ensures
          (subst (λ z. AreWinnersOf sheet nodes names c.args.k ((seen ++ of_lists by_name (take i numbers)) ++ z) new) c.list-entries.ensures
          (took.winners (seen ++ of_lists by_name (take i numbers)) (c.loop-i.invariant.so_far seen was)));
    }

pub returns-clause-winners : goal.returns-clause-winners
returns-clause-winners c = λ seen was.
    let by_name = c.args.cascade.index.now.by_name.items in
    let all : length c.args.numbers.now ≤ c.loop-i.i = first_of (omega (arith, c.loop-i-test.false, c.loop-i.auto.i-end), search rules, grind (arith, common_steps)) in
    subst (λ z. AreWinnersOf c.args.cascade.rules.now c.args.cascade.named.nodes.now c.args.cascade.named.names.now c.args.k (seen ++ of_lists by_name z) c.loop-i.winners.items)
    (take_all c.loop-i.i c.args.numbers.now all) (c.loop-i.invariant.so_far seen was)
