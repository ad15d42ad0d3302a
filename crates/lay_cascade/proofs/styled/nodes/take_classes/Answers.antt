use Rattle.std.proofs.Common.{◌++◌, length, sym, subst}
use Rattle.std.specs.List.{Contains}
use Rattle.lay_cascade.specs.Styled.Index.{of_lists}
use Rattle.lay_cascade.specs.Styled.Seen.{AreWinnersOf}
use Rattle.lay_cascade.proofs.StyledLemmas.Lists.{lists_below, winners_of_lists}
use Rattle.lay_cascade.proofs.styled.nodes.take_classes.Goals as goal

pub take_lists-requires-clause-within : goal.take_lists-requires-clause-within
take_lists-requires-clause-within c = λ n w.
    lists_below c.args.classes.now c.in_ok-numbers.numbers.items c.in_ok-numbers.ensures n (subst (λ z. Contains z n) c.as_slice.ensures.value w)

pub returns-clause-winners : goal.returns-clause-winners
returns-clause-winners c = λ seen was.
    let by_name = c.args.cascade.index.now.by_name.items in
    let took = c.in_ok-take_lists.ensures {u = tt} in
    winners_of_lists c.args.cascade.rules.now c.args.cascade.named.nodes.now c.args.cascade.named.names.now c.args.k seen by_name c.args.cascade.index.now.rest
    c.args.classes.now c.in_ok-numbers.numbers.items c.take_lists.new.winners.items c.in_ok-numbers.ensures
    (subst (λ z. AreWinnersOf c.args.cascade.rules.now c.args.cascade.named.nodes.now c.args.cascade.named.names.now c.args.k (seen ++ of_lists by_name z) c.take_lists.new.winners.items)
    c.as_slice.ensures.value (took.winners seen was))
