use Rattle.std.proofs.Common.{◌≡◌, ◌<◌, ◌++◌, [], Some, length, subst, arith, rules}
use Rattle.std.proofs.lemmas.Grind.{common_steps}
use Rattle.lay_cascade.specs.Styled.Index.{listed, of_classes}
use Rattle.lay_cascade.specs.Styled.Seen.{AreWinnersOf}
use Rattle.lay_cascade.proofs.StyledLemmas.Taking.{none_yet}
use Rattle.lay_cascade.proofs.StyledLemmas.Looking.{looked_up_is, all_looked_up}
use Rattle.lay_cascade.proofs.styled.nodes.winners_at.Goals as goal

pub returns : goal.returns
returns c =
    let sheet = c.args.cascade.rules.now in
    let nodes = c.args.cascade.named.nodes.now in
    let names = c.args.cascade.named.names.now in
    let by_name = c.args.cascade.index.now.by_name.items in
    let rest = c.args.cascade.index.now.rest in
    let n = c.names_at-names.result.now in
    let none = none_yet sheet nodes names c.args.k c.in_ok-winners.winners.items c.in_ok-winners.ensures in
    let tagged = (c.in_ok-take_entries.ensures {u = tt}).winners [] none in
    let labelled = (c.in_ok-take_entries-2.ensures {u = tt}).winners c.named-tagged.result.now tagged in
    let classed = (c.in_ok-take_classes.ensures {u = tt}).winners (c.named-tagged.result.now ++ c.named-labelled.result.now) labelled in
    let all = (c.in_ok-take_entries-3.ensures {u = tt}).winners ((c.named-tagged.result.now ++ c.named-labelled.result.now) ++ of_classes by_name rest c.as_slice.result.now) classed in
    let p : c.named-tagged.result.now ≡ listed by_name rest (Some n.tag) = first_of (search rules, grind (arith, common_steps)) in
    let q : c.named-labelled.result.now ≡ listed by_name rest (Some n.label) = first_of (search rules, grind (arith, common_steps)) in
    let r : of_classes by_name rest c.as_slice.result.now ≡ of_classes by_name rest n.classes = first_of (search rules, grind (arith, common_steps)) in
    let s : c.rest.result.now ≡ rest = first_of (search rules, grind (arith, common_steps)) in
    let here : c.args.k < length names = omega (arith, c.requires.place, c.requires.named.count) in
    all_looked_up sheet nodes names c.args.k n by_name rest c.take_entries-3.new.winners.items c.requires.index here c.names_at-names.ensures
    (subst (λ z. AreWinnersOf sheet nodes names c.args.k z c.take_entries-3.new.winners.items)
    (looked_up_is by_name rest n c.named-tagged.result.now c.named-labelled.result.now (of_classes by_name rest c.as_slice.result.now) c.rest.result.now p q r s) all)
