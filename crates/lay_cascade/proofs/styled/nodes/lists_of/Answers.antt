use Rattle.std.proofs.Common.{◌≡◌, ◌∙◌, ◌<◌, ◌≤◌, ◌++◌, ◌∷◌, [], length, map, take, sym, ap, subst, arith, rules}
use Rattle.std.proofs.lemmas.Grind.{common_steps}
use Rattle.std.proofs.lemmas.List.{take_all}
use Rattle.std.proofs.lemmas.List.Filters.{dedup_is}
use Rattle.lay_cascade.specs.Styled.Index.{list_of, AreListsOf}
use Rattle.lay_cascade.proofs.StyledLemmas.Lists.{more_numbers, lists_kept}
use Rattle.lay_cascade.proofs.styled.nodes.lists_of.Goals as goal

pub loop-i-preserved : goal.loop-i-preserved
loop-i-preserved c =
    let here : c.loop-i.i < length c.args.classes.now = first_of (search rules, grind (arith, common_steps)) in
    let pushed : c.push.new.self.items ≡ c.loop-i.numbers.items ++ list_of c.class_at.result.now ∷ [] = first_of (search rules, grind (arith, common_steps)) in
    pushed ∙ more_numbers c.args.classes.now c.loop-i.i c.class_at.result.now c.loop-i.numbers.items here c.class_at.ensures c.loop-i.invariant

pub returns : goal.returns
returns c =
    let all : length c.args.classes.now ≤ c.loop-i.i = first_of (omega (arith, c.loop-i-test.false, c.loop-i.auto.i-end), search rules, grind (arith, common_steps)) in
    let is = c.loop-i.invariant ∙ ap (map list_of) (take_all c.loop-i.i c.args.classes.now all) in
    lists_kept c.args.classes.now _ _ _ is c.sort_unstable.ensures.permutation (dedup_is _ _ _ c.dedup.ensures.filtered)
