use Rattle.std.proofs.Common.{◌≡◌, length, drop}
use Rattle.lay_cascade.specs.Styled.Winners.{with_decls}
use Rattle.lay_cascade.proofs.styled.candidates.take_all.Given as goal

abbrev pub invariant-loop-place : goal.invariant-loop-place
invariant-loop-place l = record {
  count : length l.winners.items ≡ 46;
  goes_on : with_decls l.specificity l.rule l.place (drop l.place l.decls) l.winners.items ≡ with_decls l.specificity l.rule 0 l.decls l.fn.winners.items;
}
