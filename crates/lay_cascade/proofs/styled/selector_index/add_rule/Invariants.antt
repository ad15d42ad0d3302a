use Rattle.lay_cascade.specs.Styled.Index.{IsIndexedTo}
use Rattle.lay_cascade.proofs.styled.selector_index.add_rule.Given as goal

abbrev pub invariant-loop-s : goal.invariant-loop-s
invariant-loop-s l = IsIndexedTo l.rules l.index.by_name.items l.index.rest l.r l.s
