use Rattle.lay_cascade.specs.Styled.Index.{IsIndexedTo}
use Rattle.lay_cascade.proofs.styled.selector_index.index_of.Given as goal

abbrev pub invariant-loop-r : goal.invariant-loop-r
invariant-loop-r l = IsIndexedTo l.rules l.index.by_name.items l.index.rest l.r 0
