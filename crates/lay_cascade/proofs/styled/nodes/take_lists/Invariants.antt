use Rattle.std.proofs.Common.{◌≡◌, ◌++◌, List, length, take}
use Rattle.lay_cascade.specs.declared.styled.entry.Entry.{Entry}
use Rattle.lay_cascade.specs.Styled.Index.{of_lists}
use Rattle.lay_cascade.specs.Styled.Seen.{AreWinnersOf}
use Rattle.lay_cascade.proofs.styled.nodes.take_lists.Given as goal

abbrev pub invariant-loop-i : goal.invariant-loop-i
invariant-loop-i l = record {
  count : length l.winners.items ≡ 46;
  so_far : (seen : List Entry) → AreWinnersOf l.cascade.rules.now l.cascade.named.nodes.now l.cascade.named.names.now l.k seen l.fn.winners.items →
      AreWinnersOf l.cascade.rules.now l.cascade.named.nodes.now l.cascade.named.names.now l.k (seen ++ of_lists l.cascade.index.now.by_name.items (take l.i l.numbers)) l.winners.items;
}
