use Rattle.std.proofs.Common.{◌≡◌, ◌++◌, List, length, take}
use Rattle.lay_cascade.specs.declared.styled.entry.Entry.{Entry}
use Rattle.lay_cascade.specs.Styled.Seen.{AreWinnersOf}
use Rattle.lay_cascade.proofs.styled.nodes.take_entries.Given as goal

abbrev pub invariant-loop-i : goal.invariant-loop-i
invariant-loop-i l = record {
  count : length l.winners.items ≡ 46;
  so_far : (seen : List Entry) → AreWinnersOf l.cascade.rules.now l.cascade.named.nodes.now l.cascade.named.names.now l.k seen l.fn.winners.items →
      AreWinnersOf l.cascade.rules.now l.cascade.named.nodes.now l.cascade.named.names.now l.k (seen ++ take l.i l.entries) l.winners.items;
}
