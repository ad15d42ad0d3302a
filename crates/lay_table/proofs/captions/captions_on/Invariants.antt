use Rattle.std.proofs.Common.{◌≡◌, length}
use Rattle.lay_table.specs.Captions.{ArePlaces, captions_to}
use Rattle.lay_table.proofs.captions.captions_on.Given as goal

abbrev pub invariant-loop-k : goal.invariant-loop-k
invariant-loop-k l = record {
  are : l.captions.items ≡ captions_to l.side l.boxes l.k;
  within : ArePlaces (length l.boxes) l.captions.items;
}
