use Rattle.std.proofs.Common.{◌≡◌, length}
use Rattle.lay_context.proofs.known.Known.new.Given as goal

abbrev pub invariant-loop-known : goal.invariant-loop-known
invariant-loop-known l = record {
  widths : length l.widths.items ≡ l._known;
  sizes : length l.sizes.items ≡ l._known;
  places : length l.places.items ≡ l._known;
}
