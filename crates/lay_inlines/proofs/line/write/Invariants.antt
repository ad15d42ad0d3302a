use Rattle.std.proofs.Common.{◌≡◌, ◌++◌, map, reverse, vec_len}
use Rattle.std.specs.List.{All}
use Rattle.lay_inlines.specs.LinePieces.{piece_of}
use Rattle.lay_inlines.specs.Bounds.{SpanWithin}
use Rattle.lay_inlines.proofs.line.write.Given as goal

abbrev pub invariant-loop-span : goal.invariant-loop-span
invariant-loop-span l = record {
  pieces : l.out.items ++ map (piece_of l.areas l.origin.x.0 l.origin.y.0) (reverse l.spans.items)
      ≡ l.initial.out.items ++ map (piece_of l.areas l.origin.x.0 l.origin.y.0) (reverse l.initial.spans.items);
  fits : All SpanWithin l.spans.items;
}

abbrev pub decreases-loop-span : goal.decreases-loop-span
decreases-loop-span l = vec_len l.spans
