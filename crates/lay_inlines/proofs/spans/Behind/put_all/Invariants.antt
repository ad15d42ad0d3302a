use Rattle.std.proofs.Common.{◌≡◌, ◌-◌, drop, length, reverse}
use Rattle.lay_inlines.specs.Behind.{BehindWithin}
use Rattle.lay_inlines.specs.Spans.{ended_right_edges, spans_of}
use Rattle.lay_inlines.specs.Strokes.{has_content}
use Rattle.lay_inlines.proofs.spans.Behind.put_all.Given as goal

abbrev pub invariant-loop-done : goal.invariant-loop-done
invariant-loop-done l = record {
  spans : reverse l.self.spans.items ≡ spans_of l.areas l.end.0 (drop (length l.strokes - l.done) l.strokes);
  edges : reverse l.self.edges.items ≡ ended_right_edges l.areas (drop (length l.strokes - l.done) l.strokes);
  followed : l.self.followed ≡ has_content (drop (length l.strokes - l.done) l.strokes);
  fits : BehindWithin l.self;
}
