use Rattle.std.proofs.Common.{◌≡◌, ◌-◌, ◌++◌, drop, length, reverse}
use Rattle.lay_inlines.specs.Behind.{BehindWithin}
use Rattle.lay_inlines.specs.Spans.{open_spans}
use Rattle.lay_inlines.proofs.spans.Behind.put_open.Given as goal

abbrev pub invariant-loop-done : goal.invariant-loop-done
invariant-loop-done l = record {
  spans : reverse l.self.spans.items ≡ open_spans l.ends.start.0 l.ends.end.0 (reverse l.initial.self.edges.items)
      (drop (length l.open_boxes.nodes.now - l.done) l.open_boxes.raises.now) (drop (length l.open_boxes.nodes.now - l.done) l.open_boxes.nodes.now)
      ++ reverse l.initial.self.spans.items;
  edges : reverse l.self.edges.items ≡ drop l.done (reverse l.initial.self.edges.items);
  fits : BehindWithin l.self;
}
