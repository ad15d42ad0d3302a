use Rattle.std.proofs.Common.{◌∙◌, ◌||◌, ◌+◌, ◌-◌, Bool, length, drop, ap}
use Rattle.std.proofs.lemmas.List.Elements.{All-drop, All-head}
use Rattle.lay_inlines.specs.Bounds.{StrokeWithin}
use Rattle.lay_inlines.specs.Strokes.{is_content}
use Rattle.lay_inlines.proofs.Backward.{spans_step, edges_step}
use Rattle.lay_inlines.proofs.spans.Behind.put_all.Goals as goal

pub put-requires-clause-stroke : goal.put-requires-clause-stroke
put-requires-clause-stroke c =
    All-head StrokeWithin _ _ (rw c.from_end.ensures at (All-drop StrokeWithin (length c.args.strokes.now - (c.loop-done.done + 1)) c.args.strokes.now c.requires.strokes))

pub loop-done-preserved : goal.loop-done-preserved
loop-done-preserved c =
    let here = c.from_end.ensures in
    let old = c.loop-done.invariant in
    let now = c.in_ok-put.ensures in
    let rest = drop (length c.args.strokes.now - c.loop-done.done) c.args.strokes.now in
    record {
      spans = rw here (spans_step c.args.areas.now c.args.end.0 c.from_end.result.now rest c.loop-done.self.followed _ _ _ old.followed old.edges old.spans now.spans);
      edges = rw here (edges_step c.args.areas.now c.from_end.result.now rest c.loop-done.self.followed _ _ old.followed old.edges now.edges);
      followed = rw here (now.followed ∙ ap (λ (b : Bool). is_content c.from_end.result.now.part || b) old.followed);
      fits = now.within;
    }
