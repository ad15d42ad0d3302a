use Rattle.std.proofs.Common.{◌≡◌, ◌∙◌, ◌+◌, ◌-◌, ℕ, List, length, drop, reverse, ap, sym, subst, arith}
use Rattle.std.proofs.lemmas.List.{drop-drop, length-drop}
use Rattle.lay_units.specs.declared.length.Unit.{Unit}
use Rattle.lay_inlines.specs.Bounds.{RaiseWithin}
use Rattle.lay_inlines.specs.Raises.{raise_at}
use Rattle.lay_inlines.proofs.Backward.{open_step}
use Rattle.lay_inlines.proofs.RaisesWithin.{raise_within}
use Rattle.lay_inlines.proofs.spans.Behind.put_open.Goals as goal

pub put_one_open-requires-clause-raise : goal.put_one_open-requires-clause-raise
put_one_open-requires-clause-raise c =
    subst RaiseWithin (sym c.raise_at-raise.ensures)
    (raise_within c.args.open_boxes.now.raises.now (length c.args.open_boxes.now.nodes.now - 1 - c.loop-done.done) c.requires.raises)

pub loop-done-preserved : goal.loop-done-preserved
loop-done-preserved c =
    let here = c.from_end.ensures in
    let old = c.loop-done.invariant in
    let now = c.in_ok-put_one_open.ensures in
    let nodes = c.args.open_boxes.now.nodes.now in
    let raises = c.args.open_boxes.now.raises.now in
    let done = c.loop-done.done in
    let edges = reverse c.args.self.now.edges.items in
    let rest = drop (length nodes - done) nodes in
    let as_many : length rest ≡ done = omega (arith, length-drop (length nodes - done) nodes) in
    let at : length nodes - 1 - done ≡ length nodes - (done + 1) = omega arith in
    let place = c.raise_at-raise.ensures ∙ ap (λ (n : ℕ). raise_at raises n) at in
    let next : length nodes - done ≡ length nodes - (done + 1) + 1 = omega arith in
    record {
      spans = rw here (open_step c.args.ends.start.0 c.args.ends.end.0 edges raises (length nodes - (done + 1)) (length nodes - done)
          c.from_end.result.now rest _ _ _ _ _ place next (old.edges ∙ ap (λ (n : ℕ). drop n edges) (sym as_many)) old.spans now.spans);
      edges = now.edges ∙ ap (λ (es : List Unit). drop 1 es) old.edges ∙ drop-drop 1 done edges;
      fits = now.within;
    }
