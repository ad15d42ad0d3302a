use Rattle.std.proofs.Common.{◌≡◌, ◌∙◌, ◌++◌, ℕ, List, get_or, ap, sym, subst}
use Rattle.std.proofs.lemmas.List.Elements.{All-get_or}
use Rattle.lay_units.specs.Units.{IsUsed}
use Rattle.lay_lines.specs.declared.content.frame.Frame.{Frame}
use Rattle.lay_lines.specs.Content.LineContents.{boxes_of}
use Rattle.lay_inlines.specs.Bounds.{RowWithin}
use Rattle.lay_inlines.specs.LinePieces.{pieces_if_seen}
use Rattle.lay_inlines.specs.OpenBoxes.{open_after}
use Rattle.lay_inlines.specs.Strokes.{parts_of}
use Rattle.lay_inlines.proofs.OpenBoxSteps.{has_none, none_behind, none_in_front, none_open_after}
use Rattle.lay_inlines.proofs.RowSteps.{pieces_more, next_indent}
use Rattle.lay_inlines.proofs.Spreads.{pens_of, rest_spread}
use Rattle.lay_inlines.proofs.lines.line_pieces.Goals as goal

pub put_row-requires-clause-pens : goal.put_row-requires-clause-pens
put_row-requires-clause-pens c =
    let old = c.loop-k.invariant in
    let row = All-get_or RowWithin c.args.lines.now.rows.now c.loop-k.k _ c.loop-k-test.true c.requires.rows in
    pens_of c.loop-k.frame c.args.lines.now.container.left c.args.lines.now.content.now.tab _ _ c.loop-k.rest.now c.front-taken.result.now old.left old.tab c.front-taken.ensures c.requires.left row.start
    old.indent old.spread

pub pass_row-requires-clause-no_boxes : goal.pass_row-requires-clause-no_boxes
pass_row-requires-clause-no_boxes c none =
    let all = has_none c.has_boxes.result c.args.lines.now.content.now.stretches c.has_boxes.ensures.1 none in
    ap boxes_of c.front-taken.ensures ∙ none_in_front _ c.loop-k.rest.now (c.loop-k.invariant.no_boxes all)

pub loop-k-preserved : goal.loop-k-preserved
loop-k-preserved c =
    let old = c.loop-k.invariant in
    let lt = c.loop-k-test.true in
    let frame = c.next_frame-frame.ensures in
    let lines = c.args.lines.now in
    let taken = c.front-taken.result.now in
    let row = get_or lines.rows.now c.loop-k.k c.index-lines-k.result in
    let same : c.deref.result.now ≡ c.loop-k.open_boxes.items = cc in
    let pieces = subst (λ (ns : List ℕ). c.put_row.new.out.items ≡ c.loop-k.pieces.items ++ pieces_if_seen lines.container lines.areas.now c.loop-k.frame row ns (parts_of taken)) same c.in_ok-put_row.ensures in
    record {
      pieces = pieces_more c.args.lines.now.container c.args.lines.now.areas.now c.loop-k.frame c.loop-k.open_boxes.items c.loop-k.rest.now c.args.lines.now.rows.now c.loop-k.k _
          c.loop-k.pieces.items c.put_row.new.out.items c.next_frame-frame.result c.pass_row.new.open_boxes.items c.front-taken.result.now c.back-rest.result.now
          lt c.front-taken.ensures c.back-rest.ensures frame c.in_ok-pass_row.ensures pieces ∙ old.pieces;
      left = ap (λ (f : Frame). f.left) frame ∙ old.left;
      tab = ap (λ (f : Frame). f.tab) frame ∙ old.tab;
      indent = subst (λ (f : Frame). IsUsed f.indent.0) (sym frame) (next_indent c.loop-k.frame _ old.indent);
      spread = rest_spread c.args.lines.now.content.now.tab.0 _ c.loop-k.rest.now c.back-rest.result.now c.back-rest.ensures old.spread;
      none = λ all. c.in_ok-pass_row.ensures ∙ ap (λ (ns : List ℕ). open_after ns (parts_of c.front-taken.result.now)) (old.none all)
          ∙ none_open_after c.front-taken.result.now (ap boxes_of c.front-taken.ensures ∙ none_in_front _ c.loop-k.rest.now (old.no_boxes all));
      no_boxes = λ all. ap boxes_of c.back-rest.ensures ∙ none_behind _ c.loop-k.rest.now (old.no_boxes all);
    }
