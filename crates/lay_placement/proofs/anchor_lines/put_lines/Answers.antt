use Rattle.std.proofs.Common.{◌≡◌, ◌∙◌, ap, sym, length, arith, rules}
use Rattle.lay_line_items.specs.InlineSegments.{segments_in}
use Rattle.lay_placement.specs.ContextPlaces.{ContextPlaces, rows_at}
use Rattle.lay_placement.proofs.AnchorSteps.{put_none}
use Rattle.lay_placement.proofs.anchor_lines.put_lines.Goals as goal

pub returns-then-is_empty : goal.returns-then-is_empty
returns-then-is_empty c =
    let rows = rows_at c.args.places.now.places c.args.c in
    let none : length c.rows_at-rows.result.now ≡ 0 = search (arith, rules) in
    let is : c.rows_at-rows.result.now ≡ rows = c.rows_at-rows.ensures ∙ ap (λ (p : ContextPlaces). rows_at p.places c.args.c) c.places.view_is in
    put_none c.args.input.now.boxes c.args.c c.args.tops.now rows (segments_in c.args.input.now.face c.args.input.now.boxes c.args.c) (ap length (sym is) ∙ none)
