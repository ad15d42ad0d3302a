use Rattle.std.proofs.Common.{◌≡◌, ℕ, ◌+◌, [], ◌∷◌, ◌++◌, List, ap, sym, ◌∙◌, arith, drop, take}
use Rattle.std.specs.Option.{option_or}
use Rattle.std.proofs.lemmas.Grind.{common_steps}
use Rattle.lay_space.specs.declared.segment.Segment.{Segment}
use Rattle.lay_lines.specs.declared.row.Ended.{Ended}
use Rattle.lay_placement.specs.AnchorLines.{top_in_line}
use Rattle.lay_placement.specs.StaticPositions.{line_top}
use Rattle.lay_placement.proofs.AnchorRows.{one_more_row, rest_after, rest_more}
use Rattle.lay_placement.proofs.AnchorSteps.{put_more}
use Rattle.lay_placement.proofs.anchor_lines.put_rows.Goals as goal

pub loop-r-preserved : goal.loop-r-preserved
loop-r-preserved c =
    let row : Ended = c.index-rows-r.result in
    let so_far : List Ended = take c.loop-r.r c.args.rows.now in
    let segments : List Segment = c.args.segments.now in
    let stepped : take (c.loop-r.r + 1) c.args.rows.now ≡ so_far ++ row ∷ [] = grind (arith, common_steps, c.index-rows-r.is, c.loop-r-test.true) in
    let inv = c.loop-r.invariant in
    let taken = c.front.ensures ∙ ap (take row.reach.count) inv.rest in
    record {
      put = put_more c.args.of.now.boxes.now c.args.of.now.container c.args.tops.now c.loop-r.tops c.put_line.new.tops (line_top so_far segments) (top_in_line c.front.result.now row.top)
          (λ (k : ℕ). line_top (take (c.loop-r.r + 1) c.args.rows.now) segments k)
          (λ k. ap (λ (rows : List Ended). line_top rows segments k) stepped ∙ one_more_row so_far row segments k ∙ ap (λ (ss : List Segment). option_or (line_top so_far segments k) (top_in_line ss row.top k)) (sym taken))
          inv.put c.put_line.ensures;
      rest = c.back-rest.ensures ∙ ap (drop row.reach.count) inv.rest ∙ sym (rest_more so_far row segments) ∙ ap (λ (rows : List Ended). rest_after rows segments) (sym stepped);
    }
