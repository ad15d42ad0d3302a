use Rattle.std.proofs.Common.{◌≡◌, ◌+◌, [], ◌∷◌, ◌++◌, List, ap, ◌∙◌, arith, take}
use Rattle.std.specs.List.{flat_map}
use Rattle.std.specs.Option.{option_or}
use Rattle.std.proofs.lemmas.Grind.{common_steps}
use Rattle.lay_lines.specs.declared.row.Ended.{Ended}
use Rattle.lay_placement.specs.Baselines.{last_baseline}
use Rattle.lay_placement.proofs.LastSeen.{one_box_more, with_lines}
use Rattle.lay_placement.proofs.baselines.last_baseline.Goals as goal

pub loop-k-preserved : goal.loop-k-preserved
loop-k-preserved c =
    let next = c.in_ok-last.ensures {u = tt} in
    let is = next.value ∙ ap (λ (rows : List Ended). option_or (last_baseline rows) c.loop-k.last) c.as_slice.ensures in
    let stepped : take (c.loop-k.k + 1) c.args.lines.now ≡ take c.loop-k.k c.args.lines.now ++ c.index-lines-k.result ∷ [] =
    grind (arith, common_steps, c.index-lines-k.is, c.loop-k-test.true) in
    record {
      value = rw (stepped, one_box_more (take c.loop-k.k c.args.lines.now) c.index-lines-k.result)
          (with_lines c.loop-k.last c.in_ok-last.last (flat_map (λ (rows : List Ended). rows) (take c.loop-k.k c.args.lines.now)) c.index-lines-k.result c.loop-k.invariant.value is);
      near = next.near;
    }
