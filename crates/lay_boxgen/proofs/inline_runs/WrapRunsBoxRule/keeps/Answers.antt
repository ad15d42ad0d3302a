use Rattle.std.proofs.Common.{rules, ◌≡◌, false}
use Rattle.std.specs.List.{list_any}
use Rattle.lay_boxgen.specs.InlineRuns.{block_round, is_loose_box, is_no_block, run_wrapped}
use Rattle.lay_boxgen.specs.Runs.{gathered}
use Rattle.lay_boxgen.proofs.Kept.{in_box_kept, isnt}
use Rattle.lay_boxgen.proofs.KeptRuns.{none_loose}
use Rattle.lay_boxgen.proofs.inline_runs.WrapRunsBoxRule.keeps.Goals as goal

pub returns-else-not-has_block : goal.returns-else-not-has_block
returns-else-not-has_block c h =
    let f = c.args.facts in
    let ts = c.args.children.now in
    let none : list_any is_loose_box ts ≡ false = (let e = isnt c.has_loose.result h in search rules) in
    let same : gathered is_no_block (block_round f) ts ≡ ts = none_loose f ts none in
    in_box_kept run_wrapped f ts (search rules)
