use Rattle.std.proofs.Common.{rules, ◌≡◌, ◌+◌, ◌≤◌, ap, arith, length, slice_index, ◌∙◌}
use Rattle.std.proofs.lemmas.List.FromFn.{length-map-range_with_len}
use Rattle.lay_units.specs.Limits.{most_nodes}
use Rattle.lay_contexts.specs.Contexts.{context_at}
use Rattle.lay_positioned.specs.Levels.{one_if}
use Rattle.lay_shape.specs.Levels.{level_of}
use Rattle.lay_shape.specs.Ways.{is_absolute}
use Rattle.lay_shape.proofs.BuildSteps.{level_read, level_sum}
use Rattle.lay_shape.proofs.levels.level_of.Goals as goal

pub level_at-requires : goal.level_at-requires
level_at-requires c =
    let out : c.outer.result ≡ (context_at c.args.contexts.now c.args.i).outer = search rules in
    let less = c.len.ensures.are.outer c.args.i (omega (arith, c.if-i-eq0.false)) c.requires.within in
    let count = ap length c.requires.before ∙ length-map-range_with_len (level_of c.args.contexts.now) 0 c.args.i in
    omega (arith, out, less, count)

pub overflow_add-result : goal.overflow_add-result
overflow_add-result c =
    let read : c.level_at.result ≡ slice_index c.args.levels.now (context_at c.args.contexts.now c.args.i).outer = search rules in
    let small : length c.args.contexts.now ≤ most_nodes = omega (arith, c.len.ensures.few, c.len.ensures.count) in
    let sum = level_sum c.args.contexts.now c.len.ensures.are c.args.i c.level_at.result c.one_if-own.result c.args.levels.now small
    (omega (arith, c.if-i-eq0.false)) c.requires.within c.requires.before read c.one_if-own.ensures.few in
    let within = c.requires.within in
    omega (arith, sum, within, small)

pub returns : goal.returns
returns c =
    let read : c.level_at.result ≡ slice_index c.args.levels.now (context_at c.args.contexts.now c.args.i).outer = search rules in
    let own : c.one_if-own.result ≡ one_if (is_absolute c.args.contexts.now c.args.i) = search rules in
    let both : c.level_at.result + c.one_if-own.result ≡ slice_index c.args.levels.now (context_at c.args.contexts.now c.args.i).outer + one_if (is_absolute c.args.contexts.now c.args.i) = omega (arith, read, own) in
    level_read c.args.contexts.now c.len.ensures.are c.args.i (c.level_at.result + c.one_if-own.result) c.args.levels.now (omega (arith, c.if-i-eq0.false)) c.requires.within c.requires.before both
