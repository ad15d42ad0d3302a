use Rattle.std.proofs.Common.{◌≡◌, ◌<◌, ◌+◌, ◌++◌, length, sym, subst, arith}
use Rattle.lay_audit.specs.NextLines.{BeginsWith}
use Rattle.lay_audit.proofs.ComparedLines.{Compares, compares_more, more_room, not_empty, parts_from, shorter_left}
use Rattle.lay_audit.proofs.comparing.compare.Goals as goal

pub returns-in_default-clause-err : goal.returns-in_default-clause-err
returns-in_default-clause-err c =
    parts_from c.args.wanted.now c.args.text.now c.loop-left.left.now c.loop-left.rest.now c.loop-left.lines c.loop-left.invariant
    (not_empty c.loop-left.left.now c.is_empty.result c.is_empty.ensures c.loop-left-test.true)
    (λ b. c.behind.ensures.none c.in_default.is (subst (λ x. BeginsWith c.loop-left.rest.now x) (sym c.split_line.ensures.first) b))

pub overflow_add-lines : goal.overflow_add-lines
overflow_add-lines c =
    let some = not_empty c.loop-left.left.now c.is_empty.result c.is_empty.ensures c.loop-left-test.true in
    let room = more_room c.args.wanted.now c.args.text.now c.loop-left.left.now c.loop-left.rest.now c.in-Some.more.now c.loop-left.lines c.loop-left.invariant some
    (subst (λ x. c.loop-left.rest.now ≡ x ++ c.in-Some.more.now) c.split_line.ensures.first (c.in-Some.ensures {u = tt}).some) in
    omega (arith, room)

pub loop-left-smaller : goal.loop-left-smaller
loop-left-smaller c =
    subst (λ x. length x < length c.loop-left.left.now) (sym c.split_line.ensures.rest)
    (shorter_left c.loop-left.left.now (not_empty c.loop-left.left.now c.is_empty.result c.is_empty.ensures c.loop-left-test.true))

pub loop-left-preserved : goal.loop-left-preserved
loop-left-preserved c =
    let some = not_empty c.loop-left.left.now c.is_empty.result c.is_empty.ensures c.loop-left-test.true in
    subst (λ x. Compares c.args.wanted.now c.args.text.now x c.in-Some.more.now (c.loop-left.lines + 1)) (sym c.split_line.ensures.rest)
    (compares_more c.args.wanted.now c.args.text.now c.loop-left.left.now c.loop-left.rest.now c.in-Some.more.now c.loop-left.lines c.loop-left.invariant some
    (subst (λ x. c.loop-left.rest.now ≡ x ++ c.in-Some.more.now) c.split_line.ensures.first (c.in-Some.ensures {u = tt}).some))
