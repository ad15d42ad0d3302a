use Rattle.std.proofs.Common.{rules, ◌≡◌, ◌++◌, ◌∷◌, [], ◌+◌}
use Rattle.lay_contexts.proofs.GrowingColumns.{number_behind, one_number}
use Rattle.lay_contexts.proofs.numbers.numbers.Goals as goal

pub loop-k-preserved : goal.loop-k-preserved
loop-k-preserved c =
    let boxes = c.args.boxes.now in
    let n = c.in_ok-number.number in
    let k = c.loop-k.k in
    let pushed : c.push-in-loop-k.new.self.items ≡ c.loop-k.numbers.items ++ n ∷ [] = search rules in
    let found = c.in_ok-number.ensures {u = tt} in
    let is = number_behind boxes c.args.first k c.loop-k.number n c.loop-k.invariant.1 found.number in
    (rw pushed (one_number boxes c.args.first c.loop-k.numbers.items (k + 1) n c.loop-k.invariant.0 is found.few), is, found.few)
