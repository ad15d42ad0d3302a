use Rattle.std.proofs.Common.{ap, sym, ◌∙◌, arith, below_more, length}
use Rattle.lay_placement.proofs.FirstSeen.{first_found_lem, none_before, none_found}
use Rattle.lay_placement.proofs.first_baselines.first_baseline_of.Goals as goal

pub returns-then-is_some-clause-value : goal.returns-then-is_some-clause-value
returns-then-is_some-clause-value c =
    let counted = ap length c.boxes-k-end.ensures.boxes in
    let found = c.in_ok-found.ensures {u = tt} in
    first_found_lem c.args.input.now c.args.places.now.places c.loop-k.k (length c.args.input.now.boxes) c.in_ok-found.found (omega (arith, c.loop-k-test.true, counted)) found.value (sym c.if-is_some.ensures) c.loop-k.invariant

pub loop-k-preserved : goal.loop-k-preserved
loop-k-preserved c =
    let found = c.in_ok-found.ensures {u = tt} in
    below_more _ _ c.loop-k.invariant (sym found.value ∙ none_found c.in_ok-found.found (sym c.if-is_some.ensures))

pub returns-clause-value : goal.returns-clause-value
returns-clause-value c =
    let counted = ap length c.boxes-k-end.ensures.boxes in
    sym (none_before c.args.input.now c.args.places.now.places (length c.args.input.now.boxes) (λ j lt. c.loop-k.invariant j (omega (arith, lt, c.loop-k-test.false, counted))))
