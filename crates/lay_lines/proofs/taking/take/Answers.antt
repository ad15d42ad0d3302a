use Rattle.std.proofs.Common.{◌∙◌, ℕ, ◌+◌, ap, sym, subst, arith}
use Rattle.lay_lines.specs.declared.content.content.Stretch.{Stretch}
use Rattle.lay_lines.proofs.ContentLemmas.Outcomes.{at_err}
use Rattle.lay_lines.proofs.ContentLemmas.PenOrder.{some_at}
use Rattle.lay_lines.specs.Meeting.{state_of}
use Rattle.lay_lines.specs.declared.reach.Reach.{Reach}
use Rattle.lay_lines.specs.Filling.{FitsNext, TakesNext, Fills, Takes}
use Rattle.lay_lines.proofs.Chains.{chain_more}
use Rattle.lay_lines.proofs.Steps.{stretch_is, stops, ends, unforced_more, all_fit, rooms_next, can_next}
use Rattle.lay_lines.proofs.Fronts.{take_stopped}
use Rattle.lay_lines.proofs.taking.take.Goals as goal

pub take_next-requires-clause-rooms : goal.take_next-requires-clause-rooms
take_next-requires-clause-rooms c =
    let ss = c.args.line.now.stretches.now in
    let w = some_at ss c.loop-k.k c.loop-k-test.true in
    rooms_next c.args.line.now.frame c.args.line.now.top.0 ss (state_of c.args.floats.now c.args.met.now) (state_of c.loop-k.floats c.loop-k.met) c.loop-k.k w.0 c.requires.can c.loop-k.invariant.fills w.1

pub take_next-requires-clause-floats : goal.take_next-requires-clause-floats
take_next-requires-clause-floats c =
    can_next c.args.line.now.frame c.args.line.now.top.0 c.args.line.now.stretches.now (state_of c.args.floats.now c.args.met.now) (state_of c.loop-k.floats c.loop-k.met) c.loop-k.k c.loop-k.reach.count c.requires.can
    c.loop-k.invariant.fills c.loop-k.invariant.count_is

pub returns-in_err-take_next-clause-stopped : goal.returns-in_err-take_next-clause-stopped
returns-in_err-take_next-clause-stopped c =
    let ss = c.args.line.now.stretches.now in
    let fr = c.args.line.now.frame in
    let y = c.args.line.now.top.0 in
    let k = c.loop-k.k in
    let inv = c.loop-k.invariant in
    let now = state_of c.loop-k.floats c.loop-k.met in
    let st = state_of c.args.floats.now c.args.met.now in
    let step = c.in_err-take_next.ensures in
    let fit = subst (λ (n : ℕ). FitsNext fr y ss n now.floats) inv.count_is step.stopped_in in
    at_err c.from_residual.result _ (λ n after takes all. take_stopped c.one_float_place.ensures fr y ss st now after k n c.take_next.new.floats c.loop-k-test.true inv.unforced inv.fits inv.fills fit
    (λ next t. step.stopped next (subst (λ (n : ℕ). TakesNext fr y ss n now next) (sym inv.count_is) t)) takes all)

pub returns-then-not-branch-clause-takes : goal.returns-then-not-branch-clause-takes
returns-then-not-branch-clause-takes c =
    let ss = c.args.line.now.stretches.now in
    let fr = c.args.line.now.frame in
    let y = c.args.line.now.top.0 in
    let k = c.loop-k.k in
    let inv = c.loop-k.invariant in
    let now = state_of c.loop-k.floats c.loop-k.met in
    let st = state_of c.args.floats.now c.args.met.now in
    let lt = c.loop-k-test.true in
    let step = c.in_ok-take_next.ensures in
    let same = step.same_reach c.if-not-branch.true in
    subst (λ (n : ℕ). Takes fr y ss st n) (sym (ap (λ (r : Reach). r.count) same ∙ inv.count_is))
    (stops c.one_float_place.ensures fr y ss st now k (omega (arith, lt)) inv.unforced inv.fits inv.fills
    (λ fit. step.full c.if-not-branch.true (subst (λ (n : ℕ). FitsNext fr y ss n now.floats) (sym inv.count_is) fit)))

pub returns-then-line-k-clause-takes : goal.returns-then-line-k-clause-takes
returns-then-line-k-clause-takes c =
    let ss = c.args.line.now.stretches.now in
    let fr = c.args.line.now.frame in
    let y = c.args.line.now.top.0 in
    let k = c.loop-k.k in
    let inv = c.loop-k.invariant in
    let now = state_of c.loop-k.floats c.loop-k.met in
    let st = state_of c.args.floats.now c.args.met.now in
    let s = c.index-line-k.result in
    let is = stretch_is ss k s c.loop-k-test.true c.index-line-k.is in
    let step = c.in_ok-take_next.ensures in
    subst (λ (n : ℕ). Takes fr y ss st n) (sym (step.count c.if-not-branch.false ∙ ap (λ n. n + 1) inv.count_is))
    (ends fr y ss st k s inv.unforced is (ap (λ (u : Stretch). u.forced) c.index-line-k.is ∙ c.if-line-k.true)
    (all_fit fr y ss st now k inv.fits inv.fills (subst (λ (n : ℕ). FitsNext fr y ss n now.floats) inv.count_is (step.fits c.if-not-branch.false))))

pub returns-then-line-k-clause-fills : goal.returns-then-line-k-clause-fills
returns-then-line-k-clause-fills c =
    let ss = c.args.line.now.stretches.now in
    let fr = c.args.line.now.frame in
    let y = c.args.line.now.top.0 in
    let k = c.loop-k.k in
    let inv = c.loop-k.invariant in
    let now = state_of c.loop-k.floats c.loop-k.met in
    let st = state_of c.args.floats.now c.args.met.now in
    let after = state_of c.take_next.new.floats c.take_next.new.met in
    let step = c.in_ok-take_next.ensures in
    subst (λ (n : ℕ). Fills fr y ss n st after) (sym (step.count c.if-not-branch.false ∙ ap (λ n. n + 1) inv.count_is))
    (chain_more (TakesNext fr y ss) k st now after inv.fills (subst (λ (n : ℕ). TakesNext fr y ss n now after) inv.count_is (step.takes c.if-not-branch.false)))

pub loop-k-preserved : goal.loop-k-preserved
loop-k-preserved c =
    let ss = c.args.line.now.stretches.now in
    let fr = c.args.line.now.frame in
    let y = c.args.line.now.top.0 in
    let k = c.loop-k.k in
    let inv = c.loop-k.invariant in
    let now = state_of c.loop-k.floats c.loop-k.met in
    let st = state_of c.args.floats.now c.args.met.now in
    let after = state_of c.take_next.new.floats c.take_next.new.met in
    let s = c.index-line-k.result in
    let is = stretch_is ss k s c.loop-k-test.true c.index-line-k.is in
    let step = c.in_ok-take_next.ensures in
    record {
      count_is = step.count c.if-not-branch.false ∙ ap (λ n. n + 1) inv.count_is;
      reach_is = step.reach;
      fills = chain_more (TakesNext fr y ss) k st now after inv.fills (subst (λ (n : ℕ). TakesNext fr y ss n now after) inv.count_is (step.takes c.if-not-branch.false));
      fits = all_fit fr y ss st now k inv.fits inv.fills (subst (λ (n : ℕ). FitsNext fr y ss n now.floats) inv.count_is (step.fits c.if-not-branch.false));
      unforced = unforced_more ss k s inv.unforced is (ap (λ (u : Stretch). u.forced) c.index-line-k.is ∙ c.if-line-k.false);
    }
