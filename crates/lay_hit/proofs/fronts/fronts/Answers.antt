use Rattle.std.proofs.Common.{◌≡◌, ◌<◌, ◌+◌, ◌-◌, ◌||◌, ℕ, List, None, ap, arith, length, slice_index_or, subst, sym, ◌∙◌, not, false}
use Rattle.std.specs.Prelude.{◌==◌, is_some}
use Rattle.lay_hit.specs.declared.waiting.Waiting.{Waiting}
use Rattle.lay_hit.specs.Waiting.{AreWaiting, nobody}
use Rattle.lay_hit.proofs.Passing.{passed_by}
use Rattle.lay_hit.proofs.fronts.fronts.Goals as goal

pub loop-k-preserved : goal.loop-k-preserved
loop-k-preserved c =
    let q = c.args.q.now in
    let items = c.loop-k.fronts.items in
    let back : c.loop-k.k ≡ (c.loop-k.k - 1) + 1 = omega arith in
    let some : 0 < c.loop-k.k - 1 = omega arith in
    let within : c.loop-k.k - 1 < length q.doc.now.nodes = omega arith in
    let before = subst (λ (n : ℕ). AreWaiting q items n) back c.loop-k.invariant.fronts in
    let test : (is_some (slice_index_or c.args.noted.now (c.loop-k.k - 1) None) || (not ((slice_index_or items (c.loop-k.k - 1) nobody).group == 0) || not ((slice_index_or items (c.loop-k.k - 1) nobody).owner == 0))) ≡ false =
    ap (λ (xs : List Waiting). is_some (slice_index_or c.args.noted.now (c.loop-k.k - 1) None) || (not ((slice_index_or xs (c.loop-k.k - 1) nobody).group == 0) || not ((slice_index_or xs (c.loop-k.k - 1) nobody).owner == 0))) (sym c.deref.ensures.value) ∙ sym c.is_reached.ensures ∙ c.if-is_reached.false in
    record {
      low = omega arith;
      high = omega arith;
      fronts = passed_by q c.nodes-k.ensures.valid items (c.loop-k.k - 1) some within before c.args.noted.now c.requires.noted test;
    }

pub returns-clause-fronts : goal.returns-clause-fronts
returns-clause-fronts c =
    let last : c.loop-k.k ≡ 1 = omega (arith, c.loop-k-test.false, c.loop-k.invariant.low) in
    subst (λ (n : ℕ). AreWaiting c.args.q.now c.loop-k.fronts.items n) last c.loop-k.invariant.fronts
