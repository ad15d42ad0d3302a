use Rattle.std.proofs.Common.{◌≡◌, ◌<◌, ℕ, arith, length, refl, subst, sym}
use Rattle.lay_flow.specs.Pass.LookAhead.{IsReading, HasLookedAhead, reading}
use Rattle.lay_flow.proofs.BlocksLemmas.Truths.{true_or}
use Rattle.lay_flow.proofs.LookAheadSteps.{begins_reading, ends_before_root}
use Rattle.lay_flow.proofs.BlocksLemmas.MarginWalk.{place_before}
use Rattle.lay_flow.proofs.hypothetical_edge.LookAhead.strut_ahead.Goals as goal

pub loop-m-init : goal.loop-m-init
loop-m-init c =
    let boxes = c.args.self.now.boxes.list.now in let from = c.args.self.now.from in
    let k = from.k in
    let begins = c.args.self.now.begins in
    let positive : 0 < k = let a = begins.least in let b = begins.most in omega (arith, a, b) in
    let place = place_before boxes c.args.self.now.boxes.are.is_tree.tree k positive begins.within in (
      refl,
      subst (λ (q : ℕ). IsReading boxes from (reading from.strut q k)) (sym c.parent.ensures.value) (begins_reading boxes from begins c.args.self.now.fits place),
    )

pub close_to-requires : goal.close_to-requires
close_to-requires c =
    let was = c.loop-m.invariant.1 in
    let a = was.begun in let w = was.place.within in
    let e : c.loop-m.m ≡ length c.args.self.now.boxes.list.now = omega (arith, w) in
    subst (λ (n : ℕ). IsReading c.args.self.now.boxes.list.now c.args.self.now.from (reading c.loop-m.ahead.used.strut c.loop-m.ahead.innermost n)) e was

pub returns : goal.returns
returns c = true_or c.close_to.result.ended (HasLookedAhead c.args.self.now.boxes.list.now c.args.self.now.from c.close_to.result.used.strut)
    c.close_to.ensures.ended
    (λ f. absurd (ends_before_root c.args.self.now.boxes.list.now c.args.self.now.from c.args.self.now.begins c.close_to.result.used.strut (c.close_to.ensures.last f (omega arith))))
