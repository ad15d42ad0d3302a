use Rattle.std.specs.Int.{w128, int_max}
use Rattle.std.proofs.Common.{◌≡◌, ◌+◌, ℤ, to_z, of_z, ap, ◌∙◌, arith, sym, subst, refl, FitsSigned}
use Rattle.std.proofs.lemmas.Int.{ints, to_z-of_z}
use Rattle.lay_valign.specs.declared.parts.Part.{Part}
use Rattle.lay_valign.specs.Parts.{is_aligned}
use Rattle.lay_valign.specs.LineShape.{IsAligned, IsRaised, beyond}
use Rattle.lay_valign.specs.Pass.Reaches.{IsRaisedTo}
use Rattle.lay_valign.proofs.Extents.{raised_by, raised_past, raised_all, raised_within}
use Rattle.lay_valign.proofs.line.extended.Goals.{then-is_aligned, else-is_aligned}
use Rattle.lay_valign.proofs.line.extended.Goals as goal

pub loop-k-preserved : goal.loop-k-preserved
loop-k-preserved c =
    let kind = sym (ap (λ (p : Part). is_aligned c.args.edge p.shift) c.part_of.ensures) ∙ sym c.is_aligned.ensures in
    let s = c.args.subtrees.now in
    elim c.if-is_aligned.branch [
      | then-is_aligned w ↦ (
          let h = w.height.ensures.value in let low = w.height.ensures.within.0 in let high = w.height.ensures.within.1 in
          let d = w.difference.ensures in
          let v : w.difference.result ≡ beyond s (to_z w128 (of_z w128 c.args.other)) c.loop-k.k = omega (arith, ints, h, low, high, d) in
          let sd : to_z w128 (of_z w128 w.difference.result) ≡ w.difference.result = omega (arith, ints) in
          let sm : to_z w128 (of_z w128 w.max-reach.result) ≡ w.max-reach.result = omega (arith, ints) in
          let m = w.reach-is ∙ sm ∙ w.max-reach.ensures.value ∙ ap (int_max (to_z w128 c.loop-k.reach-bits)) (sd ∙ v) in
          subst (λ (z : ℤ). IsRaisedTo c.args.edge c.args.parts.now (beyond s (to_z w128 (of_z w128 c.args.other)))
          (to_z w128 (of_z w128 c.args.least)) (c.loop-k.k + 1) z) (sym m)
          (raised_by _ _ _ _ _ _
          (record {
            within = c.loop-k-test.true;
            no_strut =
                (let k = c.loop-k.auto.k in omega (arith, k));
            aligned = kind ∙ w.if-is_aligned.true;
          }) c.loop-k.invariant))
      | else-is_aligned w ↦
          subst (λ (z : ℤ). IsRaisedTo c.args.edge c.args.parts.now (beyond s (to_z w128 (of_z w128 c.args.other)))
          (to_z w128 (of_z w128 c.args.least)) (c.loop-k.k + 1) z) (sym w.reach-is)
          (raised_past _ _ _ _ _ _ (kind ∙ w.if-is_aligned.false) c.loop-k.invariant)
    ]

raised : (c : goal.After-loop-k)
    → IsRaised (IsAligned c.args.edge c.args.parts.now) (beyond c.args.subtrees.now c.args.other) c.args.least (to_z w128 c.loop-k.reach-bits)
raised c =
    let so : to_z w128 (of_z w128 c.args.other) ≡ c.args.other = (let f : FitsSigned w128 c.args.other = c.ranges.other in simp (to_z-of_z, f) refl) in
    let sl : to_z w128 (of_z w128 c.args.least) ≡ c.args.least = (let f : FitsSigned w128 c.args.least = c.ranges.least in simp (to_z-of_z, f) refl) in
    subst (λ (z : ℤ). IsRaised (IsAligned c.args.edge c.args.parts.now) (beyond c.args.subtrees.now c.args.other) z (to_z w128 c.loop-k.reach-bits)) sl
    (subst (λ (z : ℤ). IsRaised (IsAligned c.args.edge c.args.parts.now) (beyond c.args.subtrees.now z) (to_z w128 (of_z w128 c.args.least))
    (to_z w128 c.loop-k.reach-bits)) so
    (raised_all _ _ _ _ _ _ c.loop-k-test.false c.loop-k.invariant))

pub returns-clause-value : goal.returns-clause-value
returns-clause-value c = raised c

pub returns-clause-most : goal.returns-clause-most
returns-clause-most c =
    let s = c.requires.subtrees in
    raised_within _ _ c.args.subtrees.now _ _ _ s.as_many_aboves s.as_many_belows s.aboves s.belows (raised c)
