use Rattle.std.proofs.Common.{◌≡◌, arith, inl, inr, refl, subst, sym, ℕ, Option}
use Rattle.std.proofs.lemmas.Bool.{cases_lt}
use Rattle.lay_floats.specs.declared.requests.Clear.{Clear}
use Rattle.lay_floats.specs.declared.requests.Side.{Side}
use Rattle.lay_flow.specs.Blocks.BlockFloats.{shape_at}
use Rattle.lay_flow.specs.Pass.Clears.{IsSideToClear}
use Rattle.lay_flow.proofs.clearance.has_waiting_float.Goals as goal

pub loop-j-preserved : goal.loop-j-preserved
loop-j-preserved c i from lt side = elim (cases_lt i c.loop-j.j) [
  | inl before ↦ c.loop-j.invariant i from before side
  | inr last ↦ (let e : i ≡ c.loop-j.j = omega (arith, lt, last) in
      let here = subst (λ (i : ℕ). IsSideToClear c.clear-clear.result (shape_at c.args.before.now.at.boxes.list.now i).float) e side in
      c.if-is_cleared_float.ensures.isnt refl (subst (λ (o : Option Side). IsSideToClear c.clear-clear.result o) (sym c.side.ensures) here))
]

pub returns-clause-hasnt : goal.returns-clause-hasnt
returns-clause-hasnt c same w =
    let order = c.args.before.now.most in
    let end : c.loop-j.j ≡ c.args.before.now.at.k = omega (arith, order) in
    let lt = w.2 in
    c.loop-j.invariant w.0 w.1 (omega (arith, end, lt)) (subst (λ (clear : Clear). IsSideToClear clear (shape_at c.args.before.now.at.boxes.list.now w.0).float) (sym c.clear-clear.ensures) w.3)
