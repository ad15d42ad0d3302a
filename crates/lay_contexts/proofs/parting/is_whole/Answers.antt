use Rattle.std.proofs.Common.{rules, ◌≡◌, false, ap, ◌∙◌, arith, inl, inr}
use Rattle.std.proofs.lemmas.Bool.{cases_lt, both_ways}
use Rattle.lay_contexts.specs.Homes.{is_root}
use Rattle.lay_contexts.proofs.parting.is_whole.Goals as goal

pub loop-k-preserved : goal.loop-k-preserved
loop-k-preserved c j some lt root =
    let boxes = c.args.boxes.now in
    let k = c.loop-k.k in
    let no : is_root boxes k ≡ false = search rules in
    elim (cases_lt j k) [
      | inl low ↦ c.loop-k.invariant j some low root
      | inr high ↦ (let q : j ≡ k = omega (arith, lt, high) in both_ways (is_root boxes j) (ap (is_root boxes) q ∙ no) root)
    ]

pub returns : goal.returns
returns c t j some lt root = c.loop-k.invariant j some (omega (arith, lt, c.loop-k-test.false)) root
