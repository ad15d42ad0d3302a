use Rattle.std.proofs.Common.{◌≡◌, ℕ, arith, inl, inr, subst, sym}
use Rattle.std.proofs.lemmas.Bool.{cases_lt}
use Rattle.lay_style.specs.declared.style.Style.{Style}
use Rattle.lay_style.specs.ComputedStyle.{style_at}
use Rattle.lay_after_edits.specs.Contexts.Reach.{IsAlike}
use Rattle.lay_after_edits.proofs.contexts.alike.are_alike.Goals as goal

pub loop-k-preserved : goal.loop-k-preserved
loop-k-preserved c = λ m low less. elim (cases_lt m c.loop-k.k) [
  | inl before ↦ c.loop-k.invariant m low before
  | inr high ↦ (let z : m ≡ c.loop-k.k = omega (arith, less, high) in
      let here = c.is_alike.ensures c.if-not-is_alike.false in
      let one = subst (λ (s : Style). IsAlike s c.style_at-in-loop-k.result.now) c.style_at.ensures here in
      let both = subst (λ (t : Style). IsAlike (style_at c.args.styles.now c.loop-k.k) t) c.style_at-in-loop-k.ensures one in
      subst (λ (n : ℕ). IsAlike (style_at c.args.styles.now n) (style_at c.args.others.now n)) (sym z) both)
]
