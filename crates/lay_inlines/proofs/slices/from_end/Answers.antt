use Rattle.std.proofs.Common.{◌≡◌, ◌+◌, ◌-◌, ◌∷◌, ◌∙◌, ℕ, ap, drop, length, arith}
use Rattle.lay_inlines.proofs.Backward.{drop_before}
use Rattle.lay_inlines.proofs.slices.from_end.Goals as goal

pub returns : goal.returns
returns g c =
    let xs = c.args.items.now in
    let x = c.index-items-items.result in
    let n = c.args.done in
    let at : length xs - (n + 1) ≡ length xs - 1 - n = omega arith in
    let next : length xs - 1 - n + 1 ≡ length xs - n = omega arith in
    ap (λ (k : ℕ). drop k xs) at ∙ drop_before xs n (length xs - 1 - n) x (omega arith) c.index-items-items.is ∙ ap (λ (k : ℕ). x ∷ drop k xs) next
