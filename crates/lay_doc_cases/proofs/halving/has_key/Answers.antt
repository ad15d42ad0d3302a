use Rattle.std.proofs.Common.{◌≡◌, ◌∙◌, ℕ, true, nat_eq, sym}
use Rattle.std.specs.Prelude.{◌↔◌}
use Rattle.std.proofs.lemmas.Map.Views.{exact_unsigned_eq}
use Rattle.std.proofs.lemmas.Bool.{eq-eqb}
use Rattle.lay_cells.proofs.Contained.{key_at, key_got}
use Rattle.lay_doc_cases.proofs.halving.has_key.Goals as goal

pub returns : goal.returns
returns c =
    let exact : (a b : ℕ) → (nat_eq a b ≡ true) ↔ (a ≡ b) = λ a b. (exact_unsigned_eq a b, eq-eqb a b) in
    let found = c.contains.ensures.value in (
      λ is. key_got nat_eq exact c.args.shape.now c.keys.result.now c.args.key c.keys.ensures (sym found ∙ is),
      λ has. found ∙ key_at nat_eq exact c.args.shape.now c.keys.result.now c.args.key c.keys.ensures has,
    )
