-- Passes of editors that may make one call each.
use Rattle.std.proofs.Common.{◌≡◌, ℕ, zero, suc, ◌<◌, [], ◌∷◌, List, Some, slice_get, slice_index_or, sym, subst, ap, arith}
use Rattle.std.specs.List.{All}
use Rattle.std.proofs.lemmas.Option.{slice_get-get_or, none-some, same_Some}
use Rattle.lay_board.specs.Passes.{AreNew, EngineOf, PassOf}
use Rattle.lay_board.specs.declared.views.Origin.{Origin}

one_call : (i left : ℕ) → slice_get (1 ∷ 1 ∷ []) i ≡ Some left → 0 < left
one_call zero left e = let is = same_Some 1 left e in omega (arith, is)
one_call (suc zero) left e = let is = same_Some 1 left e in omega (arith, is)
one_call (suc (suc i)) left e = absurd (none-some left e)

module _ (engine : EngineOf) (origin : Origin) (calls : List ℕ) (passes : List PassOf)
    (are_new : AreNew engine.table origin calls passes) where
  pub of_table : All (λ p. p.table ≡ engine.table) passes
  of_table i d within =
      let made = are_new.each i (slice_index_or passes i d) (slice_get-get_or passes i d within) in
      ap (λ (p : PassOf). p.table) made.2

  pub may_call : calls ≡ 1 ∷ 1 ∷ [] → All (λ p. 0 < p.knows.left) passes
  may_call ones i d within =
      let made = are_new.each i (slice_index_or passes i d) (slice_get-get_or passes i d within) in
      let above = one_call i made.0 (subst (λ l. slice_get l i ≡ Some made.0) ones made.1) in
      subst (λ n. 0 < n) (sym (ap (λ (p : PassOf). p.knows.left) made.2)) above
