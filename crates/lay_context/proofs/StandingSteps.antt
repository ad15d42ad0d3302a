-- A column of standings that grows.
use Rattle.std.proofs.Common.{◌≡◌, inl, inr, ℕ, ◌+◌, List, [], ◌∷◌, ◌++◌, ◌∙◌, arith}
use Rattle.std.proofs.lemmas.Bool.{cases_lt}
use Rattle.std.proofs.lemmas.Grind.{elements}
use Rattle.lay_contexts.specs.FormattingContexts.{FormattingContext}
use Rattle.lay_placements.specs.declared.standing.Standing.{Standing}
use Rattle.lay_placements.proofs.StandingColumns.{read_before, read_last}
use Rattle.lay_context.specs.PageCorners.{ArePageStandings, standing_of}
use Rattle.lay_context.specs.PlacedContexts.{PlacedContext}

pub one_more_standing : (contexts : List FormattingContext) (places : List PlacedContext) (xs : List Standing) (x : Standing) (n : ℕ)
    → ArePageStandings contexts places xs n → x ≡ standing_of contexts places n → ArePageStandings contexts places (xs ++ x ∷ []) (n + 1)
one_more_standing contexts places xs x n known is = record {
  count = grind (arith, elements, known.count);
  each = λ i lt. elim (cases_lt i n) [
    | inl low ↦ read_before xs x i (omega (arith, low, known.count)) ∙ known.each i low
    | inr high ↦ (let z : i ≡ n = omega (arith, lt, high) in rw z (read_last xs x n (omega (arith, known.count)) ∙ is))
  ];
}
