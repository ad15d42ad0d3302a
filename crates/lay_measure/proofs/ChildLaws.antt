-- What one block alone and floats alone come to.
use Rattle.std.proofs.Common.{◌≡◌, ◌∙◌, ℤ, pos, ◌+ℤ◌, List, [], ◌∷◌, map, refl, ap, arith}
use Rattle.std.specs.Int.{int_max}
use Rattle.std.proofs.lemmas.Int.{ints, clamps}
use Rattle.lay_measure.specs.Children.{float, floats_first, greatest_after}
use Rattle.lay_measure.specs.Laws.{FloatsAloneAddUp, LoneBlockGivesItsWidths, preferred_sum}
use Rattle.lay_measure.specs.declared.preferred_widths.PreferredWidths.{PreferredWidths}

abbrev widths : ℤ → ℤ → PreferredWidths
widths minimum preferred = record { minimum = record { 0 = minimum }; preferred = record { 0 = preferred } }

pub lone_block_lem : LoneBlockGivesItsWidths
lone_block_lem w low high =
    let a : int_max w.minimum.0 (pos 0) ≡ w.minimum.0 = omega (arith, ints, clamps, low) in
    let b : int_max (pos 0) (int_max w.preferred.0 (int_max (pos 0) (pos 0))) ≡ w.preferred.0 = omega (arith, ints, clamps, high) in
    ap (λ n. widths n (int_max (pos 0) (int_max w.preferred.0 (int_max (pos 0) (pos 0))))) a ∙ ap (widths w.minimum.0) b

all_first : (ws : List PreferredWidths) → floats_first (map float ws) ≡ preferred_sum ws
all_first [] = refl
all_first (w ∷ ws) = ap (λ n. w.preferred.0 +ℤ n) (all_first ws)

none_after : (ws : List PreferredWidths) → greatest_after (map float ws) ≡ pos 0
none_after [] = refl
none_after (w ∷ ws) = none_after ws

pub floats_alone_lem : FloatsAloneAddUp
floats_alone_lem ws = ap (λ n. int_max n (greatest_after (map float ws))) (all_first ws) ∙ ap (int_max (preferred_sum ws)) (none_after ws)
