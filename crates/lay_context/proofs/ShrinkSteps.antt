-- Whether something shrinks to fit, box by box outward.
use Rattle.std.proofs.Common.{◌≡◌, ◌<◌, ℕ, zero, suc, Bool, true, false, ◌||◌, List, refl, ap, sym, ◌∙◌, arith}
use Rattle.lay_contexts.specs.FormattingContexts.{FormattingContext, boxes_in, formatting_context_at}
use Rattle.lay_context_sizes.specs.ShrinkToFit.{shrinks_to_fit}
use Rattle.lay_context.specs.Measured.{shrinks_within}

pub shrinks_here : (many : ℕ) (contexts : List FormattingContext) (i : ℕ) → shrinks_to_fit (boxes_in contexts i) ≡ true → shrinks_within many contexts i ≡ true
shrinks_here zero contexts i e = e
shrinks_here (suc many) contexts zero e = e
shrinks_here (suc many) contexts (suc i) e = ap (λ (b : Bool). b || shrinks_within many contexts (formatting_context_at contexts (suc i)).outer) e

-- nothing is around the first one, or nothing more is looked at
pub shrinks_last : (many : ℕ) (contexts : List FormattingContext) (i : ℕ) → many ≡ 0 → shrinks_within many contexts i ≡ shrinks_to_fit (boxes_in contexts i)
shrinks_last zero contexts i e = refl
shrinks_last (suc many) contexts i e = absurd (omega (arith, e))

pub shrinks_first : (many : ℕ) (contexts : List FormattingContext) (i : ℕ) → i ≡ 0 → shrinks_within many contexts i ≡ shrinks_to_fit (boxes_in contexts i)
shrinks_first zero contexts i e = refl
shrinks_first (suc many) contexts zero e = refl
shrinks_first (suc many) contexts (suc i) e = absurd (omega (arith, e))

pub shrinks_out : (many less : ℕ) (contexts : List FormattingContext) (i : ℕ) → many ≡ suc less → 0 < i → shrinks_to_fit (boxes_in contexts i) ≡ false
    → shrinks_within less contexts (formatting_context_at contexts i).outer ≡ shrinks_within many contexts i
shrinks_out zero less contexts i e some not = absurd (omega (arith, e))
shrinks_out (suc many) less contexts zero e some not = absurd (omega (arith, some))
shrinks_out (suc many) less contexts (suc i) e some not =
    let outer : ℕ = (formatting_context_at contexts (suc i)).outer in
    let same : less ≡ many = omega (arith, e) in
    ap (λ (n : ℕ). shrinks_within n contexts outer) same ∙ sym (ap (λ (b : Bool). b || shrinks_within many contexts outer) not)
