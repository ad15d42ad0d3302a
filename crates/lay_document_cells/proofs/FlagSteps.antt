-- Whether contexts are measured, one after another.
use Rattle.std.proofs.Common.{◌≡◌, ℕ, ◌+◌, ◌<◌, ◌≤◌, Bool, List, [], ◌∷◌, ◌++◌, length, refl, ap, sym, subst, ◌∙◌, arith, inl, inr, ⊎_elim}
use Rattle.std.proofs.lemmas.Bool.{cases_lt}
use Rattle.std.proofs.lemmas.Grind.{elements}
use Rattle.lay_flow.specs.Blocks.Children.{flag_at}
use Rattle.lay_contexts.specs.Contexts.{Context}
use Rattle.lay_contexts.specs.FormattingContexts.{FormattingContext}
use Rattle.lay_contexts.specs.FormattingContextList.{first_number}
use Rattle.lay_context.specs.Measured.{is_measured}
use Rattle.lay_document_cells.proofs.Cited.{read_before, read_last}
use Rattle.lay_shape.specs.Touched.ContextFlags.{AreContextFlagsTo}

length_more : (flags : List Bool) (b : Bool) → length (flags ++ b ∷ []) ≡ length flags + 1
length_more flags b = grind (arith, elements)

pub no_flags : (contexts : List Context) (all : List FormattingContext) (flags : List Bool) → flags ≡ [] → AreContextFlagsTo contexts all flags 0
no_flags contexts all flags none = record { count = ap length none; each = λ i lt. absurd (omega (arith, lt)) }

pub one_flag_more : (contexts : List Context) (all : List FormattingContext) (flags new : List Bool) (b : Bool) (n : ℕ)
    → AreContextFlagsTo contexts all flags n → b ≡ is_measured all (first_number contexts n) → new ≡ flags ++ b ∷ [] → AreContextFlagsTo contexts all new (n + 1)
one_flag_more contexts all flags new b n known is more = record {
  count = ap length more ∙ length_more flags b ∙ ap (λ m. m + 1) known.count;
  each = each;
}
  where
    each : (i : ℕ) → i < n + 1 → flag_at new i ≡ is_measured all (first_number contexts i)
    each i lt =
        ap (λ (xs : List Bool). flag_at xs i) more
        ∙ ⊎_elim
        (λ low. read_before flags b i (let e = known.count in omega (arith, e, low)) ∙ known.each i low)
        (λ high. (let at : i ≡ n = omega (arith, lt, high) in
        read_last flags b i (at ∙ sym known.count) ∙ is ∙ ap (λ m. is_measured all (first_number contexts m)) (sym at)))
        (cases_lt i n)
