-- An absolutely positioned box has one holder, as in each formatting context on the way out one counts for it, or none does.
use Rattle.std.proofs.Common.{◌≡◌, ℕ, zero, suc, Bool, List, refl, sym, ap, ◌∙◌, arith}
use Rattle.std.specs.Prelude.{Option, Some}
use Rattle.lay_contexts.specs.FormattingContexts.{FormattingContext, boxes_in, formatting_context_at}
use Rattle.lay_positioned.specs.Absolute.{is_fixed}
use Rattle.lay_positioned.specs.HoldersOutward.{Holder, IsHolderOutward, further, here, viewport}
use Rattle.lay_positioned.specs.Laws.{OneHolder}
use Rattle.lay_positioned.proofs.OneSetting.{one_holder_for, some_or_none}

abbrev held_at : ℕ → ℕ → Option Holder
held_at i box = Some (record { context = i; box = box })

module _ (fixed : Bool) (contexts : List FormattingContext) where
  one_outward : (i k : ℕ) (x y : Option Holder) → IsHolderOutward fixed contexts i k x → IsHolderOutward fixed contexts i k y → x ≡ y
  one_outward i k x y (here i-1 k-1 h a) (here i-2 k-2 g b) =
      let e : Some h ≡ Some g = one_holder_for fixed (boxes_in contexts i) k (Some h) (Some g) a b in
      let q : h ≡ g = cc in
      ap (held_at i) q
  one_outward i k x y (here i-1 k-1 h a) (further i-2 k-2 o some b rest) = absurd (some_or_none fixed (boxes_in contexts i) k h a b)
  one_outward i k x y (here i-1 k-1 h a) (viewport k-2 b) = absurd (some_or_none fixed (boxes_in contexts 0) k h a b)
  one_outward i k x y (further i-1 k-1 o some a rest) (here i-2 k-2 h b) = absurd (some_or_none fixed (boxes_in contexts i) k h b a)
  one_outward i k x y (further i-1 k-1 o some a rest) (further i-2 k-2 u some-2 b rest-2) =
      one_outward (formatting_context_at contexts i).outer (formatting_context_at contexts i).outer_box o u rest rest-2
  one_outward i k x y (further i-1 k-1 o some a rest) (viewport k-2 b) = absurd (omega (arith, some))
  one_outward i k x y (viewport k-1 a) (here i-2 k-2 h b) = absurd (some_or_none fixed (boxes_in contexts 0) k h b a)
  one_outward i k x y (viewport k-1 a) (further i-2 k-2 o some b rest) = absurd (omega (arith, some))
  one_outward i k x y (viewport k-1 a) (viewport k-2 b) = refl

pub one_holder_lem : OneHolder
one_holder_lem contexts zero x y a b = a ∙ sym b
one_holder_lem contexts (suc i) x y a b =
    let c = formatting_context_at contexts (suc i) in
    one_outward (is_fixed contexts (suc i)) contexts c.outer c.outer_box x y a b
