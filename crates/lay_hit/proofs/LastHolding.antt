-- The last piece that holds a point is the only one that holds it and has none behind it that does.
use Rattle.std.proofs.Common.{◌≡◌, ℕ, zero, suc, ◌<◌, Bool, true, false, cond, List, [], ◌∷◌, slice_get, refl, sym, ap, ◌∙◌, subst, arith, Option, Some, None, IfSome}
use Rattle.std.specs.Option.{option_or}
use Rattle.lay_frag.specs.declared.frag.Frag.{Frag}
use Rattle.lay_hit.specs.Hits.{holds, last_holding}
use Rattle.lay_hit.specs.Fronts.{if_counts}
use Rattle.lay_hit.specs.Laws.{IsLastHolding, OneLastHolding}
use Rattle.lay_hit.proofs.Orders.{lastly, last-lastly}

module _ (h : Frag → Bool) where
  record IsLast (fs : List Frag) (f : Frag) : Type 0 where
    at : ℕ
    is : slice_get fs at ≡ Some f
    holding : h f ≡ true
    last : (k : ℕ) → at < k → IfSome (slice_get fs k) (λ g. h g ≡ false)

  none_hold : (fs : List Frag) → lastly h fs ≡ None → (k : ℕ) → IfSome (slice_get fs k) (λ g. h g ≡ false)
  none_hold [] e k = tt
  none_hold (f ∷ fs) e k = by_rest (none_hold fs) (lastly h fs) refl e k
    where
      own : (b : Bool) → h f ≡ b → cond b (Some f) None ≡ None → h f ≡ false
      own true is n = absurd cc
      own false is n = is

      by_rest : (lastly h fs ≡ None → (j : ℕ) → IfSome (slice_get fs j) (λ g. h g ≡ false)) → (r : Option Frag) → lastly h fs ≡ r → option_or r (if_counts h f) ≡ None → (j : ℕ) → IfSome (slice_get (f ∷ fs) j) (λ g. h g ≡ false)
      by_rest rest (Some m) is n j = absurd cc
      by_rest rest None is n zero = own (h f) refl n
      by_rest rest None is n (suc j) = rest is j

  no_last : (fs : List Frag) → ((k : ℕ) → IfSome (slice_get fs k) (λ g. h g ≡ false)) → lastly h fs ≡ None
  no_last [] each = refl
  no_last (f ∷ fs) each =
      let rest = no_last fs (λ k. each (suc k)) in
      let first = each 0 in
      ap (λ (r : Option Frag). option_or r (if_counts h f)) rest ∙ ap (λ (b : Bool). cond b (Some f) None) first

  found : (fs : List Frag) (f : Frag) → lastly h fs ≡ Some f → IsLast fs f
  found [] f e = absurd cc
  found (g ∷ gs) f e = by_rest (found gs f) (lastly h gs) refl e
    where
      own : lastly h gs ≡ None → (b : Bool) → h g ≡ b → cond b (Some g) None ≡ Some f → IsLast (g ∷ gs) f
      own none true is n =
          let same : g ≡ f = cc in
          record {
            at = 0;
            is = n;
            holding = subst (λ (x : Frag). h x ≡ true) same is;
            last = behind none;
          }
        where
          behind : lastly h gs ≡ None → (k : ℕ) → 0 < k → IfSome (slice_get (g ∷ gs) k) (λ x. h x ≡ false)
          behind none zero less = absurd (omega arith)
          behind none (suc k) less = none_hold gs none k
      own none false is n = absurd cc

      by_rest : (lastly h gs ≡ Some f → IsLast gs f) → (r : Option Frag) → lastly h gs ≡ r → option_or r (if_counts h g) ≡ Some f → IsLast (g ∷ gs) f
      by_rest rest None is n = own is (h g) refl n
      by_rest rest (Some m) is n = further (rest (is ∙ n))
        where
          further : IsLast gs f → IsLast (g ∷ gs) f
          further l = record {
            at = suc l.at;
            is = l.is;
            holding = l.holding;
            last = after l;
          }
            where
              after : (l : IsLast gs f) → (k : ℕ) → suc l.at < k → IfSome (slice_get (g ∷ gs) k) (λ x. h x ≡ false)
              after l zero less = absurd (omega arith)
              after l (suc k) less = l.last k (omega (arith, less))

  only : (fs : List Frag) (f : Frag) (at : ℕ) → slice_get fs at ≡ Some f → h f ≡ true → ((k : ℕ) → at < k → IfSome (slice_get fs k) (λ g. h g ≡ false)) → lastly h fs ≡ Some f
  only [] f at is on last = absurd cc
  only (g ∷ gs) f zero is on last =
      let same : g ≡ f = cc in
      ap (λ (r : Option Frag). option_or r (if_counts h g)) (no_last gs (λ k. last (suc k) (omega arith)))
      ∙ ap (λ (b : Bool). cond b (Some g) None) (subst (λ (x : Frag). h x ≡ true) (sym same) on) ∙ is
  only (g ∷ gs) f (suc at) is on last =
      ap (λ (r : Option Frag). option_or r (if_counts h g)) (only gs f at is on (λ k less. last (suc k) (omega (arith, less))))

pub one_last_holding_lem : OneLastHolding
one_last_holding_lem x y fs f = (there, back)
  where
    there : last_holding x y fs ≡ Some f → IsLastHolding x y fs f
    there e = let l = found (holds x y) fs f (sym (last-lastly (holds x y) fs) ∙ e) in record { at = l.at; is = l.is; holding = l.holding; last = l.last }

    back : IsLastHolding x y fs f → last_holding x y fs ≡ Some f
    back l = last-lastly (holds x y) fs ∙ only (holds x y) fs f l.at l.is l.holding l.last
