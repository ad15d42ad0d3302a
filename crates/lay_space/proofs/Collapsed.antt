-- No space is left after a space.
use Rattle.std.proofs.Common.{◌≡◌, ◌≢◌, ℕ, ◌==◌, ◌&&◌, Bool, true, false, if◌then◌else◌, List, [], ◌∷◌, map, sym, ap, ◌∙◌, subst, arith, inl, inr}
use Rattle.std.proofs.lemmas.Bool.{ne_eqb, eq-eqb, cases_eq}
use Rattle.lay_space.specs.declared.item.Mode.{Mode}
use Rattle.lay_space.specs.Modes.{joins_lines}
use Rattle.lay_space.specs.WhiteSpace.{strip, as_space, squeeze}
use Rattle.lay_space.specs.Laws.{IsSpaceCollapsed, NoSpaceAfterSpace}

not_tab : (j : Bool) (c : ℕ) → (if c == 9 then 32 else (if j && c == 10 then 32 else c)) ≢ 9
not_tab j c e =
    elim (cases_eq c 9) [
      | inl is ↦ absurd (omega (arith, sym (ap (λ b. if b then 32 else (if j && c == 10 then 32 else c)) (eq-eqb c 9 is)) ∙ e))
      | inr other ↦ joined j (sym (ap (λ b. if b then 32 else (if j && c == 10 then 32 else c)) (ne_eqb c 9 other)) ∙ e) other
    ]
  where
    joined : (j : Bool) → (if j && c == 10 then 32 else c) ≡ 9 → c ≢ 9 → ⊥
    joined false is other = other is
    joined true is other = elim (cases_eq c 10) [
      | inl ten ↦ absurd (omega (arith, sym (ap (λ b. if b then 32 else c) (eq-eqb c 10 ten)) ∙ is))
      | inr no_ten ↦ other (sym (ap (λ b. if b then 32 else c) (ne_eqb c 10 no_ten)) ∙ is)
    ]

one : (after_space : Bool) (d : ℕ) (ys : List ℕ) → d ≢ 9 → IsSpaceCollapsed after_space (squeeze after_space ys) → IsSpaceCollapsed (d == 32) (squeeze (d == 32) ys)
    → IsSpaceCollapsed after_space (if after_space && d == 32 then squeeze after_space ys else (d ∷ squeeze (d == 32) ys))
one false d ys tab here next = (tab, (λ e. absurd cc), next)
one true d ys tab here next =
    elim (cases_eq d 32) [
      | inl space ↦ subst (λ b. IsSpaceCollapsed true (if b then squeeze true ys else (d ∷ squeeze (d == 32) ys))) (sym (eq-eqb d 32 space)) here
      | inr other ↦ subst (λ b. IsSpaceCollapsed true (if b then squeeze true ys else (d ∷ squeeze (d == 32) ys))) (sym (ne_eqb d 32 other)) (tab, (λ e. other), next)
    ]

squeezed : (m : Mode) (after_space : Bool) (cs : List ℕ) → IsSpaceCollapsed after_space (squeeze after_space (map (as_space m) cs))
squeezed m after_space [] = tt
squeezed m after_space (c ∷ cs) =
    one after_space (as_space m c) (map (as_space m) cs) (not_tab (joins_lines m) c) (squeezed m after_space cs) (squeezed m (as_space m c == 32) cs)

pub no_space_after_space_lem : NoSpaceAfterSpace
no_space_after_space_lem m after_linefeed after_space cs = squeezed m after_space (strip after_linefeed cs)
