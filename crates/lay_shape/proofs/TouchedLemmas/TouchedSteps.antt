-- The keys of touched contexts, one context after another.
use Rattle.std.proofs.Common.{◌≡◌, ◌⊎◌, inl, inr, ⊎_elim, ℕ, ◌+◌, List, [], ◌∷◌, ◌++◌, refl, arith, ap, sym, subst, ◌∙◌}
use Rattle.std.specs.List.{flat_map}
use Rattle.std.proofs.lemmas.Bool.{cases_lt}
use Rattle.std.proofs.lemmas.Grind.{flat_map-append}
use Rattle.std.proofs.lemmas.List.{append-nil}
use Rattle.lay_cells.specs.Shapes.{IsIn}
use Rattle.lay_contexts.specs.Contexts.{Context}
use Rattle.lay_contexts.specs.FormattingContexts.{FormattingContext}
use Rattle.lay_shape.specs.declared.cell_key.CellKey.{CellKey}
use Rattle.lay_shape.proofs.Members.{in_cases, in_either, in_here, in_left, in_none, in_right}
use Rattle.lay_shape.specs.Touched.TouchedContexts.{IsTouched, IsUntouched}
use Rattle.lay_shape.specs.Touched.TouchedKeys.{AreTouchedKeysTo, AreTouchedTo, keys_of}
use Rattle.lay_shape.proofs.TouchedLemmas.RisingNumbers.{rises_more}

module _ (contexts later : List Context) (all rest : List FormattingContext) where
  pub none_touched : AreTouchedKeysTo contexts later all rest [] 0
  none_touched = record {
    numbers = [];
    are = record {
      rising = λ i j less lt. absurd (omega (arith, lt));
      within = λ j has. absurd (in_none j has);
      touched = λ j has. absurd (in_none j has);
      others = λ j lt. absurd (omega (arith, lt));
    };
    keys_are = refl;
  }

  -- the next one isn't
  pub next_untouched : (keys : List CellKey) (n : ℕ) → AreTouchedKeysTo contexts later all rest keys n → IsUntouched contexts later all rest n
      → AreTouchedKeysTo contexts later all rest keys (n + 1)
  next_untouched keys n known untouched = record {
    numbers = known.numbers;
    are = record {
      rising = known.are.rising;
      within = λ j has. (let w = known.are.within j has in omega (arith, w));
      touched = known.are.touched;
      others = λ j lt. elim (cases_lt j n) [
        | inl low ↦ known.are.others j low
        | inr high ↦ (let e : n ≡ j = omega (arith, lt, high) in inr (subst (IsUntouched contexts later all rest) e untouched))
      ];
    };
    keys_are = known.keys_are;
  }

  last_in : (numbers : List ℕ) (n j : ℕ) → IsIn (numbers ++ n ∷ []) j → IsIn numbers j ⊎ (j ≡ n)
  last_in numbers n j has =
      ⊎_elim (λ l. inl l) (λ r. ⊎_elim (λ e. inr e) (λ none. absurd (in_none j none)) (in_cases n j [] r)) (in_either numbers (n ∷ []) j has)

  more_touched : (numbers : List ℕ) (n : ℕ) → AreTouchedTo contexts later all rest numbers n → IsTouched contexts later all rest n
      → AreTouchedTo contexts later all rest (numbers ++ n ∷ []) (n + 1)
  more_touched numbers n are touched = record {
    rising = rises_more numbers n are.rising are.within;
    within = λ j has. ⊎_elim (λ l. (let w = are.within j l in omega (arith, w))) (λ e. omega (arith, e)) (last_in numbers n j has);
    touched = λ j has. ⊎_elim (λ l. are.touched j l) (λ e. subst (IsTouched contexts later all rest) (sym e) touched) (last_in numbers n j has);
    others = λ j lt. elim (cases_lt j n) [
      | inl low ↦ ⊎_elim (λ l. inl (in_left numbers (n ∷ []) j l)) (λ u. inr u) (are.others j low)
      | inr high ↦ (let e : n ≡ j = omega (arith, lt, high) in inl (in_right numbers (n ∷ []) j (subst (IsIn (n ∷ [])) e (in_here n []))))
    ];
  }

  -- the next one is
  pub next_touched : (keys : List CellKey) (n : ℕ) → AreTouchedKeysTo contexts later all rest keys n → IsTouched contexts later all rest n
      → AreTouchedKeysTo contexts later all rest (keys ++ keys_of later n) (n + 1)
  next_touched keys n known touched = record {
    numbers = known.numbers ++ n ∷ [];
    are = more_touched known.numbers n known.are touched;
    keys_are = ap (λ (ks : List CellKey). ks ++ keys_of later n) known.keys_are
        ∙ (ap (λ (ks : List CellKey). flat_map (keys_of later) known.numbers ++ ks) (sym (append-nil (keys_of later n)))
        ∙ sym (flat_map-append (keys_of later) known.numbers (n ∷ [])));
  }
