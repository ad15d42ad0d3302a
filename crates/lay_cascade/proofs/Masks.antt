-- Words that have a truth value for each step of a window.
use Rattle.std.proofs.Common.{◌≡◌, ◌∙◌, ℕ, ◌+◌, ◌<◌, ◌≤◌, ◌⊎◌, inl, inr, List, [], ◌∷◌, ◌++◌, Bool, true, false, refl, sym, ap, subst, arith, bytes_eq}
use Rattle.std.specs.Prelude.{Option, Some, None, unwrap_or, ◌||◌, bit_or, if◌then◌else◌}
use Rattle.std.specs.Option.{option_map_or}
use Rattle.std.specs.List.{slice_get, list_any}
use Rattle.std.specs.Map.{update}
use Rattle.std.specs.Cmp.Lexicographic.{nat_list_eq_equiv}
use Rattle.std.proofs.lemmas.Bool.{cases_Bool, cases_lt, or_from}
use Rattle.std.proofs.lemmas.List.Folds.{list_any-append}
use Rattle.std.proofs.lemmas.Slice.Eq.{bytes_eq-Decides}
use Rattle.std.proofs.Math.Bool.{or-false}
use Rattle.lay_sheet.specs.declared.selector.Simple.{Simple}
use Rattle.lay_sheet.specs.declared.selector.Simple.TheVariants.{Universal, Tag, Class, Label}
use Rattle.lay_sheet.specs.declared.selector.Step.{Step}
use Rattle.lay_cascade.specs.declared.node_names.names.Names.{Names}
use Rattle.lay_cascade.specs.declared.windows.Place.{Place}
use Rattle.lay_cascade.specs.declared.windows.Place.TheVariants as at
use Rattle.lay_cascade.specs.declared.windows.NameMasks.{NameMasks}
use Rattle.lay_cascade.specs.NodeNames.{fits}
use Rattle.lay_cascade.specs.Words.{is_in, with_bit}
use Rattle.lay_cascade.specs.Windows.{IsMask, AreNames, AsksMore, mask_of, name_in, asks_name, asks_universal}
use Rattle.lay_cascade.proofs.TruthValues.{is_in_none, is_in_or, with_bit_same, with_bit_other}

same_step : (a b : Step) → Some a ≡ Some b → a ≡ b
same_step a b e = cc

module _ (steps : List Step) (from : ℕ) where
  -- a mask of the first n steps, which says of no other one that it asks
  pub record IsMaskTo (n : ℕ) (Asks : Step → Bool) (word : ℕ) : Type 0 where
    pub told : IsMask steps from n Asks word
    pub rest : (j : ℕ) → n ≤ j → is_in word j ≡ false

  pub mask_none : (Asks : Step → Bool) → IsMaskTo 0 Asks 0
  mask_none Asks = record { told = λ j s h. absurd (omega (arith, h)); rest = λ j h. is_in_none j }

  -- with one step more, which asks, or doesn't
  module _ (n : ℕ) (Asks : Step → Bool) (word : ℕ) (step : Step) (here : slice_get steps (from + n) ≡ Some step) (was : IsMaskTo n Asks word) where
    at_end : (j : ℕ) (s : Step) → j ≡ n → slice_get steps (from + j) ≡ Some s → s ≡ step
    at_end j s q e = same_step s step (sym e ∙ ap (λ z. slice_get steps (from + z)) q ∙ here)

    pub mask_with : n < 64 → Asks step ≡ true → IsMaskTo (n + 1) Asks (with_bit word n)
    mask_with few asks = record { told = λ j s h e. of_place j s h e (cases_lt j n); rest = rest }
      where
        of_place : (j : ℕ) (s : Step) → j < n + 1 → slice_get steps (from + j) ≡ Some s → (j < n) ⊎ (n ≤ j) → is_in (with_bit word n) j ≡ Asks s
        of_place j s h e (inl l) = with_bit_other word n j few (λ q. omega (arith, l, q)) ∙ was.told j s l e
        of_place j s h e (inr g) =
            let q : j ≡ n = omega (arith, h, g) in
            ap (is_in (with_bit word n)) q ∙ with_bit_same word n few ∙ sym asks ∙ ap Asks (sym (at_end j s q e))

        rest : (j : ℕ) → n + 1 ≤ j → is_in (with_bit word n) j ≡ false
        rest j h =
            let l : n ≤ j = omega (arith, h) in
            with_bit_other word n j few (λ q. omega (arith, h, q)) ∙ was.rest j l

    pub mask_without : Asks step ≡ false → IsMaskTo (n + 1) Asks word
    mask_without asks = record {
      told = λ j s h e. of_place j s h e (cases_lt j n);
      rest = λ j h. let l : n ≤ j = omega (arith, h) in was.rest j l;
    }
      where
        of_place : (j : ℕ) (s : Step) → j < n + 1 → slice_get steps (from + j) ≡ Some s → (j < n) ⊎ (n ≤ j) → is_in word j ≡ Asks s
        of_place j s h e (inl l) = was.told j s l e
        of_place j s h e (inr g) =
            let q : j ≡ n = omega (arith, h, g) in
            was.rest j g ∙ sym asks ∙ ap Asks (sym (at_end j s q e))

    pub mask_more : (b : Bool) → n < 64 → b ≡ Asks step → IsMaskTo (n + 1) Asks (if b then with_bit word n else word)
    mask_more true few asks = mask_with few (sym asks)
    mask_more false few asks = mask_without (sym asks)

  -- the words of all names, of the first n steps
  abbrev pub AreNamesTo : ℕ → Place → NameMasks → Type 0
  AreNamesTo n place masks = (q : List ℕ) → IsMaskTo n (asks_name place q) (mask_of masks q)

  pub names_with : (n : ℕ) (place : Place) (old new : NameMasks) (step : Step) (name : List ℕ) → slice_get steps (from + n) ≡ Some step → n < 64 → name_in place step.simple ≡ Some name → AsksMore n name old new →
      AreNamesTo n place old → AreNamesTo (n + 1) place new
  names_with n place old new step name here few is more was q = of_name (cases_Bool (bytes_eq q name))
    where
      asked : asks_name place q step ≡ bytes_eq q name
      asked = ap (λ z. option_map_or (λ m. bytes_eq q m) z false) is

      of_name : (bytes_eq q name ≡ true) ⊎ (bytes_eq q name ≡ false) → IsMaskTo (n + 1) (asks_name place q) (mask_of new q)
      of_name (inl t) =
          let e : mask_of new q ≡ with_bit (mask_of old q) n = more q ∙ ap (λ z. if z then with_bit (mask_of old q) n else mask_of old q) t in
          subst (λ z. IsMaskTo (n + 1) (asks_name place q) z) (sym e) (mask_with n (asks_name place q) (mask_of old q) step here (was q) few (asked ∙ t))
      of_name (inr f) =
          let e : mask_of new q ≡ mask_of old q = more q ∙ ap (λ z. if z then with_bit (mask_of old q) n else mask_of old q) f in
          subst (λ z. IsMaskTo (n + 1) (asks_name place q) z) (sym e) (mask_without n (asks_name place q) (mask_of old q) step here (was q) (asked ∙ f))

  pub names_without : (n : ℕ) (place : Place) (masks : NameMasks) (step : Step) → slice_get steps (from + n) ≡ Some step → name_in place step.simple ≡ None → AreNamesTo n place masks → AreNamesTo (n + 1) place masks
  names_without n place masks step here is was q = mask_without n (asks_name place q) (mask_of masks q) step here (was q) (ap (λ z. option_map_or (λ m. bytes_eq q m) z false) is)

  -- of several names
  pub class_none : (count : ℕ) → IsMask steps from count (λ s. list_any (λ class. asks_name at.Classes class s) []) 0
  class_none count j s h e = is_in_none j

  pub class_more : (count : ℕ) (masks : NameMasks) (classes : List (List ℕ)) (class : List ℕ) (word : ℕ) → AreNames steps from count at.Classes masks → IsMask steps from count (λ s. list_any (λ class. asks_name at.Classes class s) classes) word →
      IsMask steps from count (λ s. list_any (λ class. asks_name at.Classes class s) (classes ++ class ∷ [])) (bit_or word (mask_of masks class))
  class_more count masks classes class word are was j s h e =
      is_in_or word (mask_of masks class) j ∙ ap (λ z. z || is_in (mask_of masks class) j) (was j s h e) ∙ ap (λ z. list_any (λ d. asks_name at.Classes d s) classes || z) (are class j s h e ∙ sym (or-false (asks_name at.Classes class s)))
      ∙ sym (list_any-append (λ d. asks_name at.Classes d s) classes (class ∷ []))

-- the word of a name, after one was set
pub asked_more : (q name : List ℕ) (get : List ℕ → Option ℕ) (new : Option ℕ) (word j : ℕ) → new ≡ update bytes_eq get name (Some word) q → word ≡ with_bit (unwrap_or (get name) 0) j →
    unwrap_or new 0 ≡ (if bytes_eq q name then with_bit (unwrap_or (get q) 0) j else unwrap_or (get q) 0)
asked_more q name get new word j is set = of_cases (cases_Bool (bytes_eq q name))
  where
    turned : bytes_eq name q ≡ bytes_eq q name
    turned = nat_list_eq_equiv.symm name q

    of_cases : (bytes_eq q name ≡ true) ⊎ (bytes_eq q name ≡ false) → unwrap_or new 0 ≡ (if bytes_eq q name then with_bit (unwrap_or (get q) 0) j else unwrap_or (get q) 0)
    of_cases (inl t) =
        let n : new ≡ Some word = rw (turned ∙ t) at is in
        let same : q ≡ name = (bytes_eq-Decides q name).0 t in
        ap (λ z. unwrap_or z 0) n ∙ set ∙ ap (λ z. with_bit (unwrap_or (get z) 0) j) (sym same) ∙ ap (λ z. if z then with_bit (unwrap_or (get q) 0) j else unwrap_or (get q) 0) (sym t)
    of_cases (inr f) =
        let n : new ≡ get q = rw (turned ∙ f) at is in
        ap (λ z. unwrap_or z 0) n ∙ ap (λ z. if z then with_bit (unwrap_or (get q) 0) j else unwrap_or (get q) 0) (sym f)

-- what a node of these names fits, by what is asked for
none_asked : (simple : Simple) (classes : List (List ℕ)) → name_in at.Classes simple ≡ None → list_any (λ class. option_map_or (λ n. bytes_eq class n) (name_in at.Classes simple) false) classes ≡ false
none_asked simple [] e = refl
none_asked simple (c ∷ cs) e = or_from (option_map_or (λ n. bytes_eq c n) (name_in at.Classes simple) false) (list_any (λ class. option_map_or (λ n. bytes_eq class n) (name_in at.Classes simple) false) cs)
    (ap (λ z. option_map_or (λ n. bytes_eq c n) z false) e) (none_asked simple cs e)

abbrev asked : Place → List ℕ → Simple → Bool
asked place q simple = option_map_or (λ n. bytes_eq q n) (name_in place simple) false

fits_asked : (names : Names) (simple : Simple) →
    (((asks_universal simple || asked at.Tag names.tag simple) || asked at.Label names.label simple) || list_any (λ class. asked at.Classes class simple) names.classes) ≡ fits names simple
fits_asked names Universal = refl
fits_asked names (Tag name) = ap (λ z. (bytes_eq names.tag name || false) || z) (none_asked (Tag name) names.classes refl) ∙ ap (λ z. z || false) (or-false (bytes_eq names.tag name)) ∙ or-false (bytes_eq names.tag name)
fits_asked names (Label name) = ap (λ z. bytes_eq names.label name || z) (none_asked (Label name) names.classes refl) ∙ or-false (bytes_eq names.label name)
fits_asked names (Class name) = refl

pub fits_mask : (steps : List Step) (from count : ℕ) (names : Names) (universal tagged labelled classed : ℕ) → IsMask steps from count (λ s. asks_universal s.simple) universal → IsMask steps from count (asks_name at.Tag names.tag) tagged →
    IsMask steps from count (asks_name at.Label names.label) labelled → IsMask steps from count (λ s. list_any (λ class. asks_name at.Classes class s) names.classes) classed →
    IsMask steps from count (λ s. fits names s.simple) (bit_or (bit_or (bit_or universal tagged) labelled) classed)
fits_mask steps from count names universal tagged labelled classed is_universal is_tagged is_labelled is_classed j s h e =
    is_in_or (bit_or (bit_or universal tagged) labelled) classed j
    ∙ ap (λ z. z || is_in classed j) (is_in_or (bit_or universal tagged) labelled j ∙ ap (λ z. z || is_in labelled j) (is_in_or universal tagged j ∙ ap (λ z. z || is_in tagged j) (is_universal j s h e)))
    ∙ ap (λ z. ((asks_universal s.simple || z) || is_in labelled j) || is_in classed j) (is_tagged j s h e)
    ∙ ap (λ z. ((asks_universal s.simple || asks_name at.Tag names.tag s) || z) || is_in classed j) (is_labelled j s h e)
    ∙ ap (λ z. ((asks_universal s.simple || asks_name at.Tag names.tag s) || asks_name at.Label names.label s) || z) (is_classed j s h e)
    ∙ fits_asked names s.simple
