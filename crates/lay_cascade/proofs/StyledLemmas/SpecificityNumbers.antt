-- The key of a weight has the order of the number that 6.4.3 makes of its counts.
use Rattle.std.proofs.Common.{◌≡◌, ◌∙◌, ◌↔◌, ℕ, zero, suc, ◌+◌, ◌*◌, ◌<◌, ◌≤◌, ◌⊎◌, inl, inr, List, [], ◌∷◌, Bool, true, false, refl, sym, ap, subst, arith}
use Rattle.std.proofs.lemmas.Bool.{false≢true, ltb-true, lt-ltb, cases_eq, cases_lt}
use Rattle.std.proofs.Math.Nat.{mul-le-mul_right, add-mul, mul_comm}
use Rattle.std.proofs.lemmas.Nat.{mul-add-lt}
use Rattle.std.proofs.lemmas.List.Sums.{sum_by-cons}
use Rattle.lay_sheet.specs.declared.selector.Simple.{Simple}
use Rattle.lay_sheet.specs.declared.selector.Simple.TheVariants.{Universal, Tag, Class, Label}
use Rattle.lay_sheet.specs.declared.selector.Step.{Step}
use Rattle.lay_cascade.specs.declared.counts.Specificity.{Specificity}
use Rattle.lay_cascade.specs.Specificity.{specificity_of, counted}
use Rattle.lay_cascade.specs.declared.styled.weight.Weight.{Weight}
use Rattle.lay_cascade.specs.Styled.Weights.{bit, key_of, own_key, is_less_key, is_lighter}
use Rattle.lay_cascade.specs.Styled.SpecificityNumbers.{worth, number_of_steps, own_number, IsBaseAbove, IsWeightBy, StandsBefore, CountsLess, WeightsAreNumbers, OwnIsNumber}
use Rattle.lay_cascade.proofs.StyledLemmas.Keys.{same, other}

apart : (x y : ℕ) → y ≤ x → (x ≡ y → ⊥) → y < x
apart x y m n = of_cases (cases_lt y x)
  where
    of_cases : (y < x) ⊎ (x ≤ y) → y < x
    of_cases (inl l) = l
    of_cases (inr h) = absurd (n (omega (arith, m, h)))

-- two digits in a base
module _ (base : ℕ) where
  -- a greater front is greater whatever stands behind it
  front_less : (x y a b : ℕ) → a < base → x < y → x * base + a < y * base + b
  front_less x y a b h l =
      let k : x + 1 ≤ y = omega (arith, l) in
      let m : (x + 1) * base ≤ y * base = mul-le-mul_right base k in
      let d : (x + 1) * base ≡ x * base + 1 * base = add-mul x 1 base in
      omega (arith, h, m, d)

  digits_less : (x y a b : ℕ) → a < base → b < base → x * base + a < y * base + b → (x < y) ⊎ ((x ≡ y) × (a < b))
  digits_less x y a b h g l = of_cases (cases_lt x y) (cases_eq x y)
    where
      of_cases : (x < y) ⊎ (y ≤ x) → (x ≡ y) ⊎ (x ≡ y → ⊥) → (x < y) ⊎ ((x ≡ y) × (a < b))
      of_cases (inl m) e = inl m
      of_cases (inr m) (inl e) =
          let f = ap (λ z. z * base) e in
          inr (e, omega (arith, l, f))
      of_cases (inr m) (inr n) =
          let k = apart x y m n in
          let w = front_less y x b a g k in
          absurd (omega (arith, l, w))

  digits_from : (x y a b : ℕ) → a < base → b < base → (x < y) ⊎ ((x ≡ y) × (a < b)) → x * base + a < y * base + b
  digits_from x y a b h g (inl l) = front_less x y a b h l
  digits_from x y a b h g (inr (e, l)) = let f = ap (λ z. z * base) e in omega (arith, l, f)

  digits_same : (x y a b : ℕ) → a < base → b < base → x * base + a ≡ y * base + b → (x ≡ y) × (a ≡ b)
  digits_same x y a b h g e = of_cases (cases_lt x y) (cases_lt y x)
    where
      of_cases : (x < y) ⊎ (y ≤ x) → (y < x) ⊎ (x ≤ y) → (x ≡ y) × (a ≡ b)
      of_cases (inl l) q = let w = front_less x y a b h l in absurd (omega (arith, w, e))
      of_cases (inr m) (inl l) = let w = front_less y x b a g l in absurd (omega (arith, w, e))
      of_cases (inr m) (inr n) =
          let s : x ≡ y = omega (arith, m, n) in
          let f = ap (λ z. z * base) s in
          (s, omega (arith, e, f))

  -- three digits
  abbrev pub three : Specificity → ℕ
  three s = (s.labels * base + s.classes) * base + s.tags

  -- the number of a selector is that of its counts
  pub counts_number : (steps : List Step) → number_of_steps base steps ≡ three (specificity_of steps)
  counts_number [] =
      let e : 0 * base + 0 ≡ 0 = omega arith in
      let f = ap (λ z. z * base) e in
      omega (arith, f)
  counts_number (step ∷ steps) = sum_by-cons (λ s. worth base s.simple) step steps ∙ ap (λ z. worth base step.simple + z) (counts_number steps) ∙ of_simple step.simple (specificity_of steps)
    where
      of_simple : (simple : Simple) (s : Specificity) → worth base simple + three s ≡ three (counted simple s)
      of_simple Universal s = omega arith
      of_simple (Tag name) s = omega arith
      of_simple (Class name) s =
          let d = add-mul (s.labels * base + s.classes) 1 base in
          let e : s.labels * base + (s.classes + 1) ≡ (s.labels * base + s.classes) + 1 = omega arith in
          let f = ap (λ z. z * base) e in
          omega (arith, d, f)
      of_simple (Label name) s =
          let d = add-mul s.labels 1 base in
          let e : (s.labels + 1) * base + s.classes ≡ (s.labels * base + s.classes) + base = omega (arith, d) in
          let f = ap (λ z. z * base) e in
          let g = add-mul (s.labels * base + s.classes) base base in
          omega (arith, f, g)

  module _ (s t : Specificity) (below : IsBaseAbove base s) (above : IsBaseAbove base t) where
    -- what three digits say, one by one
    abbrev pub InTurn : Type 0
    InTurn = (s.labels < t.labels) ⊎ ((s.labels ≡ t.labels) × ((s.classes < t.classes) ⊎ ((s.classes ≡ t.classes) × (s.tags < t.tags))))

    pub three_same : three s ≡ three t → (s.labels ≡ t.labels) × (s.classes ≡ t.classes) × (s.tags ≡ t.tags)
    three_same e =
        let outer = digits_same (s.labels * base + s.classes) (t.labels * base + t.classes) s.tags t.tags below.tags above.tags e in
        let inner = digits_same s.labels t.labels s.classes t.classes below.classes above.classes outer.0 in
        (inner.0, inner.1, outer.1)

    pub three_less : three s < three t → InTurn
    three_less l = of_outer (digits_less (s.labels * base + s.classes) (t.labels * base + t.classes) s.tags t.tags below.tags above.tags l)
      where
        of_inner : (s.labels < t.labels) ⊎ ((s.labels ≡ t.labels) × (s.classes < t.classes)) → InTurn
        of_inner (inl m) = inl m
        of_inner (inr (e, m)) = inr (e, inl m)

        of_outer : (s.labels * base + s.classes < t.labels * base + t.classes) ⊎ ((s.labels * base + s.classes ≡ t.labels * base + t.classes) × (s.tags < t.tags)) → InTurn
        of_outer (inl m) = of_inner (digits_less s.labels t.labels s.classes t.classes below.classes above.classes m)
        of_outer (inr (e, m)) = let d = digits_same s.labels t.labels s.classes t.classes below.classes above.classes e in inr (d.0, inr (d.1, m))

    pub three_from : InTurn → three s < three t
    three_from w = digits_from (s.labels * base + s.classes) (t.labels * base + t.classes) s.tags t.tags below.tags above.tags (of_turn w)
      where
        pair : (s.labels < t.labels) ⊎ ((s.labels ≡ t.labels) × (s.classes < t.classes)) → s.labels * base + s.classes < t.labels * base + t.classes
        pair w = digits_from s.labels t.labels s.classes t.classes below.classes above.classes w

        of_turn : InTurn → (s.labels * base + s.classes < t.labels * base + t.classes) ⊎ ((s.labels * base + s.classes ≡ t.labels * base + t.classes) × (s.tags < t.tags))
        of_turn (inl l) = inl (pair (inl l))
        of_turn (inr (e, inl l)) = inl (pair (inr (e, l)))
        of_turn (inr (e, inr (f, l))) = let g = ap (λ z. z * base) e in inr (omega (arith, f, g), l)

    pub three_equal : s.labels ≡ t.labels → s.classes ≡ t.classes → s.tags ≡ t.tags → three s ≡ three t
    three_equal e f g = rw (e, f, g) refl

-- the first numbers of two keys
pub key_less : (a b : ℕ) (xs ys : List ℕ) → is_less_key (a ∷ xs) (b ∷ ys) ≡ true → (a < b) ⊎ ((a ≡ b) × (is_less_key xs ys ≡ true))
key_less a b xs ys h = of_cases (cases_eq a b)
  where
    of_cases : (a ≡ b) ⊎ (a ≡ b → ⊥) → (a < b) ⊎ ((a ≡ b) × (is_less_key xs ys ≡ true))
    of_cases (inl e) = inr (e, sym (same a b xs ys e) ∙ h)
    of_cases (inr ne) = inl (ltb-true a b (sym (other a b xs ys ne) ∙ h))

pub key_front : (a b : ℕ) (xs ys : List ℕ) → a < b → is_less_key (a ∷ xs) (b ∷ ys) ≡ true
key_front a b xs ys l = other a b xs ys (λ e. omega (arith, e, l)) ∙ lt-ltb a b l

pub key_behind : (a b : ℕ) (xs ys : List ℕ) → a ≡ b → is_less_key xs ys ≡ true → is_less_key (a ∷ xs) (b ∷ ys) ≡ true
key_behind a b xs ys e h = same a b xs ys e ∙ h

bits_less : (a b : Bool) → bit a < bit b → (a ≡ false) × (b ≡ true)
bits_less true true l = absurd (omega (arith, l))
bits_less true false l = absurd (omega (arith, l))
bits_less false true l = (refl, refl)
bits_less false false l = absurd (omega (arith, l))

bits_same : (a b : Bool) → bit a ≡ bit b → a ≡ b
bits_same true true e = refl
bits_same true false e = absurd (omega (arith, e))
bits_same false true e = absurd (omega (arith, e))
bits_same false false e = refl

bits_rise : (a b : Bool) → a ≡ false → b ≡ true → bit a < bit b
bits_rise a b e f = rw (e, f) (omega arith)

module _ (v w : Weight) where
  placed : is_less_key (v.rule ∷ v.place ∷ []) (w.rule ∷ w.place ∷ []) ≡ true → StandsBefore v w
  placed h = of_rule (key_less v.rule w.rule (v.place ∷ []) (w.place ∷ []) h)
    where
      of_place : (v.place < w.place) ⊎ ((v.place ≡ w.place) × (is_less_key [] [] ≡ true)) → v.place < w.place
      of_place (inl l) = l
      of_place (inr (e, h)) = absurd (false≢true h)

      of_rule : (v.rule < w.rule) ⊎ ((v.rule ≡ w.rule) × (is_less_key (v.place ∷ []) (w.place ∷ []) ≡ true)) → StandsBefore v w
      of_rule (inl l) = inl l
      of_rule (inr (e, h)) = inr (e, of_place (key_less v.place w.place [] [] h))

  from_place : StandsBefore v w → is_less_key (v.rule ∷ v.place ∷ []) (w.rule ∷ w.place ∷ []) ≡ true
  from_place (inl l) = key_front v.rule w.rule (v.place ∷ []) (w.place ∷ []) l
  from_place (inr (e, l)) = key_behind v.rule w.rule (v.place ∷ []) (w.place ∷ []) e (key_front v.place w.place [] [] l)

  -- the counts of two weights, one by one, and then the places
  abbrev pub InOrder : Type 0
  InOrder = (v.specificity.labels < w.specificity.labels) ⊎ ((v.specificity.labels ≡ w.specificity.labels)
      × ((v.specificity.classes < w.specificity.classes) ⊎ ((v.specificity.classes ≡ w.specificity.classes)
      × ((v.specificity.tags < w.specificity.tags) ⊎ ((v.specificity.tags ≡ w.specificity.tags) × StandsBefore v w)))))

  abbrev from_labels : Weight → List ℕ
  from_labels u = u.specificity.labels ∷ u.specificity.classes ∷ u.specificity.tags ∷ u.rule ∷ u.place ∷ []

  abbrev from_classes : Weight → List ℕ
  from_classes u = u.specificity.classes ∷ u.specificity.tags ∷ u.rule ∷ u.place ∷ []

  abbrev from_tags : Weight → List ℕ
  from_tags u = u.specificity.tags ∷ u.rule ∷ u.place ∷ []

  ordered : is_less_key (from_labels v) (from_labels w) ≡ true → InOrder
  ordered h = of_labels (key_less v.specificity.labels w.specificity.labels (from_classes v) (from_classes w) h)
    where
      of_tags : (v.specificity.tags < w.specificity.tags) ⊎ ((v.specificity.tags ≡ w.specificity.tags) × (is_less_key (v.rule ∷ v.place ∷ []) (w.rule ∷ w.place ∷ []) ≡ true)) →
          (v.specificity.tags < w.specificity.tags) ⊎ ((v.specificity.tags ≡ w.specificity.tags) × StandsBefore v w)
      of_tags (inl l) = inl l
      of_tags (inr (e, h)) = inr (e, placed h)

      of_classes : (v.specificity.classes < w.specificity.classes) ⊎ ((v.specificity.classes ≡ w.specificity.classes) × (is_less_key (from_tags v) (from_tags w) ≡ true)) →
          (v.specificity.classes < w.specificity.classes) ⊎ ((v.specificity.classes ≡ w.specificity.classes)
          × ((v.specificity.tags < w.specificity.tags) ⊎ ((v.specificity.tags ≡ w.specificity.tags) × StandsBefore v w)))
      of_classes (inl l) = inl l
      of_classes (inr (e, h)) = inr (e, of_tags (key_less v.specificity.tags w.specificity.tags (v.rule ∷ v.place ∷ []) (w.rule ∷ w.place ∷ []) h))

      of_labels : (v.specificity.labels < w.specificity.labels) ⊎ ((v.specificity.labels ≡ w.specificity.labels) × (is_less_key (from_classes v) (from_classes w) ≡ true)) → InOrder
      of_labels (inl l) = inl l
      of_labels (inr (e, h)) = inr (e, of_classes (key_less v.specificity.classes w.specificity.classes (from_tags v) (from_tags w) h))

  from_order : InOrder → is_less_key (from_labels v) (from_labels w) ≡ true
  from_order (inl l) = key_front v.specificity.labels w.specificity.labels (from_classes v) (from_classes w) l
  from_order (inr (e, inl l)) = key_behind v.specificity.labels w.specificity.labels (from_classes v) (from_classes w) e
      (key_front v.specificity.classes w.specificity.classes (from_tags v) (from_tags w) l)
  from_order (inr (e, inr (f, inl l))) = key_behind v.specificity.labels w.specificity.labels (from_classes v) (from_classes w) e
      (key_behind v.specificity.classes w.specificity.classes (from_tags v) (from_tags w) f
      (key_front v.specificity.tags w.specificity.tags (v.rule ∷ v.place ∷ []) (w.rule ∷ w.place ∷ []) l))
  from_order (inr (e, inr (f, inr (g, p)))) = key_behind v.specificity.labels w.specificity.labels (from_classes v) (from_classes w) e
      (key_behind v.specificity.classes w.specificity.classes (from_tags v) (from_tags w) f
      (key_behind v.specificity.tags w.specificity.tags (v.rule ∷ v.place ∷ []) (w.rule ∷ w.place ∷ []) g (from_place p)))

  -- importance first, then 0 in front of both, since neither is a node's own
  weighed : is_lighter v w ≡ true → ((v.important ≡ false) × (w.important ≡ true)) ⊎ ((v.important ≡ w.important) × InOrder)
  weighed h = of_first (key_less (bit v.important) (bit w.important) (0 ∷ from_labels v) (0 ∷ from_labels w) h)
    where
      of_own : (zero < zero) ⊎ ((zero ≡ zero) × (is_less_key (from_labels v) (from_labels w) ≡ true)) → InOrder
      of_own (inl l) = absurd (omega (arith, l))
      of_own (inr (e, h)) = ordered h

      of_first : (bit v.important < bit w.important) ⊎ ((bit v.important ≡ bit w.important) × (is_less_key (0 ∷ from_labels v) (0 ∷ from_labels w) ≡ true)) →
          ((v.important ≡ false) × (w.important ≡ true)) ⊎ ((v.important ≡ w.important) × InOrder)
      of_first (inl l) = inl (bits_less v.important w.important l)
      of_first (inr (e, h)) = inr (bits_same v.important w.important e, of_own (key_less 0 0 (from_labels v) (from_labels w) h))

  from_weight : ((v.important ≡ false) × (w.important ≡ true)) ⊎ ((v.important ≡ w.important) × InOrder) → is_lighter v w ≡ true
  from_weight (inl (e, f)) = key_front (bit v.important) (bit w.important) (0 ∷ from_labels v) (0 ∷ from_labels w) (bits_rise v.important w.important e f)
  from_weight (inr (e, o)) = key_behind (bit v.important) (bit w.important) (0 ∷ from_labels v) (0 ∷ from_labels w) (ap bit e)
      (key_behind 0 0 (from_labels v) (from_labels w) refl (from_order o))

module _ (base : ℕ) (v w : Weight) (s t : List Step) (by : IsWeightBy base v s) (of : IsWeightBy base w t) where
  above_first : IsBaseAbove base v.specificity
  above_first = subst (IsBaseAbove base) (sym by.is) by.above

  above_second : IsBaseAbove base w.specificity
  above_second = subst (IsBaseAbove base) (sym of.is) of.above

  number_first : number_of_steps base s ≡ three base v.specificity
  number_first = counts_number base s ∙ ap (three base) (sym by.is)

  number_second : number_of_steps base t ≡ three base w.specificity
  number_second = counts_number base t ∙ ap (three base) (sym of.is)

  abbrev Numbered : ℕ → ℕ → Type 0
  Numbered m n = (m < n) ⊎ ((m ≡ n) × StandsBefore v w)

  numbered : InOrder v w → Numbered (three base v.specificity) (three base w.specificity)
  numbered (inl l) = inl (three_from base v.specificity w.specificity above_first above_second (inl l))
  numbered (inr (e, inl l)) = inl (three_from base v.specificity w.specificity above_first above_second (inr (e, inl l)))
  numbered (inr (e, inr (f, inl l))) = inl (three_from base v.specificity w.specificity above_first above_second (inr (e, inr (f, l))))
  numbered (inr (e, inr (f, inr (g, p)))) = inr (three_equal base v.specificity w.specificity above_first above_second e f g, p)

  in_order : Numbered (three base v.specificity) (three base w.specificity) → InOrder v w
  in_order (inl l) = of_turn (three_less base v.specificity w.specificity above_first above_second l)
    where
      of_turn : InTurn base v.specificity w.specificity above_first above_second → InOrder v w
      of_turn (inl l) = inl l
      of_turn (inr (e, inl l)) = inr (e, inl l)
      of_turn (inr (e, inr (f, l))) = inr (e, inr (f, inl l))
  in_order (inr (e, p)) = let d = three_same base v.specificity w.specificity above_first above_second e in inr (d.0, inr (d.1, inr (d.2, p)))

  to_number : ((v.important ≡ false) × (w.important ≡ true)) ⊎ ((v.important ≡ w.important) × InOrder v w) → CountsLess v (three base v.specificity) w (three base w.specificity)
  to_number (inl i) = inl i
  to_number (inr (e, o)) = inr (e, numbered o)

  from_number : CountsLess v (three base v.specificity) w (three base w.specificity) → ((v.important ≡ false) × (w.important ≡ true)) ⊎ ((v.important ≡ w.important) × InOrder v w)
  from_number (inl i) = inl i
  from_number (inr (e, o)) = inr (e, in_order o)

  pub weights_by_number : (is_lighter v w ≡ true) ↔ CountsLess v (number_of_steps base s) w (number_of_steps base t)
  weights_by_number = (
    λ h. subst (λ z. CountsLess v z w (number_of_steps base t)) (sym number_first) (subst (λ z. CountsLess v (three base v.specificity) w z) (sym number_second) (to_number (weighed v w h))),
    λ c. from_weight v w (from_number (subst (λ z. CountsLess v (three base v.specificity) w z) number_second (subst (λ z. CountsLess v z w (number_of_steps base t)) number_first c))),
  )

pub weights_are_numbers_lem : WeightsAreNumbers
weights_are_numbers_lem base v w s t by of = weights_by_number base v w s t by of

pub own_is_number_lem : OwnIsNumber
own_is_number_lem base v s by = (λ h. to (key_less (bit v.important) 0 (0 ∷ from_labels v v v) (1 ∷ 0 ∷ 0 ∷ 0 ∷ 0 ∷ 0 ∷ []) h), λ w. from w.0)
  where
    below : number_of_steps base s < own_number base
    below =
        let l = by.above.labels in
        let c = by.above.classes in
        let t = by.above.tags in
        let n = counts_number base s in
        let outer = mul-add-lt ((specificity_of s).labels) base ((specificity_of s).classes) base l c in
        let all = mul-add-lt ((specificity_of s).labels * base + (specificity_of s).classes) base ((specificity_of s).tags) (base * base) outer t in
        let e = mul_comm base (base * base) in
        omega (arith, n, all, e)

    to : (bit v.important < 0) ⊎ ((bit v.important ≡ 0) × (is_less_key (0 ∷ from_labels v v v) (1 ∷ 0 ∷ 0 ∷ 0 ∷ 0 ∷ 0 ∷ []) ≡ true)) → (v.important ≡ false) × (number_of_steps base s < own_number base)
    to (inl l) = absurd (omega (arith, l))
    to (inr (e, h)) = (bits_same v.important false e, below)

    from : v.important ≡ false → is_less_key (key_of v) own_key ≡ true
    from e = key_behind (bit v.important) 0 (0 ∷ from_labels v v v) (1 ∷ 0 ∷ 0 ∷ 0 ∷ 0 ∷ 0 ∷ []) (ap bit e) (key_front 0 1 (from_labels v v v) (0 ∷ 0 ∷ 0 ∷ 0 ∷ 0 ∷ []) (omega arith))
