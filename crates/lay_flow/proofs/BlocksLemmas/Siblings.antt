-- The next sibling of a box is the child of which it is the last one before.
use Rattle.std.proofs.Common.{◌≡◌, ℕ, zero, suc, ◌+◌, ◌<◌, ◌≤◌, ◌&&◌, not, nat_lt, Bool, true, false, List, length, refl, sym, ◌∙◌, arith, inl, inr, Option, Some, None}
use Rattle.std.proofs.lemmas.Bool.{cases_lt, cases_eq}
use Rattle.lay_flow.specs.declared.blocks.flow_box.FlowBox.{FlowBox}
use Rattle.lay_flow.specs.Blocks.Boxes.{parent_at}
use Rattle.lay_flow.specs.Blocks.Children.{is_child, last_child, next_child}
use Rattle.lay_flow.proofs.BlocksLemmas.ChildPlaces.{last_none, last_some, next_none, next_some, not_child}
use Rattle.lay_flow.specs.Blocks.MarginPlace.{MarginPlace, margin_place}

pub child_parent : (boxes : List FlowBox) (p k : ℕ) → is_child boxes p k ≡ true → (p < k) × (parent_at boxes k ≡ p)
child_parent boxes p k is = (grind (arith, is), grind (arith, is))

no_some : (c : ℕ) → None ≡ Some c → ⊥
no_some c e = grind (arith, e)

one_place : (a b : ℕ) → Some a ≡ Some b → a ≡ b
one_place a b e = grind (arith, e)

-- the last child of p before m
pub record IsLast (boxes : List FlowBox) (p m s : ℕ) : Type 0 where
  pub child : is_child boxes p s ≡ true
  pub before : s < m
  pub none : (j : ℕ) → s < j → j < m → is_child boxes p j ≡ false

pub last_is : (boxes : List FlowBox) (p m s : ℕ) → last_child boxes p m ≡ Some s → IsLast boxes p m s
last_is boxes p zero s e = absurd (no_some s e)
last_is boxes p (suc k) s e = go (is_child boxes p k) refl (last_is boxes p k s)
  where
    go : (b : Bool) → is_child boxes p k ≡ b → (last_child boxes p k ≡ Some s → IsLast boxes p k s) → IsLast boxes p (suc k) s
    go true t before =
        let same : k ≡ s = one_place k s (sym (rw t refl) ∙ e) in
        record { child = rw same at t; before = omega (arith, same); none = λ j low high. absurd (omega (arith, low, high, same)) }
    go false f before =
        let was = before (sym (rw f refl) ∙ e) in
        let lt = was.before in
        record {
          child = was.child;
          before = omega (arith, lt);
          none = λ j low high. elim (cases_eq j k) [
            | inl same ↦ rw same f
            | inr ne ↦ was.none j low (omega (arith, high, ne))
          ];
        }

pub none_before : (boxes : List FlowBox) (p m : ℕ) → last_child boxes p m ≡ None → (j : ℕ) → j < m → is_child boxes p j ≡ false
none_before boxes p zero e j lt = absurd (omega (arith, lt))
none_before boxes p (suc k) e j lt = go (is_child boxes p k) refl (none_before boxes p k)
  where
    go : (b : Bool) → is_child boxes p k ≡ b → (last_child boxes p k ≡ None → (j : ℕ) → j < k → is_child boxes p j ≡ false) → is_child boxes p j ≡ false
    go true t before = absurd (no_some k (sym e ∙ rw t refl))
    go false f before = elim (cases_eq j k) [
      | inl same ↦ rw same f
      | inr ne ↦ before (sym (rw f refl) ∙ e) j (omega (arith, lt, ne))
    ]

-- the first child of the innermost open box behind a place
pub record IsNext (boxes : List FlowBox) (at : MarginPlace) (n c : ℕ) : Type 0 where
  pub child : is_child boxes at.inner c ≡ true
  pub from : at.next ≤ c
  pub within : c < n
  pub none : (j : ℕ) → at.next ≤ j → j < c → is_child boxes at.inner j ≡ false

pub none_from : (boxes : List FlowBox) (p m n : ℕ) → next_child boxes p m n ≡ None → (j : ℕ) → m ≤ j → j < n → is_child boxes p j ≡ false
none_from boxes p m zero e j le lt = absurd (omega (arith, lt))
none_from boxes p m (suc k) e j le lt = go (next_child boxes p m k) refl (is_child boxes p k && not (nat_lt k m)) refl (none_from boxes p m k)
  where
    open_here : (is_child boxes p k && not (nat_lt k m)) ≡ false → m ≤ k → is_child boxes p k ≡ false
    open_here f at = grind (arith, f, at)

    go : (o : Option ℕ) → next_child boxes p m k ≡ o → (b : Bool) → (is_child boxes p k && not (nat_lt k m)) ≡ b
        → (next_child boxes p m k ≡ None → (j : ℕ) → m ≤ j → j < k → is_child boxes p j ≡ false) → is_child boxes p j ≡ false
    go (Some c) f b t before = absurd (no_some c (sym e ∙ rw f refl))
    go None f true t before = absurd (no_some k (sym e ∙ rw (f, t) refl))
    go None f false t before = elim (cases_eq j k) [
      | inl same ↦ rw same (open_here t (omega (arith, le, same)))
      | inr ne ↦ before f j le (omega (arith, lt, ne))
    ]

pub next_is : (boxes : List FlowBox) (p m n c : ℕ) → next_child boxes p m n ≡ Some c → IsNext boxes (margin_place p m) n c
next_is boxes p m zero c e = absurd (no_some c e)
next_is boxes p m (suc k) c e = go (next_child boxes p m k) refl (is_child boxes p k && not (nat_lt k m)) refl (next_is boxes p m k c)
  where
    is_here : (is_child boxes p k && not (nat_lt k m)) ≡ true → is_child boxes p k ≡ true
    is_here t = grind (arith, t)

    from_here : (is_child boxes p k && not (nat_lt k m)) ≡ true → m ≤ k
    from_here t = grind (arith, t)

    go : (o : Option ℕ) → next_child boxes p m k ≡ o → (b : Bool) → (is_child boxes p k && not (nat_lt k m)) ≡ b → (next_child boxes p m k ≡ Some c → IsNext boxes (margin_place p m) k c) → IsNext boxes (margin_place p m) (suc k) c
    go (Some d) f b t before =
        let same : d ≡ c = one_place d c (sym (rw f refl) ∙ e) in
        let was = before (f ∙ (λ i. Some (same i))) in
        let lt = was.within in
        record { child = was.child; from = was.from; within = omega (arith, lt); none = was.none }
    go None f true t before =
        let same : k ≡ c = one_place k c (sym (rw (f, t) refl) ∙ e) in
        record { child = rw same at (is_here t); from = let a = from_here t in omega (arith, a, same); within = omega (arith, same); none = λ j low high. none_from boxes p m k f j low (omega (arith, high, same)) }
    go None f false t before = absurd (no_some c (sym (rw (f, t) refl) ∙ e))

module _ (boxes : List FlowBox) (p : ℕ) where
  pub first_next : (c : ℕ) → c < length boxes → is_child boxes p c ≡ true → last_child boxes p c ≡ None → next_child boxes p (p + 1) (length boxes) ≡ Some c
  first_next c within is none = let low = (child_parent boxes p c is).0 in next_some boxes p (p + 1) c (length boxes) (omega (arith, low)) within is (λ j a b. none_before boxes p c none j b)

  pub sibling_next : (s c : ℕ) → c < length boxes → is_child boxes p c ≡ true → last_child boxes p c ≡ Some s → next_child boxes p (s + 1) (length boxes) ≡ Some c
  sibling_next s c within is last = let l = last_is boxes p c s last in let lt = l.before in
      next_some boxes p (s + 1) c (length boxes) (omega (arith, lt)) within is (λ j a b. l.none j (omega (arith, a)) b)

  pub last_next : (c : ℕ) → last_child boxes p (length boxes) ≡ Some c → next_child boxes p (c + 1) (length boxes) ≡ None
  last_next c last = let l = last_is boxes p (length boxes) c last in next_none boxes p (c + 1) (length boxes) (λ j a b. l.none j (omega (arith, a)) b)

  pub leaf_next : last_child boxes p (length boxes) ≡ None → next_child boxes p (p + 1) (length boxes) ≡ None
  leaf_next none = next_none boxes p (p + 1) (length boxes) (λ j a b. none_before boxes p (length boxes) none j b)

  no_child_to : (j : ℕ) → j ≤ p → is_child boxes p j ≡ false
  no_child_to j le = not_child boxes p j (λ low e. omega (arith, low, le))

  pub next_first : (c : ℕ) → next_child boxes p (p + 1) (length boxes) ≡ Some c → last_child boxes p c ≡ None
  next_first c next = let n = next_is boxes p (p + 1) (length boxes) c next in
      last_none boxes p c (λ j lt. elim (cases_lt p j) [
        | inl after ↦ n.none j (omega (arith, after)) lt
        | inr le ↦ no_child_to j le
      ])

  pub next_sibling_is : (s c : ℕ) → is_child boxes p s ≡ true → next_child boxes p (s + 1) (length boxes) ≡ Some c → last_child boxes p c ≡ Some s
  next_sibling_is s c is next = let n = next_is boxes p (s + 1) (length boxes) c next in let from = n.from in
      last_some boxes p s c (omega (arith, from)) is (λ j a b. n.none j (omega (arith, a)) b)

  pub next_last : (s : ℕ) → s < length boxes → is_child boxes p s ≡ true → next_child boxes p (s + 1) (length boxes) ≡ None → last_child boxes p (length boxes) ≡ Some s
  next_last s within is next = last_some boxes p s (length boxes) within is (λ j a b. none_from boxes p (s + 1) (length boxes) next j (omega (arith, a)) b)

  pub next_leaf : next_child boxes p (p + 1) (length boxes) ≡ None → last_child boxes p (length boxes) ≡ None
  next_leaf next = last_none boxes p (length boxes) (λ j lt. elim (cases_lt p j) [
    | inl after ↦ none_from boxes p (p + 1) (length boxes) next j (omega (arith, after)) lt
    | inr le ↦ no_child_to j le
  ])
