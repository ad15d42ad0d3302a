-- The children of a box among the boxes from a place on, a box further.
use Rattle.std.proofs.Common.{◌≡◌, ◌≢◌, ℕ, zero, suc, ◌+◌, ◌-◌, ◌<◌, ◌≤◌, ◌==◌, ◌⊎◌, inl, inr, Option, Some, slice_get, replicate, subst, true, false, List, [], ◌∷◌, ◌++◌, length, drop, get_or, slice_index, refl, sym, ap, ◌∙◌, arith}
use Rattle.std.proofs.lemmas.Bool.{cases_eq, ne_eqb, eq-eqb}
use Rattle.std.proofs.lemmas.List.{drop_all, drop_more, get_or-replicate, length-replicate}
use Rattle.std.proofs.lemmas.Option.{slice_get-get_or}
use Rattle.lay_box_tree.specs.BoxColumns.{box_parents}
use Rattle.lay_box_tree.specs.declared.box_tree.BoxNode.{BoxNode}
use Rattle.lay_measure.specs.ChildTotals.{totals_of}
use Rattle.lay_measure.specs.declared.children.ChildTotals.{ChildTotals}
use Rattle.lay_measure.specs.MeasureInValue.{MeasureInValue}
use Rattle.lay_measure.specs.PreferredWidths.{as_measured_child, children}

pub parent_at : (boxes : List BoxNode) (k : ℕ) (d : BoxNode) → k < length boxes → slice_index (box_parents boxes) k ≡ (get_or boxes k d).parent
parent_at [] k d lt = absurd (omega (arith, lt))
parent_at (b ∷ bs) zero d lt = refl
parent_at (b ∷ bs) (suc k) d lt = parent_at bs k d (omega (arith, lt))

-- the box at k is a child
pub is_child : (m : MeasureInValue) (p k : ℕ) (d : BoxNode) → k < length m.boxes → (get_or m.boxes k d).parent ≡ p → children m p k (drop k m.boxes) ≡ as_measured_child m k (get_or m.boxes k d) (children m k (k + 1) (drop (k + 1) m.boxes)) ++ children m p (k + 1) (drop (k + 1) m.boxes)
is_child m p k d lt e =
    let b = get_or m.boxes k d in
    let bs = drop (k + 1) m.boxes in
    let same : (b.parent == p) ≡ true = eq-eqb b.parent p e in
    let step : children m p k (b ∷ bs) ≡ as_measured_child m k b (children m k (k + 1) bs) ++ children m p (k + 1) bs = rw same refl in
    ap (λ xs. children m p k xs) (drop_more m.boxes k d lt) ∙ step

-- the box at k isn't
pub is_no_child : (m : MeasureInValue) (p k : ℕ) (d : BoxNode) → k < length m.boxes → (get_or m.boxes k d).parent ≢ p → children m p k (drop k m.boxes) ≡ children m p (k + 1) (drop (k + 1) m.boxes)
is_no_child m p k d lt ne =
    let b = get_or m.boxes k d in
    let bs = drop (k + 1) m.boxes in
    let other : (b.parent == p) ≡ false = ne_eqb b.parent p ne in
    let step : children m p k (b ∷ bs) ≡ children m p (k + 1) bs = rw other refl in
    ap (λ xs. children m p k xs) (drop_more m.boxes k d lt) ∙ step

pub one_value : {X : Type 0} (o : Option X) (x y : X) → o ≡ Some x → o ≡ Some y → x ≡ y
one_value o x y e f = let same : Some x ≡ Some y = sym e ∙ f in cc same

-- what the children of a box come to that stand from k on
abbrev pub totals_from : MeasureInValue → ℕ → ℕ → ChildTotals
totals_from m p k = totals_of (children m p k (drop k m.boxes))

-- With the box at k put to its parent's children, those from k on are known for each box before it.
pub known_further : (m : MeasureInValue) (k : ℕ) (d : BoxNode) (parent : ℕ) (old new : List ChildTotals) (t : ChildTotals) → k < length m.boxes
    → (get_or m.boxes k d).parent ≡ parent
    → slice_get new parent ≡ Some t
    → ((q : ℕ) → q ≢ parent → slice_get new q ≡ slice_get old q)
    → ((p : ℕ) → p ≤ k → slice_get old p ≡ Some (totals_from m p (k + 1)))
    → t ≡ totals_of (as_measured_child m k (get_or m.boxes k d) (children m k (k + 1) (drop (k + 1) m.boxes)) ++ children m parent (k + 1) (drop (k + 1) m.boxes))
    → (p : ℕ) → p < k → slice_get new p ≡ Some (totals_from m p k)
known_further m k d parent old new t lt at here others known value p less = from (cases_eq p parent)
  where
    from : (p ≡ parent) ⊎ (p ≡ parent → ⊥) → slice_get new p ≡ Some (totals_from m p k)
    from (inl e) =
        let there : slice_get new parent ≡ Some (totals_from m parent k) =
        here ∙ ap (λ x. Some x) (value ∙ ap (λ cs. totals_of cs) (sym (is_child m parent k d lt at))) in
        subst (λ q. slice_get new q ≡ Some (totals_from m q k)) (sym e) there
    from (inr ne) =
        let apart : (get_or m.boxes k d).parent ≢ p = λ h. ne (sym h ∙ at) in
        others p ne ∙ known p (omega (arith, less)) ∙ ap (λ cs. Some (totals_of cs)) (sym (is_no_child m p k d lt apart))

-- no box is left at the end
pub none_left : (m : MeasureInValue) (n : ℕ) (items : List ChildTotals) → n ≡ length m.boxes → items ≡ replicate n (totals_of []) → (length items ≡ n) × ((p : ℕ) → p < n - 0 → slice_get items p ≡ Some (totals_from m p (n - 0)))
none_left m n items count e = (ap length e ∙ length-replicate n (totals_of []), each)
  where
    each : (p : ℕ) → p < n - 0 → slice_get items p ≡ Some (totals_from m p (n - 0))
    each p lt =
        let len = length-replicate n (totals_of []) in
        let gone : drop (n - 0) m.boxes ≡ [] = drop_all (n - 0) m.boxes (omega (arith, count)) in
        let there = slice_get-get_or (replicate n (totals_of [])) p (totals_of []) (omega (arith, len, lt)) in
        ap (λ xs. slice_get xs p) e ∙ there ∙ ap (λ x. Some x) (get_or-replicate n p (totals_of []) (totals_of []) (omega (arith, lt)))
        ∙ sym (ap (λ bs. Some (totals_of (children m p (n - 0) bs))) gone)
