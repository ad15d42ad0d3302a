-- The lowest bottom of the floats of the sides to clear, with more floats.
use Rattle.std.proofs.Common.{◌≡◌, true, false, ℕ, zero, suc, ◌<◌, ◌≤◌, ℤ, List, [], ◌++◌, refl, sym, ap, arith, inl, inr, Option, Some, None, subst}
use Rattle.std.proofs.lemmas.Bool.{cases_lt}
use Rattle.std.proofs.lemmas.Int.{ints}
use Rattle.std.proofs.lemmas.List.{append-nil}
use Rattle.lay_flow.specs.declared.blocks.flow_box.FlowBox.{FlowBox}
use Rattle.lay_units.specs.declared.length.Unit.{Unit as Length}
use Rattle.lay_floats.specs.declared.placed.Placed.{Placed}
use Rattle.lay_floats.specs.declared.requests.Side.{Side}
use Rattle.lay_floats.specs.declared.requests.Clear.{Clear}
use Rattle.lay_flow.specs.declared.blocks.block.Inside.{Inside}
use Rattle.lay_flow.specs.declared.blocks.block.Inside.TheVariants.{Blocks as blocks_inside, Lines as lines_inside, Solid as solid_inside}
use Rattle.lay_flow.specs.Blocks.MarginRuns.{block_at}
use Rattle.lay_flow.specs.Blocks.BlockPositions.{is_lines}
use Rattle.lay_flow.proofs.BlocksLemmas.Truths.{true_false}
use Rattle.lay_floats.specs.ClearEdge.{Clears, IsClearEdge}
use Rattle.lay_flow.specs.Blocks.BlockFloats.{Spot, float_with_shape, floats_after, floats_before, place_at, spot_at, shape_at}
use Rattle.lay_flow.specs.Blocks.Clearance.{IsAbove}
use Rattle.lay_flow.proofs.BlocksLemmas.FloatLists.{Has, has_there, has_back}

has_nothing : (xs : List Placed) (f : Placed) → Has (xs ++ []) f → Has xs f
has_nothing xs f w = subst (λ (zs : List Placed). Has zs f) (append-nil xs) w

nothing_has : (xs : List Placed) (f : Placed) → Has xs f → Has (xs ++ []) f
nothing_has xs f w = subst (λ (zs : List Placed). Has zs f) (sym (append-nil xs)) w

module _ (boxes : List FlowBox) (places : List Spot) where
  -- no box from the one at n to before that at m holds lines
  abbrev pub NoLines : ℕ → ℕ → Type 0
  NoLines n m = (j : ℕ) → n ≤ j → j < m → is_lines (block_at boxes j).inside ≡ false

  -- the floats after a box without lines
  after_is : (m : ℕ) (inside : Inside) → is_lines inside ≡ false
      → floats_after (floats_before boxes places m) inside (shape_at boxes m) (spot_at places m) ≡ floats_before boxes places m ++ float_with_shape (shape_at boxes m) (place_at places m)
  after_is m blocks_inside e = refl
  after_is m lines_inside e = absurd (true_false true refl e)
  after_is m solid_inside e = refl

  -- floats stay in the list
  stays : (n m : ℕ) → n ≤ m → NoLines n m → (f : Placed) → Has (floats_before boxes places n) f → Has (floats_before boxes places m) f
  stays n zero le bare f w = let e : n ≡ 0 = omega (arith, le) in rw e at w
  stays n (suc m) le bare f w = elim (cases_lt m n) [
    | inl lt ↦ (let e : n ≡ suc m = omega (arith, lt, le) in rw e at w)
    | inr ge ↦ subst (λ (xs : List Placed). Has xs f) (sym (after_is m (block_at boxes m).inside (bare m ge (omega arith))))
        (go (shape_at boxes m).float refl (stays n m ge (λ j low high. bare j low (omega (arith, high))) f w))
  ]
    where
      go : (o : Option Side) → (shape_at boxes m).float ≡ o → Has (floats_before boxes places m) f → Has (floats_before boxes places m ++ float_with_shape (shape_at boxes m) (place_at places m)) f
      go None e h = rw e (nothing_has (floats_before boxes places m) f h)
      go (Some side) e h = rw e (has_there (floats_before boxes places m) _ f h)

  -- of the sides to clear none is added
  from_earlier : (clear : Clear) (n m : ℕ) → n ≤ m → NoLines n m → ((j : ℕ) → n ≤ j → j < m → (side : Side) → (shape_at boxes j).float ≡ Some side → Clears clear side → ⊥)
      → (f : Placed) → Clears clear f.side → Has (floats_before boxes places m) f → Has (floats_before boxes places n) f
  from_earlier clear n zero le bare none f clears w = let e : n ≡ 0 = omega (arith, le) in rw e w
  from_earlier clear n (suc m) le bare none f clears w = elim (cases_lt m n) [
    | inl lt ↦ (let e : n ≡ suc m = omega (arith, lt, le) in rw e w)
    | inr ge ↦ from_earlier clear n m ge (λ j low high. bare j low (omega (arith, high))) (λ j low high. none j low (omega (arith, high))) f clears
        (go (shape_at boxes m).float refl ge (subst (λ (xs : List Placed). Has xs f) (after_is m (block_at boxes m).inside (bare m ge (omega arith))) w))
  ]
    where
      go : (o : Option Side) → (shape_at boxes m).float ≡ o → n ≤ m → Has (floats_before boxes places m ++ float_with_shape (shape_at boxes m) (place_at places m)) f → Has (floats_before boxes places m) f
      go None e ge h = has_nothing (floats_before boxes places m) f (rw e at h)
      go (Some side) e ge h = has_back (floats_before boxes places m) _ f (Has (floats_before boxes places m) f) (λ w. w)
          (λ same. absurd (none m ge (omega arith) side e (subst (Clears clear) (ap (λ (f : Placed). f.side) same) clears))) (rw e at h)

  pub edge_of_more : (clear : Clear) (bottom : Option Length) (n m : ℕ) → n ≤ m → NoLines n m → ((j : ℕ) → n ≤ j → j < m → (side : Side) → (shape_at boxes j).float ≡ Some side → Clears clear side → ⊥)
      → IsClearEdge (floats_before boxes places n) clear bottom → IsClearEdge (floats_before boxes places m) clear bottom
  edge_of_more clear None n m le bare none is = λ i f at_i clears. let w = from_earlier clear n m le bare none f clears (i, at_i) in is w.0 f w.1 clears
  edge_of_more clear (Some v) n m le bare none is = record {
    one_of = let w = is.one_of in let h = stays n m le bare w.1 (w.0, w.2) in (h.0, w.1, h.1, w.3);
    most = λ u w. let h = from_earlier clear n m le bare none w.1 w.3.0 (w.0, w.2) in is.most u (h.0, w.1, h.1, w.3);
  }

  pub higher_with_more : (clear : Clear) (bottom bottom' : Option Length) (n m : ℕ) → n ≤ m → NoLines n m → IsClearEdge (floats_before boxes places n) clear bottom → IsClearEdge (floats_before boxes places m) clear bottom'
      → (v : ℤ) → IsAbove v bottom → IsAbove v bottom'
  higher_with_more clear None bottom' n m le bare is is' v above = absurd (no_some above.0 above.1)
    where
      no_some : (v : Length) → None ≡ Some v → ⊥
      no_some v e = grind (arith, e)
  higher_with_more clear (Some b) None n m le bare is is' v above = let w = is.one_of in let h = stays n m le bare w.1 (w.0, w.2) in absurd (is' h.0 w.1 h.1 w.3.0)
  higher_with_more clear (Some b) (Some c) n m le bare is is' v above =
      let w = is.one_of in
      let h = stays n m le bare w.1 (w.0, w.2) in
      let most = is'.most b.0 (h.0, w.1, h.1, w.3) in
      let e : b.0 ≡ above.0.0 = ap (λ (u : Length). u.0) (same_some b above.0 above.1) in
      let less = above.2 in
      (c, refl, omega (arith, ints, most, e, less))
    where
      same_some : (a b : Length) → Some a ≡ Some b → a ≡ b
      same_some a b e = grind (arith, e)
