-- Floats in a list, and the lowest bottom of those of the sides to clear.
use Rattle.std.proofs.Common.{◌≡◌, true, ℕ, zero, suc, ◌<◌, ◌≤◌, List, [], ◌∷◌, ◌++◌, length, slice_get, refl, sym, ap, ◌∙◌, arith, inl, inr, Option, Some, None, subst}
use Rattle.std.proofs.lemmas.Bool.{cases_lt}
use Rattle.std.proofs.lemmas.Grind.{elements}
use Rattle.std.proofs.lemmas.List.{append-nil}
use Rattle.lay_flow.specs.declared.blocks.flow_box.FlowBox.{FlowBox}
use Rattle.lay_units.specs.declared.length.Unit.{Unit as Length}
use Rattle.lay_floats.specs.declared.placed.Placed.{Placed}
use Rattle.lay_floats.specs.declared.requests.Side.{Side}
use Rattle.lay_floats.specs.declared.requests.Clear.{Clear}
use Rattle.lay_lines.specs.Lines.{LinesValue}
use Rattle.lay_flow.specs.declared.blocks.block.Inside.{Inside}
use Rattle.lay_flow.specs.declared.blocks.block.Inside.TheVariants.{Blocks as blocks_inside, Lines as lines_inside, Solid as solid_inside}
use Rattle.lay_flow.specs.Blocks.MarginRuns.{block_at}
use Rattle.lay_flow.specs.Blocks.BlockPositions.{is_lines}
use Rattle.lay_floats.specs.ClearEdge.{Clears, IsClearEdge}
use Rattle.lay_flow.proofs.Cited.{one_clear_edge_lem}
use Rattle.lay_flow.specs.Blocks.BlockFloats.{Spot, shape_at, place_at, lines_at, spot_at, float_with_shape, floats_before}

-- floats depend on the places before them alone
pub floats_same : (boxes : List FlowBox) (places others : List Spot) (n : ℕ) → ((j : ℕ) → j < n → spot_at places j ≡ spot_at others j) → floats_before boxes places n ≡ floats_before boxes others n
floats_same boxes places others zero same = refl
floats_same boxes places others (suc k) same =
    let e = floats_same boxes places others k (λ j lt. same j (omega (arith, lt))) in
    let f = same k (omega arith) in
    rw (e, f) refl

-- a float is in the list
abbrev pub Has : List Placed → Placed → Type 0
Has floats f = (i : ℕ) × (slice_get floats i ≡ Some f)

pub has_there : (xs : List Placed) (x f : Placed) → Has xs f → Has (xs ++ x ∷ []) f
has_there xs x f w = (w.0, old_at xs x f w.0 w.1)
  where
    old_at : (xs : List Placed) (x f : Placed) (i : ℕ) → slice_get xs i ≡ Some f → slice_get (xs ++ x ∷ []) i ≡ Some f
    old_at xs x f i e = grind (arith, elements, e)

pub has_last : (xs : List Placed) (x : Placed) → Has (xs ++ x ∷ []) x
has_last xs x = (length xs, last_at xs x)
  where
    last_at : (xs : List Placed) (x : Placed) → slice_get (xs ++ x ∷ []) (length xs) ≡ Some x
    last_at xs x = grind (arith, elements)

pub has_back : (xs : List Placed) (x f : Placed) (P : Type 0) → (Has xs f → P) → (f ≡ x → P) → Has (xs ++ x ∷ []) f → P
has_back xs x f P old new w = elim (cases_lt w.0 (length xs)) [
  | inl lt ↦ old (w.0, before xs x f w.0 lt w.1)
  | inr ge ↦ new (last xs x f w.0 ge w.1)
]
  where
    before : (xs : List Placed) (x f : Placed) (i : ℕ) → i < length xs → slice_get (xs ++ x ∷ []) i ≡ Some f → slice_get xs i ≡ Some f
    before xs x f i lt e = grind (arith, elements, e, lt)

    last : (xs : List Placed) (x f : Placed) (i : ℕ) → length xs ≤ i → slice_get (xs ++ x ∷ []) i ≡ Some f → f ≡ x
    last xs x f i ge e = grind (arith, elements, e, ge)

-- the floats of the sides to clear have the same places, and boxes that hold lines the same lines
module _ (boxes : List FlowBox) (clear : Clear) where
  pub record SameCleared (places others : List Spot) (n : ℕ) : Type 0 where
    pub float : (j : ℕ) (side : Side) → j < n → (shape_at boxes j).float ≡ Some side → Clears clear side → place_at places j ≡ place_at others j
    pub lines : (j : ℕ) → j < n → is_lines (block_at boxes j).inside ≡ true → lines_at places j ≡ lines_at others j

pub same_back : (boxes : List FlowBox) (clear : Clear) (places others : List Spot) (n : ℕ) → SameCleared boxes clear places others n → SameCleared boxes clear others places n
same_back boxes clear places others n same = record { float = λ j side lt e c. sym (same.float j side lt e c); lines = λ j lt e. sym (same.lines j lt e) }

module _ (boxes : List FlowBox) (clear : Clear) where
  has_too : (places others : List Spot) (n : ℕ) → SameCleared boxes clear places others n → (f : Placed) → Clears clear f.side → Has (floats_before boxes places n) f → Has (floats_before boxes others n) f
  has_too places others zero same f clears w = w
  has_too places others (suc n) same f clears w = by_inside (block_at boxes n).inside refl
      (has_too places others n (record { float = λ j side lt. same.float j side (omega (arith, lt)); lines = λ j lt. same.lines j (omega (arith, lt)) }) f clears)
    where
      -- without lines
      go : (o : Option Side) → (shape_at boxes n).float ≡ o → (Has (floats_before boxes places n) f → Has (floats_before boxes others n) f)
          → Has (floats_before boxes places n ++ float_with_shape (shape_at boxes n) (place_at places n)) f → Has (floats_before boxes others n ++ float_with_shape (shape_at boxes n) (place_at others n)) f
      go None e earlier w =
          let w' : Has (floats_before boxes places n ++ []) f = rw e at w in
          let back = earlier (subst (λ (xs : List Placed). Has xs f) (append-nil (floats_before boxes places n)) w') in
          rw e (subst (λ (xs : List Placed). Has xs f) (sym (append-nil (floats_before boxes others n))) back)
      go (Some side) e earlier w =
          let mine : Placed = record { side = side; x = (place_at places n).x; y = (place_at places n).y; width = (shape_at boxes n).width; height = (shape_at boxes n).height } in
          let other : Placed = record { side = side; x = (place_at others n).x; y = (place_at others n).y; width = (shape_at boxes n).width; height = (shape_at boxes n).height } in
          let w' : Has (floats_before boxes places n ++ mine ∷ []) f = rw e at w in
          let there : Has (floats_before boxes others n ++ other ∷ []) f = has_back (floats_before boxes places n) mine f (Has (floats_before boxes others n ++ other ∷ []) f)
          (λ old. has_there (floats_before boxes others n) other f (earlier old))
          (λ new. let clears_it : Clears clear side = subst (Clears clear) (ap (λ (f : Placed). f.side) new) clears in
          let p = same.float n side (omega arith) e clears_it in
          let is_other : f ≡ other = new ∙ (λ i. record { side = side; x = (p i).x; y = (p i).y; width = (shape_at boxes n).width; height = (shape_at boxes n).height }) in
          subst (Has (floats_before boxes others n ++ other ∷ [])) (sym is_other) (has_last (floats_before boxes others n) other)) w' in
          rw e there

      by_inside : (inside : Inside) → (block_at boxes n).inside ≡ inside → (Has (floats_before boxes places n) f → Has (floats_before boxes others n) f) → Has (floats_before boxes others (suc n)) f
      by_inside blocks_inside e earlier = rw e (go (shape_at boxes n).float refl earlier (rw e at w))
      by_inside lines_inside e earlier =
          let here : is_lines (block_at boxes n).inside ≡ true = ap is_lines e in
          let l = same.lines n (omega arith) here in
          let w' : Has (lines_at places n).floats f = rw e at w in
          rw e (subst (λ (v : LinesValue). Has v.floats f) l w')
      by_inside solid_inside e earlier = rw e (go (shape_at boxes n).float refl earlier (rw e at w))

  moved : (places others : List Spot) (n : ℕ) → SameCleared boxes clear places others n → SameCleared boxes clear others places n → (bottom : Option Length)
      → IsClearEdge (floats_before boxes others n) clear bottom → IsClearEdge (floats_before boxes places n) clear bottom
  moved places others n same back None is = λ i f there clears. let w = has_too places others n same f clears (i, there) in is w.0 f w.1 clears
  moved places others n same back (Some v) is = record {
    one_of = let w = is.one_of in let h = has_too others places n back w.1 w.3.0 (w.0, w.2) in (h.0, w.1, h.1, w.3);
    most = λ u w. let h = has_too places others n same w.1 w.3.0 (w.0, w.2) in is.most u (h.0, w.1, h.1, w.3);
  }

  -- other floats don't matter
  pub one_edge_to_clear : (places others : List Spot) (n : ℕ) → SameCleared boxes clear places others n → (bottom other : Option Length)
      → IsClearEdge (floats_before boxes places n) clear bottom → IsClearEdge (floats_before boxes others n) clear other → bottom ≡ other
  one_edge_to_clear places others n same bottom other is also =
      one_clear_edge_lem (floats_before boxes places n) clear bottom other is (moved places others n same (same_back boxes clear places others n same) other also)
