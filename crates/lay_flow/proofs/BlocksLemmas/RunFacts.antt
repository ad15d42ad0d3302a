-- What the equations of the runs of a context say, of a box that isn't the context's own.
use Rattle.std.proofs.Common.{◌≡◌, ℕ, zero, suc, ◌+◌, ◌<◌, ◌&&◌, ◌||◌, not, Bool, true, false, List, [], ◌∷◌, ◌++◌, length, refl, sym, ◌∙◌, arith, Option, Some, None, if◌then◌else◌}
use Rattle.lay_flow.specs.declared.blocks.flow_box.FlowBox.{FlowBox}
use Rattle.lay_flow.specs.Blocks.Boxes.{parent_at}
use Rattle.lay_flow.specs.Blocks.Children.{last_child, next_child, flag_at}
use Rattle.lay_flow.specs.Blocks.MarginRuns.{Runs, HasRuns, Entry, margin, clear, has_top, is_barred, block_at, run_at, parts_tops, to_top, run_before, run_across, joins_bottom, may_join_bottoms, may_collapse_through}

abbrev pub picked : Runs → Bool → List Entry → Option ℕ → List Entry → List Entry
picked r j falls None run = if j then falls else run
picked r j falls (Some c) run = if flag_at r.clears c then run else run_at r.top_runs c

going_picked : (boxes : List FlowBox) (r : Runs) (p m : ℕ) → run_across boxes r p m ≡ picked r (joins_bottom boxes r p) (run_at r.bottom_runs p) (next_child boxes p m (length boxes)) (run_before boxes r p m)
going_picked boxes r p m = go (next_child boxes p m (length boxes)) refl
  where
    go : (o : Option ℕ) → next_child boxes p m (length boxes) ≡ o → run_across boxes r p m ≡ picked r (joins_bottom boxes r p) (run_at r.bottom_runs p) o (run_before boxes r p m)
    go None e = rw e refl
    go (Some c) e = rw e refl

pub going_same : (boxes : List FlowBox) (r : Runs) (p l m : ℕ) → next_child boxes p l (length boxes) ≡ next_child boxes p m (length boxes) → run_before boxes r p l ≡ run_before boxes r p m → run_across boxes r p l ≡ run_across boxes r p m
going_same boxes r p l m e f = going_picked boxes r p l ∙ (λ i. picked r (joins_bottom boxes r p) (run_at r.bottom_runs p) (e i) (f i)) ∙ sym (going_picked boxes r p m)

module _ (boxes : List FlowBox) (r : Runs) where
  pub first_comes : (p m : ℕ) → last_child boxes p m ≡ None → run_before boxes r p m ≡ (if parts_tops boxes p then [] else to_top boxes r p)
  first_comes p m e = rw e refl

  pub next_comes : (p m s : ℕ) → last_child boxes p m ≡ Some s → run_before boxes r p m ≡ run_at r.to_bottoms s
  next_comes p m s e = rw e refl

  pub goes_in : (p m c : ℕ) → next_child boxes p m (length boxes) ≡ Some c → flag_at r.clears c ≡ false → run_across boxes r p m ≡ run_at r.top_runs c
  goes_in p m c e f = rw (e, f) refl

  pub ends_above : (p m c : ℕ) → next_child boxes p m (length boxes) ≡ Some c → flag_at r.clears c ≡ true → run_across boxes r p m ≡ run_before boxes r p m
  ends_above p m c e f = rw (e, f) refl

  pub goes_out : (p m : ℕ) → next_child boxes p m (length boxes) ≡ None → joins_bottom boxes r p ≡ true → run_across boxes r p m ≡ run_at r.bottom_runs p
  goes_out p m e j = rw (e, j) refl

  pub ends_inside : (p m : ℕ) → next_child boxes p m (length boxes) ≡ None → joins_bottom boxes r p ≡ false → run_across boxes r p m ≡ run_before boxes r p m
  ends_inside p m e j = rw (e, j) refl

  pub joins_is : (p : ℕ) → 0 < p → joins_bottom boxes r p ≡ (flag_at r.through p || (may_join_bottoms (block_at boxes p) && not (is_barred boxes p (run_before boxes r p (length boxes)))))
  joins_is zero lt = absurd (omega (arith, lt))
  joins_is (suc p) lt = refl

  module _ (is : HasRuns boxes r) where
    pub lead_goes_on : (k : ℕ) → 0 < k → k < length boxes → flag_at r.clears k ≡ false → run_at r.before_tops k ≡ run_before boxes r (parent_at boxes k) k
    lead_goes_on zero lt within f = absurd (omega (arith, lt))
    lead_goes_on (suc k) lt within f = is.before_top (suc k) within ∙ rw f refl

    pub lead_begins : (k : ℕ) → 0 < k → k < length boxes → flag_at r.clears k ≡ true → run_at r.before_tops k ≡ clear k ∷ []
    lead_begins zero lt within f = absurd (omega (arith, lt))
    lead_begins (suc k) lt within f = is.before_top (suc k) within ∙ rw f refl

    pub top_run_is : (k : ℕ) → 0 < k → k < length boxes → run_at r.top_runs k ≡ (if parts_tops boxes k then to_top boxes r k else run_across boxes r k (k + 1))
    top_run_is zero lt within = absurd (omega (arith, lt))
    top_run_is (suc k) lt within = is.top_run (suc k) within

    pub to_bottom_is : (k : ℕ) → 0 < k → k < length boxes → run_at r.to_bottoms k ≡ (if joins_bottom boxes r k then run_before boxes r k (length boxes) else []) ++ margin (block_at boxes k).margin_bottom.0 ∷ []
    to_bottom_is zero lt within = absurd (omega (arith, lt))
    to_bottom_is (suc k) lt within = is.to_bottom (suc k) within

    pub bottom_run_is : (k : ℕ) → 0 < k → k < length boxes → run_at r.bottom_runs k ≡ run_across boxes r (parent_at boxes k) (k + 1)
    bottom_run_is zero lt within = absurd (omega (arith, lt))
    bottom_run_is (suc k) lt within = is.bottom_run (suc k) within

    pub passes_is : (k : ℕ) → 0 < k → k < length boxes → flag_at r.through k ≡ (may_collapse_through (block_at boxes k) && has_top k (run_before boxes r k (length boxes)))
    passes_is zero lt within = absurd (omega (arith, lt))
    passes_is (suc k) lt within = is.through (suc k) within

    -- a box with an edge above its content isn't collapsed through
    pub parting_stands : (k : ℕ) → 0 < k → k < length boxes → parts_tops boxes k ≡ true → flag_at r.through k ≡ false
    parting_stands zero lt within parts = absurd (omega (arith, lt))
    parting_stands (suc k) lt within parts = let e = is.through (suc k) within in grind (arith, e, parts)
