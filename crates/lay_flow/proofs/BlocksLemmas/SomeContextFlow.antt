-- A context has a flow: box after box it is decided whether it has clearance, by the flow in which no later box has any.
use Rattle.std.proofs.Common.{◌≡◌, inl, inr, ℕ, zero, suc, ◌-◌, ◌<◌, ◌≤◌, Bool, true, false, pos, ◌<ℤ◌, List, [], ◌∷◌, length, map, set, refl, sym, ap, ◌∙◌, arith, Option, Some, None, subst}
use Rattle.std.proofs.lemmas.Bool.{cases_lt, cases_eq}
use Rattle.std.proofs.lemmas.Grind.{elements}
use Rattle.std.proofs.lemmas.Option.{none-some, same_Some}
use Rattle.lay_units.specs.declared.length.Unit.{Unit as Length}
use Rattle.lay_units.specs.Lengths.{no_length}
use Rattle.lay_floats.specs.declared.requests.Side.{Side}
use Rattle.lay_floats.specs.ClearEdge.{IsClearEdge}
use Rattle.lay_flow.specs.declared.blocks.flow_box.FlowBox.{FlowBox}
use Rattle.lay_flow.specs.Blocks.Boxes.{box_at}
use Rattle.lay_flow.specs.Blocks.Lengths.{length_at}
use Rattle.lay_flow.specs.Blocks.Children.{flag_at}
use Rattle.lay_flow.specs.Blocks.MarginRuns.{has_top, run_at}
use Rattle.lay_flow.specs.Blocks.BlockLayout.{BlockLayout}
use Rattle.lay_flow.specs.Blocks.BlockFloats.{floats_before, shape_at}
use Rattle.lay_flow.specs.Blocks.Clearance.{HasClearance, HasClearedFloat, IsHypothetical, NeedsClearance, lower_of}
use Rattle.lay_flow.specs.Blocks.ContextFlow.{Flow, IsContextFlow, IsFlowByClearances}
use Rattle.lay_flow.specs.Blocks.FlowBoxes.{IsFlowTree, is_in_lines}
use Rattle.lay_flow.specs.Blocks.FlowPlaces.{border_box_in, no_box_place}
use Rattle.lay_flow.specs.Blocks.Laws.{SomeContextFlow, SomeFlowByClearances, SomeFlowOf}
use Rattle.lay_flow.proofs.Cited.{Either, either_lt, some_clear_edge_lem}
use Rattle.lay_flow.proofs.BlocksLemmas.AlikeWalks.{SameClearances}
use Rattle.lay_flow.proofs.BlocksLemmas.Hypotheticals.{some_hypothetical_lem}
use Rattle.lay_flow.proofs.BlocksLemmas.KeptClearance.{keeps_clearance, same_bottom, same_mark, same_needs}
use Rattle.lay_flow.proofs.BlocksLemmas.Tabulated.{tab, tab_at, tab_length}
use Rattle.lay_flow.proofs.BlocksLemmas.Truths.{true_false, true_or}
use Rattle.lay_flow.proofs.BlocksLemmas.WaitingFloats.{NoneWaits, no_need, some_waits}

-- the boxes before n have the clearance that they need, and the others none
record IsClearedTo (boxes : List FlowBox) (f : Flow) (n : ℕ) : Type 0 where
  pub by_clearances : IsFlowByClearances boxes f
  pub root_clear : flag_at f.layout.runs.clears 0 ≡ false
  pub float_clear : (k : ℕ) (side : Side) → k < length boxes → (shape_at boxes k).float ≡ Some side → flag_at f.layout.runs.clears k ≡ false
  pub clearance : (k : ℕ) → 0 < k → k < n → k < length boxes → (shape_at boxes k).float ≡ None → HasClearance boxes f.layout f.places k
  pub later : (k : ℕ) → n ≤ k → flag_at f.layout.runs.clears k ≡ false
  pub no_edge : (k : ℕ) → k < length boxes → flag_at f.layout.runs.clears k ≡ false → length_at f.layout.clear_edges k ≡ pos 0

flag_here : (flags : List Bool) (k : ℕ) → k < length flags → flag_at (set flags k true) k ≡ true
flag_here flags k lt = grind (arith, elements, lt)

flag_else : (flags : List Bool) (k j : ℕ) → (j ≡ k → ⊥) → flag_at (set flags k true) j ≡ flag_at flags j
flag_else flags k j other = grind (arith, elements, other)

length_here : (column : List Length) (v : Length) (k : ℕ) → k < length column → length_at (set column k v) k ≡ v.0
length_here column v k lt = grind (arith, elements, lt)

length_else : (column : List Length) (v : Length) (k j : ℕ) → (j ≡ k → ⊥) → length_at (set column k v) j ≡ length_at column j
length_else column v k j other = grind (arith, elements, other)

-- whether a box needs clearance is decided
needs_or_not : (boxes : List FlowBox) (without : BlockLayout) (k : ℕ) (bottom : Option Length) → Either (NeedsClearance boxes without k bottom)
needs_or_not boxes without k bottom = elim (some_waits boxes k (run_at without.runs.before_tops k) k (omega arith)) [
  | inl w ↦ inl (inl w)
  | inr free ↦ by_bottom free bottom refl
]
  where
    no_float : NoneWaits boxes (shape_at boxes k).clear (run_at without.runs.before_tops k) k → HasClearedFloat boxes k (run_at without.runs.before_tops k) → ⊥
    no_float free w = true_false (has_top w.0 (run_at without.runs.before_tops k)) w.5 (free w.0 w.1 w.2 w.3 w.4)

    by_bottom : NoneWaits boxes (shape_at boxes k).clear (run_at without.runs.before_tops k) k → (o : Option Length) → bottom ≡ o → Either (NeedsClearance boxes without k bottom)
    by_bottom free None e = inr (λ needs. elim needs [ inl w ↦ no_float free w | inr a ↦ none-some a.0 (sym e ∙ a.1) ])
    by_bottom free (Some v) e = elim (either_lt (length_at without.places.marks k) v.0) [
      | inl less ↦ inl (inr (v, e, less))
      | inr not ↦ inr (λ needs. elim needs [
        | inl w ↦ no_float free w
        | inr a ↦ (let same : a.0 ≡ v = same_Some a.0 v (sym a.1 ∙ e) in not (subst (λ (u : Length). length_at without.places.marks k <ℤ u.0) same a.2))
      ])
    ]

module _ (some_flow : SomeFlowByClearances) (boxes : List FlowBox) (are : IsFlowTree boxes) where
  record SomeCleared (n : ℕ) : Type 0 where
    pub flow : Flow
    pub is : IsClearedTo boxes flow n

  module _ (f : Flow) (k : ℕ) (positive : 0 < k) (within : k < length boxes) (was : IsClearedTo boxes f k) where
    abbrev flags : List Bool
    flags = f.layout.runs.clears

    abbrev edges : List Length
    edges = f.layout.clear_edges

    flags_length : length flags ≡ length boxes
    flags_length = was.by_clearances.layout.has_runs.clears_length

    edges_length : length edges ≡ length boxes
    edges_length = was.by_clearances.clear_edges_length

    -- the flow so far is the hypothetical one of the box
    hypothetical : IsHypothetical boxes f.layout k f.layout
    hypothetical = record { is_layout = was.by_clearances.layout; extents_are = refl; edges_are = refl; earlier = λ j lt. refl; later = was.later }

    bottom : (bottom : Option Length) × IsClearEdge (floats_before boxes f.places k) (shape_at boxes k).clear bottom
    bottom = some_clear_edge_lem (floats_before boxes f.places k) (shape_at boxes k).clear

    as_it_is : ((shape_at boxes k).float ≡ None → HasClearance boxes f.layout f.places k) → SomeCleared (suc k)
    as_it_is has = record {
      flow = f;
      is = record {
        by_clearances = was.by_clearances;
        root_clear = was.root_clear;
        float_clear = was.float_clear;
        clearance = λ j low lt inner none. elim (cases_lt j k) [
          | inl less ↦ was.clearance j low less inner none
          | inr ge ↦ (let e : j ≡ k = omega (arith, lt, ge) in
              subst (HasClearance boxes f.layout f.places) (sym e) (has (ap (λ (i : ℕ). (shape_at boxes i).float) (sym e) ∙ none)))
        ];
        later = λ j le. was.later j (omega (arith, le));
        no_edge = was.no_edge;
      };
    }

    unclear : (NeedsClearance boxes f.layout k bottom.0 → ⊥) → HasClearance boxes f.layout f.places k
    unclear not = record {
      without = f.layout;
      is_hypothetical = hypothetical;
      bottom = bottom.0;
      is_bottom = bottom.1;
      decides = (λ t. absurd (true_false (flag_at flags k) t (was.later k (omega arith))), λ needs. absurd (not needs));
      edge = λ t. absurd (true_false (flag_at flags k) t (was.later k (omega arith)));
    }

    module _ (none : (shape_at boxes k).float ≡ None) (needs : NeedsClearance boxes f.layout k bottom.0) where
      out : is_in_lines (box_at boxes k).kind ≡ false
      out = true_or (is_in_lines (box_at boxes k).kind) (is_in_lines (box_at boxes k).kind ≡ false)
          (λ inside. absurd (no_need boxes k inside (floats_before boxes f.places k) f.layout bottom.0 bottom.1 needs)) (λ o. o)

      abbrev FlowWith : List Length → Type 0
      FlowWith column = (g : Flow) × (g.layout.runs.clears ≡ set flags k true) × (g.layout.clear_edges ≡ column) × IsFlowByClearances boxes g

      flow_with : (column : List Length) → length column ≡ length boxes → FlowWith column
      flow_with column l = some_flow boxes (set flags k true) column are (grind (arith, elements, flags_length)) l

      -- where the box has clearance, the floats before it stand as they do at last, whichever its clear edge is
      trial : FlowWith edges
      trial = flow_with edges edges_length

      low : (bottom : Option Length) × IsClearEdge (floats_before boxes (trial.0).places k) (shape_at boxes k).clear bottom
      low = some_clear_edge_lem (floats_before boxes (trial.0).places k) (shape_at boxes k).clear

      abbrev edge : Length
      edge = record { 0 = lower_of low.0 (length_at f.layout.places.marks k) }

      now : FlowWith (set edges k edge)
      now = flow_with (set edges k edge) (grind (arith, elements, edges_length))

      abbrev g : Flow
      g = now.0

      flag_there : (h : Flow) → h.layout.runs.clears ≡ set flags k true → flag_at h.layout.runs.clears k ≡ true
      flag_there h e = let l = flags_length in ap (λ (fs : List Bool). flag_at fs k) e ∙ flag_here flags k (omega (arith, within, l))

      flag_same : (h : Flow) → h.layout.runs.clears ≡ set flags k true → (j : ℕ) → (j ≡ k → ⊥) → flag_at flags j ≡ flag_at h.layout.runs.clears j
      flag_same h e j other = sym (ap (λ (fs : List Bool). flag_at fs j) e ∙ flag_else flags k j other)

      edge_same : (j : ℕ) → (j ≡ k → ⊥) → length_at edges j ≡ length_at g.layout.clear_edges j
      edge_same j other = sym (ap (λ (column : List Length). length_at column j) now.2 ∙ length_else edges edge k j other)

      edge_there : length_at g.layout.clear_edges k ≡ lower_of low.0 (length_at f.layout.places.marks k)
      edge_there = let l = edges_length in ap (λ (column : List Length). length_at column k) now.2 ∙ length_here edges edge k (omega (arith, within, l))

      lower_not : (j : ℕ) → j < k → j ≡ k → ⊥
      lower_not j lt e = omega (arith, lt, e)

      same : SameClearances f.layout g.layout k
      same = record { clears = λ j lt. flag_same g now.1 j (lower_not j lt); edges = λ j lt c. edge_same j (lower_not j lt) }

      same_trial : SameClearances (trial.0).layout g.layout k
      same_trial = record {
        clears = λ j lt. sym (flag_same trial.0 trial.1 j (lower_not j lt)) ∙ flag_same g now.1 j (lower_not j lt);
        edges = λ j lt c. ap (λ (column : List Length). length_at column j) trial.2 ∙ edge_same j (lower_not j lt);
      }

      clear_here : HasClearance boxes g.layout g.places k
      clear_here = record {
        without = other.0;
        is_hypothetical = other.1;
        bottom = last.0;
        is_bottom = last.1;
        decides = (λ t. needs_too, λ n. flag_there g now.1);
        edge = λ t. edge_there ∙ (λ i. lower_of (bottoms i) (mark i));
      }
        where
          other : (without : BlockLayout) × IsHypothetical boxes g.layout k without
          other = some_hypothetical_lem boxes g.layout k are.tree are.some now.3.layout

          last : (bottom : Option Length) × IsClearEdge (floats_before boxes g.places k) (shape_at boxes k).clear bottom
          last = some_clear_edge_lem (floats_before boxes g.places k) (shape_at boxes k).clear

          needs_too : NeedsClearance boxes other.0 k last.0
          needs_too = (same_needs boxes are f g was.by_clearances now.3 k same k positive within (omega arith) out f.layout other.0 hypothetical other.1 bottom.0 last.0 bottom.1 last.1).0 needs

          mark : length_at f.layout.places.marks k ≡ length_at (other.0).places.marks k
          mark = same_mark boxes are f g was.by_clearances now.3 k same k positive within (omega arith) out f.layout other.0 hypothetical other.1

          bottoms : low.0 ≡ last.0
          bottoms = same_bottom boxes are trial.0 g trial.3 now.3 k same_trial k positive within (omega arith) (flag_there trial.0 trial.1) (flag_there g now.1) low.0 last.0 low.1 last.1

      clear_before : (j : ℕ) → 0 < j → j < k → j < length boxes → (shape_at boxes j).float ≡ None → HasClearance boxes g.layout g.places j
      clear_before j low lt inner flows =
          keeps_clearance boxes are f g was.by_clearances now.3 k same j low inner (omega (arith, lt)) (flag_same g now.1 j (lower_not j lt)) (λ c. edge_same j (lower_not j lt))
          (was.clearance j low lt inner flows)

      cleared : SomeCleared (suc k)
      cleared = record {
        flow = g;
        is = record {
          by_clearances = now.3;
          root_clear = sym (flag_same g now.1 0 (λ e. omega (arith, e, positive))) ∙ was.root_clear;
          float_clear = λ j side inner e. sym (flag_same g now.1 j (λ same. none-some side (sym none ∙ ap (λ (i : ℕ). (shape_at boxes i).float) (sym same) ∙ e))) ∙ was.float_clear j side inner e;
          clearance = λ j low lt inner flows. elim (cases_lt j k) [
            | inl less ↦ clear_before j low less inner flows
            | inr ge ↦ (let e : j ≡ k = omega (arith, lt, ge) in subst (HasClearance boxes g.layout g.places) (sym e) clear_here)
          ];
          later = λ j le. sym (flag_same g now.1 j (λ e. omega (arith, le, e))) ∙ was.later j (omega (arith, le));
          no_edge = λ j inner off. elim (cases_eq j k) [
            | inl e ↦ absurd (true_false (flag_at g.layout.runs.clears k) (flag_there g now.1) (ap (λ (i : ℕ). flag_at g.layout.runs.clears i) (sym e) ∙ off))
            | inr other ↦ sym (edge_same j other) ∙ was.no_edge j inner (flag_same g now.1 j other ∙ off)
          ];
        };
      }

    clears_next : SomeCleared (suc k)
    clears_next = by_float (shape_at boxes k).float refl
      where
        by_float : (o : Option Side) → (shape_at boxes k).float ≡ o → SomeCleared (suc k)
        by_float (Some side) e = as_it_is (λ none. absurd (none-some side (sym none ∙ e)))
        by_float None e = elim (needs_or_not boxes f.layout k bottom.0) [
          | inl needs ↦ cleared e needs
          | inr not ↦ as_it_is (λ none. unclear not)
        ]

  no_flags : (bs : List FlowBox) (j : ℕ) → flag_at (map (λ (b : FlowBox). false) bs) j ≡ false
  no_flags [] j = refl
  no_flags (b ∷ bs) zero = refl
  no_flags (b ∷ bs) (suc j) = no_flags bs j

  no_edges : (bs : List FlowBox) (j : ℕ) → length_at (map (λ (b : FlowBox). no_length) bs) j ≡ pos 0
  no_edges [] j = refl
  no_edges (b ∷ bs) zero = refl
  no_edges (b ∷ bs) (suc j) = no_edges bs j

  clears_first : SomeCleared 1
  clears_first =
      let start = some_flow boxes (map (λ (b : FlowBox). false) boxes) (map (λ (b : FlowBox). no_length) boxes) are (grind (arith, elements)) (grind (arith, elements)) in
      let off : (j : ℕ) → flag_at (start.0).layout.runs.clears j ≡ false = λ j. ap (λ (fs : List Bool). flag_at fs j) start.1 ∙ no_flags boxes j in
      record {
        flow = start.0;
        is = record {
          by_clearances = start.3;
          root_clear = off 0;
          float_clear = λ k side inner e. off k;
          clearance = λ k low lt inner none. absurd (omega (arith, low, lt));
          later = λ k le. off k;
          no_edge = λ k inner e. ap (λ (column : List Length). length_at column k) start.2 ∙ no_edges boxes k;
        };
      }

  clears_to : (n : ℕ) → n < length boxes → SomeCleared (suc n)
  clears_to zero lt = clears_first
  clears_to (suc n) lt = let was = clears_to n (omega (arith, lt)) in clears_next was.flow (suc n) (omega arith) lt was.is

  flow_there : (f : Flow) × IsContextFlow boxes f
  flow_there =
      let some = are.some in
      let n : ℕ = length boxes - 1 in
      let found = clears_to n (omega (arith, some)) in
      let is = found.is in (
        found.flow,
        record {
          by_clearances = is.by_clearances;
          root_clear = is.root_clear;
          float_clear = is.float_clear;
          clearance = λ k low lt none. is.clearance k low (omega (arith, lt, some)) lt none;
          no_edge = is.no_edge;
        },
      )

pub some_context_flow_lem : SomeFlowByClearances → SomeContextFlow
some_context_flow_lem some_flow boxes are = flow_there some_flow boxes are

pub some_flow_of_lem : SomeContextFlow → SomeFlowOf
some_flow_of_lem some_flow boxes are =
    let found = some_flow boxes are in
    let f = found.0 in
    let column = λ (k : ℕ). border_box_in boxes f k in (
      record { boxes = tab column (length boxes); lines = map (λ p. p.lines.rows) f.places },
      record {
        flow = f;
        is_flow = found.1;
        places = record { count = tab_length column (length boxes); each = λ k lt. tab_at column no_box_place (length boxes) k lt; lines = refl };
      },
    )
