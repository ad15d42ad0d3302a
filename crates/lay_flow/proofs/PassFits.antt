-- The numbers of a pass stay within their bounds.
use Rattle.std.proofs.Common.{◌≡◌, ℕ, zero, suc, ◌+◌, ◌<◌, ◌≤◌, Bool, true, false, ℤ, pos, neg_ℤ, ◌≤ℤ◌, ◌+ℤ◌, ◌-ℤ◌, List, length, refl, sym, ◌∙◌, arith, inl, inr, subst}
use Rattle.std.proofs.lemmas.Bool.{cases_lt, cases_eq}
use Rattle.std.proofs.lemmas.Int.{ints}
use Rattle.lay_flow.specs.declared.blocks.flow_box.FlowBox.{FlowBox}
use Rattle.lay_flow.specs.Blocks.Boxes.{parent_at, parents_of}
use Rattle.lay_flow.proofs.BlocksLemmas.BoxTrees.{parent_before}
use Rattle.lay_units.specs.Units.{IsPosition, IsBoxSize, IsNear, IsUsed}
use Rattle.lay_units.specs.declared.length.Unit.{Unit as Length}
use Rattle.lay_margins.specs.StrutValue.{StrutValue}
use Rattle.lay_doc.specs.Tree.{IsTree}
use Rattle.lay_flow.specs.Blocks.Lengths.{length_at}
use Rattle.lay_flow.specs.Blocks.BlockSizes.{IsBlockInset}
use Rattle.lay_flow.specs.Blocks.Children.{flag_at}
use Rattle.lay_flow.specs.Blocks.MarginRuns.{block_at, parts_tops}
use Rattle.lay_flow.specs.Blocks.BlockPositions.{is_solid}
use Rattle.lay_flow.specs.Pass.State.{PassState, RunEnd, Settled, columns_of, ended_run}
use Rattle.lay_flow.specs.Pass.Bounds.{StateFits, IsStartNear, IsRunNear, IsEdgeNear, IsMarkNear, reach}
use Rattle.lay_flow.specs.Pass.Struts.{StrutFits}
use Rattle.lay_flow.proofs.Openings.{pushed}
use Rattle.lay_flow.proofs.SoFar.{Wrote}
use Rattle.lay_flow.specs.Blocks.Weights.{weight}
use Rattle.lay_flow.proofs.BlocksLemmas.Truths.{true_false, true_or}
use Rattle.lay_flow.specs.Blocks.FlowBoxes.{AreFlowBoxes}
use Rattle.lay_flow.proofs.BlocksLemmas.WeightFacts.{light_at, weight_up}

pub start_is_near : (k : ℕ) (v : ℤ) → k ≤ 16711680 → IsRunNear k v → IsNear v
start_is_near k v few near = let a = near.0 in let b = near.1 in (omega (arith, ints, few, a), omega (arith, ints, few, b))

pub mark_is_near : (k : ℕ) (v : ℤ) → k ≤ 16711680 → IsMarkNear k v → IsNear v
mark_is_near k v few near = let a = near.0 in let b = near.1 in (omega (arith, ints, few, a), omega (arith, ints, few, b))

module _ (boxes : List FlowBox) (are : AreFlowBoxes boxes) (now : PassState) (p m : ℕ) (fits : StateFits boxes now p m) where
  pub begins_near : IsNear now.start
  begins_near =
      let a = fits.first_most in let b = fits.within in
      start_is_near (weight boxes now.first) now.start (light_at boxes are now.first (omega (arith, a, b))) fits.start_near

-- a mark at the end of a run, of a box from the run's first one on
pub end_near : (f k : ℕ) (start end : ℤ) → IsRunNear f start → IsUsed (end -ℤ start) → f ≤ k → IsMarkNear k end
end_near f k start end near collapsed le =
    let a = near.0 in let b = near.1 in let c = collapsed.0 in let d = collapsed.1 in
    (omega (arith, ints, a, c, le), omega (arith, ints, b, d, le))

-- the start of a run under a box, or at the top of its content
pub below_near : (k f : ℕ) (mark height start : ℤ) → IsMarkNear k mark → IsBoxSize height → start ≡ mark +ℤ height → k < f → IsStartNear f start
below_near k f mark height start near size e lt =
    let a = near.0 in let b = near.1 in let c = size.0 in let d = size.1 in
    (omega (arith, ints, a, c, d, e, lt), omega (arith, ints, b, c, d, e, lt))

run_near : (k : ℕ) (v : ℤ) → IsStartNear k v → IsRunNear k v
run_near k v near = let a = near.0 in let b = near.1 in (omega (arith, ints, a), omega (arith, ints, b))

edge_run_near : (k : ℕ) (v : ℤ) → IsEdgeNear k v → IsRunNear k v
edge_run_near k v near = let a = near.0 in let b = near.1 in (omega (arith, ints, a), omega (arith, ints, b))

pub start_edge_near : (k : ℕ) (v : ℤ) → IsStartNear k v → IsEdgeNear k v
start_edge_near k v near = let a = near.0 in let b = near.1 in (omega (arith, ints, a), omega (arith, ints, b))

-- what a run reaches that may begin before the box at k
pub ahead_near : (k : ℕ) (start end : ℤ) → IsStartNear k start → IsUsed (end -ℤ start) → IsEdgeNear k end
ahead_near k start end near collapsed = let a = near.0 in let b = near.1 in let c = collapsed.0 in let d = collapsed.1 in (omega (arith, ints, a, c), omega (arith, ints, b, d))

pub later_near : (j k : ℕ) (v : ℤ) → j ≤ k → IsStartNear j v → IsStartNear k v
later_near j k v le near = let a = near.0 in let b = near.1 in (omega (arith, ints, a, le), omega (arith, ints, b, le))

pub edge_later_near : (j k : ℕ) (v : ℤ) → j < k → IsEdgeNear j v → IsStartNear k v
edge_later_near j k v lt near = let a = near.0 in let b = near.1 in (omega (arith, ints, a, lt), omega (arith, ints, b, lt))

-- the start of a run that ends near a clear edge
pub above_near : (k : ℕ) (edge start : ℤ) → IsEdgeNear k edge → IsUsed (edge -ℤ start) → IsRunNear k start
above_near k edge start near collapsed = let a = near.0 in let b = near.1 in let c = collapsed.0 in let d = collapsed.1 in (omega (arith, ints, a, d), omega (arith, ints, b, c))

pub run_later_near : (j k : ℕ) (v : ℤ) → j < k → IsRunNear j v → IsStartNear k v
run_later_near j k v lt near = let a = near.0 in let b = near.1 in (omega (arith, ints, a, lt), omega (arith, ints, b, lt))

pub inset_height : (v : ℤ) → IsBlockInset v → IsBoxSize v
inset_height v i = let a = i.0 in let b = i.1 in (a, omega (arith, ints, b))

higher_near : (j k : ℕ) (v : ℤ) → j ≤ k → IsMarkNear j v → IsMarkNear k v
higher_near j k v le near = let a = near.0 in let b = near.1 in (omega (arith, ints, a, le), omega (arith, ints, b, le))

-- the marks once a run has ended
pub settled_near : (boxes : List FlowBox) (run : RunEnd) (old new : List Length) → IsTree (parents_of boxes) → 0 < run.first → run.next ≤ length boxes
    → ((j : ℕ) → IsMarkNear (weight boxes j) (length_at old j)) → ((j : ℕ) → run.first ≤ j → IsMarkNear (weight boxes j) run.mark) → Settled boxes run old new
    → (n j : ℕ) → j < n → IsMarkNear (weight boxes j) (length_at new j)
settled_near boxes run old new tree positive within was ended settled zero j lt = absurd (omega (arith, lt))
settled_near boxes run old new tree positive within was ended settled (suc n) j lt = elim (cases_lt j run.first) [
  | inl low ↦ subst (IsMarkNear (weight boxes j)) (sym (settled.before j low)) (was j)
  | inr high ↦ elim (cases_lt j run.next) [
    | inl inside ↦ true_or (flag_at run.through j) (IsMarkNear (weight boxes j) (length_at new j))
        (λ code. elim (cases_lt (parent_at boxes j) run.first) [
          | inl low ↦ subst (IsMarkNear (weight boxes j)) (sym (settled.keeps j high inside code low)) (was j)
          | inr up ↦ (let b = parent_before boxes tree j (omega (arith, positive, high)) (omega (arith, inside, within)) in
              subst (IsMarkNear (weight boxes j)) (sym (settled.inherits j high inside code up))
              (higher_near (weight boxes (parent_at boxes j)) (weight boxes j) (length_at new (parent_at boxes j)) (weight_up boxes (parent_at boxes j) j (omega (arith, b)))
              (settled_near boxes run old new tree positive within was ended settled n (parent_at boxes j) (omega (arith, b, lt)))))
        ])
        (λ code. subst (IsMarkNear (weight boxes j)) (sym (settled.stands j high inside code)) (ended j high))
    | inr after ↦ subst (IsMarkNear (weight boxes j)) (sym (settled.after j after)) (was j)
  ]
]

-- a run ends
module _ (boxes : List FlowBox) (tree : IsTree (parents_of boxes)) (now : PassState) (p m : ℕ) (was : StateFits boxes now p m) (end : ℤ) (ended : IsUsed (end -ℤ now.start)) where
  pub marks_near : (n : ℕ) → n ≤ length boxes → (marks : List Length) → Settled boxes (ended_run (columns_of now) n end) now.marks marks → (j : ℕ) → IsMarkNear (weight boxes j) (length_at marks j)
  marks_near n within marks settled j = settled_near boxes (ended_run (columns_of now) n end) now.marks marks tree was.first_least within was.mark_near
      (λ i le. end_near (weight boxes now.first) (weight boxes i) now.start end was.start_near ended (weight_up boxes now.first i le)) settled (j + 1) j (omega arith)

  pub end_is_near : AreFlowBoxes boxes → IsNear end
  end_is_near are = mark_is_near (weight boxes m) end (light_at boxes are m was.within)
      (end_near (weight boxes now.first) (weight boxes m) now.start end was.start_near ended (weight_up boxes now.first m was.first_most))

module _ (boxes : List FlowBox) (tree : IsTree (parents_of boxes)) (now : PassState) where
  pub fits_opened : (k : ℕ) (strut : StrutValue) → k < length boxes → parts_tops boxes k ≡ false → StateFits boxes now (parent_at boxes k) k → StrutFits strut → StateFits boxes (pushed now strut) k (k + 1)
  fits_opened k strut within plain was fits = record {
    parent = omega arith;
    within = omega (arith, within);
    first_least = was.first_least;
    first_most = let f = was.first_most in omega (arith, f);
    marks_length = was.marks_length;
    heights_length = was.heights_length;
    through_length = was.through_length;
    start_near = was.start_near;
    edge_near = was.edge_near;
    mark_near = was.mark_near;
    strut_fits = fits;
    sized = was.sized;
    unparted = λ j low high. elim (cases_lt j k) [
      | inl lt ↦ was.unparted j low lt
      | inr ge ↦ (let e : j ≡ k = omega (arith, ge, high) in subst (λ (j : ℕ). parts_tops boxes j ≡ false) (sym e) plain)
    ];
  }

  pub fits_parting : (k : ℕ) (marks : List Length) (end start : ℤ) (strut' : StrutValue) → k < length boxes → StateFits boxes now (parent_at boxes k) k
      → Settled boxes (ended_run (columns_of now) (k + 1) end) now.marks marks → IsUsed (end -ℤ now.start) → IsStartNear (weight boxes (k + 1)) start → StrutFits strut'
      → StateFits boxes (record now { marks = marks; start = start; strut = strut'; first = k + 1; hangs = false }) k (k + 1)
  fits_parting k marks end start strut' within was settled ended near fits' = record {
    parent = omega arith;
    within = omega (arith, within);
    first_least = omega arith;
    first_most = omega arith;
    marks_length = settled.length_is ∙ was.marks_length;
    heights_length = was.heights_length;
    through_length = was.through_length;
    start_near = run_near (weight boxes (k + 1)) start near;
    edge_near = λ t. absurd (true_false false t refl);
    mark_near = marks_near boxes tree now _ _ was end ended (k + 1) (omega (arith, within)) marks settled;
    strut_fits = fits';
    sized = was.sized;
    unparted = λ j low high. absurd (omega (arith, low, high));
  }

  pub fits_cleared : (k : ℕ) (marks edges : List Length) (flags : List Bool) (end edge : ℤ) (strut' : StrutValue) → 0 < k → StateFits boxes now (parent_at boxes k) k
      → Settled boxes (ended_run (columns_of now) k end) now.marks marks → IsUsed (end -ℤ now.start) → IsEdgeNear (weight boxes k) edge → StrutFits strut'
      → StateFits boxes (record now { marks = marks; clears = flags; clear_edges = edges; start = edge; strut = strut'; first = k; hangs = true }) (parent_at boxes k) k
  fits_cleared k marks edges flags end edge strut' positive was settled ended near fits' = record {
    parent = was.parent;
    within = was.within;
    first_least = positive;
    first_most = omega arith;
    marks_length = settled.length_is ∙ was.marks_length;
    heights_length = was.heights_length;
    through_length = was.through_length;
    start_near = edge_run_near (weight boxes k) edge near;
    edge_near = λ t. near;
    mark_near = marks_near boxes tree now _ _ was end ended k was.within marks settled;
    strut_fits = fits';
    sized = was.sized;
    unparted = λ j low high. absurd (omega (arith, low, high));
  }

  module _ (p m : ℕ) (positive : 0 < p) (was : StateFits boxes now p m) where
    up_less : parent_at boxes p < p
    up_less = let a = was.parent in let b = was.within in parent_before boxes tree p positive (omega (arith, a, b))

    up_parent : parent_at boxes p < m
    up_parent = let a = was.parent in let b = up_less in omega (arith, a, b)

    written : {A : Type 0} (P : ℕ → A → Type 0) (read : List Length → ℕ → A) (old new : List Length) (v : A) → Wrote read old new p v → P p v → ((j : ℕ) → P j (read old j)) → (j : ℕ) → P j (read new j)
    written P read old new v wrote here each j = elim (cases_eq j p) [
      | inl e ↦ (let h = wrote.here in subst (λ (j : ℕ). P j (read new j)) (sym e) (subst (P p) (sym h) here))
      | inr ne ↦ subst (P j) (sym (wrote.other j ne)) (each j)
    ]

    pub fits_started : (start : ℤ) → now.hangs ≡ true → IsUsed (now.start -ℤ start) → StateFits boxes (record now { start = start; hangs = false }) p m
    fits_started start hangs collapsed = record {
      parent = was.parent;
      within = was.within;
      first_least = was.first_least;
      first_most = was.first_most;
      marks_length = was.marks_length;
      heights_length = was.heights_length;
      through_length = was.through_length;
      start_near = above_near (weight boxes now.first) now.start start (was.edge_near hangs) collapsed;
      edge_near = λ t. absurd (true_false false t refl);
      mark_near = was.mark_near;
      strut_fits = was.strut_fits;
      sized = was.sized;
      unparted = was.unparted;
    }

    pub fits_through : (marks heights : List Length) (flags : List Bool) (end : ℤ) (strut' : StrutValue) → now.first ≤ p
        → Wrote length_at now.marks marks p end → Wrote length_at now.heights heights p (pos 0) → Wrote flag_at now.through flags p true
        → IsUsed (end -ℤ now.start) → StrutFits strut'
        → StateFits boxes (record now { marks = marks; heights = heights; through = flags; strut = strut' }) (parent_at boxes p) m
    fits_through marks heights flags end strut' waits wrote_mark wrote_height wrote_flag ended fits' = record {
      parent = up_parent;
      within = was.within;
      first_least = was.first_least;
      first_most = was.first_most;
      marks_length = wrote_mark.length_is ∙ was.marks_length;
      heights_length = wrote_height.length_is ∙ was.heights_length;
      through_length = wrote_flag.length_is ∙ was.through_length;
      start_near = was.start_near;
      edge_near = was.edge_near;
      mark_near = written (λ (j : ℕ) (v : ℤ). IsMarkNear (weight boxes j) v) length_at now.marks marks end wrote_mark (end_near (weight boxes now.first) (weight boxes p) now.start end was.start_near ended (weight_up boxes now.first p waits)) was.mark_near;
      strut_fits = fits';
      sized = written (λ (j : ℕ) (v : ℤ). is_solid (block_at boxes j).inside ≡ false → IsBoxSize v) length_at now.heights heights (pos 0) wrote_height (λ flow. (omega (arith, ints), omega (arith, ints))) was.sized;
      unparted = was.unparted;
    }

    pub fits_joined : (heights : List Length) (height start : ℤ) (strut' : StrutValue) → IsStartNear (weight boxes now.first) start → IsBoxSize height → Wrote length_at now.heights heights p height → StrutFits strut'
        → StateFits boxes (record now { heights = heights; start = start; strut = strut' }) (parent_at boxes p) m
    fits_joined heights height start strut' near size wrote fits' = record {
      parent = up_parent;
      within = was.within;
      first_least = was.first_least;
      first_most = was.first_most;
      marks_length = was.marks_length;
      heights_length = wrote.length_is ∙ was.heights_length;
      through_length = was.through_length;
      start_near = run_near (weight boxes now.first) start near;
      edge_near = λ t. start_edge_near (weight boxes now.first) start near;
      mark_near = was.mark_near;
      strut_fits = fits';
      sized = written (λ (j : ℕ) (v : ℤ). is_solid (block_at boxes j).inside ≡ false → IsBoxSize v) length_at now.heights heights height wrote (λ flow. size) was.sized;
      unparted = was.unparted;
    }

    pub fits_parted : (marks heights : List Length) (end height start : ℤ) (strut' : StrutValue)
        → Settled boxes (ended_run (columns_of now) m end) now.marks marks → IsUsed (end -ℤ now.start)
        → IsStartNear (weight boxes m) start → (is_solid (block_at boxes p).inside ≡ false → IsBoxSize height) → Wrote length_at now.heights heights p height → StrutFits strut'
        → StateFits boxes (record now { marks = marks; heights = heights; start = start; strut = strut'; first = m; hangs = false }) (parent_at boxes p) m
    fits_parted marks heights end height start strut' settled ended near size wrote fits' =
        let lt = was.parent in
        record {
          parent = up_parent;
          within = was.within;
          first_least = omega (arith, lt);
          first_most = omega arith;
          marks_length = settled.length_is ∙ was.marks_length;
          heights_length = wrote.length_is ∙ was.heights_length;
          through_length = was.through_length;
          start_near = run_near (weight boxes m) start near;
          edge_near = λ t. absurd (true_false false t refl);
          mark_near = marks_near boxes tree now p m was end ended m was.within marks settled;
          strut_fits = fits';
          sized = written (λ (j : ℕ) (v : ℤ). is_solid (block_at boxes j).inside ≡ false → IsBoxSize v) length_at now.heights heights height wrote size was.sized;
          unparted = λ j low high. absurd (omega (arith, low, high));
        }

pub box_height_position : (h : ℤ) → IsBoxSize h → IsPosition h
box_height_position h size = let a = size.0 in let b = size.1 in (omega (arith, ints, a), omega (arith, ints, b))

-- what is added to a mark to come to a bottom edge
pub extent_position : (m : ℕ) (mark x : ℤ) → m ≤ 16711680 → IsNear mark → (neg_ℤ (reach m)) ≤ℤ (mark +ℤ x) → (mark +ℤ x) ≤ℤ reach m → IsPosition x
extent_position m mark x few near least most = let a = near.0 in let b = near.1 in (omega (arith, ints, few, a, b, least, most), omega (arith, ints, few, a, b, least, most))
