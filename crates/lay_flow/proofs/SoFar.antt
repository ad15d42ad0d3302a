-- The columns of a pass at the next place of the sequence of margins.
use Rattle.std.proofs.Common.{◌≡◌, ◌≢◌, ℕ, zero, suc, ◌+◌, ◌<◌, ◌≤◌, not, nat_lt, true, false, ℤ, pos, List, length, refl, sym, ap, ◌∙◌, arith, inl, inr, subst}
use Rattle.std.proofs.lemmas.Bool.{cases_lt, cases_eq}
use Rattle.lay_flow.specs.declared.blocks.flow_box.FlowBox.{FlowBox}
use Rattle.lay_flow.specs.Blocks.Boxes.{parent_at, parents_of}
use Rattle.lay_flow.proofs.BlocksLemmas.BoxTrees.{root_parent, parent_before}
use Rattle.lay_units.specs.declared.length.Unit.{Unit as Length}
use Rattle.lay_doc.specs.Tree.{IsTree}
use Rattle.lay_flow.specs.Blocks.Lengths.{length_at}
use Rattle.lay_flow.specs.Blocks.Children.{flag_at}
use Rattle.lay_flow.specs.Blocks.MarginRuns.{has_top, run_at}
use Rattle.lay_flow.specs.Blocks.BlockLayout.{BlockLayout}
use Rattle.lay_flow.specs.Pass.State.{Settled, IsDone, IsSoFar, Columns, ended_run}
use Rattle.lay_flow.proofs.BlocksLemmas.Truths.{true_false, not_low, low_not}
use Rattle.lay_flow.specs.Blocks.MarginPlace.{IsAround, margin_place}

-- one entry was changed
pub record Wrote {A B : Type 0} (read : List A → ℕ → B) (old new : List A) (k : ℕ) (v : B) : Type 0 where
  pub length_is : length new ≡ length old
  pub here : read new k ≡ v
  pub other : (j : ℕ) → j ≢ k → read new j ≡ read old j

module _ (boxes : List FlowBox) (tree : IsTree (parents_of boxes)) (y : BlockLayout) where
  parent_low : (f m : ℕ) → 0 < f → f ≤ m → m ≤ length boxes → (j : ℕ) → j < f → parent_at boxes j < f
  parent_low f m positive order within zero low = let r = root_parent boxes tree in omega (arith, r, positive)
  parent_low f m positive order within (suc j) low = let b = parent_before boxes tree (suc j) (omega arith) (omega (arith, low, order, within)) in omega (arith, b, low)

  -- a box is opened
  pub so_far_opened : (now : Columns) (k : ℕ) → 0 < k → k < length boxes → IsSoFar boxes y now (margin_place (parent_at boxes k) k) → IsSoFar boxes y now (margin_place k (k + 1))
  so_far_opened now k positive within was = record {
    passed = λ j b code. elim (cases_lt j k) [
      | inl lt ↦ was.passed j lt code
      | inr ge ↦ absurd (true_false (flag_at now.through j) code (was.fresh j ge))
    ];
    closed = λ j a b. absurd (omega (arith, a, b));
    gone = λ j i a b lower. elim (cases_lt i k) [
      | inl lt ↦ was.gone j i a lt lower
      | inr ge ↦ (let e : i ≡ k = omega (arith, b, ge) in was.closed j (rw e at lower) (omega (arith, a, e)))
    ];
    marked = was.marked;
    kept = λ j b code top. elim (cases_lt j k) [
      | inl lt ↦ was.kept j lt code top
      | inr ge ↦ absurd (true_false (flag_at now.through j) code (was.fresh j ge))
    ];
    fresh = λ j a. was.fresh j (omega (arith, a));
    open_yet = λ j a holds. elim (cases_lt j k) [
      | inl lt ↦ was.open_yet j (holds k lt (omega arith)) (λ i low high. holds i low (omega (arith, high)))
      | inr ge ↦ was.fresh j ge
    ];
  }

  -- the run ends
  pub so_far_settled : (now : Columns) (new : List Length) (p m : ℕ) (end : ℤ) → 0 < now.first → now.first ≤ m → m ≤ length boxes
      → ((j : ℕ) → now.first ≤ j → j < m → has_top (parent_at boxes j) (run_at y.runs.before_tops j) ≡ not (nat_lt (parent_at boxes j) now.first))
      → ((j : ℕ) → now.first ≤ j → j < m → flag_at now.through j ≡ false → flag_at y.runs.through j ≡ false → length_at y.places.marks j ≡ end)
      → Settled boxes (ended_run now m end) now.marks new → IsSoFar boxes y now (margin_place p m) → IsSoFar boxes y (record now { marks = new; first = m }) (margin_place p m)
  so_far_settled now new p m end positive order within tops ends settled was = record {
    passed = was.passed;
    closed = λ j a b. moved j (was.closed j a b);
    gone = λ j i a b lower. moved j (was.gone j i a b lower);
    marked = record {
      stands = λ j lt code truth. elim (cases_lt j now.first) [
        | inl low ↦ settled.before j low ∙ was.marked.stands j low code truth
        | inr high ↦ settled.stands j high lt code ∙ sym (ends j high lt code truth)
      ];
      inherits = λ j lt code top. elim (cases_lt j now.first) [
        | inl low ↦ settled.before j low ∙ was.marked.inherits j low code top ∙ sym (settled.before (parent_at boxes j) (parent_low now.first m positive order within j low))
        | inr high ↦ settled.inherits j high lt code (not_low (parent_at boxes j) now.first (sym (tops j high lt) ∙ top))
      ];
    };
    kept = λ j lt code top. elim (cases_lt j now.first) [
      | inl low ↦ settled.before j low ∙ was.kept j lt code top
      | inr high ↦ elim (cases_lt (parent_at boxes j) now.first) [
        | inl earlier ↦ settled.keeps j high lt code earlier ∙ was.kept j lt code top
        | inr over ↦ absurd (true_false (not (nat_lt (parent_at boxes j) now.first)) (low_not (parent_at boxes j) now.first over) (sym (tops j high lt) ∙ top))
      ]
    ];
    fresh = was.fresh;
    open_yet = was.open_yet;
  }
    where
      moved : (j : ℕ) → IsDone y now j → IsDone y (record now { marks = new; first = m }) j
      moved j d = record { pass = d.pass; height = d.height }

  module _ (p m : ℕ) (positive : 0 < p) (lt : p < m) (within : m ≤ length boxes) (inside : IsAround boxes p m) where
    less : parent_at boxes p < p
    less = parent_before boxes tree p positive (omega (arith, lt, within))

    closed_up : (old new : Columns) → IsDone y new p → ((j : ℕ) → j ≢ p → flag_at new.through j ≡ flag_at old.through j) → ((j : ℕ) → j ≢ p → length_at new.heights j ≡ length_at old.heights j)
        → ((j : ℕ) → p < j → j < m → IsDone y old j) → ((j i : ℕ) → j < i → i < m → parent_at boxes i < j → IsDone y old j)
        → (j : ℕ) → parent_at boxes p < j → j < m → IsDone y new j
    closed_up old new here same_flags same_heights closed gone j low high = elim (cases_lt j p) [
      | inl before ↦ moved j (λ e. omega (arith, e, before)) (gone j p before lt low)
      | inr from ↦ elim (cases_eq j p) [
        | inl e ↦ subst (IsDone y new) (sym e) here
        | inr ne ↦ moved j ne (closed j (omega (arith, from, ne)) high)
      ]
    ]
      where
        moved : (j : ℕ) → j ≢ p → IsDone y old j → IsDone y new j
        moved j ne d = record { pass = same_flags j ne ∙ d.pass; height = same_heights j ne ∙ d.height }

    gone_up : (old new : Columns) → ((j : ℕ) → j ≢ p → flag_at new.through j ≡ flag_at old.through j) → ((j : ℕ) → j ≢ p → length_at new.heights j ≡ length_at old.heights j)
        → ((j i : ℕ) → j < i → i < m → parent_at boxes i < j → IsDone y old j)
        → (j i : ℕ) → j < i → i < m → parent_at boxes i < j → IsDone y new j
    gone_up old new same_flags same_heights gone j i low high lower =
        let d = gone j i low high lower in
        let ne : j ≢ p = λ e. (let b = inside i (omega (arith, low, e)) high in omega (arith, b, e, lower)) in
        record { pass = same_flags j ne ∙ d.pass; height = same_heights j ne ∙ d.height }

    -- a box is closed that isn't collapsed through
    pub so_far_closed : (now : Columns) (heights : List Length) → flag_at y.runs.through p ≡ false → Wrote length_at now.heights heights p (length_at y.places.heights p)
        → IsSoFar boxes y now (margin_place p m) → IsSoFar boxes y (record now { heights = heights }) (margin_place (parent_at boxes p) m)
    so_far_closed now heights truth wrote was = record {
      passed = was.passed;
      closed = closed_up now (record now { heights = heights }) (record { pass = was.open_yet p (omega arith) inside ∙ sym truth; height = wrote.here }) (λ j ne. refl) wrote.other was.closed was.gone;
      gone = gone_up now (record now { heights = heights }) (λ j ne. refl) wrote.other was.gone;
      marked = record { stands = was.marked.stands; inherits = was.marked.inherits };
      kept = was.kept;
      fresh = was.fresh;
      open_yet = λ j a holds. let u = less in was.open_yet j (omega (arith, a, u)) holds;
    }

    -- a box is closed that is collapsed through
    pub so_far_through : (now new : Columns) (mark : ℤ) → new.first ≡ now.first → 0 < now.first → now.first ≤ p → flag_at y.runs.through p ≡ true → length_at y.places.heights p ≡ pos 0
        → Wrote length_at now.marks new.marks p mark → Wrote length_at now.heights new.heights p (pos 0) → Wrote flag_at now.through new.through p true
        → (has_top (parent_at boxes p) (run_at y.runs.before_tops p) ≡ false → mark ≡ length_at y.places.marks p)
        → IsSoFar boxes y now (margin_place p m) → IsSoFar boxes y new (margin_place (parent_at boxes p) m)
    so_far_through now new mark first_same least waits truth zero_high wrote_mark wrote_height wrote_flag mark_is was = record {
      passed = λ j b code. elim (cases_eq j p) [
        | inl e ↦ rw e truth
        | inr ne ↦ was.passed j b (sym (wrote_flag.other j ne) ∙ code)
      ];
      closed = closed_up now new (record { pass = wrote_flag.here ∙ sym truth; height = wrote_height.here ∙ sym zero_high }) wrote_flag.other wrote_height.other was.closed was.gone;
      gone = gone_up now new wrote_flag.other wrote_height.other was.gone;
      marked = record {
        stands = λ j lt_first code t. let a : j < now.first = omega (arith, lt_first, first_same) in let ne : j ≢ p = λ e. omega (arith, e, a, waits) in
            wrote_mark.other j ne ∙ was.marked.stands j a (sym (wrote_flag.other j ne) ∙ code) t;
        inherits = λ j lt_first code top. let a : j < now.first = omega (arith, lt_first, first_same) in let ne : j ≢ p = λ e. omega (arith, e, a, waits) in
            let u = parent_low now.first m least (omega (arith, waits, lt)) within j a in
            let ne' : parent_at boxes j ≢ p = λ e. omega (arith, e, u, waits) in
            wrote_mark.other j ne ∙ was.marked.inherits j a (sym (wrote_flag.other j ne) ∙ code) top ∙ sym (wrote_mark.other (parent_at boxes j) ne');
      };
      kept = λ j b code top. elim (cases_eq j p) [
        | inl e ↦ ap (length_at new.marks) e ∙ wrote_mark.here ∙ mark_is (rw e at top) ∙ ap (length_at y.places.marks) (sym e)
        | inr ne ↦ wrote_mark.other j ne ∙ was.kept j b (sym (wrote_flag.other j ne) ∙ code) top
      ];
      fresh = λ j a. let ne : j ≢ p = λ e. omega (arith, e, a, lt) in wrote_flag.other j ne ∙ was.fresh j a;
      open_yet = λ j a holds. let u = less in let ne : j ≢ p = λ e. omega (arith, e, a, u) in wrote_flag.other j ne ∙ was.open_yet j (omega (arith, a, u)) holds;
    }
