-- The run that comes to each place of the sequence of margins has the top margins of the boxes from some place on.
use Rattle.std.proofs.Common.{◌≡◌, ◌≢◌, ℕ, ℤ, ◌+◌, ◌<◌, ◌≤◌, ◌==◌, ◌&&◌, ◌||◌, not, nat_lt, Bool, true, false, List, [], ◌∷◌, ◌++◌, length, refl, sym, ap, ◌∙◌, arith, inl, inr, Some, None, subst}
use Rattle.std.proofs.lemmas.Bool.{cases_lt, cases_eq, ne_eqb, eq-eqb}
use Rattle.lay_flow.specs.declared.blocks.flow_box.FlowBox.{FlowBox}
use Rattle.lay_flow.specs.Blocks.Boxes.{parent_at, parents_of}
use Rattle.lay_flow.proofs.BlocksLemmas.BoxTrees.{parent_before}
use Rattle.lay_doc.specs.Tree.{IsTree}
use Rattle.lay_flow.specs.Blocks.Children.{is_child, last_child, next_child, flag_at}
use Rattle.lay_flow.specs.Blocks.MarginRuns.{Runs, HasRuns, Entry, margin, mark, clear, has_top, is_barred, block_at, run_at, parts_tops, to_top, run_before, run_across, joins_bottom, may_join_bottoms, may_collapse_through}
use Rattle.lay_flow.specs.Blocks.Gathered.{Gathered}
use Rattle.lay_flow.proofs.BlocksLemmas.ChildPlaces.{not_child, child_is, last_none, last_same, last_some, next_none, next_same, next_some}
use Rattle.lay_flow.specs.Blocks.MarginPlace.{IsPlace, IsAround, margin_place}
use Rattle.lay_flow.proofs.BlocksLemmas.MarginWalk.{walk_to, inside_up}
use Rattle.lay_flow.proofs.BlocksLemmas.RunsAgree.{none_left}
use Rattle.lay_flow.proofs.BlocksLemmas.RunEntries.{top_there, top_here, top_none, bottom_same}
use Rattle.lay_flow.proofs.BlocksLemmas.RunFacts.{going_same, first_comes, next_comes, goes_in, goes_out, joins_is, lead_goes_on, lead_begins, top_run_is, to_bottom_is, bottom_run_is, passes_is}
use Rattle.lay_flow.proofs.BlocksLemmas.BlockKinds.{joined_passes}
use Rattle.lay_flow.proofs.BlocksLemmas.Truths.{true_false, low_not, low_yes}

pub barred_top : (boxes : List FlowBox) (q k : ℕ) (t : ℤ) (xs : List Entry) → is_barred boxes q (xs ++ mark k ∷ margin t ∷ []) ≡ is_barred boxes q xs
barred_top boxes q k t [] = refl
barred_top boxes q k t (margin v ∷ xs) = refl
barred_top boxes q k t (mark j ∷ xs) = refl
barred_top boxes q k t (clear j ∷ xs) = refl

pub barred_bottom : (boxes : List FlowBox) (q : ℕ) (t : ℤ) (xs : List Entry) → is_barred boxes q (xs ++ margin t ∷ []) ≡ is_barred boxes q xs
barred_bottom boxes q t [] = refl
barred_bottom boxes q t (margin v ∷ xs) = refl
barred_bottom boxes q t (mark j ∷ xs) = refl
barred_bottom boxes q t (clear j ∷ xs) = refl

not_yet : (f m : ℕ) (a b : Bool) → m ≤ f → (nat_lt f m && a && b) ≡ false
not_yet f m a b le = grind (arith, le)

already : (f m : ℕ) (a b : Bool) → f < m → (nat_lt f m && a && b) ≡ (a && b)
already f m a b lt = let t : nat_lt f m ≡ true = grind (arith, lt) in rw t refl

later_same : (f k : ℕ) (a b : Bool) → (f ≡ k → a ≡ false) → f ≤ k → (nat_lt f k && a && b) ≡ (nat_lt f (k + 1) && a && b)
later_same f k a b none le = elim (cases_eq f k) [
  | inl e ↦ (let n = none e in rw n (grind arith))
  | inr ne ↦ already f k a b (omega (arith, le, ne)) ∙ sym (already f (k + 1) a b (omega (arith, le)))
]

module _ (boxes : List FlowBox) (tree : IsTree (parents_of boxes)) (r : Runs) (is : HasRuns boxes r) where
  module _ (k : ℕ) (positive : 0 < k) (within : k < length boxes) where
    pub childless : last_child boxes k (k + 1) ≡ None
    childless = last_none boxes k (k + 1) (λ j lt. not_child boxes k j (λ low e. omega (arith, lt, low)))

    up : parent_at boxes k < k
    up = parent_before boxes tree k positive within

    pub next_here : next_child boxes (parent_at boxes k) k (length boxes) ≡ Some k
    next_here = next_some boxes (parent_at boxes k) k k (length boxes) (omega arith) within (child_is boxes (parent_at boxes k) k up refl) (λ j a b. absurd (omega (arith, a, b)))

    alone : IsAround boxes k (k + 1)
    alone i low high = absurd (omega (arith, low, high))

    pub opened_top : parts_tops boxes k ≡ false → run_before boxes r k (k + 1) ≡ to_top boxes r k
    opened_top plain = first_comes boxes r k (k + 1) childless ∙ rw plain refl

    opened_rise : parts_tops boxes k ≡ false → run_at r.top_runs k ≡ run_across boxes r k (k + 1)
    opened_rise plain = top_run_is boxes r is k positive within ∙ rw plain refl

    -- the run goes on in the box
    pub open_plain : (first : ℕ) → Gathered boxes r first (margin_place (parent_at boxes k) k) → parts_tops boxes k ≡ false → flag_at r.clears k ≡ false → Gathered boxes r first (margin_place k (k + 1))
    open_plain first was plain unclear = record {
      parent = omega arith;
      within = omega (arith, within);
      inside = alone;
      least = was.least;
      most = omega (arith, most);
      own = λ j a b. ap (has_top j) come ∙ elim (cases_lt j k) [
        | inl lt ↦ top_there j k top c (was.own j a lt)
        | inr ge ↦ (let e : j ≡ k = omega (arith, b, ge) in rw e (top_here k top c))
      ];
      older = λ j a. ap (has_top j) come ∙ top_none j k top c (was.older j a) (λ e. omega (arith, a, most, e));
      barred = λ q. ap (is_barred boxes q) come ∙ barred_top boxes q k top c ∙ was.barred q ∙ later_same first k (flag_at r.clears first) (parent_at boxes first == q) (λ e. ap (flag_at r.clears) e ∙ unclear) most;
      leads = λ i j a b lt. elim (cases_lt j k) [
        | inl low ↦ was.leads i j a low lt
        | inr ge ↦ (let e : j ≡ k = omega (arith, b, ge) in ap (λ (j : ℕ). has_top i (run_at r.before_tops j)) e ∙ lead i (omega (arith, lt, e)))
      ];
      unparted = λ j a b. elim (cases_lt j k) [
        | inl low ↦ was.unparted j a low
        | inr ge ↦ (let e : j ≡ k = omega (arith, b, ge) in ap (parts_tops boxes) e ∙ plain)
      ];
      unclear = λ j a b. elim (cases_lt j k) [
        | inl low ↦ was.unclear j a low
        | inr ge ↦ (let e : j ≡ k = omega (arith, b, ge) in ap (flag_at r.clears) e ∙ unclear)
      ];
      closed = λ j a low high. absurd (omega (arith, low, high));
      gone = λ j i a low high lower. elim (cases_lt i k) [
        | inl lt ↦ was.gone j i a low lt lower
        | inr ge ↦ (let e : i ≡ k = omega (arith, high, ge) in was.closed j a (rw e at lower) (omega (arith, low, e)))
      ];
      rise = λ j a b holds. elim (cases_lt j k) [
        | inl lt ↦ was.rise j a (holds k lt (omega arith)) (λ i low high. holds i low (omega (arith, high)))
            ∙ goes_in boxes r (parent_at boxes k) k k next_here unclear ∙ opened_rise plain
        | inr ge ↦ (let e : j ≡ k = omega (arith, b, ge) in ap (run_at r.top_runs) e ∙ opened_rise plain)
      ];
    }
      where
        most : first ≤ k
        most = was.most

        top : ℤ
        top = (block_at boxes k).margin_top.0

        c : List Entry
        c = run_before boxes r (parent_at boxes k) k

        lead_is : run_at r.before_tops k ≡ run_before boxes r (parent_at boxes k) k
        lead_is = lead_goes_on boxes r is k positive within unclear

        come : run_before boxes r k (k + 1) ≡ run_before boxes r (parent_at boxes k) k ++ mark k ∷ margin (block_at boxes k).margin_top.0 ∷ []
        come = opened_top plain ∙ ap (λ (xs : List Entry). xs ++ mark k ∷ margin (block_at boxes k).margin_top.0 ∷ []) lead_is

        lead : (i : ℕ) → i < k → has_top i (run_at r.before_tops k) ≡ not (nat_lt i first)
        lead i lt = ap (has_top i) lead_is ∙ elim (cases_lt i first) [
          | inl low ↦ was.older i low ∙ sym (low_yes i first low)
          | inr high ↦ was.own i high lt ∙ sym (low_not i first high)
        ]

    -- its clearance begins a run
    pub open_cleared : parts_tops boxes k ≡ false → flag_at r.clears k ≡ true → Gathered boxes r k (margin_place k (k + 1))
    open_cleared plain cleared = record {
      parent = omega arith;
      within = omega (arith, within);
      inside = alone;
      least = positive;
      most = omega arith;
      own = λ j a b. let e : j ≡ k = omega (arith, a, b) in ap (has_top j) come ∙ (let t : (k == j) ≡ true = eq-eqb k j (sym e) in rw t refl);
      older = λ j a. ap (has_top j) come ∙ other j (λ e. omega (arith, a, e));
      barred = λ q. ap (is_barred boxes q) come ∙ sym (already k (k + 1) (flag_at r.clears k) (parent_at boxes k == q) (omega arith) ∙ rw cleared refl);
      leads = λ i j a b lt. let e : j ≡ k = omega (arith, a, b) in ap (λ (j : ℕ). has_top i (run_at r.before_tops j)) e ∙ ap (has_top i) lead_is ∙ sym (low_yes i k (omega (arith, lt, e)));
      unparted = λ j a b. let e : j ≡ k = omega (arith, a, b) in ap (parts_tops boxes) e ∙ plain;
      unclear = λ j a b. absurd (omega (arith, a, b));
      closed = λ j a low high. absurd (omega (arith, low, high));
      gone = λ j i a low high lower. absurd (omega (arith, a, low, high));
      rise = λ j a b holds. let e : j ≡ k = omega (arith, a, b) in ap (run_at r.top_runs) e ∙ opened_rise plain;
    }
      where
        lead_is : run_at r.before_tops k ≡ clear k ∷ []
        lead_is = lead_begins boxes r is k positive within cleared

        come : run_before boxes r k (k + 1) ≡ clear k ∷ mark k ∷ margin (block_at boxes k).margin_top.0 ∷ []
        come = opened_top plain ∙ ap (λ (xs : List Entry). xs ++ mark k ∷ margin (block_at boxes k).margin_top.0 ∷ []) lead_is

        other : (j : ℕ) → k ≢ j → has_top j (clear k ∷ mark k ∷ margin (block_at boxes k).margin_top.0 ∷ []) ≡ false
        other j ne = let f : (k == j) ≡ false = ne_eqb k j ne in rw f refl

    -- a border or a padding parts its top margin from what is in it
    pub open_parting : parts_tops boxes k ≡ true → Gathered boxes r (k + 1) (margin_place k (k + 1))
    open_parting parts = record {
      parent = omega arith;
      within = omega (arith, within);
      inside = alone;
      least = omega arith;
      most = omega arith;
      own = λ j a b. absurd (omega (arith, a, b));
      older = λ j a. ap (has_top j) come;
      barred = λ q. ap (is_barred boxes q) come ∙ sym (not_yet (k + 1) (k + 1) (flag_at r.clears (k + 1)) (parent_at boxes (k + 1) == q) (omega arith));
      leads = λ i j a b lt. absurd (omega (arith, a, b));
      unparted = λ j a b. absurd (omega (arith, a, b));
      unclear = λ j a b. absurd (omega (arith, a, b));
      closed = λ j a low high. absurd (omega (arith, a, high));
      gone = λ j i a low high lower. absurd (omega (arith, a, low, high));
      rise = λ j a b holds. absurd (omega (arith, a, b));
    }
      where
        come : run_before boxes r k (k + 1) ≡ []
        come = first_comes boxes r k (k + 1) childless ∙ rw parts refl

  module _ (p m : ℕ) (positive : 0 < p) (lt : p < m) (within : m ≤ length boxes) (ends : m < length boxes → parent_at boxes m < p) (inside : IsAround boxes p m) where
    inner : p < length boxes
    inner = omega (arith, lt, within)

    up_less : parent_at boxes p < p
    up_less = parent_before boxes tree p positive inner

    between : (k : ℕ) → p < k → k < m → is_child boxes (parent_at boxes p) k ≡ false
    between k low high = not_child boxes (parent_at boxes p) k (λ a e. let b = inside k low high in let u = up_less in omega (arith, u, e, b))

    pub last_over : last_child boxes p (length boxes) ≡ last_child boxes p m
    last_over = last_same boxes p m (length boxes) within (none_left boxes tree p m lt ends)

    pub comes_here : run_before boxes r p (length boxes) ≡ run_before boxes r p m
    comes_here = let e = last_over in rw e refl

    pub last_up : last_child boxes (parent_at boxes p) m ≡ Some p
    last_up = last_some boxes (parent_at boxes p) p m lt (child_is boxes (parent_at boxes p) p up_less refl) between

    pub comes_up : run_before boxes r (parent_at boxes p) m ≡ run_at r.to_bottoms p
    comes_up = next_comes boxes r (parent_at boxes p) m p last_up

    pub childless_on : next_child boxes p m (length boxes) ≡ None
    childless_on = next_none boxes p m (length boxes) (none_left boxes tree p m lt ends)

    last_after : last_child boxes (parent_at boxes p) (p + 1) ≡ Some p
    last_after = last_some boxes (parent_at boxes p) p (p + 1) (omega arith) (child_is boxes (parent_at boxes p) p up_less refl) (λ k a b. absurd (omega (arith, a, b)))

    pub bottom_run_up : run_at r.bottom_runs p ≡ run_across boxes r (parent_at boxes p) m
    bottom_run_up = bottom_run_is boxes r is p positive inner
        ∙ (let e = next_same boxes (parent_at boxes p) (p + 1) m (length boxes) (omega (arith, lt)) (λ k a b. between k (omega (arith, a)) b) in
        going_same boxes r (parent_at boxes p) (p + 1) m e (next_comes boxes r (parent_at boxes p) (p + 1) p last_after ∙ sym comes_up))

    pub passes_here : (first : ℕ) → Gathered boxes r first (margin_place p m) → flag_at r.through p ≡ (may_collapse_through (block_at boxes p) && not (nat_lt p first))
    passes_here first was = passes_is boxes r is p positive inner ∙ ap (λ (b : Bool). may_collapse_through (block_at boxes p) && b) (ap (has_top p) comes_here ∙ elim (cases_lt p first) [
      | inl low ↦ was.older p low ∙ sym (low_yes p first low)
      | inr high ↦ was.own p high lt ∙ sym (low_not p first high)
    ])

    -- a box that joins the run of its top margin to its bottom margin is collapsed through
    pub joined_through : (first : ℕ) → Gathered boxes r first (margin_place p m) → joins_bottom boxes r p ≡ true → first ≤ p → flag_at r.through p ≡ true
    joined_through first was joined le = by_through (flag_at r.through p) refl
      where
        by_through : (b : Bool) → flag_at r.through p ≡ b → flag_at r.through p ≡ true
        by_through true e = e
        by_through false e =
            let may : may_join_bottoms (block_at boxes p) ≡ true = left_of (flag_at r.through p) (may_join_bottoms (block_at boxes p)) _ e (sym (joins_is boxes r p positive) ∙ joined) in
            let pass = joined_passes boxes p (was.unparted p le lt) may in
            passes_here first was ∙ (let n = low_not p first le in rw (pass, n) refl)
          where
            left_of : (a b c : Bool) → a ≡ false → (a || (b && c)) ≡ true → b ≡ true
            left_of a b c f e = grind (arith, f, e)

    -- its bottom margin adjoins the margin before it
    pub close_joined : (first : ℕ) → Gathered boxes r first (margin_place p m) → joins_bottom boxes r p ≡ true → Gathered boxes r first (margin_place (parent_at boxes p) m)
    close_joined first was joined = record {
      parent = omega (arith, less, lt);
      within = within;
      inside = inside_up boxes tree p m inner less inside;
      least = was.least;
      most = was.most;
      own = λ j a b. ap (has_top j) come ∙ bottom_same j bottom c ∙ was.own j a b;
      older = λ j a. ap (has_top j) come ∙ bottom_same j bottom c ∙ was.older j a;
      barred = λ q. ap (is_barred boxes q) come ∙ barred_bottom boxes q bottom c ∙ was.barred q;
      leads = was.leads;
      unparted = was.unparted;
      unclear = was.unclear;
      closed = λ j a low high. elim (cases_lt j p) [
        | inl before ↦ was.gone j p a before lt low
        | inr from ↦ elim (cases_eq j p) [
          | inl e ↦ subst (λ (j : ℕ). flag_at r.through j ≡ true) (sym e) (joined_through first was joined (omega (arith, a, e)))
          | inr ne ↦ was.closed j a (omega (arith, from, ne)) high
        ]
      ];
      gone = was.gone;
      rise = λ j a b holds. was.rise j a (omega (arith, b, less)) holds ∙ goes_out boxes r p m childless_on joined ∙ bottom_run_up;
    }
      where
        less : parent_at boxes p < p
        less = up_less

        bottom : ℤ
        bottom = (block_at boxes p).margin_bottom.0

        c : List Entry
        c = run_before boxes r p m

        come : run_before boxes r (parent_at boxes p) m ≡ run_before boxes r p m ++ margin (block_at boxes p).margin_bottom.0 ∷ []
        come = comes_up ∙ to_bottom_is boxes r is p positive inner ∙ (let h = comes_here in rw (joined, h) refl)

    -- its bottom margin begins a run
    pub close_parted : joins_bottom boxes r p ≡ false → Gathered boxes r m (margin_place (parent_at boxes p) m)
    close_parted parted = record {
      parent = omega (arith, less, lt);
      within = within;
      inside = inside_up boxes tree p m inner less inside;
      least = omega (arith, lt);
      most = omega arith;
      own = λ j a b. absurd (omega (arith, a, b));
      older = λ j a. ap (has_top j) come;
      barred = λ q. ap (is_barred boxes q) come ∙ sym (not_yet m m (flag_at r.clears m) (parent_at boxes m == q) (omega arith));
      leads = λ i j a b lt. absurd (omega (arith, a, b));
      unparted = λ j a b. absurd (omega (arith, a, b));
      unclear = λ j a b. absurd (omega (arith, a, b));
      closed = λ j a low high. absurd (omega (arith, a, high));
      gone = λ j i a low high lower. absurd (omega (arith, a, low, high));
      rise = λ j a b holds. absurd (omega (arith, a, b, less, lt));
    }
      where
        less : parent_at boxes p < p
        less = up_less

        come : run_before boxes r (parent_at boxes p) m ≡ margin (block_at boxes p).margin_bottom.0 ∷ []
        come = comes_up ∙ to_bottom_is boxes r is p positive inner ∙ rw parted refl

  -- before the first child of the context's own box
  pub begins : 0 < length boxes → Gathered boxes r 1 (margin_place 0 1)
  begins some = record {
    parent = omega arith;
    within = omega (arith, some);
    inside = λ i low high. absurd (omega (arith, low, high));
    least = omega arith;
    most = omega arith;
    own = λ j a b. absurd (omega (arith, a, b));
    older = λ j a. ap (has_top j) come;
    barred = λ q. ap (is_barred boxes q) come ∙ sym (not_yet 1 1 (flag_at r.clears 1) (parent_at boxes 1 == q) (omega arith));
    leads = λ i j a b lt. absurd (omega (arith, a, b));
    unparted = λ j a b. absurd (omega (arith, a, b));
    unclear = λ j a b. absurd (omega (arith, a, b));
    closed = λ j a low high. absurd (omega (arith, a, high));
    gone = λ j i a low high lower. absurd (omega (arith, a, low, high));
    rise = λ j a b holds. absurd (omega (arith, a, b));
  }
    where
      come : run_before boxes r 0 1 ≡ []
      come = first_comes boxes r 0 1 (last_none boxes 0 1 (λ j lt. not_child boxes 0 j (λ low e. omega (arith, lt, low)))) ∙ refl

  pub record SomeGathered (p m : ℕ) : Type 0 where
    pub first : ℕ
    pub is_gathered : Gathered boxes r first (margin_place p m)

  opens_gathered : (k : ℕ) → 0 < k → k < length boxes → SomeGathered (parent_at boxes k) k → SomeGathered k (k + 1)
  opens_gathered k positive within was = go (parts_tops boxes k) refl (flag_at r.clears k) refl
    where
      go : (b : Bool) → parts_tops boxes k ≡ b → (c : Bool) → flag_at r.clears k ≡ c → SomeGathered k (k + 1)
      go true parts c e = record { first = k + 1; is_gathered = open_parting k positive within parts }
      go false plain true cleared = record { first = k; is_gathered = open_cleared k positive within plain cleared }
      go false plain false unclear = record { first = was.first; is_gathered = open_plain k positive within was.first was.is_gathered plain unclear }

  closes_gathered : (p m : ℕ) → 0 < p → p < m → m ≤ length boxes → (m < length boxes → parent_at boxes m < p) → IsAround boxes p m → SomeGathered p m → SomeGathered (parent_at boxes p) m
  closes_gathered p m positive lt within ends inside was = go (joins_bottom boxes r p) refl
    where
      go : (b : Bool) → joins_bottom boxes r p ≡ b → SomeGathered (parent_at boxes p) m
      go true joined = record { first = was.first; is_gathered = close_joined p m positive lt within ends inside was.first was.is_gathered joined }
      go false parted = record { first = m; is_gathered = close_parted p m positive lt within ends inside parted }

  pub gathers : (p m : ℕ) → IsPlace boxes p m → SomeGathered p m
  gathers p m at = let a = at.parent in let b = at.within in
      walk_to boxes tree SomeGathered closes_gathered opens_gathered (record { first = 1; is_gathered = begins (omega (arith, a, b)) }) p m at

-- the same boxes are in the same run
pub one_first : (boxes : List FlowBox) (r : Runs) (f g p m : ℕ) → Gathered boxes r f (margin_place p m) → g ≤ m → ((j : ℕ) → j < m → g ≤ j → has_top j (run_before boxes r p m) ≡ true) → ((j : ℕ) → j < m → j < g → has_top j (run_before boxes r p m) ≡ false) → f ≡ g
one_first boxes r f g p m is most own older = elim (cases_lt f g) [
  | inl low ↦ absurd (true_false (has_top f (run_before boxes r p m)) (is.own f (omega arith) (omega (arith, low, most))) (older f (omega (arith, low, most)) low))
  | inr high ↦ elim (cases_eq f g) [
    | inl e ↦ e
    | inr ne ↦ (let most_f = is.most in absurd (true_false (has_top g (run_before boxes r p m)) (own g (omega (arith, high, ne, most_f)) (omega arith)) (is.older g (omega (arith, high, ne)))))
  ]
]
