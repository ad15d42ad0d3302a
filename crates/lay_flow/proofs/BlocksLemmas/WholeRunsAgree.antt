-- The whole runs, from the last place of the sequence of margins back to the first.
use Rattle.std.proofs.Common.{◌≡◌, ℕ, zero, suc, ◌+◌, ◌<◌, ◌≤◌, Bool, true, false, List, length, refl, sym, ap, ◌∙◌, arith, inl, inr, Option, Some, None, subst}
use Rattle.std.proofs.lemmas.Bool.{cases_lt, cases_eq}
use Rattle.lay_flow.specs.declared.blocks.flow_box.FlowBox.{FlowBox}
use Rattle.lay_flow.specs.Blocks.Boxes.{parent_at, parents_of}
use Rattle.lay_flow.proofs.BlocksLemmas.BoxTrees.{parent_before}
use Rattle.lay_doc.specs.Tree.{IsTree}
use Rattle.lay_flow.specs.Blocks.Children.{is_child, last_child, next_child, flag_at}
use Rattle.lay_flow.specs.Blocks.MarginRuns.{Runs, run_at, parts_tops, run_before, run_across, joins_bottom, top_run_of}
use Rattle.lay_flow.proofs.BlocksLemmas.ChildPlaces.{not_child, child_is, last_some, next_same, next_none, next_some}
use Rattle.lay_flow.proofs.BlocksLemmas.MarginWalk.{walk}
use Rattle.lay_flow.proofs.BlocksLemmas.RunsAgree.{none_left, AreNext, Same, before_same, settles}
use Rattle.lay_flow.specs.Blocks.MarginPlace.{IsAround, MarginPlace, margin_place}

abbrev pub some_of : Option ℕ → ℕ
some_of None = 0
some_of (Some k) = k

-- the columns of whole runs agree from a place on
pub record Later (boxes : List FlowBox) (r x : Runs) (at : MarginPlace) : Type 0 where
  pub go : run_across boxes r at.inner at.next ≡ run_across boxes x at.inner at.next
  pub rise : (j : ℕ) → at.next ≤ j → j < length boxes → run_at r.top_runs j ≡ run_at x.top_runs j
  pub fall : (j : ℕ) → at.next ≤ j → j < length boxes → run_at r.bottom_runs j ≡ run_at x.bottom_runs j
  pub open_fall : (j : ℕ) → 0 < j → j ≤ at.inner → IsAround boxes j at.next → run_at r.bottom_runs j ≡ run_at x.bottom_runs j

-- all columns agree
pub record AllSame (boxes : List FlowBox) (r x : Runs) : Type 0 where
  pub through : (j : ℕ) → j < length boxes → flag_at r.through j ≡ flag_at x.through j
  pub before_top : (j : ℕ) → j < length boxes → run_at r.before_tops j ≡ run_at x.before_tops j
  pub to_bottom : (j : ℕ) → j < length boxes → run_at r.to_bottoms j ≡ run_at x.to_bottoms j
  pub top_run : (j : ℕ) → j < length boxes → run_at r.top_runs j ≡ run_at x.top_runs j
  pub bottom_run : (j : ℕ) → j < length boxes → run_at r.bottom_runs j ≡ run_at x.bottom_runs j

across_same : (boxes : List FlowBox) (z : Runs) (q l n : ℕ) → next_child boxes q l (length boxes) ≡ next_child boxes q n (length boxes) → last_child boxes q l ≡ last_child boxes q n → run_across boxes z q l ≡ run_across boxes z q n
across_same boxes z q l n e f = by_next (next_child boxes q n (length boxes)) refl
  where
    come : run_before boxes z q l ≡ run_before boxes z q n
    come = by_last (last_child boxes q n) refl
      where
        by_last : (o : Option ℕ) → last_child boxes q n ≡ o → run_before boxes z q l ≡ run_before boxes z q n
        by_last None g = rw (f, g) refl
        by_last (Some c) g = rw (f, g) refl

    by_next : (o : Option ℕ) → next_child boxes q n (length boxes) ≡ o → run_across boxes z q l ≡ run_across boxes z q n
    by_next None g = let c = come in rw (e, g, c) refl
    by_next (Some d) g = let c = come in rw (e, g, c) refl

module _ (boxes : List FlowBox) (tree : IsTree (parents_of boxes)) (a b : ℕ → Runs)
    (a_next : (i : ℕ) → AreNext boxes (a i) (a (suc i))) (b_next : (i : ℕ) → AreNext boxes (b i) (b (suc i)))
    (clears : (i k : ℕ) → flag_at (a i).clears k ≡ flag_at (b i).clears k) (some : 0 < length boxes) where
  -- the time from which the columns that look back agree
  abbrev pub settled_at : ℕ
  settled_at = (settles boxes tree a b a_next b_next clears some).after

  same_at : (i : ℕ) → settled_at ≤ i → Same boxes (a i) (b i) (margin_place 0 (length boxes))
  same_at = (settles boxes tree a b a_next b_next clears some).same

  through_alike : (i : ℕ) → settled_at < i → (j : ℕ) → j < length boxes → flag_at (a i).through j ≡ flag_at (b i).through j
  through_alike zero le j within = absurd (omega (arith, le))
  through_alike (suc i) le zero within = (a_next i).through 0 within ∙ sym ((b_next i).through 0 within)
  through_alike (suc i) le (suc j) within = ((same_at (suc i) (omega (arith, le))).closed (suc j) (omega arith) within).pass

  tail_alike : (i : ℕ) → settled_at < i → (j : ℕ) → j < length boxes → run_at (a i).to_bottoms j ≡ run_at (b i).to_bottoms j
  tail_alike zero le j within = absurd (omega (arith, le))
  tail_alike (suc i) le zero within = (a_next i).to_bottom 0 within ∙ sym ((b_next i).to_bottom 0 within)
  tail_alike (suc i) le (suc j) within = ((same_at (suc i) (omega (arith, le))).closed (suc j) (omega arith) within).tail

  before_all : (i : ℕ) → settled_at ≤ i → (p m : ℕ) → p < length boxes → m ≤ length boxes → run_before boxes (a i) p m ≡ run_before boxes (b i) p m
  before_all i le p m less within =
      let s = same_at i le in
      before_same boxes (a i) (b i) p m (s.lead p less) (λ s' low high. (s.closed s' (omega (arith, low)) (omega (arith, high, within))).tail)

  joined_alike : (i : ℕ) → settled_at ≤ i → (p : ℕ) → p < length boxes → joins_bottom boxes (a i) p ≡ joins_bottom boxes (b i) p
  joined_alike i le zero less = refl
  joined_alike i le (suc p) less =
      let e = ((same_at i le).closed (suc p) (omega arith) less).pass in
      let f = before_all i le (suc p) (length boxes) less (omega arith) in rw (e, f) refl

  across_alike : (i : ℕ) → settled_at ≤ i → (p m : ℕ) → p < length boxes → m ≤ length boxes
      → (next_child boxes p m (length boxes) ≡ None → joins_bottom boxes (b i) p ≡ true → run_at (a i).bottom_runs p ≡ run_at (b i).bottom_runs p)
      → ((c : ℕ) → next_child boxes p m (length boxes) ≡ Some c → run_at (a i).top_runs c ≡ run_at (b i).top_runs c)
      → run_across boxes (a i) p m ≡ run_across boxes (b i) p m
  across_alike i le p m less within fall rise = by_next (next_child boxes p m (length boxes)) refl
    where
      come : run_before boxes (a i) p m ≡ run_before boxes (b i) p m
      come = before_all i le p m less within

      joined : joins_bottom boxes (a i) p ≡ joins_bottom boxes (b i) p
      joined = joined_alike i le p less

      by_joined : (c : Bool) → joins_bottom boxes (b i) p ≡ c → next_child boxes p m (length boxes) ≡ None → run_across boxes (a i) p m ≡ run_across boxes (b i) p m
      by_joined true t e = let f = fall e t in let j = joined in rw (e, j, t, f) refl
      by_joined false t e = let f = come in let j = joined in rw (e, j, t, f) refl

      by_next : (o : Option ℕ) → next_child boxes p m (length boxes) ≡ o → run_across boxes (a i) p m ≡ run_across boxes (b i) p m
      by_next None e = by_joined (joins_bottom boxes (b i) p) refl e
      by_next (Some c) e = let k = clears i c in let f = rise c e in let g = come in rw (e, k, f, g) refl

  -- from a time on they agree from there on
  pub record Ends (p m : ℕ) : Type 0 where
    pub after : ℕ
    pub least : settled_at ≤ after
    pub later : (i : ℕ) → after ≤ i → Later boxes (a i) (b i) (margin_place p m)

  abbrev Back : ℕ → ℕ → Type 0
  Back p m = Ends p m → Ends 0 1

  -- the bottom margin of a box, and what follows
  fall_alike : (p m : ℕ) → 0 < p → p < m → m ≤ length boxes → (m < length boxes → parent_at boxes m < p) → ((i : ℕ) → p < i → i < m → p ≤ parent_at boxes i)
      → (i : ℕ) → run_across boxes (a i) (parent_at boxes p) m ≡ run_across boxes (b i) (parent_at boxes p) m → run_at (a (suc i)).bottom_runs p ≡ run_at (b (suc i)).bottom_runs p
  fall_alike zero m positive lt within ends inside i go = absurd (omega (arith, positive))
  fall_alike (suc p) m positive lt within ends inside i go =
      let k : ℕ = suc p in
      let inner : k < length boxes = omega (arith, lt, within) in
      let up = parent_before boxes tree k positive inner in
      let between : (i : ℕ) → k < i → i < m → is_child boxes (parent_at boxes k) i ≡ false = λ i low high. not_child boxes (parent_at boxes k) i (λ l e. let c = inside i low high in omega (arith, up, e, c)) in
      let mine = child_is boxes (parent_at boxes k) k up refl in
      let next = next_same boxes (parent_at boxes k) (k + 1) m (length boxes) (omega (arith, lt)) (λ i low high. between i (omega (arith, low)) high) in
      let last = last_some boxes (parent_at boxes k) k (k + 1) (omega arith) mine (λ i low high. absurd (omega (arith, low, high))) in
      let last' = last_some boxes (parent_at boxes k) k m lt mine between in
      (a_next i).bottom_run k inner ∙ across_same boxes (a i) (parent_at boxes k) (k + 1) m next (last ∙ sym last') ∙ go ∙ sym (across_same boxes (b i) (parent_at boxes k) (k + 1) m next (last ∙ sym last')) ∙ sym ((b_next i).bottom_run k inner)

  back_close : (p m : ℕ) → 0 < p → p < m → m ≤ length boxes → (m < length boxes → parent_at boxes m < p) → IsAround boxes p m → Back p m → Back (parent_at boxes p) m
  back_close p m positive lt within ends inside was e = was (record { after = suc e.after; least = let l = e.least in omega (arith, l); later = later e })
    where
      inner : p < length boxes
      inner = omega (arith, lt, within)

      later : (e : Ends (parent_at boxes p) m) → (i : ℕ) → suc e.after ≤ i → Later boxes (a i) (b i) (margin_place p m)
      later e zero le = absurd (omega (arith, le))
      later e (suc i) le =
          let before = e.later i (omega (arith, le)) in
          let now = e.later (suc i) (omega (arith, le)) in
          let l = e.least in
          let mine = fall_alike p m positive lt within ends inside i before.go in
          let none = next_none boxes p m (length boxes) (none_left boxes tree p m lt ends) in
          record {
            go = across_alike (suc i) (omega (arith, l, le)) p m inner within (λ e t. mine) (λ c e. absurd (grind (arith, e, none)));
            rise = now.rise;
            fall = now.fall;
            open_fall = λ j low high holds. elim (cases_lt j p) [
              | inl less ↦ now.open_fall j low (holds p less lt) holds
              | inr ge ↦ (let e : j ≡ p = omega (arith, high, ge) in subst (λ (j : ℕ). run_at (a (suc i)).bottom_runs j ≡ run_at (b (suc i)).bottom_runs j) (sym e) mine)
            ];
          }

  -- the top margin of a box, and what follows
  rise_alike : (k : ℕ) → 0 < k → k < length boxes → (i : ℕ) → settled_at ≤ i → run_across boxes (a i) k (k + 1) ≡ run_across boxes (b i) k (k + 1) → run_at (a (suc i)).top_runs k ≡ run_at (b (suc i)).top_runs k
  rise_alike zero positive within i le go = absurd (omega (arith, positive))
  rise_alike (suc k) positive within i le go = (a_next i).top_run (suc k) within ∙ by_wall (parts_tops boxes (suc k)) refl ((same_at i le).lead (suc k) within) ∙ sym ((b_next i).top_run (suc k) within)
    where
      by_wall : (c : Bool) → parts_tops boxes (suc k) ≡ c → run_at (a i).before_tops (suc k) ≡ run_at (b i).before_tops (suc k) → top_run_of boxes (a i) (suc k) ≡ top_run_of boxes (b i) (suc k)
      by_wall true t lead = rw (t, lead) refl
      by_wall false t lead = rw t go

  back_open : (k : ℕ) → 0 < k → k < length boxes → Back (parent_at boxes k) k → Back k (k + 1)
  back_open k positive within was e = was (record { after = suc e.after; least = let l = e.least in omega (arith, l); later = later e })
    where
      up : parent_at boxes k < k
      up = parent_before boxes tree k positive within

      later : (e : Ends k (k + 1)) → (i : ℕ) → suc e.after ≤ i → Later boxes (a i) (b i) (margin_place (parent_at boxes k) k)
      later e zero le = absurd (omega (arith, le))
      later e (suc i) le =
          let before = e.later i (omega (arith, le)) in
          let now = e.later (suc i) (omega (arith, le)) in
          let l = e.least in
          let u = up in
          let mine = rise_alike k positive within i (omega (arith, l, le)) before.go in
          let next = next_some boxes (parent_at boxes k) k k (length boxes) (omega arith) within (child_is boxes (parent_at boxes k) k up refl) (λ i low high. absurd (omega (arith, low, high))) in
          record {
            go = across_alike (suc i) (omega (arith, l, le)) (parent_at boxes k) k (omega (arith, u, within)) (omega (arith, within))
                (λ e t. absurd (grind (arith, e, next)))
                (λ c e. let f : Some k ≡ Some c = sym next ∙ e in let g : k ≡ c = ap some_of f in subst (λ (c : ℕ). run_at (a (suc i)).top_runs c ≡ run_at (b (suc i)).top_runs c) g mine);
            rise = λ j low high. elim (cases_eq j k) [
              | inl e ↦ subst (λ (j : ℕ). run_at (a (suc i)).top_runs j ≡ run_at (b (suc i)).top_runs j) (sym e) mine
              | inr ne ↦ now.rise j (omega (arith, low, ne)) high
            ];
            fall = λ j low high. elim (cases_eq j k) [
              | inl e ↦ subst (λ (j : ℕ). run_at (a (suc i)).bottom_runs j ≡ run_at (b (suc i)).bottom_runs j) (sym e) (now.open_fall k positive (omega arith) (λ i c d. absurd (omega (arith, c, d))))
              | inr ne ↦ now.fall j (omega (arith, low, ne)) high
            ];
            open_fall = λ j low high holds. now.open_fall j low (omega (arith, high, u)) (λ i c d. elim (cases_lt i k) [
              | inl less ↦ holds i c less
              | inr ge ↦ (let e : i ≡ k = omega (arith, d, ge) in subst (λ (i : ℕ). j ≤ parent_at boxes i) (sym e) high)
            ]);
          }

  pub ends : Ends 0 1
  ends =
      walk boxes tree Back back_close back_open (λ l. l) some (record {
        after = settled_at;
        least = omega arith;
        later = λ i le. record {
          go = across_alike i le 0 (length boxes) some (omega arith) (λ e t. absurd (grind (arith, t))) (λ c e. let n = next_none boxes 0 (length boxes) (length boxes) (λ k low high. absurd (omega (arith, low, high))) in absurd (grind (arith, e, n)));
          rise = λ j low high. absurd (omega (arith, low, high));
          fall = λ j low high. absurd (omega (arith, low, high));
          open_fall = λ j low high holds. absurd (omega (arith, low, high));
        };
      })

  top_alike : (i : ℕ) → ends.after < i → (j : ℕ) → j < length boxes → run_at (a i).top_runs j ≡ run_at (b i).top_runs j
  top_alike zero le j within = absurd (omega (arith, le))
  top_alike (suc i) le zero within = (a_next i).top_run 0 within ∙ sym ((b_next i).top_run 0 within)
  top_alike (suc i) le (suc j) within = (ends.later (suc i) (omega (arith, le))).rise (suc j) (omega arith) within

  bottom_alike : (i : ℕ) → ends.after < i → (j : ℕ) → j < length boxes → run_at (a i).bottom_runs j ≡ run_at (b i).bottom_runs j
  bottom_alike zero le j within = absurd (omega (arith, le))
  bottom_alike (suc i) le zero within = (a_next i).bottom_run 0 within ∙ sym ((b_next i).bottom_run 0 within)
  bottom_alike (suc i) le (suc j) within = (ends.later (suc i) (omega (arith, le))).fall (suc j) (omega arith) within

  -- the time from which all agree
  abbrev pub agree_at : ℕ
  agree_at = suc ends.after

  pub all_same : (i : ℕ) → agree_at ≤ i → AllSame boxes (a i) (b i)
  all_same i le = let l = ends.least in record {
    through = through_alike i (omega (arith, l, le));
    before_top = λ j within. (same_at i (omega (arith, l, le))).lead j within;
    to_bottom = tail_alike i (omega (arith, l, le));
    top_run = top_alike i (omega (arith, le));
    bottom_run = bottom_alike i (omega (arith, le));
  }
