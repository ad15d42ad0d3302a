-- A look ahead reads margins in which the box stands as high as one that is open yet.
use Rattle.std.proofs.Common.{◌≡◌, ℕ, ◌+◌, ◌<◌, ◌≤◌, ◌&&◌, Bool, true, false, ℤ, ◌+ℤ◌, List, [], ◌∷◌, ◌++◌, length, refl, sym, ap, ◌∙◌, arith, inl, inr, subst}
use Rattle.std.proofs.lemmas.Bool.{cases_lt, cases_eq}
use Rattle.lay_flow.specs.declared.blocks.flow_box.FlowBox.{FlowBox}
use Rattle.lay_flow.specs.Blocks.Boxes.{parent_at, parents_of}
use Rattle.lay_flow.proofs.BlocksLemmas.BoxTrees.{parent_before, parents_together}
use Rattle.lay_doc.specs.Tree.{IsTree}
use Rattle.lay_margins.specs.StrutValue.{StrutValue}
use Rattle.lay_margins.specs.Collapse.{Holds, collapse}
use Rattle.lay_flow.specs.Blocks.Lengths.{length_at}
use Rattle.lay_flow.specs.Blocks.Children.{flag_at}
use Rattle.lay_flow.specs.Blocks.MarginRuns.{Entry, margin, mark, margins, has_top, block_at, run_at, parts_tops, to_top, run_before, joins_bottom, may_collapse_through}
use Rattle.lay_flow.specs.Blocks.BlockLayout.{BlockLayout}
use Rattle.lay_flow.specs.Blocks.BlockPositions.{IsBlockLayout, start_before}
use Rattle.lay_flow.specs.Blocks.Gathered.{Gathered}
use Rattle.lay_flow.specs.Blocks.MarginPlace.{IsPlace, IsAround, margin_place}
use Rattle.lay_flow.specs.Pass.LookAhead.{ComesTo, IsOutermost, IsOutset, ReadsMargins, ReadsAll, reading}
use Rattle.lay_flow.specs.declared.hypothetical_edge.Outset.{Outset}
use Rattle.lay_flow.proofs.BlocksLemmas.Truths.{true_false, true_or, low_not, low_yes}
use Rattle.lay_flow.proofs.BlocksLemmas.RunEntries.{margins-append, top_there, top_here, bottom_same}
use Rattle.lay_flow.proofs.BlocksLemmas.RunFacts.{goes_in, ends_inside, joins_is, lead_goes_on, top_run_is, to_bottom_is, parting_stands}
use Rattle.lay_flow.proofs.BlocksLemmas.LayoutFacts.{mark_standing, mark_inherits, mark_through, start_flows}
use Rattle.lay_flow.proofs.BlocksLemmas.GatheredRuns.{gathers, one_first, next_here, joined_through, comes_here, comes_up, childless_on, passes_here, opened_top}
use Rattle.lay_flow.proofs.BlocksLemmas.CollapsedThrough.{through_inside, one_start}
use Rattle.lay_flow.proofs.BlocksLemmas.MarginWalk.{place_before}

sum_same : (a b : ℤ) (xs zs : List Entry) → a ≡ b → xs ≡ zs → (a +ℤ collapse (margins xs)) ≡ (b +ℤ collapse (margins zs))
sum_same a b xs zs e f = rw (e, f) refl

module _ (boxes : List FlowBox) (tree : IsTree (parents_of boxes)) (w : BlockLayout) (is : IsBlockLayout boxes w)
    (from : Outset) (out : IsOutset boxes from) (comes : ComesTo boxes w from) where
  abbrev first : ℕ
  first = from.first

  abbrev k : ℕ
  k = from.k

  abbrev outermost : ℕ
  outermost = from.outermost

  abbrev outer : IsOutermost boxes from.first from.k from.outermost
  outer = out.is_outermost

  positive : 0 < from.first
  positive = out.least

  order : from.first ≤ from.k
  order = out.most

  within : from.k < length boxes
  within = out.within

  top_k : 0 < k
  top_k = omega (arith, positive, order)

  -- the margins of the run before the box
  gathered_k : Gathered boxes w.runs first (margin_place (parent_at boxes k) k)
  gathered_k =
      let there = gathers boxes tree w.runs is.has_runs (parent_at boxes k) k (place_before boxes tree k top_k within) in
      let same = one_first boxes w.runs there.first first (parent_at boxes k) k there.is_gathered order (λ j lt le. comes.tops j lt ∙ low_not j first le) (λ j lt low. comes.tops j lt ∙ low_yes j first low) in
      subst (λ (f : ℕ). Gathered boxes w.runs f (margin_place (parent_at boxes k) k)) same there.is_gathered

  start_k : length_at w.places.starts k ≡ start_before boxes w (parent_at boxes k) k
  start_k = start_flows boxes w is k top_k within (comes.later k (omega arith))

  -- the boxes that hold it in its run start where the run does
  start_there : (c : ℕ) → outermost ≤ c → c ≤ k → IsAround boxes c (k + 1) → length_at w.places.starts c ≡ start_before boxes w (parent_at boxes k) k
  start_there c least most inside = elim (cases_lt c k) [
    | inl lt ↦ (let o = outer.most in let f = outer.from (omega (arith, least, lt)) in let up = inside k lt (omega arith) in
        one_start boxes tree w is first (parent_at boxes k) k (place_before boxes tree k top_k within) gathered_k c c
        (omega (arith, f, least)) up (λ i low high. inside i low (omega (arith, high))) (omega arith) lt)
    | inr ge ↦ (let e : c ≡ k = omega (arith, most, ge) in ap (length_at w.places.starts) e ∙ start_k)
  ]

  -- the outermost box has no earlier top margin of a parent in its run
  outermost_alone : has_top (parent_at boxes outermost) (run_at w.runs.before_tops outermost) ≡ false
  outermost_alone = let most = outer.most in let low = outer.parent in elim (cases_lt outermost k) [
    | inl lt ↦ (let f = outer.from lt in gathered_k.leads (parent_at boxes outermost) outermost f lt (omega (arith, low, f)) ∙ low_yes (parent_at boxes outermost) first low)
    | inr ge ↦ (let e : outermost ≡ k = omega (arith, most, ge) in
        let lead = lead_goes_on boxes w.runs is.has_runs k top_k within (comes.later k (omega arith)) in
        let low_k : parent_at boxes k < first = subst (λ (j : ℕ). parent_at boxes j < first) e low in
        ap (λ (j : ℕ). has_top (parent_at boxes j) (run_at w.runs.before_tops j)) e ∙ ap (has_top (parent_at boxes k)) lead ∙ gathered_k.older (parent_at boxes k) low_k)
  ]

  -- the margins of a run in which the holder isn't collapsed through are all margins above it
  all_above : (c : ℕ) (run : List Entry) (strut : StrutValue) → outermost ≤ c → c ≤ k → IsAround boxes c (k + 1) → length_at w.places.marks k ≡ length_at w.places.marks c → flag_at w.runs.through c ≡ false → run_at w.runs.top_runs c ≡ run
      → Holds strut (margins run) → ReadsAll boxes w k strut
  all_above c run strut least most inside same stands rise holds = record {
    all = margins run;
    strut_holds = holds;
    mark = let p = outer.positive in same ∙ mark_standing boxes w is c (omega (arith, p, least)) (omega (arith, most, within)) stands
        ∙ sum_same (length_at w.places.starts c) (start_before boxes w (parent_at boxes k) k) (run_at w.runs.top_runs c) run (start_there c least most inside) rise;
  }

  -- a box is opened
  module _ (m : ℕ) (begun : k ≤ m) (inner : m < length boxes) (strut : StrutValue) (was : ReadsMargins boxes w from (reading strut (parent_at boxes m) m)) where
    positive_m : 0 < m
    positive_m = omega (arith, positive, order, begun)

    unclear : flag_at w.runs.clears m ≡ false
    unclear = comes.later m begun

    lead : run_at w.runs.before_tops m ≡ run_before boxes w.runs (parent_at boxes m) m
    lead = lead_goes_on boxes w.runs is.has_runs m positive_m inner unclear

    abbrev run_up : List Entry
    run_up = run_before boxes w.runs (parent_at boxes m) m

    abbrev top : List Entry
    top = mark m ∷ margin (block_at boxes m).margin_top.0 ∷ []

    margins_up : margins (to_top boxes w.runs m) ≡ margins (run_before boxes w.runs (parent_at boxes m) m) ++ (block_at boxes m).margin_top.0 ∷ []
    margins_up = ap (λ (xs : List Entry). margins (xs ++ mark m ∷ margin (block_at boxes m).margin_top.0 ∷ [])) lead ∙ margins-append run_up top

    pub reads_top : (next : StrutValue) → Holds next (margins (run_before boxes w.runs (parent_at boxes m) m) ++ (block_at boxes m).margin_top.0 ∷ []) → parts_tops boxes m ≡ false
        → ReadsMargins boxes w from (reading next m (m + 1))
    reads_top next holds plain =
        let come : run_before boxes w.runs m (m + 1) ≡ to_top boxes w.runs m = opened_top boxes tree w.runs is.has_runs m positive_m inner plain in
        let e = ap margins come ∙ margins_up in
        let there : run_before boxes w.runs m (m + 1) ≡ run_up ++ top = come ∙ ap (λ (xs : List Entry). xs ++ top) lead in
        let o = outer.most in
        record {
          strut_holds = rw e holds;
          own = λ lt. ap (has_top outermost) there ∙ elim (cases_lt outermost m) [
            | inl low ↦ top_there outermost m (block_at boxes m).margin_top.0 run_up (was.own low)
            | inr ge ↦ (let e : outermost ≡ m = omega (arith, ge, lt) in rw e (top_here m (block_at boxes m).margin_top.0 run_up))
          ];
          holder = λ lt. elim (cases_lt k m) [
            | inl low ↦ (let h = was.holder low in let u = h.above in let c = h.most in record {
              box = h.box;
              least = h.least;
              most = c;
              above = omega (arith, c, begun);
              inside = λ i a b. elim (cases_lt i m) [
                | inl before ↦ h.inside i a before
                | inr here ↦ (let e : i ≡ m = omega (arith, here, b) in rw e u)
              ];
              mark = h.mark;
            })
            | inr ge ↦ (let e : k ≡ m = omega (arith, ge, begun) in record {
              box = k;
              least = o;
              most = omega arith;
              above = omega (arith, e);
              inside = λ i a b. absurd (omega (arith, e, a, b));
              mark = refl;
            })
          ];
        }

    pub ends_below_top : (next : StrutValue) → Holds next (margins (run_before boxes w.runs (parent_at boxes m) m) ++ (block_at boxes m).margin_top.0 ∷ []) → parts_tops boxes m ≡ true
        → IsPlace boxes (parent_at boxes m) m → ReadsAll boxes w k next
    ends_below_top next holds parts at =
        let e = margins_up in
        let held : Holds next (margins (to_top boxes w.runs m)) = rw e holds in
        let rise : run_at w.runs.top_runs m ≡ to_top boxes w.runs m = top_run_is boxes w.runs is.has_runs m positive_m inner ∙ rw parts refl in
        elim (cases_lt k m) [
          | inl low ↦ (let i = was.holder low in let c : ℕ = i.box in
              let p = outer.positive in let l = i.least in let u = i.above in let par = at.parent in let most = i.most in
              let own = was.own (omega (arith, l, u, par)) in
              let there = gathers boxes tree w.runs is.has_runs (parent_at boxes m) m at in
              let within_run : there.first ≤ outermost = elim (cases_lt outermost there.first) [
                | inl less ↦ absurd (true_false (has_top outermost (run_before boxes w.runs (parent_at boxes m) m)) own (there.is_gathered.older outermost less))
                | inr le ↦ le
              ] in
              let contains : IsAround boxes c (m + 1) = λ j a b. elim (cases_lt j m) [
                | inl before ↦ i.inside j a before
                | inr here ↦ (let e : j ≡ m = omega (arith, here, b) in rw e u)
              ] in
              let stands : flag_at w.runs.through c ≡ false = true_or (flag_at w.runs.through c) (flag_at w.runs.through c ≡ false)
              (λ t. absurd (true_false (parts_tops boxes m) parts (through_inside boxes tree w.runs is.has_runs c m (omega (arith, p, l)) (omega (arith, most, low)) inner contains t).unparted)) (λ f. f) in
              let risen = there.is_gathered.rise c (omega (arith, within_run, l)) u i.inside ∙ goes_in boxes w.runs (parent_at boxes m) m m (next_here boxes tree w.runs is.has_runs m positive_m inner) unclear ∙ rise in
              all_above c (to_top boxes w.runs m) next l most (λ j a b. i.inside j a (omega (arith, b, low))) i.mark stands risen held)
          | inr ge ↦ (let e : m ≡ k = omega (arith, ge, begun) in let o = outer.most in
              let parts_k = subst (λ (j : ℕ). parts_tops boxes j ≡ true) e parts in
              let rise_k = subst (λ (j : ℕ). run_at w.runs.top_runs j ≡ to_top boxes w.runs j) e rise in
              let held_k = subst (λ (j : ℕ). Holds next (margins (to_top boxes w.runs j))) e held in
              all_above k (to_top boxes w.runs k) next o (omega arith) (λ j a b. absurd (omega (arith, a, b))) refl (parting_stands boxes w.runs is.has_runs k top_k within parts_k) rise_k held_k)
        ]

  -- a box is closed
  module _ (p m : ℕ) (at : IsPlace boxes p m) (least : outermost ≤ p) (after : k < m) (ends : m < length boxes → parent_at boxes m < p) (strut : StrutValue) (was : ReadsMargins boxes w from (reading strut p m)) where
    positive_p : 0 < p
    positive_p = let o = outer.positive in omega (arith, o, least)

    lt_p : p < m
    lt_p = at.parent

    within_m : m ≤ length boxes
    within_m = at.within

    inner_p : p < length boxes
    inner_p = let a = lt_p in let b = within_m in omega (arith, a, b)

    own_top : has_top outermost (run_before boxes w.runs p m) ≡ true
    own_top = was.own (let a = lt_p in omega (arith, a, least))

    record InRun : Type 0 where
      pub first_there : ℕ
      pub is_gathered : Gathered boxes w.runs first_there (margin_place p m)
      pub low : first_there ≤ outermost

    gathered_p : InRun
    gathered_p =
        let there = gathers boxes tree w.runs is.has_runs p m at in
        record {
          first_there = there.first;
          is_gathered = there.is_gathered;
          low = elim (cases_lt outermost there.first) [
            | inl less ↦ absurd (true_false (has_top outermost (run_before boxes w.runs p m)) own_top (there.is_gathered.older outermost less))
            | inr le ↦ le
          ];
        }

    passes_p : flag_at w.runs.through p ≡ may_collapse_through (block_at boxes p)
    passes_p = let g = gathered_p in let l = g.low in
        passes_here boxes tree w.runs is.has_runs p m positive_p lt_p within_m ends at.inside g.first_there g.is_gathered
        ∙ (let t = low_not p g.first_there (omega (arith, l, least)) in rw t (and_true (may_collapse_through (block_at boxes p))))
      where
        and_true : (b : Bool) → (b && true) ≡ b
        and_true true = refl
        and_true false = refl

    -- something in it parts its two margins
    pub ends_inside_box : may_collapse_through (block_at boxes p) ≡ false → ReadsAll boxes w k strut
    ends_inside_box parts =
        let g = gathered_p in
        let low = g.low in
        let i = was.holder after in let c : ℕ = i.box in
        let l = i.least in let u = i.above in let most = i.most in
        let stands_p : flag_at w.runs.through p ≡ false = passes_p ∙ parts in
        let parted : joins_bottom boxes w.runs p ≡ false = true_or (joins_bottom boxes w.runs p) (joins_bottom boxes w.runs p ≡ false)
        (λ t. absurd (true_false (flag_at w.runs.through p) (joined_through boxes tree w.runs is.has_runs p m positive_p lt_p within_m ends at.inside g.first_there g.is_gathered t (omega (arith, low, least))) stands_p)) (λ f. f) in
        let lt = lt_p in
        let o = outer.positive in
        let stands : flag_at w.runs.through c ≡ false = elim (cases_eq c p) [
          | inl e ↦ ap (flag_at w.runs.through) e ∙ stands_p
          | inr ne ↦ true_or (flag_at w.runs.through c) (flag_at w.runs.through c ≡ false)
              (λ t. absurd (true_false (flag_at w.runs.through p) (through_inside boxes tree w.runs is.has_runs c p (omega (arith, o, l)) (omega (arith, ne, u)) inner_p (λ j a b. i.inside j a (omega (arith, b, lt))) t).through stands_p)) (λ f. f)
        ] in
        let risen = g.is_gathered.rise c (omega (arith, low, l)) u i.inside ∙ ends_inside boxes w.runs p m (childless_on boxes tree w.runs is.has_runs p m positive_p lt_p within_m ends at.inside) parted in
        all_above c (run_before boxes w.runs p m) strut l most (λ j a b. i.inside j a (omega (arith, b, after))) i.mark stands risen was.strut_holds

    -- the outermost box is collapsed through
    pub ends_before_bottom : p ≡ outermost → may_collapse_through (block_at boxes p) ≡ true → ReadsAll boxes w k strut
    ends_before_bottom is_last passes =
        let i = was.holder after in let c : ℕ = i.box in
        let l = i.least in let u = i.above in let most = i.most in
        let e : c ≡ p = omega (arith, l, u, is_last) in
        let alone : has_top (parent_at boxes p) (run_at w.runs.before_tops p) ≡ false = subst (λ (j : ℕ). has_top (parent_at boxes j) (run_at w.runs.before_tops j) ≡ false) (sym is_last) outermost_alone in
        let start = start_there p least (omega (arith, e, most)) (λ j a b. at.inside j a (omega (arith, b, after))) in
        let here = comes_here boxes tree w.runs is.has_runs p m positive_p lt_p within_m ends at.inside in
        record {
          all = margins (run_before boxes w.runs p m);
          strut_holds = was.strut_holds;
          mark = i.mark ∙ ap (length_at w.places.marks) e
              ∙ mark_through boxes w is p positive_p inner_p (passes_p ∙ passes) alone
              ∙ sum_same (length_at w.places.starts p) (start_before boxes w (parent_at boxes k) k) (run_before boxes w.runs p (length boxes)) (run_before boxes w.runs p m) start here;
        }

    -- it is collapsed through, and the run goes on
    pub reads_bottom : (p ≡ outermost → ⊥) → may_collapse_through (block_at boxes p) ≡ true → (next : StrutValue) → Holds next (margins (run_before boxes w.runs p m) ++ (block_at boxes p).margin_bottom.0 ∷ [])
        → IsAround boxes outermost m → ReadsMargins boxes w from (reading next (parent_at boxes p) m)
    reads_bottom other passes next holds round =
        let g = gathered_p in
        let low = g.low in
        let lt = lt_p in
        let through = passes_p ∙ passes in
        let here = comes_here boxes tree w.runs is.has_runs p m positive_p lt_p within_m ends at.inside in
        let joined : joins_bottom boxes w.runs p ≡ true = joins_is boxes w.runs p positive_p ∙ rw through refl in
        let c : List Entry = run_before boxes w.runs p m in
        let bottom : ℤ = (block_at boxes p).margin_bottom.0 in
        let come : run_before boxes w.runs (parent_at boxes p) m ≡ c ++ margin bottom ∷ [] = comes_up boxes tree w.runs is.has_runs p m positive_p lt_p within_m ends at.inside
        ∙ to_bottom_is boxes w.runs is.has_runs p positive_p inner_p ∙ rw (joined, here) refl in
        let up = parent_before boxes tree p positive_p inner_p in
        let over : outermost ≤ parent_at boxes p = round p (omega (arith, least, λ (e : p ≡ outermost). other e)) lt in
        record {
          strut_holds = let e = ap margins come ∙ margins-append c (margin bottom ∷ []) in rw e holds;
          own = λ lt. ap (has_top outermost) come ∙ bottom_same outermost bottom c ∙ own_top;
          holder = λ lt_k. let i = was.holder after in let u = i.above in let l = i.least in let most = i.most in elim (cases_eq i.box p) [
            | inl e ↦ record {
              box = parent_at boxes p;
              least = over;
              most = omega (arith, up, e, most);
              above = omega arith;
              inside = λ j a b. elim (cases_lt j p) [
                | inl before ↦ parents_together boxes tree j p before inner_p a
                | inr from ↦ elim (cases_eq j p) [
                  | inl same ↦ rw same (omega arith)
                  | inr ne ↦ (let x = at.inside j (omega (arith, from, ne)) b in omega (arith, x, up))
                ]
              ];
              mark = i.mark ∙ ap (length_at w.places.marks) e ∙ mark_inherits boxes w is p positive_p inner_p through
                  (g.is_gathered.leads (parent_at boxes p) p (omega (arith, low, least)) lt up ∙ low_not (parent_at boxes p) g.first_there (omega (arith, low, over)));
            }
            | inr ne ↦ record {
              box = i.box;
              least = l;
              most = most;
              above = i.inside p (omega (arith, ne, u)) lt;
              inside = i.inside;
              mark = i.mark;
            }
          ];
        }
