-- Runs, edge by edge.
use Rattle.std.proofs.Common.{◌≡◌, ◌⊎◌, inl, inr, ℕ, ◌+◌, ◌-◌, ◌<◌, ◌≤◌, List, [], ◌∷◌, ◌++◌, length, refl, sym, ap, ◌∙◌, subst, arith, slice_get, Some}
use Rattle.std.proofs.lemmas.Bool.{cases_lt, lt-ltb, le-ltb}
use Rattle.std.proofs.lemmas.Option.{slice_get_within}
use Rattle.lay_units.specs.declared.length.Unit.{Unit as Length}
use Rattle.lay_margins.specs.declared.edge.Edge.{Edge}
use Rattle.lay_margins.specs.declared.edge.Edge.TheVariants.{Margin as margin, Mark as mark}
use Rattle.lay_margins.specs.declared.edge.Run.{Run}
use Rattle.lay_margins.specs.Runs.{IsSolidAt, IsClearAt, Adjoin, IsRun, AreRuns}
use Rattle.lay_margins.specs.RunsTo.{RunsTo, IsParted, runs_closed}
use Rattle.lay_margins.proofs.Places.{old_place, last_place, one_more}

abbrev pub run_of : ℕ → ℕ → Run
run_of first len = record { first = first; len = len }

same_run : (r s : Run) → r.first ≡ s.first → r.len ≡ s.len → r ≡ s
same_run r s f l = let e : run_of r.first r.len ≡ run_of s.first s.len = rw (f, l) refl in e

-- the edges end at the place k, or something at k parts them from what stands before it
abbrev pub IsCut : List Edge → ℕ → Type 0
IsCut edges k = (k ≡ length edges) ⊎ (IsSolidAt edges k ⊎ IsClearAt edges k)

-- no stretch goes on over such a place
not_over : (edges : List Edge) (first end k : ℕ) → Adjoin edges first end → IsCut edges k → first < k → end ≤ k
not_over edges first end k a cut before = elim (cases_lt k end) [ inl over ↦ absurd (parts cut over) | inr not ↦ not ]
  where
    parts : IsCut edges k → k < end → ⊥
    parts (inl is) over = let w = a.within in absurd (omega (arith, is, over, w))
    parts (inr (inl s)) over = a.no_solid k (omega arith) over s
    parts (inr (inr c)) over = a.no_clear k before over c

-- a stretch that has an edge after a parting begins there
not_before : (edges : List Edge) (first end k : ℕ) → Adjoin edges first end → IsParted edges k → first ≤ k → k < end → first ≡ k
not_before edges first end k a parted before within = elim (cases_lt first k) [ inl less ↦ absurd (parts parted less) | inr not ↦ omega arith ]
  where
    parts : IsParted edges k → first < k → ⊥
    parts (inl is) less = absurd (omega (arith, is, less))
    parts (inr (inl s)) less = let e = s.1 in a.no_solid s.0 (omega (arith, e, less)) (omega (arith, e, within)) s.2
    parts (inr (inr c)) less = a.no_clear k less within c

-- what is known where the open stretch is closed before the place k
pub record Closed (edges : List Edge) (runs : List Run) (k : ℕ) : Type 0 where
  pub each : (j : ℕ) (run : Run) → slice_get runs j ≡ Some run → IsRun edges run × (run.first < k)
  pub all : (run : Run) → IsRun edges run → run.first < k → (j : ℕ) × (slice_get runs j ≡ Some run)
  pub order : (i j : ℕ) (earlier later : Run) → i < j → slice_get runs i ≡ Some earlier → slice_get runs j ≡ Some later
      → earlier.first < later.first

stretch : (edges : List Edge) (runs : List Run) (first k : ℕ) → RunsTo edges runs first k → k ≤ length edges → first < k → Adjoin edges first k
stretch edges runs first k t within less = record { some = less; within = within; no_solid = t.no_solid; no_clear = t.no_clear }

-- the stretch that is closed is a run
closed_is_run : (edges : List Edge) (runs : List Run) (first k : ℕ) → RunsTo edges runs first k → k ≤ length edges → first < k → IsCut edges k → IsRun edges (run_of first (k - first))
closed_is_run edges runs first k t within less cut =
    let e : k ≡ first + (k - first) = omega arith in record {
      adjoin = subst (λ z. Adjoin edges first z) e (stretch edges runs first k t within less);
      longest = λ f z a before after. (
        not_before edges f z first a t.begins before (omega arith),
        let most = not_over edges f z k a cut (omega arith) in omega (arith, most, after, e),
      );
    }

closed_more : (edges : List Edge) (runs : List Run) (first k : ℕ) → RunsTo edges runs first k → k ≤ length edges → first < k → IsCut edges k → Closed edges (runs ++ run_of first (k - first) ∷ []) k
closed_more edges runs first k t within less cut = record { each = each; all = all; order = order }
  where
    each : (j : ℕ) (run : Run) → slice_get (runs ++ run_of first (k - first) ∷ []) j ≡ Some run → IsRun edges run × (run.first < k)
    each j run at = from (one_more runs (run_of first (k - first)) run j at)
      where
        from : ((slice_get runs j ≡ Some run) ⊎ ((j ≡ length runs) × (run ≡ run_of first (k - first)))) → IsRun edges run × (run.first < k)
        from (inl old) = let o = t.each j run old in let b = o.1 in (o.0, omega (arith, b, less))
        from (inr new) = subst (λ (r : Run). IsRun edges r × (r.first < k)) (sym new.1) (closed_is_run edges runs first k t within less cut, less)

    here : (run : Run) → IsRun edges run → run.first < k → first ≤ run.first → run ≡ run_of first (k - first)
    here run is before after =
        let end = not_over edges run.first (run.first + run.len) k is.adjoin cut before in
        let same = is.longest first k (stretch edges runs first k t within less) after end in
        let f = same.0 in
        let l = same.1 in
        same_run run (run_of first (k - first)) (sym f) (omega (arith, f, l))

    all : (run : Run) → IsRun edges run → run.first < k → (j : ℕ) × (slice_get (runs ++ run_of first (k - first) ∷ []) j ≡ Some run)
    all run is before = elim (cases_lt run.first first) [ inl old ↦ (let o = t.all run is old in (o.0, old_place runs _ o.0 run o.1)) | inr not ↦ (length runs, last_place runs (run_of first (k - first)) ∙ ap Some (sym (here run is before not))) ]

    order : (i j : ℕ) (earlier later : Run) → i < j → slice_get (runs ++ run_of first (k - first) ∷ []) i ≡ Some earlier → slice_get (runs ++ run_of first (k - first) ∷ []) j ≡ Some later → earlier.first < later.first
    order i j earlier later lt at-i at-j = from (one_more runs (run_of first (k - first)) earlier i at-i) (one_more runs (run_of first (k - first)) later j at-j)
      where
        from : ((slice_get runs i ≡ Some earlier) ⊎ ((i ≡ length runs) × (earlier ≡ run_of first (k - first)))) → ((slice_get runs j ≡ Some later) ⊎ ((j ≡ length runs) × (later ≡ run_of first (k - first)))) → earlier.first < later.first
        from (inl old) (inl also) = t.order i j earlier later lt old also
        from (inl old) (inr new) = let b = (t.each i earlier old).1 in let f = ap (λ (r : Run). r.first) new.1 in omega (arith, b, f)
        from (inr new) (inl also) = let w = slice_get_within runs j later also in let e = new.0 in absurd (omega (arith, w, e, lt))
        from (inr new) (inr also) = let e = new.0 in let f = also.0 in absurd (omega (arith, e, f, lt))

closed_none : (edges : List Edge) (runs : List Run) (first k : ℕ) → RunsTo edges runs first k → k ≤ first → Closed edges runs k
closed_none edges runs first k t not = record {
  each = λ j run at. let o = t.each j run at in let b = o.1 in let u = t.begun in (o.0, omega (arith, b, u));
  all = λ run is before. t.all run is (omega (arith, not, before));
  order = t.order;
}

pub closing : (edges : List Edge) (runs : List Run) (first k : ℕ) → RunsTo edges runs first k → k ≤ length edges → IsCut edges k → Closed edges (runs_closed runs first k) k
closing edges runs first k t within cut = elim (cases_lt first k) [
  | inl less ↦ (let e = lt-ltb first k less in rw e (closed_more edges runs first k t within less cut))
  | inr not ↦ (let e = le-ltb first k not in rw e (closed_none edges runs first k t not))
]

-- after a solid amount
pub after_solid : (edges : List Edge) (runs : List Run) (k : ℕ) → Closed edges runs k → IsSolidAt edges k → RunsTo edges runs (k + 1) (k + 1)
after_solid edges runs k d s = record {
  begun = omega arith;
  begins = inr (inl (k, refl, s));
  no_solid = λ j a b. absurd (omega arith);
  no_clear = λ j a b. absurd (omega arith);
  each = λ j run at. let o = d.each j run at in let b = o.1 in (o.0, omega (arith, b));
  all = λ run is before. elim (cases_lt run.first k) [ inl less ↦ d.all run is less | inr not ↦ absurd (solid_first run is before not) ];
  order = d.order;
}
  where
    solid_first : (run : Run) → IsRun edges run → run.first < k + 1 → k ≤ run.first → ⊥
    solid_first run is before after = let a = is.adjoin.some in is.adjoin.no_solid k (omega arith) (omega (arith, a)) s

-- after clearance
pub after_clear : (edges : List Edge) (runs : List Run) (k : ℕ) → Closed edges runs k → IsClearAt edges k → RunsTo edges runs k (k + 1)
after_clear edges runs k d c = record {
  begun = omega arith;
  begins = inr (inr c);
  no_solid = λ j a b s. let e : j ≡ k = omega arith in both (subst (λ z. IsSolidAt edges z) e s);
  no_clear = λ j a b. absurd (omega arith);
  each = d.each;
  all = d.all;
  order = d.order;
}
  where
    both : IsSolidAt edges k → ⊥
    both s = let p = s.1 in let q = c.1 in cc

-- after a margin or a mark
pub after_other : (edges : List Edge) (runs : List Run) (first k : ℕ) (e : Edge) → RunsTo edges runs first k → slice_get edges k ≡ Some e
    → (((v : Length) × (e ≡ margin v)) ⊎ ((box : ℕ) × (e ≡ mark box))) → RunsTo edges runs first (k + 1)
after_other edges runs first k e t at is = record {
  begun = let b = t.begun in omega (arith, b);
  begins = t.begins;
  no_solid = λ j a b s. elim (cases_lt j k) [ inl less ↦ t.no_solid j a less s | inr not ↦ (let e : j ≡ k = omega arith in not_solid is (subst (λ z. IsSolidAt edges z) e s)) ];
  no_clear = λ j a b s. elim (cases_lt j k) [ inl less ↦ t.no_clear j a less s | inr not ↦ (let e : j ≡ k = omega arith in not_clear is (subst (λ z. IsClearAt edges z) e s)) ];
  each = t.each;
  all = t.all;
  order = t.order;
}
  where
    not_solid : (((v : Length) × (e ≡ margin v)) ⊎ ((box : ℕ) × (e ≡ mark box))) → IsSolidAt edges k → ⊥
    not_solid (inl m) s = let p = m.1 in let q = s.1 in cc
    not_solid (inr m) s = let p = m.1 in let q = s.1 in cc

    not_clear : (((v : Length) × (e ≡ margin v)) ⊎ ((box : ℕ) × (e ≡ mark box))) → IsClearAt edges k → ⊥
    not_clear (inl m) s = let p = m.1 in let q = s.1 in cc
    not_clear (inr m) s = let p = m.1 in let q = s.1 in cc

-- at the end
pub all_runs : (edges : List Edge) (runs : List Run) → Closed edges runs (length edges) → AreRuns edges runs
all_runs edges runs d = record {
  each = λ k run at. (d.each k run at).0;
  all = λ run is. d.all run is (let s = is.adjoin.some in let w = is.adjoin.within in omega (arith, s, w));
  order = d.order;
}
