-- The walk over the nodes in the order of painting is that of 9.9.1 and Appendix E.
use Rattle.std.proofs.Common.{◌≡◌, ◌∙◌, ℕ, zero, suc, ◌-◌, ◌<◌, ◌≤◌, inl, inr, Bool, true, false, cond, ◌&&◌, ◌||◌, List, [], ◌∷◌, ℤ, pos, ◌<ℤ◌, refl, sym, ap, subst, arith, if◌then◌else◌}
use Rattle.std.specs.Prelude.{◌==◌, nat_lt, int_lt, int_le, IsPermutation}
use Rattle.std.specs.List.{filter, flat_map, range_with_len, AllByRecursion}
use Rattle.std.proofs.lemmas.Bool.{cases_eq, true≢false, eqb-true, eq-eqb, ne_eqb, le-ltb, false_from_ne_true, true_from_ne_false}
use Rattle.std.proofs.lemmas.Int.{ints}
use Rattle.lay_frag.specs.Pieces.{frags_of}
use Rattle.lay_hit.specs.declared.kinds.PaintKind.{PaintKind}
use Rattle.lay_hit.specs.declared.kinds.PaintKind.TheVariants.{Stacking, Layered, Float, Atomic, Block, Inline}
use Rattle.lay_hit.specs.declared.rank.Rank.{Rank}
use Rattle.lay_hit.specs.PaintKinds.{is_stacking, is_layered, forms_group}
use Rattle.lay_hit.specs.Pages.{Page, page_of}
use Rattle.lay_hit.specs.Painting.{group, owner, others}
use Rattle.lay_hit.specs.Ranks.{is_of_owner, step_of, paint_rank_at, is_under, painter_at}
use Rattle.lay_hit.specs.Wholes.{is_painted_under, painted_by}
use Rattle.lay_hit.specs.OrderedPages.{IsOrdered}
use Rattle.lay_hit.specs.Stacking.{IsIn, itself, inner, IsContextOf, IsChildContext, IsContentOf, IsBehind, IsStacked}
use Rattle.lay_hit.specs.Laws.{PaintedInOrder}
use Rattle.lay_hit.proofs.Ahead.{IsNone, Ahead, ahead_none, ahead_of_none, behind_from, Goes, none_flat, ahead_flat, IsSortedFrom, goes_in_order, goes_filter, goes_range}
use Rattle.lay_hit.proofs.Counts.{same_times}
use Rattle.lay_hit.proofs.FrontSteps.{ordered}
use Rattle.lay_hit.proofs.Buckets.{all-more}
use Rattle.lay_hit.proofs.Inside.{either_in, in_through, IsPart, part_of, outer, stands_behind, in_root, around_in, in_around}
use Rattle.lay_hit.proofs.PaintTests.{stacking_forms}
use Rattle.lay_hit.proofs.PaintedBy.{all-passing, owner-stacks, owner-before, painter-before}
use Rattle.lay_hit.proofs.RankOrder.{rank_order}
use Rattle.lay_hit.proofs.Rising.{all-in_order}
use Rattle.lay_hit.proofs.Walks.{walk, walk-whole, each_once}
use Rattle.lay_hit.proofs.WholePaint.{IsOther, all-others, paint-whole}

-- a stacking context is painted in a step by its level, and what makes none in the steps between
stacks : (x : PaintKind) → is_stacking x ≡ true → x ≡ Stacking
stacks Stacking e = refl
stacks Layered e = absurd cc
stacks Float e = absurd cc
stacks Atomic e = absurd cc
stacks Block e = absurd cc
stacks Inline e = absurd cc

plain_steps : (x : PaintKind) (l : ℤ) → is_stacking x ≡ false → (3 ≤ step_of x l) × (step_of x l ≤ 6)
plain_steps Stacking l e = absurd cc
plain_steps Layered l e = (omega arith, omega arith)
plain_steps Float l e = (omega arith, omega arith)
plain_steps Atomic l e = (omega arith, omega arith)
plain_steps Block l e = (omega arith, omega arith)
plain_steps Inline l e = (omega arith, omega arith)

of_owner : (x : PaintKind) → is_stacking x ≡ true → is_of_owner x ≡ true
of_owner x e = ap (λ (b : Bool). b || is_layered x) e

-- a greater rank isn't under a lesser one
later_step : (a b : Rank) → b.step < a.step → is_under a b ≡ false
later_step a b h = tests (nat_lt a.step b.step) (a.step == b.step) (int_le a.level b.level) (le-ltb a.step b.step (omega (arith, h))) (ne_eqb a.step b.step (λ e. omega (arith, e, h)))
  where
    tests : (c d e : Bool) → c ≡ false → d ≡ false → (c || (d && e)) ≡ false
    tests true d e h i = absurd cc
    tests false true e h i = absurd cc
    tests false false e h i = refl

later_level : (a b : Rank) → b.step ≤ a.step → b.level <ℤ a.level → is_under a b ≡ false
later_level a b h l = tests (nat_lt a.step b.step) (a.step == b.step) (int_le a.level b.level) (le-ltb a.step b.step h) (false_from_ne_true (int_le a.level b.level) (λ t. absurd (omega (arith, ints, t, l))))
  where
    tests : (c d e : Bool) → c ≡ false → e ≡ false → (c || (d && e)) ≡ false
    tests true d e h i = absurd cc
    tests false true e h i = i
    tests false false e h i = refl

-- steps rise with levels
steps_rise : (l m : ℤ) → l <ℤ m → step_of Stacking l ≤ step_of Stacking m
steps_rise l m h = by_tests (int_lt l (pos 0)) (int_lt (pos 0) l) (int_lt m (pos 0)) (int_lt (pos 0) m) refl refl refl refl
  where
    by_tests : (a b c d : Bool) → int_lt l (pos 0) ≡ a → int_lt (pos 0) l ≡ b → int_lt m (pos 0) ≡ c → int_lt (pos 0) m ≡ d → cond a 2 (cond b 7 6) ≤ cond c 2 (cond d 7 6)
    by_tests true b true d p q r s = omega arith
    by_tests true b false true p q r s = omega arith
    by_tests true b false false p q r s = omega arith
    by_tests false b true d p q r s = absurd (omega (arith, ints, h, p, r))
    by_tests false true false true p q r s = omega arith
    by_tests false true false false p q r s = absurd (omega (arith, ints, h, q, s))
    by_tests false false false true p q r s = omega arith
    by_tests false false false false p q r s = omega arith

same_rank : (a b : Rank) → a.step ≡ b.step → a.level ≡ b.level → is_under a b ≡ true
same_rank a b s l =
    tests (nat_lt a.step b.step) (a.step == b.step) (int_le a.level b.level) (eq-eqb a.step b.step s) (true_from_ne_false (int_le a.level b.level) (λ f. absurd (omega (arith, ints, f, l))))
  where
    tests : (c d e : Bool) → d ≡ true → e ≡ true → (c || (d && e)) ≡ true
    tests true d e h i = refl
    tests false true e h i = i
    tests false false e h i = absurd cc

negative_step : (l : ℤ) → l <ℤ pos 0 → step_of Stacking l ≡ 2
negative_step l h = by_test (int_lt l (pos 0)) refl
  where
    by_test : (b : Bool) → int_lt l (pos 0) ≡ b → ◌≡◌ {A = ℕ} (cond b 2 (cond (int_lt (pos 0) l) 7 6)) 2
    by_test true e = refl
    by_test false e = absurd (omega (arith, ints, e, h))

positive_step : (l : ℤ) → pos 0 <ℤ l → step_of Stacking l ≡ 7
positive_step l h = by_tests (int_lt l (pos 0)) (int_lt (pos 0) l) refl refl
  where
    by_tests : (a b : Bool) → int_lt l (pos 0) ≡ a → int_lt (pos 0) l ≡ b → ◌≡◌ {A = ℕ} (cond a 2 (cond b 7 6)) 7
    by_tests true b e f = absurd (omega (arith, ints, e, h))
    by_tests false true e f = refl
    by_tests false false e f = absurd (omega (arith, ints, f, h))

module _ (p : Page) (o : IsOrdered p) where
  abbrev Under : ℕ → ℕ → Type 0
  Under j a = IsIn (painter_at p) j a

  low : (k : ℕ) → 0 < k → painter_at p k < k
  low k some = painter-before p o k some

  under_low : (j a : ℕ) → Under j a → j ≤ a
  under_low j a u = stands_behind (painter_at p) low j a u

  -- who paints a node is around it
  painter_around : (k : ℕ) → IsIn p.parent (painter_at p k) (p.parent k)
  painter_around k = by_test (is_of_owner (p.kind k))
    where
      by_test : (b : Bool) → IsIn p.parent (if b then owner p k else group p k) (p.parent k)
      by_test true = around_in p.parent o.before (λ j. is_stacking (p.kind j)) (ap is_stacking o.root) k
      by_test false = around_in p.parent o.before (λ j. forms_group (p.kind j)) (ap forms_group o.root) k

  under_is_in : (j a : ℕ) → Under j a → IsIn p.parent j a
  under_is_in j a itself = itself
  under_is_in j a (inner m some u) = inner m some (in_through p.parent j (painter_at p m) (p.parent m) (under_is_in j (painter_at p m) u) (painter_around m))

  -- what is in a stacking context is painted in it
  to_painter : (m j : ℕ) → IsIn p.parent j (p.parent m) → is_stacking (p.kind j) ≡ true → IsIn p.parent j (painter_at p m)
  to_painter m j q s = by_test (is_of_owner (p.kind m))
    where
      by_test : (b : Bool) → IsIn p.parent j (if b then owner p m else group p m)
      by_test true = in_around p.parent o.before (λ k. is_stacking (p.kind k)) (ap is_stacking o.root) m j q s
      by_test false = in_around p.parent o.before (λ k. forms_group (p.kind k)) (ap forms_group o.root) m j q (stacking_forms (p.kind j) s)

  in_context : (n j a : ℕ) → a ≤ n → is_stacking (p.kind j) ≡ true → IsIn p.parent j a → Under j a
  in_context n j a less s itself = itself
  in_context zero j a less s (inner m some q) = absurd (omega (arith, less, some))
  in_context (suc n) j a less s (inner m some q) =
      let b = low m some in inner m some (in_context n j (painter_at p m) (omega (arith, b, less)) s (to_painter m j q s))

  painted_in : (j a : ℕ) → is_stacking (p.kind j) ≡ true → IsIn p.parent j a → Under j a
  painted_in j a s q = in_context a j a (omega arith) s q

  -- one of the nodes that g paints
  record IsPaintedBy (g k : ℕ) : Type 0 where
    some : 0 < k
    within : k < p.count
    by : painter_at p k ≡ g

  parts : (g : ℕ) → AllByRecursion (IsPaintedBy g) (painted_by p g)
  parts g =
      all-in_order (is_painted_under p) (IsPaintedBy g) (filter (λ k. painter_at p k == g) (others p))
      (all-passing (IsPaintedBy g) (IsOther p o) (λ k. painter_at p k == g) (others p) (all-others p o)
      (λ k other e. record { some = other.0; within = other.1; by = eqb-true (painter_at p k) g e }))

  abbrev Sorted : ℕ → ℕ → Type 0
  Sorted j k = IsSortedFrom (is_painted_under p) (rank_order p) j k

  parts_go : (g : ℕ) → Goes Sorted (painted_by p g)
  parts_go g =
      goes_in_order (is_painted_under p) (rank_order p) (filter (λ k. painter_at p k == g) (others p))
      (goes_filter (λ x y. x < y) (λ k. painter_at p k == g) (others p) (goes_range (p.count - 1) 1))

  under_painter : (g k : ℕ) → IsPaintedBy g k → Under g k
  under_painter g k part = inner k part.some (subst (λ z. IsIn (painter_at p) g z) (sym part.by) itself)

  painter_first : (g k : ℕ) → IsPaintedBy g k → g < k
  painter_first g k part = let b = low k part.some in let e = part.by in omega (arith, b, e)

  -- two of them share no node
  siblings : (g j k a : ℕ) → IsPaintedBy g j → IsPaintedBy g k → Under j a → Under k a → j ≡ k
  siblings g j k a first second u v = elim (cases_eq j k) [
    | inl same ↦ same
    | inr other ↦ elim (either_in (painter_at p) j k a u v) [
      | inl w ↦ absurd (too_low j k first second (λ e. other (sym e)) w)
      | inr w ↦ absurd (too_low k j second first other w)
    ]
  ]
    where
      too_low : (x y : ℕ) → IsPaintedBy g x → IsPaintedBy g y → (y ≡ x → ⊥) → Under x y → ⊥
      too_low x y one two other w =
          let above = outer (painter_at p) x y other w in
          let h = under_low x (painter_at p y) above.1 in
          let e = two.by in
          let b = painter_first g x one in
          omega (arith, h, e, b)

  walk_none : (turns g a : ℕ) → (Under g a → ⊥) → IsNone a (walk p o turns g)
  walk_none zero g a never = tt
  walk_none (suc turns) g a never = (
    λ e. never (subst (λ z. Under g z) e itself),
    none_flat (walk p o turns) a (painted_by p g)
        (all-more (IsPaintedBy g) (λ k. IsNone a (walk p o turns k)) (λ k part. walk_none turns k a (λ u. never (in_through (painter_at p) g k a (under_painter g k part) u))) (painted_by p g) (parts g)),
  )

  -- two nodes in different ones of those that g paints, of which the second isn't behind the first
  ahead_parts : (g j k a b : ℕ) → IsPaintedBy g j → IsPaintedBy g k → (j ≡ k → ⊥) → (Sorted k j → ⊥) → Under j a → Under k b → (turns : ℕ) → Ahead a b (walk p o turns g)
  ahead_parts g j k a b first second other unsorted u v zero = tt
  ahead_parts g j k a b first second other unsorted u v (suc turns) = (
    λ e. absurd (let h = under_low k b v in let f = painter_first g k second in omega (arith, e, h, f)),
    ahead_flat (walk p o turns) Sorted (IsPaintedBy g) a b k each others_none later (painted_by p g) (parts g) (parts_go g),
  )
    where
      others_none : (x : ℕ) → IsPaintedBy g x → (x ≡ k → ⊥) → IsNone b (walk p o turns x)
      others_none x part not_k = walk_none turns x b (λ w. not_k (siblings g x k b part second w v))

      none_a : (x : ℕ) → IsPaintedBy g x → (x ≡ j → ⊥) → IsNone a (walk p o turns x)
      none_a x part not_j = walk_none turns x a (λ w. not_j (siblings g x j a part first w u))

      each : (x : ℕ) → IsPaintedBy g x → Ahead a b (walk p o turns x)
      each x part = elim (cases_eq x j) [
        | inl same ↦ ahead_of_none a b (walk p o turns x) (others_none x part (λ e. other (sym same ∙ e)))
        | inr not_j ↦ ahead_none a b (walk p o turns x) (none_a x part not_j)
      ]

      later : (y : ℕ) → IsPaintedBy g y → Sorted k y → IsNone a (walk p o turns y)
      later y part r = none_a y part (λ e. unsorted (subst (λ z. Sorted k z) e r))

  -- what is so in the walk of a node is so in that of each node around it
  further : (g a b : ℕ) → g < p.count → Under g a → Under g b → ((t : ℕ) → Ahead a b (walk p o t g)) → (turns h : ℕ) → Under h g → Ahead a b (walk p o turns h)
  further g a b within u v base zero h w = tt
  further g a b within u v base (suc turns) h w = elim (cases_eq g h) [
    | inl same ↦ subst (λ z. Ahead a b (walk p o (suc turns) z)) same (base (suc turns))
    | inr other ↦ by_part (part_of (painter_at p) h g other w) (λ k x. further g a b within u v base turns k x)
  ]
    where
      by_part : IsPart (painter_at p) h g → ((k : ℕ) → Under k g → Ahead a b (walk p o turns k)) → Ahead a b (walk p o (suc turns) h)
      by_part is rest = (
        λ e. absurd (let x = under_low is.part g is.holds in let y = under_low g b v in let z = painter_first h is.part here in omega (arith, e, x, y, z)),
        ahead_flat (walk p o turns) Sorted (IsPaintedBy h) a b is.part each (λ x part other_one. none b v x part other_one) later (painted_by p h) (parts h) (parts_go h),
      )
        where
          here : IsPaintedBy h is.part
          here = record { some = is.some; within = (let x = under_low is.part g is.holds in omega (arith, x, within)); by = is.of_it }

          none : (c : ℕ) → Under g c → (x : ℕ) → IsPaintedBy h x → (x ≡ is.part → ⊥) → IsNone c (walk p o turns x)
          none c in_g x part other_one = walk_none turns x c (λ y. other_one (siblings h x is.part c part here y (in_through (painter_at p) is.part g c is.holds in_g)))

          each : (x : ℕ) → IsPaintedBy h x → Ahead a b (walk p o turns x)
          each x part = elim (cases_eq x is.part) [
            | inl same ↦ subst (λ z. Ahead a b (walk p o turns z)) (sym same) (rest is.part is.holds)
            | inr other_one ↦ ahead_none a b (walk p o turns x) (none a u x part other_one)
          ]

          later : (y : ℕ) → IsPaintedBy h y → Sorted is.part y → IsNone a (walk p o turns y)
          later y part r = none a u y part (λ e. let s = subst (λ z. Sorted is.part z) e r in let t = s.tie s.is in omega (arith, t))

  abbrev order : List ℕ
  order = walk p o p.count 0

  on_page : (g a b : ℕ) → g < p.count → Under g a → Under g b → (a ≡ b → ⊥) → ((t : ℕ) → Ahead a b (walk p o t g)) → IsBehind order a b
  on_page g a b within u v other base =
      behind_from a b order other (further g a b within u v base p.count 0 (in_root (painter_at p) low g))

  -- the nodes that belong to a stacking context
  owner_is : (g k : ℕ) → IsContextOf p g k → owner p k ≡ g
  owner_is g k c =
      c.nearest (owner p k) (in_around p.parent o.before (λ j. is_stacking (p.kind j)) (ap is_stacking o.root) k g c.around c.makes)
      (around_in p.parent o.before (λ j. is_stacking (p.kind j)) (ap is_stacking o.root) k) (owner-stacks p o k)

  child_part : (g j : ℕ) → IsChildContext p g j → IsPaintedBy g j
  child_part g j c = record {
    some = c.context.later;
    within = c.context.within;
    by = ap (λ (b : Bool). if b then owner p j else group p j) (of_owner (p.kind j) c.makes) ∙ owner_is g j c.context;
  }

  context_low : (g j : ℕ) → IsPaintedBy g j → g < p.count
  context_low g j part = let b = painter_first g j part in let w = part.within in omega (arith, b, w)

  -- the same for two of them with all that is in them
  in_parts : (g j k a b : ℕ) → IsPaintedBy g j → IsPaintedBy g k → (j ≡ k → ⊥) → (Sorted k j → ⊥) → Under j a → Under k b → IsBehind order a b
  in_parts g j k a b first second other unsorted u v =
      on_page g a b (context_low g j first) (in_through (painter_at p) g j a (under_painter g j first) u) (in_through (painter_at p) g k b (under_painter g k second) v)
      (λ e. other (siblings g j k a first second u (subst (λ z. Under k z) (sym e) v)))
      (ahead_parts g j k a b first second other unsorted u v)

  step_is : (j : ℕ) → is_stacking (p.kind j) ≡ true → (paint_rank_at p j).step ≡ step_of Stacking (p.level j)
  step_is j s = ap (λ (x : PaintKind). step_of x (p.level j)) (stacks (p.kind j) s)

  by_level_lem : (g j k a b : ℕ) → IsChildContext p g j → IsChildContext p g k → p.level j <ℤ p.level k → IsIn p.parent j a → IsIn p.parent k b → IsBehind order a b
  by_level_lem g j k a b first second less x y =
      in_parts g j k a b (child_part g j first) (child_part g k second) apart unsorted (painted_in j a first.makes x) (painted_in k b second.makes y)
    where
      apart : j ≡ k → ⊥
      apart e = let h : p.level j ≡ p.level k = ap p.level e in omega (arith, ints, h, less)

      unsorted : Sorted k j → ⊥
      unsorted r =
          let rises = steps_rise (p.level j) (p.level k) less in
          let sj = step_is j first.makes in
          let sk = step_is k second.makes in
          let not_so = later_level (paint_rank_at p k) (paint_rank_at p j) (omega (arith, rises, sj, sk)) less in
          true≢false (sym r.is ∙ not_so)

  in_document_order_lem : (g j k a b : ℕ) → IsChildContext p g j → IsChildContext p g k → p.level j ≡ p.level k → j < k → IsIn p.parent j a → IsIn p.parent k b → IsBehind order a b
  in_document_order_lem g j k a b first second same less x y =
      in_parts g j k a b (child_part g j first) (child_part g k second) (λ e. omega (arith, e, less)) unsorted (painted_in j a first.makes x) (painted_in k b second.makes y)
    where
      unsorted : Sorted k j → ⊥
      unsorted r =
          let sj = step_is j first.makes in
          let sk = step_is k second.makes in
          let steps : (paint_rank_at p j).step ≡ (paint_rank_at p k).step = sj ∙ ap (step_of Stacking) same ∙ sym sk in
          let t = r.tie (same_rank (paint_rank_at p j) (paint_rank_at p k) steps same) in
          omega (arith, t, less)

  -- the node that g paints and in which content of its stacking context is painted makes none
  record IsPlainPart (g k : ℕ) : Type 0 where
    part : ℕ
    is : IsPaintedBy g part
    holds : Under part k
    plain : is_stacking (p.kind part) ≡ false

  content_part : (g k : ℕ) → IsContentOf p g k → IsPlainPart g k
  content_part g k c =
      let c_in : IsIn p.parent g k = inner k c.context.later c.context.around in
      let first : g < k = (let b = owner-before p o k c.context.later in let e = owner_is g k c.context in omega (arith, b, e)) in
      of_part (part_of (painter_at p) g k (λ e. omega (arith, e, first)) (painted_in g k c.context.makes c_in))
    where
      of_part : IsPart (painter_at p) g k → IsPlainPart g k
      of_part q = record {
        part = q.part;
        is = record { some = q.some; within = (let x = under_low q.part k q.holds in let w = c.context.within in omega (arith, x, w)); by = q.of_it };
        holds = q.holds;
        plain = false_from_ne_true (is_stacking (p.kind q.part)) not_stacking;
      }
        where
          not_stacking : is_stacking (p.kind q.part) ≡ true → ⊥
          not_stacking s = elim (cases_eq k q.part) [
            | inl same ↦ true≢false (sym s ∙ ap (λ (z : ℕ). is_stacking (p.kind z)) (sym same) ∙ c.plain)
            | inr other ↦ (let around = outer p.parent q.part k other (under_is_in q.part k q.holds) in
                let around_part : IsIn p.parent g q.part = inner q.part q.some (subst (λ z. IsIn p.parent z (p.parent q.part)) q.of_it (painter_around q.part)) in
                let same = c.context.nearest q.part around_part around.1 s in
                let b = low q.part q.some in
                let e = q.of_it in
                omega (arith, b, e, same))
          ]

  negative_behind_lem : (g j k a : ℕ) → IsChildContext p g j → IsContentOf p g k → p.level j <ℤ pos 0 → IsIn p.parent j a → IsBehind order a k
  negative_behind_lem g j k a child content less x =
      let q = content_part g k content in
      in_parts g j q.part a k (child_part g j child) q.is (λ e. true≢false (sym child.makes ∙ ap (λ (z : ℕ). is_stacking (p.kind z)) e ∙ q.plain)) (unsorted q) (painted_in j a child.makes x) q.holds
    where
      unsorted : (q : IsPlainPart g k) → Sorted q.part j → ⊥
      unsorted q r =
          let sj = step_is j child.makes in
          let two : step_of Stacking (p.level j) ≡ 2 = negative_step (p.level j) less in
          let steps = plain_steps (p.kind q.part) (p.level q.part) q.plain in
          let not_so = later_step (paint_rank_at p q.part) (paint_rank_at p j) (omega (arith, sj, two, steps.0)) in
          true≢false (sym r.is ∙ not_so)

  positive_in_front_lem : (g j k a : ℕ) → IsChildContext p g j → IsContentOf p g k → pos 0 <ℤ p.level j → IsIn p.parent j a → IsBehind order k a
  positive_in_front_lem g j k a child content more x =
      let q = content_part g k content in
      in_parts g q.part j k a q.is (child_part g j child) (λ e. true≢false (sym child.makes ∙ ap (λ (z : ℕ). is_stacking (p.kind z)) (sym e) ∙ q.plain)) (unsorted q) q.holds (painted_in j a child.makes x)
    where
      unsorted : (q : IsPlainPart g k) → Sorted j q.part → ⊥
      unsorted q r =
          let sj = step_is j child.makes in
          let seven : step_of Stacking (p.level j) ≡ 7 = positive_step (p.level j) more in
          let steps = plain_steps (p.kind q.part) (p.level q.part) q.plain in
          let not_so = later_step (paint_rank_at p j) (paint_rank_at p q.part) (omega (arith, sj, seven, steps.1)) in
          true≢false (sym r.is ∙ not_so)

  context_behind_lem : (g a : ℕ) → is_stacking (p.kind g) ≡ true → g < p.count → (a ≡ g → ⊥) → IsIn p.parent g a → IsBehind order g a
  context_behind_lem g a makes within other x = on_page g g a within itself (painted_in g a makes x) (λ e. other (sym e)) first
    where
      first : (t : ℕ) → Ahead g a (walk p o t g)
      first zero = tt
      first (suc t) = (
        λ e. absurd (other (sym e)),
        ahead_none g a (flat_map (walk p o t) (painted_by p g)) (none_flat (walk p o t) g (painted_by p g)
            (all-more (IsPaintedBy g) (λ k. IsNone g (walk p o t k)) (λ k part. walk_none t k g (λ u. let h = under_low k g u in let f = painter_first g k part in omega (arith, h, f))) (painted_by p g) (parts g))),
      )

  is_stacked : IsStacked p order
  is_stacked = record {
    context_behind = λ g a makes within other x. context_behind_lem g a makes (let h = stands_behind p.parent o.before g a x in omega (arith, h, within)) other x;
    by_level = λ g j k a b first second less wa wb x y. by_level_lem g j k a b first second less x y;
    in_document_order = λ g j k a b first second same less wa wb x y. in_document_order_lem g j k a b first second same less x y;
    negative_behind = λ g j k a child content less wa x. negative_behind_lem g j k a child content less x;
    positive_in_front = λ g j k a child content more wa x. positive_in_front_lem g j k a child content more x;
  }

  singles : (ks : List ℕ) → flat_map (λ k. k ∷ []) ks ≡ ks
  singles [] = refl
  singles (k ∷ ks) = ap (λ (zs : List ℕ). k ∷ zs) (singles ks)

  all_there : IsPermutation (range_with_len 0 p.count) order
  all_there =
      subst (λ (zs : List ℕ). IsPermutation zs order) (singles (range_with_len 0 p.count))
      (subst (λ (zs : List ℕ). IsPermutation (flat_map (λ k. k ∷ []) (range_with_len 0 p.count)) zs) (singles order)
      (same_times (λ k. k ∷ []) (range_with_len 0 p.count) order (λ j. sym (each_once p o j))))

pub painted_in_order_lem : PaintedInOrder
painted_in_order_lem d styles tree is =
    let page : Page = page_of d.nodes styles (frags_of tree) in
    let o : IsOrdered page = ordered d styles (frags_of tree) is in (
      order page o,
      record {
        each = all_there page o;
        pieces = paint-whole page o page.count 0 (omega arith) is.some refl ∙ walk-whole page o page.count 0;
      },
      is_stacked page o,
    )
