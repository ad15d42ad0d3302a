-- Columns that share, column by column.
use Rattle.std.proofs.Common.{◌≡◌, ◌⊎◌, inl, inr, ℕ, zero, suc, ◌+◌, ◌*◌, ◌<◌, ◌≤◌, ℤ, pos, ◌+ℤ◌, ◌-ℤ◌, ◌≤ℤ◌, Bool, true, false, cond, Option, Some, None, List, [], ◌∷◌, ◌++◌, length, drop, get_or, refl, sym, ap, ◌∙◌, subst, below_more, arith}
use Rattle.std.proofs.lemmas.Int.{ints}
use Rattle.std.proofs.lemmas.Bool.{cases_lt}
use Rattle.std.proofs.lemmas.List.{drop_more, get_or_append_left, get_or_push}
use Rattle.lay_units.specs.declared.length.Unit.{Unit}
use Rattle.lay_grid.specs.Shares.{own_width, sum_own, sum_of, all_own, takes_share, width_at, own_at, share_at, takes_at}
use Rattle.lay_grid.specs.Pass.Sharing.{SharedTo, count_takers}

some_without : (all : Bool) (owns : List (Option Unit)) → all_own owns ≡ false → 0 < count_takers all owns
some_without all [] e = absurd (cc e)
some_without all (None ∷ owns) e = omega arith
some_without all (Some w ∷ owns) e = let h = some_without all owns e in omega (arith, h)

some_taker : (all : Bool) (owns : List (Option Unit)) → 0 < length owns → all ≡ all_own owns → 0 < count_takers all owns
some_taker all [] some e = absurd (omega (arith, some))
some_taker all (None ∷ owns) some e = omega arith
some_taker true (Some w ∷ owns) some e = omega arith
some_taker false (Some w ∷ owns) some e = let h = some_without false owns (sym e) in omega (arith, h)

pub takers_some : (n : ℕ) (all : Bool) (owns : List (Option Unit)) → 0 < length owns → all ≡ all_own owns → n ≡ count_takers all owns → 0 < n
takers_some n all owns some e is = let h = some_taker all owns some e in omega (arith, h, is)

sum_push : (widths : List Unit) (w : Unit) → sum_of (widths ++ w ∷ []) ≡ (sum_of widths +ℤ w.0)
sum_push [] w = omega (arith, ints)
sum_push (v ∷ widths) w = let h = sum_push widths w in omega (arith, ints, h)

at_old : (widths : List Unit) (w : Unit) (i : ℕ) → i < length widths → width_at (widths ++ w ∷ []) i ≡ width_at widths i
at_old widths w i lt = ap (λ (u : Unit). u.0) (get_or_append_left widths (w ∷ []) _ i lt)

at_new : (widths : List Unit) (w : Unit) (n : ℕ) → length widths ≡ n → width_at (widths ++ w ∷ []) n ≡ w.0
at_new widths w n e = ap (λ (u : Unit). u.0) (get_or_push widths w _ n e)

pub length_push : (widths : List Unit) (w : Unit) → length (widths ++ w ∷ []) ≡ length widths + 1
length_push [] w = refl
length_push (v ∷ widths) w = let h = length_push widths w in omega (arith, h)

-- what a step does with a column
pub record Step (all : Bool) (own : Option Unit) (each more after : ℕ) (w : Unit) : Type 0 where
  pub kept : takes_share all own ≡ false → (w.0 ≡ own_width own) × (after ≡ more)
  pub greater : takes_share all own ≡ true → 0 < more → (w.0 ≡ (own_width own +ℤ pos (each + 1))) × (after + 1 ≡ more)
  pub lesser : takes_share all own ≡ true → more ≡ 0 → (w.0 ≡ (own_width own +ℤ pos each)) × (after ≡ 0)

abbrev pub Kind : Bool → ℕ → Type 0
Kind t more = (t ≡ false) ⊎ (((t ≡ true) × (0 < more)) ⊎ ((t ≡ true) × (more ≡ 0)))

pub kind : (t : Bool) (more : ℕ) → Kind t more
kind false more = inl refl
kind true zero = inr (inr (refl, refl))
kind true (suc more) = inr (inl (refl, omega arith))

kept_sum : (s o r w all : ℤ) (c each more after : ℕ) → w ≡ o → after ≡ more → ((s +ℤ (o +ℤ r)) +ℤ pos ((0 + c) * each + more)) ≡ all
    → (((s +ℤ w) +ℤ r) +ℤ pos (c * each + after)) ≡ all
kept_sum s o r w all c each more after e f h = omega (arith, ints)

greater_sum : (s o r w all : ℤ) (c each more after : ℕ) → w ≡ (o +ℤ pos (each + 1)) → after + 1 ≡ more
    → ((s +ℤ (o +ℤ r)) +ℤ pos ((1 + c) * each + more)) ≡ all → (((s +ℤ w) +ℤ r) +ℤ pos (c * each + after)) ≡ all
greater_sum s o r w all c each more after e f h = omega (arith, ints)

lesser_sum : (s o r w all : ℤ) (c each more after : ℕ) → w ≡ (o +ℤ pos each) → after ≡ 0 → more ≡ 0
    → ((s +ℤ (o +ℤ r)) +ℤ pos ((1 + c) * each + more)) ≡ all → (((s +ℤ w) +ℤ r) +ℤ pos (c * each + after)) ≡ all
lesser_sum s o r w all c each more after e f g h = omega (arith, ints)

-- the facts of a step, in one place
shift : (owns : List (Option Unit)) (widths : List Unit) (w : Unit) (i : ℕ) → i < length widths → share_at owns (widths ++ w ∷ []) i ≡ share_at owns widths i
shift owns widths w i lt = ap (λ (v : ℤ). v -ℤ own_width (own_at owns i)) (at_old widths w i lt)

here : (owns : List (Option Unit)) (widths : List Unit) (w : Unit) (n : ℕ) (v : ℤ) → length widths ≡ n → w.0 ≡ (own_width (own_at owns n) +ℤ v)
    → share_at owns (widths ++ w ∷ []) n ≡ v
here owns widths w n v e is = let a = at_new widths w n e in omega (arith, ints, a, is)

sum_more : (owns : List (Option Unit)) (rest each more after n : ℕ) (widths : List Unit) (w : Unit) → SharedTo owns rest each more n widths
    → n < length owns → Step (all_own owns) (own_at owns n) each more after w
    → Kind (takes_at owns n) more
    → ((sum_of (widths ++ w ∷ []) +ℤ sum_own (drop (n + 1) owns)) +ℤ pos (count_takers (all_own owns) (drop (n + 1) owns) * each + after)) ≡
    (sum_own owns +ℤ pos rest)
sum_more owns rest each more after n widths w to lt step kind =
    rw (sum_push widths w) (from kind)
  where
    d : drop n owns ≡ own_at owns n ∷ drop (n + 1) owns
    d = drop_more owns n None lt

    s : sum_own (drop n owns) ≡ (own_width (own_at owns n) +ℤ sum_own (drop (n + 1) owns))
    s = ap sum_own d

    m : count_takers (all_own owns) (drop n owns) ≡ cond (takes_at owns n) 1 0 + count_takers (all_own owns) (drop (n + 1) owns)
    m = ap (count_takers (all_own owns)) d

    c : (b : Bool) → takes_at owns n ≡ b
        → ((sum_of widths +ℤ (own_width (own_at owns n) +ℤ sum_own (drop (n + 1) owns))) +ℤ pos
        ((cond b 1 0 + count_takers (all_own owns) (drop (n + 1) owns)) * each + more)) ≡ (sum_own owns +ℤ pos rest)
    c b e = rw (← e, ← m, ← s) to.sum

    from : Kind (takes_at owns n) more
        → (((sum_of widths +ℤ w.0) +ℤ sum_own (drop (n + 1) owns)) +ℤ pos (count_takers (all_own owns) (drop (n + 1) owns) * each + after)) ≡
        (sum_own owns +ℤ pos rest)
    from (inl t) = let k = step.kept t in kept_sum _ _ _ _ _ _ each more after k.0 k.1 (c false t)
    from (inr (inl t)) = let k = step.greater t.0 t.1 in greater_sum _ _ _ _ _ _ each more after k.0 k.1 (c true t.0)
    from (inr (inr t)) = let k = step.lesser t.0 t.1 in lesser_sum _ _ _ _ _ _ each more after k.0 k.1 t.1 (c true t.0)

enough_more : (owns : List (Option Unit)) (rest each more after n : ℕ) (widths : List Unit) (w : Unit) → SharedTo owns rest each more n widths
    → n < length owns → Step (all_own owns) (own_at owns n) each more after w
    → Kind (takes_at owns n) more → after ≤ count_takers (all_own owns) (drop (n + 1) owns)
enough_more owns rest each more after n widths w to lt step kind = from kind
  where
    m : count_takers (all_own owns) (drop n owns) ≡ cond (takes_at owns n) 1 0 + count_takers (all_own owns) (drop (n + 1) owns)
    m = ap (count_takers (all_own owns)) (drop_more owns n None lt)

    c : (b : Bool) → takes_at owns n ≡ b → more ≤ cond b 1 0 + count_takers (all_own owns) (drop (n + 1) owns)
    c b e = rw (← e, ← m) to.enough

    from : Kind (takes_at owns n) more → after ≤ count_takers (all_own owns) (drop (n + 1) owns)
    from (inl t) = let k = (step.kept t).1 in let h = c false t in omega (arith, k, h)
    from (inr (inl t)) = let k = (step.greater t.0 t.1).1 in let h = c true t.0 in omega (arith, k, h)
    from (inr (inr t)) = let k = (step.lesser t.0 t.1).1 in omega (arith, k)

taken_before : (owns : List (Option Unit)) (each more after n : ℕ) (v : ℤ) (w : Unit) → Step (all_own owns) (own_at owns n) each more after w
    → Kind (takes_at owns n) more → ((v ≡ pos (each + 1)) ⊎ ((v ≡ pos each) × (more ≡ 0))) → (v ≡ pos (each + 1)) ⊎ ((v ≡ pos each) × (after ≡ 0))
taken_before owns each more after n v w step kind (inl e) = inl e
taken_before owns each more after n v w step (inl t) (inr e) = inr (e.0, (step.kept t).1 ∙ e.1)
taken_before owns each more after n v w step (inr (inl t)) (inr e) = let p = t.1 in let q = e.1 in absurd (omega (arith, p, q))
taken_before owns each more after n v w step (inr (inr t)) (inr e) = inr (e.0, (step.lesser t.0 t.1).1)

taken_here : (owns : List (Option Unit)) (each more after n : ℕ) (widths : List Unit) (w : Unit) → length widths ≡ n
    → Step (all_own owns) (own_at owns n) each more after w → Kind (takes_at owns n) more → takes_at owns n ≡ true
    → (share_at owns (widths ++ w ∷ []) n ≡ pos (each + 1)) ⊎ ((share_at owns (widths ++ w ∷ []) n ≡ pos each) × (after ≡ 0))
taken_here owns each more after n widths w len step (inl f) t = absurd (cc (f, t))
taken_here owns each more after n widths w len step (inr (inl g)) t = inl (here owns widths w n _ len (step.greater t g.1).0)
taken_here owns each more after n widths w len step (inr (inr g)) t = inr (here owns widths w n _ len (step.lesser t g.1).0, (step.lesser t g.1).1)

-- an earlier share isn't the lesser
last_order : (each more after : ℕ) (v z : ℤ) → ((v ≡ pos (each + 1)) ⊎ ((v ≡ pos each) × (more ≡ 0)))
    → (((z ≡ pos (each + 1)) × (0 < more)) ⊎ (z ≡ pos each)) → z ≤ℤ v
last_order each more after v z (inl e) (inl f) = let g = f.0 in omega (arith, ints, e, g)
last_order each more after v z (inl e) (inr f) = omega (arith, ints, e, f)
last_order each more after v z (inr e) (inl f) = let p = e.1 in let q = f.1 in absurd (omega (arith, p, q))
last_order each more after v z (inr e) (inr f) = let p = e.0 in omega (arith, ints, p, f)

last_share : (owns : List (Option Unit)) (each more after n : ℕ) (widths : List Unit) (w : Unit) → length widths ≡ n
    → Step (all_own owns) (own_at owns n) each more after w → Kind (takes_at owns n) more → takes_at owns n ≡ true
    → ((share_at owns (widths ++ w ∷ []) n ≡ pos (each + 1)) × (0 < more)) ⊎ (share_at owns (widths ++ w ∷ []) n ≡ pos each)
last_share owns each more after n widths w len step (inl f) t = absurd (cc (f, t))
last_share owns each more after n widths w len step (inr (inl g)) t = inl (here owns widths w n _ len (step.greater t g.1).0, g.1)
last_share owns each more after n widths w len step (inr (inr g)) t = inr (here owns widths w n _ len (step.lesser t g.1).0)

pub shared_more : (owns : List (Option Unit)) (rest each more after n : ℕ) (widths : List Unit) (w : Unit) → SharedTo owns rest each more n widths
    → n < length owns → Step (all_own owns) (own_at owns n) each more after w
    → SharedTo owns rest each after (n + 1) (widths ++ w ∷ [])
shared_more owns rest each more after n widths w to lt step =
    let k = kind (takes_at owns n) more in record {
      as_many = let e = length_push widths w in let m = to.as_many in omega (arith, e, m);
      sum = sum_more owns rest each more after n widths w to lt step k;
      enough = enough_more owns rest each more after n widths w to lt step k;
      kept = below_more _ n (λ i less t. old i less ∙ to.kept i less t) (λ t. let e = (step.kept t).0 in here owns widths w n (pos 0) to.as_many
          (omega (arith, ints, e)));
      taken = below_more _ n (λ i less t. subst (λ (v : ℤ). (v ≡ pos (each + 1)) ⊎ ((v ≡ pos each) × (after ≡ 0))) (sym (old i less))
          (taken_before owns each more after n _ w step k (to.taken i less t)))
          (λ t. taken_here owns each more after n widths w to.as_many step k t);
      order = λ i j before within ti tj. ordered i j before ti tj (cases_lt j n) within;
    }
  where
    old : (i : ℕ) → i < n → share_at owns (widths ++ w ∷ []) i ≡ share_at owns widths i
    old i less = let m = to.as_many in shift owns widths w i (omega (arith, m, less))

    ordered : (i j : ℕ) → i < j → takes_at owns i ≡ true → takes_at owns j ≡ true → ((j < n) ⊎ (n ≤ j)) → j < n + 1
        → share_at owns (widths ++ w ∷ []) j ≤ℤ share_at owns (widths ++ w ∷ []) i
    ordered i j before ti tj (inl less) within = rw (old i (omega arith), old j less) (to.order i j before less ti tj)
    ordered i j before ti tj (inr not) within =
        let e : n ≡ j = omega arith in
        let t : takes_at owns n ≡ true = subst (λ (m : ℕ). takes_at owns m ≡ true) (sym e) tj in
        let z = last_share owns each more after n widths w to.as_many step (kind (takes_at owns n) more) t in
        subst (λ (m : ℕ). share_at owns (widths ++ w ∷ []) m ≤ℤ share_at owns (widths ++ w ∷ []) i) e
        (last_order each more after _ _ (subst (λ (v : ℤ). (v ≡ pos (each + 1)) ⊎ ((v ≡ pos each) × (more ≡ 0))) (sym (old i (omega arith)))
        (to.taken i (omega arith) ti)) z)

-- what own widths leave
pub rest_more : (owns : List (Option Unit)) (n : ℕ) (r m t : ℤ) → n < length owns → (r -ℤ sum_own (drop n owns)) ≡ t
    → m ≡ (r -ℤ own_width (get_or owns n None)) → (m -ℤ sum_own (drop (n + 1) owns)) ≡ t
rest_more owns n r m t lt v e = let d = ap sum_own (drop_more owns n None lt) in omega (arith, ints, d, v, e)
