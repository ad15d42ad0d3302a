-- Gathering replaces each longest run, and nothing else does.
use Rattle.std.proofs.Common.{◌≡◌, Bool, true, false, List, [], ◌∷◌, ◌++◌, refl, ap, sym, subst, ◌∙◌}
use Rattle.std.proofs.lemmas.List.{append_assoc, append-nil}
use Rattle.lay_boxgen.specs.Boxes.{Tree, facts_of}
use Rattle.lay_boxgen.specs.Runs.{gathered, gathered_from, run_over, is_some, is_white_box}
use Rattle.lay_boxgen.specs.RunLaws.{IsGap, IsFaultyRun, one, further, EndsRun, nothing_follows, other, behind_white, IsReplaced, none, kept, replaced, RunsAreReplaced}
use Rattle.lay_boxgen.specs.declared.facts.Facts.{Facts}

-- three lists and a box between
pub seam : (xs ys : List Tree) (t : Tree) (zs : List Tree) → (xs ++ ys ++ t ∷ []) ++ zs ≡ xs ++ (ys ++ t ∷ zs)
seam xs ys t zs = append_assoc (xs ++ ys) (t ∷ []) zs ∙ append_assoc xs ys (t ∷ zs)

some-append : (xs : List Tree) (t : Tree) (zs : List Tree) → is_some (xs ++ t ∷ zs) ≡ true
some-append [] t zs = refl
some-append (x ∷ xs) t zs = refl

module _ (fault : Facts → Bool) (close : List Tree → List Tree) where
  some_run : (run : List Tree) → IsFaultyRun fault run → is_some run ≡ true
  some_run run (one t h) = refl
  some_run run (further r gap t i g h) = some-append (r ++ gap) t []

  over : (run gap : List Tree) → is_some run ≡ true → run_over close run gap ≡ close run ++ gap
  over [] gap h = cc
  over (x ∷ xs) gap h = refl

  -- a box that isn't faulty stays, where no run is open
  pub stays : (t : Tree) (ts : List Tree) → fault (facts_of t) ≡ false → gathered fault close (t ∷ ts) ≡ t ∷ gathered fault close ts
  stays t ts h = simp h refl

  -- a gap behind an open run
  through_gap : (run before gap ts : List Tree) → is_some run ≡ true → IsGap fault gap → gathered_from fault close run before (gap ++ ts) ≡ gathered_from fault close run (before ++ gap) ts
  through_gap run before [] ts s g = ap (λ r. gathered_from fault close run r ts) (sym (append-nil before))
  through_gap run before (t ∷ gap) ts s g =
      let step : gathered_from fault close run before (t ∷ gap ++ ts) ≡ gathered_from fault close run (before ++ t ∷ []) (gap ++ ts) = simp (g.0, g.1, s) refl in
      step ∙ (through_gap run (before ++ t ∷ []) gap ts s g.2 ∙ ap (λ r. gathered_from fault close run r ts) (append_assoc before (t ∷ []) gap))

  through_fault : (run gap : List Tree) (t : Tree) (ts : List Tree) → fault (facts_of t) ≡ true → gathered_from fault close run gap (t ∷ ts) ≡ gathered_from fault close (run ++ gap ++ t ∷ []) [] ts
  through_fault run gap t ts h = simp h refl

  -- a run is open behind it
  through_run : (run ts : List Tree) → IsFaultyRun fault run → gathered fault close (run ++ ts) ≡ gathered_from fault close run [] ts
  through_run run ts (one t h) = through_fault [] [] t ts h
  through_run run ts (further r gap t i g h) =
      ap (gathered fault close) (seam r gap t ts)
      ∙ (through_run r (gap ++ t ∷ ts) i
      ∙ (through_gap r [] gap (t ∷ ts) (some_run r i) g
      ∙ through_fault r gap t ts h))

  -- and over where siblings end it
  ended : (run gap ts : List Tree) → is_some run ≡ true → EndsRun fault ts → gathered_from fault close run gap ts ≡ close run ++ (gap ++ gathered fault close ts)
  ended run gap ts s nothing_follows = over run gap s ∙ ap (λ r. close run ++ r) (sym (append-nil gap))
  ended run gap ts s (other t us h w) =
      let step : gathered_from fault close run gap (t ∷ us) ≡ (run_over close run gap ++ t ∷ []) ++ gathered fault close us = simp (h, w, s) refl in
      step
      ∙ (append_assoc (run_over close run gap) (t ∷ []) (gathered fault close us)
      ∙ (ap (λ r. r ++ t ∷ gathered fault close us) (over run gap s)
      ∙ (append_assoc (close run) gap (t ∷ gathered fault close us)
      ∙ ap (λ r. close run ++ (gap ++ r)) (sym (stays t us h)))))
  ended run gap ts s (behind_white t us h w e) =
      let step : gathered_from fault close run gap (t ∷ us) ≡ gathered_from fault close run (gap ++ t ∷ []) us = simp (h, w, s) refl in
      step
      ∙ (ended run (gap ++ t ∷ []) us s e
      ∙ (ap (λ r. close run ++ r) (append_assoc gap (t ∷ []) (gathered fault close us))
      ∙ ap (λ r. close run ++ (gap ++ r)) (sym (stays t us h))))

  only : (ts us : List Tree) → IsReplaced fault close ts us → us ≡ gathered fault close ts
  only ts us none = refl
  only ts us (kept t xs ys h r) = ap (λ r. t ∷ r) (only xs ys r) ∙ sym (stays t xs h)
  only ts us (replaced run xs ys i e r) =
      ap (λ r. close run ++ r) (only xs ys r) ∙ sym (through_run run xs i ∙ ended run [] xs (some_run run i) e)

  gap_ends : (gap ts : List Tree) → IsGap fault gap → EndsRun fault ts → EndsRun fault (gap ++ ts)
  gap_ends [] ts g e = e
  gap_ends (t ∷ gap) ts g e = behind_white t (gap ++ ts) g.0 g.1 (gap_ends gap ts g.2 e)

  gap_kept : (gap ts us : List Tree) → IsGap fault gap → IsReplaced fault close ts us → IsReplaced fault close (gap ++ ts) (gap ++ us)
  gap_kept [] ts us g r = r
  gap_kept (t ∷ gap) ts us g r = kept t (gap ++ ts) (gap ++ us) g.0 (gap_kept gap ts us g.2 r)

  longer_gap : (gap : List Tree) (t : Tree) → IsGap fault gap → fault (facts_of t) ≡ false → is_white_box t ≡ true → IsGap fault (gap ++ t ∷ [])
  longer_gap [] t g h w = (h, w, tt)
  longer_gap (x ∷ gap) t g h w = (g.0, g.1, longer_gap gap t g.2 h w)

  -- with no run open, and with one
  abbrev Both : List Tree → Type 0
  Both ts =
      IsReplaced fault close ts (gathered fault close ts)
      × ((run gap : List Tree) → IsFaultyRun fault run → IsGap fault gap → IsReplaced fault close (run ++ (gap ++ ts)) (gathered_from fault close run gap ts))

  closed_by : (t : Tree) (ts : List Tree) → Both ts → (b : Bool) → fault (facts_of t) ≡ b → IsReplaced fault close (t ∷ ts) (gathered fault close (t ∷ ts))
  closed_by t ts ih true h = subst (IsReplaced fault close (t ∷ ts)) (sym (through_fault [] [] t ts h)) (ih.1 (t ∷ []) [] (one t h) tt)
  closed_by t ts ih false h = subst (IsReplaced fault close (t ∷ ts)) (sym (stays t ts h)) (kept t ts (gathered fault close ts) h ih.0)

  opened_by : (t : Tree) (ts : List Tree) → Both ts → (run gap : List Tree) → IsFaultyRun fault run → IsGap fault gap → (b w : Bool) → fault (facts_of t) ≡ b → is_white_box t ≡ w
      → IsReplaced fault close (run ++ (gap ++ t ∷ ts)) (gathered_from fault close run gap (t ∷ ts))
  opened_by t ts ih run gap i g true w h v =
      subst (λ r. IsReplaced fault close r (gathered_from fault close run gap (t ∷ ts))) (seam run gap t ts)
      (subst (IsReplaced fault close ((run ++ gap ++ t ∷ []) ++ ts)) (sym (through_fault run gap t ts h))
      (ih.1 (run ++ gap ++ t ∷ []) [] (further run gap t i g h) tt))
  opened_by t ts ih run gap i g false true h v =
      let step : gathered_from fault close run gap (t ∷ ts) ≡ gathered_from fault close run (gap ++ t ∷ []) ts = simp (h, v, some_run run i) refl in
      subst (λ r. IsReplaced fault close (run ++ r) (gathered_from fault close run gap (t ∷ ts))) (append_assoc gap (t ∷ []) ts)
      (subst (IsReplaced fault close (run ++ ((gap ++ t ∷ []) ++ ts))) (sym step) (ih.1 run (gap ++ t ∷ []) i (longer_gap gap t g h v)))
  opened_by t ts ih run gap i g false false h v =
      subst (IsReplaced fault close (run ++ (gap ++ t ∷ ts)))
      (sym (ended run gap (t ∷ ts) (some_run run i) (other t ts h v) ∙ ap (λ r. close run ++ (gap ++ r)) (stays t ts h)))
      (replaced run (gap ++ t ∷ ts) (gap ++ t ∷ gathered fault close ts) i (gap_ends gap (t ∷ ts) g (other t ts h v))
      (gap_kept gap (t ∷ ts) (t ∷ gathered fault close ts) g (kept t ts (gathered fault close ts) h ih.0)))

  at_end : (run gap : List Tree) → IsFaultyRun fault run → IsGap fault gap → IsReplaced fault close (run ++ (gap ++ [])) (gathered_from fault close run gap [])
  at_end run gap i g =
      subst (IsReplaced fault close (run ++ (gap ++ []))) (ap (λ r. close run ++ r) (append-nil gap) ∙ sym (over run gap (some_run run i)))
      (replaced run (gap ++ []) (gap ++ []) i (gap_ends gap [] g nothing_follows) (gap_kept gap [] [] g none))

  both : (ts : List Tree) → Both ts
  both [] = (none, at_end)
  both (t ∷ ts) =
      let ih = both ts in
      (closed_by t ts ih (fault (facts_of t)) refl, λ run gap i g. opened_by t ts ih run gap i g (fault (facts_of t)) (is_white_box t) refl refl)

pub runs_are_replaced : RunsAreReplaced
runs_are_replaced fault close ts us = (λ r. only fault close ts us r, λ e. subst (IsReplaced fault close ts) (sym e) (both fault close ts).0)
