-- A walk to the root, and the steps of a selector from the last one on.
use Rattle.std.proofs.Common.{◌≡◌, ◌≢◌, ◌∙◌, ℕ, zero, suc, ◌+◌, ◌<◌, ◌≤◌, ◌⊎◌, inl, inr, List, [], ◌∷◌, ◌++◌, Bool, true, false, length, take, reverse, refl, sym, ap, subst, arith}
use Rattle.std.specs.Prelude.{slice_index, slice_index_or, Some, if◌then◌else◌, not, ◌==◌}
use Rattle.std.specs.List.{Contains}
use Rattle.std.proofs.lemmas.Bool.{false≢true, cases_lt, ne_eqb}
use Rattle.std.proofs.lemmas.List.{length-reverse, reverse-append, take_more, take_all, get_or_default}
use Rattle.std.proofs.lemmas.List.Elements.{Contains-push, Contains-push_cases, Contains-append_left}
use Rattle.lay_doc.specs.declared.node.Node.{Node}
use Rattle.lay_doc.specs.Document.{parents_of}
use Rattle.lay_doc.specs.Tree.{IsUnder, itself}
use Rattle.lay_cascade.specs.declared.node_names.names.Names.{Names}
use Rattle.lay_sheet.specs.declared.selector.Joint.TheVariants.{Descendant}
use Rattle.lay_sheet.specs.declared.selector.Simple.{Simple}
use Rattle.lay_sheet.specs.declared.selector.Step.{Step}
use Rattle.lay_cascade.specs.NodeNames.{fits_at}
use Rattle.lay_cascade.specs.Matching.{Matches, Stands, first, next}
use Rattle.lay_cascade.specs.Rising.{AreWithin, IsRising, AreBefore, with_fitting}
use Rattle.lay_cascade.proofs.Standing.{under_parent, further, parent_above, above_under}
use Rattle.lay_cascade.proofs.Climbing.{fits_within, element_at, nothing_in, alone_in, rising_none, rising_push}

-- what a walk from the node at p has found when it is at another
pub record IsClimbed (nodes : List Node) (names : List Names) (p : ℕ) (simple : Simple) (at : ℕ) (found : List ℕ) : Type 0 where
  pub over : IsUnder (parents_of nodes) at p
  pub within : AreWithin (length nodes) found
  pub fitting : (m : ℕ) → Contains found m → fits_at names m simple ≡ true
  pub sound : (m : ℕ) → Contains found m → Stands nodes Descendant m p
  pub covered : (m : ℕ) → Contains found m → IsUnder (parents_of nodes) at m
  pub complete : (m : ℕ) → Stands nodes Descendant m p → fits_at names m simple ≡ true → Contains found m ⊎ Stands nodes Descendant m at
  pub rising : IsRising nodes found

module _ (nodes : List Node) (names : List Names) (p : ℕ) (simple : Simple) where
  pub climbed_none : IsClimbed nodes names p simple p []
  climbed_none = record {
    over = itself;
    within = λ m w. absurd (nothing_in m w);
    fitting = λ m w. absurd (nothing_in m w);
    sound = λ m w. absurd (nothing_in m w);
    covered = λ m w. absurd (nothing_in m w);
    complete = λ m s f. inr s;
    rising = rising_none nodes;
  }

  module _ (at up : ℕ) (found : List ℕ) (was : IsClimbed nodes names p simple at found) (some : 0 < at) (is_up : up ≡ slice_index (parents_of nodes) at) (count : length names ≡ length nodes) where
    up_at : IsUnder (parents_of nodes) up at
    up_at = subst (λ z. IsUnder (parents_of nodes) z at) (sym is_up) (parent_above nodes at some)

    up_stands : Stands nodes Descendant up at
    up_stands = (some, subst (λ z. IsUnder (parents_of nodes) up z) is_up itself)

    covered_same : (m : ℕ) → Contains found m → IsUnder (parents_of nodes) up m
    covered_same m w = further nodes up at m up_at (was.covered m w)

    -- what stands above stands above the parent, or is it
    reached : (m : ℕ) → Stands nodes Descendant m at → (m ≡ up) ⊎ Stands nodes Descendant m up
    reached m s = under_parent nodes m up (subst (λ z. IsUnder (parents_of nodes) m z) (sym is_up) s.1)

    climbed_same : fits_at names up simple ≡ false → IsClimbed nodes names p simple up found
    climbed_same e = record {
      over = further nodes up at p up_at was.over;
      within = was.within;
      fitting = was.fitting;
      sound = was.sound;
      covered = covered_same;
      complete = λ m s f. of_cases m f (was.complete m s f);
      rising = was.rising;
    }
      where
        of_up : (m : ℕ) → fits_at names m simple ≡ true → (m ≡ up) ⊎ Stands nodes Descendant m up → Contains found m ⊎ Stands nodes Descendant m up
        of_up m f (inl q) = absurd (false≢true (sym e ∙ subst (λ z. fits_at names z simple ≡ true) q f))
        of_up m f (inr s) = inr s

        of_cases : (m : ℕ) → fits_at names m simple ≡ true → Contains found m ⊎ Stands nodes Descendant m at → Contains found m ⊎ Stands nodes Descendant m up
        of_cases m f (inl w) = inl w
        of_cases m f (inr s) = of_up m f (reached m s)

    climbed_push : fits_at names up simple ≡ true → IsClimbed nodes names p simple up (found ++ up ∷ [])
    climbed_push e = record {
      over = further nodes up at p up_at was.over;
      within = λ m w. within m (Contains-push_cases found up m w);
      fitting = λ m w. fitting m (Contains-push_cases found up m w);
      sound = λ m w. sound m (Contains-push_cases found up m w);
      covered = λ m w. covered m (Contains-push_cases found up m w);
      complete = λ m s f. of_cases m f (was.complete m s f);
      rising = rising_push nodes found up was.rising (λ x w a s. above_under nodes a up x s (covered_same x w));
    }
      where
        within : (m : ℕ) → Contains found m ⊎ (up ≡ m) → m < length nodes
        within m (inl w) = was.within m w
        within m (inr q) = subst (λ z. z < length nodes) q (subst (λ z. up < z) count (fits_within names up simple e))

        fitting : (m : ℕ) → Contains found m ⊎ (up ≡ m) → fits_at names m simple ≡ true
        fitting m (inl w) = was.fitting m w
        fitting m (inr q) = subst (λ z. fits_at names z simple ≡ true) q e

        sound : (m : ℕ) → Contains found m ⊎ (up ≡ m) → Stands nodes Descendant m p
        sound m (inl w) = was.sound m w
        sound m (inr q) = subst (λ z. Stands nodes Descendant z p) q (above_under nodes up at p up_stands was.over)

        covered : (m : ℕ) → Contains found m ⊎ (up ≡ m) → IsUnder (parents_of nodes) up m
        covered m (inl w) = covered_same m w
        covered m (inr q) = subst (λ z. IsUnder (parents_of nodes) up z) q itself

        of_up : (m : ℕ) → (m ≡ up) ⊎ Stands nodes Descendant m up → Contains (found ++ up ∷ []) m ⊎ Stands nodes Descendant m up
        of_up m (inl q) = inl (subst (λ z. Contains (found ++ up ∷ []) z) (sym q) (Contains-push found up))
        of_up m (inr s) = inr s

        of_cases : (m : ℕ) → fits_at names m simple ≡ true → Contains found m ⊎ Stands nodes Descendant m at → Contains (found ++ up ∷ []) m ⊎ Stands nodes Descendant m up
        of_cases m f (inl w) = inl (Contains-append_left found (up ∷ []) m w)
        of_cases m f (inr s) = of_up m (reached m s)

    pub climbed_more : IsClimbed nodes names p simple up (with_fitting names found (Some up) simple)
    climbed_more = of_fit (fits_at names up simple) refl
      where
        of_fit : (b : Bool) → fits_at names up simple ≡ b → IsClimbed nodes names p simple up (if b then found ++ up ∷ [] else found)
        of_fit true e = climbed_push e
        of_fit false e = climbed_same e

  -- at the root nothing is above
  pub climbed_all : (found : List ℕ) → IsClimbed nodes names p simple 0 found → AreBefore nodes names (p ∷ []) Descendant simple found
  climbed_all found was = record {
    within = was.within;
    fitting = was.fitting;
    sound = λ m w. (p, Contains-push [] p, was.sound m w);
    complete = λ m k w s f. of_cases m (was.complete m (subst (λ z. Stands nodes Descendant m z) (sym (alone_in p k w)) s) f);
    rising = was.rising;
  }
    where
      of_cases : (m : ℕ) → Contains found m ⊎ Stands nodes Descendant m 0 → Contains found m
      of_cases m (inl w) = w
      of_cases m (inr s) = let h = s.0 in absurd (omega (arith, h))

-- what stands above any of a rising list stands above the first
pub before_first : (nodes : List Node) (names : List Names) (places found : List ℕ) (simple : Simple) → IsRising nodes places → 0 < length places →
    AreBefore nodes names (slice_index places 0 ∷ []) Descendant simple found → AreBefore nodes names places Descendant simple found
before_first nodes names places found simple rising some was = record {
  within = was.within;
  fitting = was.fitting;
  sound = λ m w. sound m (was.sound m w);
  complete = λ m k w s f. was.complete m (slice_index places 0) (Contains-push [] (slice_index places 0)) (above_first m k w s) f;
  rising = was.rising;
}
  where
    sound : (m : ℕ) → ((k : ℕ) × Contains (slice_index places 0 ∷ []) k × Stands nodes Descendant m k) → (k : ℕ) × Contains places k × Stands nodes Descendant m k
    sound m s = (slice_index places 0, element_at places 0 some, subst (λ z. Stands nodes Descendant m z) (sym (alone_in (slice_index places 0) s.0 s.1)) s.2)

    by_place : (m i : ℕ) → i < length places → (0 < i) ⊎ (i ≤ 0) → Stands nodes Descendant m (slice_index places i) → Stands nodes Descendant m (slice_index places 0)
    by_place m i h (inl l) s = rising 0 i l h m s
    by_place m i h (inr g) s = let e : i ≡ 0 = omega (arith, g) in subst (λ z. Stands nodes Descendant m (slice_index places z)) e s

    above_first : (m k : ℕ) → Contains places k → Stands nodes Descendant m k → Stands nodes Descendant m (slice_index places 0)
    above_first m k w s =
        let e : slice_index places w.0 ≡ k = get_or_default places w.0 0 k w.1 ∙ w.2 in
        by_place m w.0 w.1 (cases_lt 0 w.0) (subst (λ z. Stands nodes Descendant m z) (sym e) s)

-- one more step is the first of those listed from the last on
pub reversed_more : (steps : List Step) (i : ℕ) (step : Step) → i < length steps → step ≡ slice_index_or steps i step → reverse (take (i + 1) steps) ≡ step ∷ reverse (take i steps)
reversed_more steps i step h is =
    ap reverse (take_more steps i step h ∙ ap (λ z. take i steps ++ z ∷ []) (sym is)) ∙ reverse-append (take i steps) (step ∷ [])

pub length_take : (steps : List Step) (i : ℕ) → i ≤ length steps → length (take i steps) ≡ i
length_take [] zero h = refl
length_take [] (suc i) h = absurd (omega (arith, h))
length_take (s ∷ ss) zero h = refl
length_take (s ∷ ss) (suc i) h = let e : i ≤ length ss = omega (arith, h) in ap suc (length_take ss i e)

-- these nodes fit a step, and just they lead on from the steps before to the node at a place
pub record IsLed (nodes : List Node) (names : List Names) (steps : List Step) (place rest : ℕ) (places : List ℕ) : Type 0 where
  pub within : AreWithin (length nodes) places
  pub rising : IsRising nodes places
  pub fitting : (m : ℕ) (step : Step) → Contains places m → step ≡ slice_index_or steps rest step → fits_at names m step.simple ≡ true
  pub sound : (m : ℕ) → Contains places m → Matches nodes names (reverse (take (rest + 1) steps)) m → Matches nodes names (reverse steps) place
  pub complete : Matches nodes names (reverse steps) place → (m : ℕ) × Contains places m × Matches nodes names (reverse (take (rest + 1) steps)) m

module _ (nodes : List Node) (names : List Names) where
  pub head_fits : (step : Step) (steps before : List Step) (m : ℕ) → steps ≡ step ∷ before → Matches nodes names steps m → fits_at names m step.simple ≡ true
  head_fits step steps before m is w = of_match step before m (subst (λ z. Matches nodes names z m) is w)
    where
      of_match : (step : Step) (before : List Step) (m : ℕ) → Matches nodes names (step ∷ before) m → fits_at names m step.simple ≡ true
      of_match step before m (first s-1 k-1 e) = e
      of_match step before m (next s-1 b-1 n k-1 w stands e) = e

  pub step_back : (step : Step) (before : List Step) (m : ℕ) → 0 < length before → Matches nodes names (step ∷ before) m → (n : ℕ) × Matches nodes names before n × Stands nodes step.joint n m
  step_back step before m some (first s-1 k-1 e) = absurd (omega (arith, some))
  step_back step before m some (next s-1 b-1 n k-1 w stands e) = (n, w, stands)

  module _ (steps : List Step) (place : ℕ) where
    -- the last step leads to the node itself
    pub led_last : (last : ℕ) (step : Step) (places : List ℕ) → length steps ≡ last + 1 → step ≡ slice_index_or steps last step → place < length nodes →
        places ≡ with_fitting names [] (Some place) step.simple → IsLed nodes names steps place last places
    led_last last step places count is here found = of_fit (fits_at names place step.simple) refl
      where
        all : reverse (take (last + 1) steps) ≡ reverse steps
        all = let h : length steps ≤ last + 1 = omega (arith, count) in ap reverse (take_all (last + 1) steps h)

        same : (other : Step) → other ≡ slice_index_or steps last other → step ≡ other
        same other e = is ∙ get_or_default steps last step other (omega (arith, count)) ∙ sym e

        head : reverse steps ≡ step ∷ reverse (take last steps)
        head = sym all ∙ reversed_more steps last step (omega (arith, count)) is

        found_is : (b : Bool) → fits_at names place step.simple ≡ b → places ≡ (if b then place ∷ [] else [])
        found_is b e = found ∙ ap (λ z. if z then place ∷ [] else []) e

        alone : IsRising nodes (place ∷ [])
        alone = rising_push nodes [] place (rising_none nodes) (λ x w. absurd (nothing_in x w))

        of_fit : (b : Bool) → fits_at names place step.simple ≡ b → IsLed nodes names steps place last places
        of_fit true e = subst (IsLed nodes names steps place last) (sym (found_is true e)) (record {
          within = λ m w. subst (λ z. z < length nodes) (alone_in place m w) here;
          rising = alone;
          fitting = λ m other w q. subst (λ (z : Step). fits_at names m z.simple ≡ true) (same other q) (subst (λ z. fits_at names z step.simple ≡ true) (alone_in place m w) e);
          sound = λ m w v. subst (Matches nodes names (reverse steps)) (sym (alone_in place m w)) (subst (λ z. Matches nodes names z m) all v);
          complete = λ v. (place, Contains-push [] place, subst (λ z. Matches nodes names z place) (sym all) v);
        })
        of_fit false e = subst (IsLed nodes names steps place last) (sym (found_is false e)) (record {
          within = λ m w. absurd (nothing_in m w);
          rising = rising_none nodes;
          fitting = λ m other w q. absurd (nothing_in m w);
          sound = λ m w v. absurd (nothing_in m w);
          complete = λ v. absurd (false≢true (sym e ∙ head_fits step (reverse steps) (reverse (take last steps)) place head v));
        })

    -- one step further back
    pub led_more : (rest i : ℕ) (step before : Step) (places found : List ℕ) → rest ≡ i + 1 → rest < length steps → step ≡ slice_index_or steps rest step → before ≡ slice_index_or steps i before →
        IsLed nodes names steps place rest places → AreBefore nodes names places step.joint before.simple found → IsLed nodes names steps place i found
    led_more rest i step before places found e h is was_before was more = record {
      within = more.within;
      rising = more.rising;
      fitting = λ m other w q. subst (λ (z : Step). fits_at names m z.simple ≡ true) (same other q) (more.fitting m w);
      sound = λ m w v. sound m v (more.sound m w);
      complete = λ v. complete (was.complete v);
    }
      where
        here : i < length steps
        here = omega (arith, e, h)

        same : (other : Step) → other ≡ slice_index_or steps i other → before ≡ other
        same other q = was_before ∙ get_or_default steps i before other here ∙ sym q

        listed : reverse (take (rest + 1) steps) ≡ step ∷ reverse (take (i + 1) steps)
        listed = reversed_more steps rest step h is ∙ ap (λ z. step ∷ reverse (take z steps)) e

        some : 0 < length (reverse (take (i + 1) steps))
        some = let l : i + 1 ≤ length steps = omega (arith, here) in rw (length-reverse (take (i + 1) steps), length_take steps (i + 1) l) (omega arith)

        head : reverse (take (i + 1) steps) ≡ before ∷ reverse (take i steps)
        head = reversed_more steps i before here was_before

        sound : (m : ℕ) → Matches nodes names (reverse (take (i + 1) steps)) m → ((k : ℕ) × Contains places k × Stands nodes step.joint m k) → Matches nodes names (reverse steps) place
        sound m v s = was.sound s.0 s.1 (subst (λ z. Matches nodes names z s.0) (sym listed) (next step (reverse (take (i + 1) steps)) m s.0 v s.2 (was.fitting s.0 step s.1 is)))

        complete : ((m : ℕ) × Contains places m × Matches nodes names (reverse (take (rest + 1) steps)) m) → (m : ℕ) × Contains found m × Matches nodes names (reverse (take (i + 1) steps)) m
        complete v =
            let b = step_back step (reverse (take (i + 1) steps)) v.0 some (subst (λ z. Matches nodes names z v.0) listed v.2) in
            (b.0, more.complete b.0 v.0 v.1 b.2 (head_fits before (reverse (take (i + 1) steps)) (reverse (take i steps)) b.0 head b.1), b.1)

    -- nothing leads on from no node
    pub led_nowhere : (rest : ℕ) (places : List ℕ) → length places ≡ 0 → IsLed nodes names steps place rest places → Matches nodes names (reverse steps) place → ⊥
    led_nowhere rest places none was v = let w = was.complete v in let h = w.1.1 in absurd (omega (arith, h, none))

    -- at the first step each node leads on
    pub led_first : (step : Step) (places : List ℕ) → 0 < length steps → step ≡ slice_index_or steps 0 step → 0 < length places → IsLed nodes names steps place 0 places → Matches nodes names (reverse steps) place
    led_first step places some is more was =
        let m = slice_index places 0 in
        let w = element_at places 0 more in
        was.sound m w (subst (λ z. Matches nodes names z m) (sym (reversed_more steps 0 step some is)) (first step m (was.fitting m step w is)))

pub first_step : (steps : List Step) → 0 < length steps → (step : Step) × (step ≡ slice_index_or steps 0 step)
first_step [] some = absurd (omega (arith, some))
first_step (s ∷ ss) some = (s, refl)

-- whether there are none
pub some_left : (b : Bool) (n : ℕ) → b ≡ (n == 0) → not b ≡ true → 0 < n
some_left b zero is e = absurd (false≢true (ap not (sym is) ∙ e))
some_left b (suc n) is e = omega arith

pub none_left : (b : Bool) (n : ℕ) → b ≡ (n == 0) → not b ≡ false → n ≡ 0
none_left b zero is e = refl
none_left b (suc n) is e = let f = ne_eqb (suc n) 0 (λ q. absurd (omega (arith, q))) in absurd (false≢true (sym e ∙ ap not (is ∙ f)))
