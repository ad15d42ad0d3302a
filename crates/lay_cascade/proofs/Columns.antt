-- A selector that is read from its first step on, for all nodes at once.
use Rattle.std.proofs.Common.{◌≡◌, ◌≢◌, ◌∙◌, ◌↔◌, ℕ, zero, suc, ◌+◌, ◌-◌, ◌<◌, ◌≤◌, ◌⊎◌, inl, inr, List, [], ◌∷◌, ◌++◌, Bool, true, false, Some, None, length, take, reverse, refl, sym, ap, subst, arith}
use Rattle.std.specs.Prelude.{slice_index, slice_index_or, ◌&&◌}
use Rattle.std.specs.List.{list_any}
use Rattle.std.proofs.lemmas.Bool.{false≢true, cases_lt, and_parts, and_from, or_parts}
use Rattle.std.proofs.lemmas.List.{length-append, length-reverse, get_or_append_left, get_or_push, take_all}
use Rattle.std.proofs.Math.ListN.{get_or-eq_default}
use Rattle.lay_doc.specs.declared.node.Node.{Node}
use Rattle.lay_doc.specs.Document.{parents_of}
use Rattle.lay_doc.specs.Tree.{IsUnder, itself}
use Rattle.lay_cascade.specs.declared.node_names.names.Names.{Names}
use Rattle.lay_sheet.specs.declared.selector.Joint.{Joint}
use Rattle.lay_sheet.specs.declared.selector.Joint.TheVariants.{Descendant}
use Rattle.lay_sheet.specs.declared.selector.Simple.{Simple}
use Rattle.lay_sheet.specs.declared.selector.Step.{Step}
use Rattle.lay_cascade.specs.NodeNames.{fits_at}
use Rattle.lay_cascade.specs.Matching.{Matches, Stands, IsMatched, Says, first, next}
use Rattle.lay_cascade.specs.Columns.{IsColumn, ComeTo, IsReached, Leads}
use Rattle.lay_cascade.proofs.Standing.{under_parent, parent_above, above_under}
use Rattle.lay_cascade.proofs.Climbing.{fits_within}
use Rattle.lay_cascade.proofs.Leading.{reversed_more, length_take, head_fits, step_back}

pub says_true : (Holds : Type 0) → Holds → Says true Holds
says_true Holds h = record { yes = λ e. h; no = λ e. absurd (false≢true (sym e)) }

pub says_false : (Holds : Type 0) → (Holds → ⊥) → Says false Holds
says_false Holds never = record { yes = λ e. absurd (false≢true e); no = λ e h. never h }

says_yes : (b : Bool) (Holds : Type 0) → Says b Holds → Holds → b ≡ true
says_yes true Holds says h = refl
says_yes false Holds says h = absurd (says.no refl h)

pub says_same : (b : Bool) (P Q : Type 0) → (P → Q) → (Q → P) → Says b P → Says b Q
says_same b P Q to from was = record { yes = λ e. to (was.yes e); no = λ e q. was.no e (from q) }

pub says_of : (a b : Bool) (Holds : Type 0) → a ≡ b → Says b Holds → Says a Holds
says_of a b Holds e was = subst (λ z. Says z Holds) (sym e) was

pub says_itself : (b c : Bool) → b ≡ c → Says b (c ≡ true)
says_itself b c e = record { yes = λ t. sym e ∙ t; no = λ f t. absurd (false≢true (sym f ∙ e ∙ t)) }

-- the nodes that fit a simple selector
abbrev pub fitting_node : List Names → Simple → ℕ → Type 0
fitting_node names simple k = fits_at names k simple ≡ true

-- columns that grow by one node, and what they say in other words
module _ (Holds : ℕ → Type 0) where
  pub column_none : IsColumn 0 Holds []
  column_none = record { count = refl; each = λ k h. absurd (omega (arith, h)) }

  pub column_more : (n : ℕ) (column : List Bool) (b : Bool) → IsColumn n Holds column → Says b (Holds n) → IsColumn (n + 1) Holds (column ++ b ∷ [])
  column_more n column b was says = record {
    count = length-append column (b ∷ []) ∙ ap (λ m. m + 1) was.count;
    each = λ k h. each k h (cases_lt k n);
  }
    where
      each : (k : ℕ) → k < n + 1 → (k < n) ⊎ (n ≤ k) → Says (slice_index_or (column ++ b ∷ []) k false) (Holds k)
      each k h (inl l) =
          let c = was.count in
          let i : k < length column = omega (arith, l, c) in
          says_of (slice_index_or (column ++ b ∷ []) k false) (slice_index_or column k false) (Holds k) (get_or_append_left column (b ∷ []) false k i) (was.each k l)
      each k h (inr g) =
          let q : k ≡ n = omega (arith, h, g) in
          subst (λ z. Says (slice_index_or (column ++ b ∷ []) z false) (Holds z)) (sym q)
          (says_of (slice_index_or (column ++ b ∷ []) n false) b (Holds n) (get_or_push column b false n was.count) says)

pub column_same : (n : ℕ) (P Q : ℕ → Type 0) (column : List Bool) → ((k : ℕ) → k < n → P k → Q k) → ((k : ℕ) → k < n → Q k → P k) → IsColumn n P column → IsColumn n Q column
column_same n P Q column to from was = record {
  count = was.count;
  each = λ k h. says_same (slice_index_or column k false) (P k) (Q k) (to k h) (from k h) (was.each k h);
}

-- a node that a column names is one of its nodes
pub set_within : (column : List Bool) (m : ℕ) → slice_index_or column m false ≡ true → m < length column
set_within column m e = of_cases (cases_lt m (length column))
  where
    of_cases : (m < length column) ⊎ (length column ≤ m) → m < length column
    of_cases (inl l) = l
    of_cases (inr g) = absurd (false≢true (sym (get_or-eq_default column false g) ∙ e))

-- a column that names no node
pub none_set : (column : List Bool) (k : ℕ) → list_any (λ told. told) column ≡ false → slice_index_or column k false ≡ false
none_set [] k e = refl
none_set (b ∷ bs) zero e = (or_parts b (list_any (λ told. told) bs) e).0
none_set (b ∷ bs) (suc k) e = none_set bs k (or_parts b (list_any (λ told. told) bs) e).1

module _ (nodes : List Node) (ends : List Bool) where
  pub reached_root : (k : ℕ) → k ≡ 0 → IsReached nodes ends Descendant k → ⊥
  reached_root k e w = let h = w.2.0 in absurd (omega (arith, e, h))

  pub reached_parent : (k p : ℕ) → 0 < k → p ≡ slice_index (parents_of nodes) k → slice_index_or ends p false ≡ true → IsReached nodes ends Descendant k
  reached_parent k p some is e = (p, e, (some, subst (λ z. IsUnder (parents_of nodes) p z) is itself))

  pub reached_above : (b : Bool) (k p : ℕ) → 0 < k → p ≡ slice_index (parents_of nodes) k → slice_index_or ends p false ≡ false → Says b (IsReached nodes ends Descendant p) →
      Says b (IsReached nodes ends Descendant k)
  reached_above b k p some is none was = says_same b (IsReached nodes ends Descendant p) (IsReached nodes ends Descendant k) to from was
    where
      over : IsUnder (parents_of nodes) p k
      over = subst (λ z. IsUnder (parents_of nodes) z k) (sym is) (parent_above nodes k some)

      to : IsReached nodes ends Descendant p → IsReached nodes ends Descendant k
      to (m, e, s) = (m, e, above_under nodes m p k s over)

      of_parent : (m : ℕ) → slice_index_or ends m false ≡ true → (m ≡ p) ⊎ Stands nodes Descendant m p → IsReached nodes ends Descendant p
      of_parent m e (inl q) = absurd (false≢true (sym none ∙ subst (λ z. slice_index_or ends z false ≡ true) q e))
      of_parent m e (inr s) = (m, e, s)

      from : IsReached nodes ends Descendant k → IsReached nodes ends Descendant p
      from (m, e, s) = of_parent m e (under_parent nodes m p (subst (λ z. IsUnder (parents_of nodes) m z) (sym is) s.1))

  -- by a joint that asks for one node alone
  pub reached_one : (joint : Joint) (k n : ℕ) → ((m : ℕ) → (Some n ≡ Some m) ↔ Stands nodes joint m k) → Says (slice_index_or ends n false) (IsReached nodes ends joint k)
  reached_one joint k n one = record {
    yes = λ e. (n, e, (one n).0 refl);
    no = λ e w. let q = (one w.0).1 w.2 in let s : n ≡ w.0 = cc in absurd (false≢true (sym e ∙ ap (λ z. slice_index_or ends z false) s ∙ w.1));
  }

  pub reached_none : (joint : Joint) (k : ℕ) → ((m : ℕ) → (None ≡ Some m) ↔ Stands nodes joint m k) → IsReached nodes ends joint k → ⊥
  reached_none joint k none w = let q = (none w.0).1 w.2 in absurd cc

-- the step at a place
pub step_in : (steps : List Step) (i : ℕ) → i < length steps → (step : Step) × (step ≡ slice_index_or steps i step)
step_in [] i l = absurd (omega (arith, l))
step_in (s ∷ ss) zero l = (s, refl)
step_in (s ∷ ss) (suc i) l = step_in ss i (omega (arith, l))

module _ (nodes : List Node) (names : List Names) (steps : List Step) where
  -- the first step comes to each node that fits it
  pub first_come : (step : Step) (column : List Bool) → 0 < length steps → step ≡ slice_index_or steps 0 step →
      IsColumn (length nodes) (λ k. fits_at names k step.simple ≡ true) column → IsColumn (length nodes) (ComeTo nodes names steps 1) column
  first_come step column some is was =
      column_same (length nodes) (λ k. fits_at names k step.simple ≡ true) (ComeTo nodes names steps 1) column
      (λ k h f. subst (λ z. Matches nodes names z k) (sym alone) (first step k f)) (λ k h w. head_fits nodes names step (reverse (take 1 steps)) [] k alone w) was
    where
      alone : reverse (take 1 steps) ≡ step ∷ []
      alone = reversed_more steps 0 step some is

  -- and each step behind it to those that it leads on to
  module _ (count : ℕ) (step : Step) (inside : count < length steps) (is : step ≡ slice_index_or steps count step) where
    listed : reverse (take (count + 1) steps) ≡ step ∷ reverse (take count steps)
    listed = reversed_more steps count step inside is

    counted : length (reverse (take count steps)) ≡ count
    counted = let l : count ≤ length steps = omega (arith, inside) in length-reverse (take count steps) ∙ length_take steps count l

    steps_end : (k : ℕ) → 0 < count → ComeTo nodes names steps (count + 1) k → (m : ℕ) × ComeTo nodes names steps count m × Stands nodes step.joint m k
    steps_end k some w =
        let l : 0 < length (reverse (take count steps)) = subst (λ z. 0 < z) (sym counted) some in
        step_back nodes names step (reverse (take count steps)) k l (subst (λ z. Matches nodes names z k) listed w)

  -- a node that steps come to is one of the nodes
  come_within : (count k : ℕ) (step : Step) → count < length steps → step ≡ slice_index_or steps count step → length names ≡ length nodes → ComeTo nodes names steps (count + 1) k → k < length nodes
  come_within count k step inside is same w =
      let f = head_fits nodes names step (reverse (take (count + 1) steps)) (reverse (take count steps)) k (listed count step inside is) w in
      subst (λ z. k < z) same (fits_within names k step.simple f)

  -- a step comes to a node that fits it and is joined to one that the steps before come to
  pub come_next : (count : ℕ) (step : Step) (b f : Bool) (k : ℕ) → 0 < count → count < length steps → step ≡ slice_index_or steps count step → f ≡ fits_at names k step.simple →
      Says b (Leads nodes names steps count step.joint k) → Says (f && b) (ComeTo nodes names steps (count + 1) k)
  come_next count step b f k some inside is fitted leads = record {
    yes = λ e. let p = and_parts f b e in
        let w = leads.yes p.1 in
        subst (λ z. Matches nodes names z k) (sym (listed count step inside is)) (next step (reverse (take count steps)) w.0 k w.1 w.2 (sym fitted ∙ p.0));
    no = λ e w.
        let fit = fitted ∙ head_fits nodes names step (reverse (take (count + 1) steps)) (reverse (take count steps)) k (listed count step inside is) w in
        false≢true (sym e ∙ and_from f b fit (says_yes b (Leads nodes names steps count step.joint k) leads (steps_end count step inside is k some w)));
  }

  -- what a column of the steps before says of a joint
  pub column_leads : (count : ℕ) (ends : List Bool) (joint : Joint) (b : Bool) (k : ℕ) → 0 < count → count ≤ length steps → length names ≡ length nodes →
      IsColumn (length nodes) (ComeTo nodes names steps count) ends → Says b (IsReached nodes ends joint k) → Says b (Leads nodes names steps count joint k)
  column_leads count ends joint b k some inside same was says = says_same b (IsReached nodes ends joint k) (Leads nodes names steps count joint k) to from says
    where
      to : IsReached nodes ends joint k → Leads nodes names steps count joint k
      to (m, e, s) =
          let l = set_within ends m e in
          let c = was.count in
          let h : m < length nodes = omega (arith, l, c) in
          (m, (was.each m h).yes e, s)

      -- the steps come to nodes alone
      within : (m : ℕ) → ComeTo nodes names steps count m → m < length nodes
      within m w =
          let l : count - 1 < length steps = omega (arith, some, inside) in
          let q : (count - 1) + 1 ≡ count = omega (arith, some) in
          let s = step_in steps (count - 1) l in
          come_within (count - 1) m s.0 l s.1 same (subst (λ z. ComeTo nodes names steps z m) (sym q) w)

      from : Leads nodes names steps count joint k → IsReached nodes ends joint k
      from (m, w, s) = (m, says_yes (slice_index_or ends m false) (ComeTo nodes names steps count m) (was.each m (within m w)) w, s)

  -- where some steps come to a node, fewer come to one
  fewer_come : (d count : ℕ) (k : ℕ) → 0 < count → count + d ≤ length steps → ComeTo nodes names steps (count + d) k → (m : ℕ) × ComeTo nodes names steps count m
  fewer_come zero count k some h w = let e : count + 0 ≡ count = omega arith in (k, subst (λ z. ComeTo nodes names steps z k) e w)
  fewer_come (suc d) count k some h w =
      let e : count + suc d ≡ (count + d) + 1 = omega arith in
      let l : count + d < length steps = omega (arith, h) in
      let g : count + d ≤ length steps = omega (arith, h) in
      let s = step_in steps (count + d) l in
      let p : 0 < count + d = omega (arith, some) in
      let b = steps_end (count + d) s.0 l s.1 k p (subst (λ z. ComeTo nodes names steps z k) e w) in
      fewer_come d count b.0 some g b.1

  -- so where they come to none, the selector matches none
  pub none_come : (count : ℕ) (step : Step) (column : List Bool) → count < length steps → step ≡ slice_index_or steps count step → length names ≡ length nodes →
      IsColumn (length nodes) (ComeTo nodes names steps (count + 1)) column → list_any (λ told. told) column ≡ false → IsColumn (length nodes) (IsMatched nodes names steps) column
  none_come count step column inside is same was none = record {
    count = was.count;
    each = λ k h. says_of (slice_index_or column k false) false (IsMatched nodes names steps k) (none_set column k none) (says_false (IsMatched nodes names steps k) (never k));
  }
    where
      all_of : (d : ℕ) → length steps ≡ (count + 1) + d → reverse steps ≡ reverse (take ((count + 1) + d) steps)
      all_of d e = ap reverse (sym (take_all (length steps) steps (omega arith)) ∙ ap (λ z. take z steps) e)

      by_rest : (d : ℕ) → length steps ≡ (count + 1) + d → (k : ℕ) → IsMatched nodes names steps k → ⊥
      by_rest d e k w =
          let g : (count + 1) + d ≤ length steps = omega (arith, e) in
          let f = fewer_come d (count + 1) k (omega arith) g (subst (λ z. Matches nodes names z k) (all_of d e) w) in
          (was.each f.0 (come_within count f.0 step inside is same f.1)).no (none_set column f.0 none) f.1

      never : (k : ℕ) → IsMatched nodes names steps k → ⊥
      never k w = by_rest (length steps - (count + 1)) (omega (arith, inside)) k w

  -- after all steps
  pub all_come : (count : ℕ) (column : List Bool) → length steps ≤ count → IsColumn (length nodes) (ComeTo nodes names steps count) column → IsColumn (length nodes) (IsMatched nodes names steps) column
  all_come count column all was =
      let e = ap reverse (take_all count steps all) in
      column_same (length nodes) (ComeTo nodes names steps count) (IsMatched nodes names steps) column
      (λ k h w. subst (λ z. Matches nodes names z k) e w) (λ k h w. subst (λ z. Matches nodes names z k) (sym e) w) was

  -- the same of the count of steps that are read
  pub none_come_at : (done : ℕ) (column : List Bool) → 0 < done → done ≤ length steps → length names ≡ length nodes →
      IsColumn (length nodes) (ComeTo nodes names steps done) column → list_any (λ told. told) column ≡ false → IsColumn (length nodes) (IsMatched nodes names steps) column
  none_come_at zero column some inside same was none = absurd (omega (arith, some))
  none_come_at (suc n) column some inside same was none =
      let l : n < length steps = omega (arith, inside) in
      let e : suc n ≡ n + 1 = omega arith in
      let b = step_in steps n l in
      none_come n b.0 column l b.1 same (subst (λ z. IsColumn (length nodes) (ComeTo nodes names steps z) column) e was) none
