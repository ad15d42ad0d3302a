-- A window of a selector, which is read for all nodes in document order.
use Rattle.std.proofs.Common.{◌≡◌, ◌∙◌, ◌↔◌, ℕ, zero, suc, ◌+◌, ◌-◌, ◌<◌, ◌≤◌, ◌⊎◌, inl, inr, List, [], ◌∷◌, ◌++◌, Bool, true, false, Option, Some, None, length, refl, sym, ap, subst, arith}
use Rattle.std.specs.Prelude.{slice_index, ◌==◌, ◌&&◌, ◌||◌, bit_and, bit_or, if◌then◌else◌}
use Rattle.std.specs.Option.{option_map_or}
use Rattle.std.specs.List.{slice_get}
use Rattle.std.proofs.lemmas.Bool.{cases_lt, cases_eq, or_cases, or_parts, eq-eqb, ne_eqb}
use Rattle.std.proofs.lemmas.List.{length-append, get_or_append_left, get_or_push}
use Rattle.std.proofs.lemmas.Option.{get_or_from_slice_get, slice_get_read}
use Rattle.lay_doc.specs.declared.node.Node.{Node}
use Rattle.lay_doc.specs.Document.{parents_of}
use Rattle.lay_doc.specs.Tree.{IsTree, itself}
use Rattle.lay_cascade.specs.declared.node_names.names.Names.{Names}
use Rattle.lay_cascade.specs.declared.windows.JointMasks.{JointMasks}
use Rattle.lay_cascade.specs.declared.windows.Window.{Window}
use Rattle.lay_sheet.specs.declared.selector.Joint.{Joint}
use Rattle.lay_sheet.specs.declared.selector.Joint.TheVariants.{Same, Descendant, Child, Adjacent}
use Rattle.lay_sheet.specs.declared.selector.Step.{Step}
use Rattle.lay_cascade.specs.NodeNames.{fits_at}
use Rattle.lay_cascade.specs.Matching.{Stands, Says}
use Rattle.lay_cascade.specs.Columns.{ComeTo, Leads}
use Rattle.lay_cascade.specs.Words.{is_in, shifted, spread, front_word}
use Rattle.lay_cascade.specs.Windows.{IsMask, AreJoints, IsWindow, joint_number}
use Rattle.lay_cascade.specs.Reading.{IsRead, AreRead, above_word, joined}
use Rattle.lay_cascade.proofs.Adjacent.{parent_before}
use Rattle.lay_cascade.proofs.Standing.{under_parent, parent_above, above_under}
use Rattle.lay_cascade.proofs.TruthValues.{is_in_and, is_in_or, is_in_none, shifted_first, shifted_next, front_first, front_next}
use Rattle.lay_cascade.proofs.Columns.{says_false, says_of, says_same, step_in, come_next}

-- where a step is joined to one that the steps before come to
module _ (joints : JointMasks) (front : Bool) (child adjacent above : ℕ) where
  both_first : (mask word : ℕ) → is_in (bit_and mask (shifted word)) 0 ≡ false
  both_first mask word = is_in_and mask (shifted word) 0 ∙ ap (λ z. is_in mask 0 && z) (shifted_first word) ∙ none (is_in mask 0)
    where
      none : (b : Bool) → (b && false) ≡ false
      none true = refl
      none false = refl

  both_next : (mask word j : ℕ) → suc j < 64 → is_in (bit_and mask (shifted word)) (suc j) ≡ (is_in mask (suc j) && is_in word j)
  both_next mask word j h = is_in_and mask (shifted word) (suc j) ∙ ap (λ z. is_in mask (suc j) && z) (shifted_next word j h)

  parts : (j : ℕ) → is_in (joined joints front child adjacent above) j
      ≡ (((is_in (front_word front) j || is_in (bit_and joints.child (shifted child)) j) || is_in (bit_and joints.adjacent (shifted adjacent)) j) || is_in (bit_and joints.descendant (shifted above)) j)
  parts j =
      let first = front_word front in
      let second = bit_and joints.child (shifted child) in
      let third = bit_and joints.adjacent (shifted adjacent) in
      let fourth = bit_and joints.descendant (shifted above) in
      is_in_or (bit_or (bit_or first second) third) fourth j
      ∙ ap (λ z. z || is_in fourth j) (is_in_or (bit_or first second) third j ∙ ap (λ z. z || is_in third j) (is_in_or first second j))

  joined_first : is_in (joined joints front child adjacent above) 0 ≡ front
  joined_first =
      parts 0 ∙ ap (λ z. ((z || is_in (bit_and joints.child (shifted child)) 0) || is_in (bit_and joints.adjacent (shifted adjacent)) 0) || is_in (bit_and joints.descendant (shifted above)) 0) (front_first front)
      ∙ ap (λ z. ((front || z) || is_in (bit_and joints.adjacent (shifted adjacent)) 0) || is_in (bit_and joints.descendant (shifted above)) 0) (both_first joints.child child)
      ∙ ap (λ z. ((front || false) || z) || is_in (bit_and joints.descendant (shifted above)) 0) (both_first joints.adjacent adjacent)
      ∙ ap (λ z. ((front || false) || false) || z) (both_first joints.descendant above) ∙ all front
    where
      all : (b : Bool) → (((b || false) || false) || false) ≡ b
      all true = refl
      all false = refl

  -- the joints of a step that isn't the first
  abbrev among : Bool → Bool → Bool → Bool → Bool → Bool → Bool
  among c a d x y z = ((false || (c && x)) || (a && y)) || (d && z)

  joined_next : (j : ℕ) → suc j < 64 →
      is_in (joined joints front child adjacent above) (suc j) ≡ among (is_in joints.child (suc j)) (is_in joints.adjacent (suc j)) (is_in joints.descendant (suc j)) (is_in child j) (is_in adjacent j) (is_in above j)
  joined_next j h =
      parts (suc j)
      ∙ ap (λ z. ((z || is_in (bit_and joints.child (shifted child)) (suc j)) || is_in (bit_and joints.adjacent (shifted adjacent)) (suc j)) || is_in (bit_and joints.descendant (shifted above)) (suc j)) (front_next front j)
      ∙ ap (λ z. ((false || z) || is_in (bit_and joints.adjacent (shifted adjacent)) (suc j)) || is_in (bit_and joints.descendant (shifted above)) (suc j)) (both_next joints.child child j h)
      ∙ ap (λ z. ((false || (is_in joints.child (suc j) && is_in child j)) || z) || is_in (bit_and joints.descendant (shifted above)) (suc j)) (both_next joints.adjacent adjacent j h)
      ∙ ap (λ z. ((false || (is_in joints.child (suc j) && is_in child j)) || (is_in joints.adjacent (suc j) && is_in adjacent j)) || z) (both_next joints.descendant above j h)

module _ (nodes : List Node) (names : List Names) (steps : List Step) (from count : ℕ) (few : count ≤ 64) (within : from + count ≤ length steps) (behind : 0 < from) where
  abbrev come : ℕ → ℕ → Type 0
  come j k = ComeTo nodes names steps ((from + j) + 1) k

  abbrev lead : ℕ → Joint → ℕ → Type 0
  lead j joint k = Leads nodes names steps ((from + j) + 1) joint k

  -- the words of one node
  module _ (k : ℕ) (joints : JointMasks) (are : AreJoints steps from count joints) (fitted word child adjacent above : ℕ) (front : Bool)
      (fits : IsMask steps from count (λ s. fits_at names k s.simple) fitted)
      (first : (s : Step) → slice_get steps from ≡ Some s → Says front (Leads nodes names steps from s.joint k))
      (of_child : (j : ℕ) → j < count → Says (is_in child j) (lead j Child k))
      (of_adjacent : (j : ℕ) → j < count → Says (is_in adjacent j) (lead j Adjacent k))
      (of_above : (j : ℕ) → j < count → Says (is_in above j) (lead j Descendant k)) where
    abbrev reach : ℕ
    reach = joined joints front child adjacent above

    abbrev start : ℕ
    start = bit_and fitted reach

    abbrev run : ℕ
    run = bit_and fitted joints.same

    there : (j : ℕ) → j < count → (s : Step) × (slice_get steps (from + j) ≡ Some s)
    there j h =
        let l : from + j < length steps = omega (arith, within, h) in
        let s = step_in steps (from + j) l in
        (s.0, slice_get_read steps (length steps) (from + j) s.0 refl l s.1)

    -- the steps come to the node where it fits the next one, which is joined to one that they came to
    fit_and : (j : ℕ) (s : Step) (b : Bool) → j < count → slice_get steps (from + j) ≡ Some s → Says b (Leads nodes names steps (from + j) s.joint k) → Says (is_in fitted j && b) (come j k)
    fit_and j s b h e says =
        let l : from + j < length steps = omega (arith, within, h) in
        let some : 0 < from + j = omega (arith, behind) in
        come_next nodes names steps (from + j) s b (is_in fitted j) k some l (sym (get_or_from_slice_get steps (from + j) s s e)) (fits j s h e) says

    told_first : 0 < count → Says (spread start run 0) (come 0 k)
    told_first h =
        let s = there 0 h in
        let e : from + 0 ≡ from = omega arith in
        let says = subst (λ z. Says front (Leads nodes names steps z s.0.joint k)) (sym e) (first s.0 (subst (λ z. slice_get steps z ≡ Some s.0) e s.1)) in
        says_of (spread start run 0) (is_in fitted 0 && front) (come 0 k) (is_in_and fitted reach 0 ∙ ap (λ z. is_in fitted 0 && z) (joined_first joints front child adjacent above)) (fit_and 0 s.0 front h s.1 says)

    -- a place that isn't the first, by the joints of its step
    abbrev total : Bool → Bool → Bool → Bool → Bool → Bool → Bool → Bool → Bool → Bool
    total f c a d s x y z before = (f && (((false || (c && x)) || (a && y)) || (d && z))) || ((f && s) && before)

    is_total : (j : ℕ) → suc j < 64 → spread start run (suc j)
        ≡ total (is_in fitted (suc j)) (is_in joints.child (suc j)) (is_in joints.adjacent (suc j)) (is_in joints.descendant (suc j)) (is_in joints.same (suc j)) (is_in child j) (is_in adjacent j) (is_in above j) (spread start run j)
    is_total j h =
        ap (λ z. z || (is_in run (suc j) && spread start run j)) (is_in_and fitted reach (suc j) ∙ ap (λ z. is_in fitted (suc j) && z) (joined_next joints front child adjacent above j h))
        ∙ ap (λ z. (is_in fitted (suc j) && (((false || (is_in joints.child (suc j) && is_in child j)) || (is_in joints.adjacent (suc j) && is_in adjacent j)) || (is_in joints.descendant (suc j) && is_in above j))) || (z && spread start run j))
        (is_in_and fitted joints.same (suc j))

    by_same : (f x y z before : Bool) → total f false false false true x y z before ≡ (f && before)
    by_same true x y z before = refl
    by_same false x y z before = refl

    by_child : (f x y z before : Bool) → total f true false false false x y z before ≡ (f && x)
    by_child true true y z before = refl
    by_child true false y z before = refl
    by_child false x y z before = refl

    by_adjacent : (f x y z before : Bool) → total f false true false false x y z before ≡ (f && y)
    by_adjacent true x true z before = refl
    by_adjacent true x false z before = refl
    by_adjacent false x y z before = refl

    by_descendant : (f x y z before : Bool) → total f false false true false x y z before ≡ (f && z)
    by_descendant true x y true before = refl
    by_descendant true x y false before = refl
    by_descendant false x y z before = refl

    module _ (j : ℕ) (h : suc j < count) (s : Step) (e : slice_get steps (from + suc j) ≡ Some s) (before : Says (spread start run j) (come j k)) where
      next_to : from + suc j ≡ (from + j) + 1
      next_to = omega arith

      earlier : j < count
      earlier = omega (arith, h)

      -- where its step is joined so, the place is told by these two
      by_joint : (joint : Joint) (b : Bool) → s.joint ≡ joint → Says b (lead j joint k) → spread start run (suc j) ≡ (is_in fitted (suc j) && b) → Says (spread start run (suc j)) (come (suc j) k)
      by_joint joint b q says is =
          let turned = subst (λ z. Says b (Leads nodes names steps z s.joint k)) (sym next_to) (subst (λ z. Says b (lead j z k)) (sym q) says) in
          says_of (spread start run (suc j)) (is_in fitted (suc j) && b) (come (suc j) k) is (fit_and (suc j) s b h e turned)

      masks : (joint : Joint) → s.joint ≡ joint → spread start run (suc j)
          ≡ total (is_in fitted (suc j)) (joint_number joint == 2) (joint_number joint == 3) (joint_number joint == 1) (joint_number joint == 0) (is_in child j) (is_in adjacent j) (is_in above j) (spread start run j)
      masks joint q =
          let c = are.child (suc j) s h e ∙ ap (λ z. joint_number z == 2) q in
          let a = are.adjacent (suc j) s h e ∙ ap (λ z. joint_number z == 3) q in
          let d = are.descendant (suc j) s h e ∙ ap (λ z. joint_number z == 1) q in
          let t = are.same (suc j) s h e ∙ ap (λ z. joint_number z == 0) q in
          let fit = is_in fitted (suc j) in
          let x = is_in child j in
          let y = is_in adjacent j in
          let w = is_in above j in
          let last = spread start run j in
          is_total j (omega (arith, h, few))
          ∙ ap (λ z. total fit z (is_in joints.adjacent (suc j)) (is_in joints.descendant (suc j)) (is_in joints.same (suc j)) x y w last) c
          ∙ ap (λ z. total fit (joint_number joint == 2) z (is_in joints.descendant (suc j)) (is_in joints.same (suc j)) x y w last) a
          ∙ ap (λ z. total fit (joint_number joint == 2) (joint_number joint == 3) z (is_in joints.same (suc j)) x y w last) d
          ∙ ap (λ z. total fit (joint_number joint == 2) (joint_number joint == 3) (joint_number joint == 1) z x y w last) t

      told_joint : (joint : Joint) → s.joint ≡ joint → Says (spread start run (suc j)) (come (suc j) k)
      told_joint Same q =
          let says = says_same (spread start run j) (come j k) (lead j Same k) (λ w. (k, w, refl)) (λ w. subst (λ z. come j z) w.2 w.1) before in
          by_joint Same (spread start run j) q says (masks Same q ∙ by_same (is_in fitted (suc j)) (is_in child j) (is_in adjacent j) (is_in above j) (spread start run j))
      told_joint Child q = by_joint Child (is_in child j) q (of_child j earlier) (masks Child q ∙ by_child (is_in fitted (suc j)) (is_in child j) (is_in adjacent j) (is_in above j) (spread start run j))
      told_joint Adjacent q = by_joint Adjacent (is_in adjacent j) q (of_adjacent j earlier) (masks Adjacent q ∙ by_adjacent (is_in fitted (suc j)) (is_in child j) (is_in adjacent j) (is_in above j) (spread start run j))
      told_joint Descendant q = by_joint Descendant (is_in above j) q (of_above j earlier) (masks Descendant q ∙ by_descendant (is_in fitted (suc j)) (is_in child j) (is_in adjacent j) (is_in above j) (spread start run j))

    told_at : (j : ℕ) → j < count → Says (spread start run j) (come j k)
    told_at zero h = told_first h
    told_at (suc j) h = let s = there (suc j) h in told_joint j h s.0 s.1 (told_at j (omega (arith, h))) s.0.joint refl

    pub word_comes : ((j : ℕ) → j < 64 → is_in word j ≡ spread (bit_and fitted (joined joints front child adjacent above)) (bit_and fitted joints.same) j) → (j : ℕ) → j < count → Says (is_in word j) (come j k)
    word_comes is j h = let l : j < 64 = omega (arith, h, few) in says_of (is_in word j) (spread start run j) (come j k) (is j l) (told_at j h)

  -- what the words of the nodes before one say of it
  module _ (k : ℕ) (here above : List ℕ) (comes : (m j : ℕ) → m < k → j < count → Says (is_in (slice_index here m) j) (come j m)) where
    -- by a joint that asks for one node alone
    pub word_leads : (joint : Joint) (o : Option ℕ) → ((m : ℕ) → (o ≡ Some m) ↔ Stands nodes joint m k) → ((m : ℕ) → Stands nodes joint m k → m < k) → (j : ℕ) → j < count → Says (is_in (option_map_or (slice_index here) o 0) j) (lead j joint k)
    word_leads joint None one earlier j h = says_of (is_in 0 j) false (lead j joint k) (is_in_none j) (says_false (lead j joint k) (λ w. none_some w.0 ((one w.0).1 w.2)))
      where
        none_some : (m : ℕ) → None ≡ Some m → ⊥
        none_some m e = absurd cc
    word_leads joint (Some n) one earlier j h = record {
      yes = λ e. let s = (one n).0 refl in (n, (comes n j (earlier n s) h).yes e, s);
      no = λ e w. let q = same w.0 ((one w.0).1 w.2) in (comes n j (earlier n ((one n).0 refl)) h).no e (subst (λ z. come j z) (sym q) w.1);
    }
      where
        same : (m : ℕ) → Some n ≡ Some m → n ≡ m
        same m e = cc

    abbrev p : ℕ
    p = slice_index (parents_of nodes) k

    -- by the parent, of all that the node stands in
    pub above_leads : ((m j : ℕ) → m < k → j < count → Says (is_in (slice_index above m) j) (lead j Descendant m)) → IsTree (parents_of nodes) → k < length nodes → (j : ℕ) → j < count →
        Says (is_in (above_word nodes here above k) j) (lead j Descendant k)
    above_leads leads tree inside j h = of_place (cases_eq k 0)
      where
        of_place : (k ≡ 0) ⊎ (k ≡ 0 → ⊥) → Says (is_in (above_word nodes here above k) j) (lead j Descendant k)
        of_place (inl e) =
            let t : (k == 0) ≡ true = eq-eqb k 0 e in
            let q : above_word nodes here above k ≡ 0 = ap (λ z. if z then 0 else bit_or (slice_index here p) (slice_index above p)) t in
            says_of (is_in (above_word nodes here above k) j) false (lead j Descendant k) (ap (λ z. is_in z j) q ∙ is_in_none j) (says_false (lead j Descendant k) (λ w. let s = w.2.0 in absurd (omega (arith, e, s))))
        of_place (inr ne) =
            let t : (k == 0) ≡ false = ne_eqb k 0 ne in
            let some : 0 < k = above_zero k ne in
            let q : above_word nodes here above k ≡ bit_or (slice_index here p) (slice_index above p) = ap (λ z. if z then 0 else bit_or (slice_index here p) (slice_index above p)) t in
            let l : p < k = parent_before nodes k tree inside some in
            let both : is_in (above_word nodes here above k) j ≡ (is_in (slice_index here p) j || is_in (slice_index above p) j) = ap (λ z. is_in z j) q ∙ is_in_or (slice_index here p) (slice_index above p) j in
            says_of (is_in (above_word nodes here above k) j) (is_in (slice_index here p) j || is_in (slice_index above p) j) (lead j Descendant k) both (record {
              yes = λ e. found some (or_cases (is_in (slice_index here p) j) (is_in (slice_index above p) j) e) l;
              no = λ e w. missed l (or_parts (is_in (slice_index here p) j) (is_in (slice_index above p) j) e) w.0 w.1 (under_parent nodes w.0 p w.2.1);
            })
          where
            above_zero : (n : ℕ) → (n ≡ 0 → ⊥) → 0 < n
            above_zero zero ne = absurd (ne refl)
            above_zero (suc n) ne = omega arith

            found : 0 < k → (is_in (slice_index here p) j ≡ true) ⊎ (is_in (slice_index above p) j ≡ true) → p < k → lead j Descendant k
            found some (inl e) l = (p, (comes p j l h).yes e, (some, itself))
            found some (inr e) l = let w = (leads p j l h).yes e in (w.0, w.1, above_under nodes w.0 p k w.2 (parent_above nodes k some))

            missed : p < k → (is_in (slice_index here p) j ≡ false) × (is_in (slice_index above p) j ≡ false) → (m : ℕ) → come j m → (m ≡ p) ⊎ Stands nodes Descendant m p → ⊥
            missed l none m w (inl q) = (comes p j l h).no none.0 (subst (λ z. come j z) q w)
            missed l none m w (inr s) = (leads p j l h).no none.1 (m, w, s)

-- lists of words that grow by one node
module _ (nodes : List Node) (names : List Names) (window : Window) where
  pub read_none : AreRead nodes names window 0 [] []
  read_none = record { here_count = refl; above_count = refl; each = λ k h. absurd (omega (arith, h)) }

  pub read_more : (n : ℕ) (here above : List ℕ) (x y : ℕ) → AreRead nodes names window n here above → IsRead nodes names window n x y → AreRead nodes names window (n + 1) (here ++ x ∷ []) (above ++ y ∷ [])
  read_more n here above x y was one = record {
    here_count = length-append here (x ∷ []) ∙ ap (λ z. z + 1) was.here_count;
    above_count = length-append above (y ∷ []) ∙ ap (λ z. z + 1) was.above_count;
    each = λ k h. of_place k h (cases_lt k n);
  }
    where
      of_place : (k : ℕ) → k < n + 1 → (k < n) ⊎ (n ≤ k) → IsRead nodes names window k (slice_index (here ++ x ∷ []) k) (slice_index (above ++ y ∷ []) k)
      of_place k h (inl l) =
          let a = was.here_count in
          let b = was.above_count in
          let i : k < length here = omega (arith, l, a) in
          let j : k < length above = omega (arith, l, b) in
          subst (λ z. IsRead nodes names window k z (slice_index (above ++ y ∷ []) k)) (sym (get_or_append_left here (x ∷ []) 0 k i))
          (subst (λ z. IsRead nodes names window k (slice_index here k) z) (sym (get_or_append_left above (y ∷ []) 0 k j)) (was.each k l))
      of_place k h (inr g) =
          let q : n ≡ k = omega (arith, h, g) in
          subst (λ z. IsRead nodes names window k z (slice_index (above ++ y ∷ []) k)) (sym (get_or_push here x 0 k (was.here_count ∙ q)))
          (subst (λ z. IsRead nodes names window k x z) (sym (get_or_push above y 0 k (was.above_count ∙ q))) (subst (λ z. IsRead nodes names window z x y) q one))

-- a window of a selector is one of its own steps
pub window_itself : (steps : List Step) (from : ℕ) (window : Window) → IsWindow steps from window → IsWindow window.steps.now window.from window
window_itself steps from window is = subst (λ z. IsWindow z window.from window) (sym is.steps_are) (subst (λ z. IsWindow steps z window) (sym is.from_is) is)
