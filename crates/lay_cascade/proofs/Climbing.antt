-- The nodes that a list's nodes stand to, found one after the other.
use Rattle.std.proofs.Common.{◌≡◌, ◌≢◌, ◌∙◌, ℕ, zero, suc, ◌+◌, ◌<◌, ◌≤◌, ◌⊎◌, inl, inr, List, [], ◌∷◌, ◌++◌, Bool, true, false, length, take, refl, sym, ap, subst, arith}
use Rattle.std.specs.Prelude.{slice_index, slice_index_or, Option, Some, None, ◌↔◌, if◌then◌else◌}
use Rattle.std.specs.List.{Contains}
use Rattle.std.proofs.lemmas.Bool.{false≢true, cases_lt}
use Rattle.std.proofs.lemmas.List.{get_or_default, get_or_append_left, get_or_push, length-append, get_or-take, length-take-le, take_more}
use Rattle.std.proofs.lemmas.List.Elements.{Contains-push, Contains-push_cases, Contains-append_left}
use Rattle.lay_doc.specs.declared.node.Node.{Node}
use Rattle.lay_doc.specs.Document.{parents_of}
use Rattle.lay_doc.specs.Tree.{IsTree}
use Rattle.lay_cascade.specs.declared.node_names.names.Names.{Names}
use Rattle.lay_sheet.specs.declared.selector.Joint.{Joint}
use Rattle.lay_sheet.specs.declared.selector.Joint.TheVariants.{Same, Descendant, Child, Adjacent}
use Rattle.lay_sheet.specs.declared.selector.Simple.{Simple}
use Rattle.lay_cascade.specs.NodeNames.{fits, fits_at}
use Rattle.lay_cascade.specs.Siblings.{IsAdjacent, AreAdjacent}
use Rattle.lay_cascade.specs.Matching.{Stands}
use Rattle.lay_cascade.specs.Rising.{Covers, IsRising, AreBefore, with_fitting}
use Rattle.lay_cascade.proofs.Adjacent.{parent_within}
use Rattle.lay_cascade.proofs.Standing.{cover_before, one_adjacent}

pub fits_within : (names : List Names) (k : ℕ) (simple : Simple) → fits_at names k simple ≡ true → k < length names
fits_within [] k simple e = absurd (false≢true e)
fits_within (n ∷ ns) zero simple e = omega arith
fits_within (n ∷ ns) (suc k) simple e = let h = fits_within ns k simple e in omega (arith, h)

-- what a node at a place is called decides whether it fits
pub fits_read : (names : List Names) (k : ℕ) (n : Names) (simple : Simple) → k < length names → fits (slice_index_or names k n) simple ≡ fits_at names k simple
fits_read [] k n simple h = absurd (omega (arith, h))
fits_read (m ∷ ns) zero n simple h = refl
fits_read (m ∷ ns) (suc k) n simple h = let g : k < length ns = omega (arith, h) in fits_read ns k n simple g

-- an element stands at a place, and what stands at a place is an element
pub element_at : (xs : List ℕ) (i : ℕ) → i < length xs → Contains xs (slice_index xs i)
element_at xs i h = (i, h, get_or_default xs i (slice_index xs i) 0 h)

pub nothing_in : (x : ℕ) → Contains [] x → ⊥
nothing_in x w = let h = w.1 in absurd (omega (arith, h))

pub alone_in : (p x : ℕ) → Contains (p ∷ []) x → p ≡ x
alone_in p x w = of_cases (Contains-push_cases [] p x w)
  where
    of_cases : Contains [] x ⊎ (p ≡ x) → p ≡ x
    of_cases (inl n) = absurd (nothing_in x n)
    of_cases (inr e) = e

none-some : (m : ℕ) → None ≡ Some m → ⊥
none-some m e = absurd cc

some-same : (m n : ℕ) → Some m ≡ Some n → m ≡ n
some-same m n e = cc

module _ (nodes : List Node) where
  pub rising_none : IsRising nodes []
  rising_none = λ i j l h. absurd (omega (arith, h))

  pub rising_push : (found : List ℕ) (m : ℕ) → IsRising nodes found → ((x : ℕ) → Contains found x → Covers nodes x m) → IsRising nodes (found ++ m ∷ [])
  rising_push found m rising covers = λ i j l h. of_cases i j l h (cases_lt j (length found))
    where
      left : (i : ℕ) → i < length found → slice_index (found ++ m ∷ []) i ≡ slice_index found i
      left i h = get_or_append_left found (m ∷ []) 0 i h

      count : length (found ++ m ∷ []) ≡ length found + 1
      count = length-append found (m ∷ [])

      of_cases : (i j : ℕ) → i < j → j < length (found ++ m ∷ []) → (j < length found) ⊎ (length found ≤ j) → Covers nodes (slice_index (found ++ m ∷ []) i) (slice_index (found ++ m ∷ []) j)
      of_cases i j l h (inl b) =
          let a : i < length found = omega (arith, l, b) in
          subst (λ z. Covers nodes z (slice_index (found ++ m ∷ []) j)) (sym (left i a)) (subst (λ z. Covers nodes (slice_index found i) z) (sym (left j b)) (rising i j l b))
      of_cases i j l h (inr b) =
          let n = count in
          let e : length found ≡ j = omega (arith, h, b, n) in
          let a : i < length found = omega (arith, l, e) in
          subst (λ z. Covers nodes z (slice_index (found ++ m ∷ []) j)) (sym (left i a)) (subst (λ z. Covers nodes (slice_index found i) z) (sym (get_or_push found m 0 j e)) (covers (slice_index found i) (element_at found i a)))

  module _ (names : List Names) (simple : Simple) where
    pub before_none : (joint : Joint) → AreBefore nodes names [] joint simple []
    before_none joint = record {
      within = λ m w. absurd (nothing_in m w);
      fitting = λ m w. absurd (nothing_in m w);
      sound = λ m w. absurd (nothing_in m w);
      complete = λ m k w. absurd (nothing_in k w);
      rising = rising_none;
    }

    module _ (seen found : List ℕ) (p : ℕ) (joint : Joint) (was : AreBefore nodes names seen joint simple found) where
      sound_more : (m : ℕ) → Contains found m → (k : ℕ) × Contains (seen ++ p ∷ []) k × Stands nodes joint m k
      sound_more m w = let s = was.sound m w in (s.0, Contains-append_left seen (p ∷ []) s.0 s.1, s.2)

      -- nothing new that fits stands before one more
      before_same : ((m : ℕ) → Stands nodes joint m p → fits_at names m simple ≡ true → ⊥) → AreBefore nodes names (seen ++ p ∷ []) joint simple found
      before_same none = record {
        within = was.within;
        fitting = was.fitting;
        sound = sound_more;
        complete = λ m k w s f. of_cases m k s f (Contains-push_cases seen p k w);
        rising = was.rising;
      }
        where
          of_cases : (m k : ℕ) → Stands nodes joint m k → fits_at names m simple ≡ true → Contains seen k ⊎ (p ≡ k) → Contains found m
          of_cases m k s f (inl w) = was.complete m k w s f
          of_cases m k s f (inr e) = absurd (none m (subst (λ z. Stands nodes joint m z) (sym e) s) f)

      -- one node that fits stands before one more
      before_push : (n : ℕ) → length names ≡ length nodes → Stands nodes joint n p → ((m : ℕ) → Stands nodes joint m p → n ≡ m) → fits_at names n simple ≡ true → ((x : ℕ) → Contains found x → Covers nodes x n) →
          AreBefore nodes names (seen ++ p ∷ []) joint simple (found ++ n ∷ [])
      before_push n count stands one fitted covers = record {
        within = λ m w. within m (Contains-push_cases found n m w);
        fitting = λ m w. fitting m (Contains-push_cases found n m w);
        sound = λ m w. sound m (Contains-push_cases found n m w);
        complete = λ m k w s f. complete m k s f (Contains-push_cases seen p k w);
        rising = rising_push found n was.rising covers;
      }
        where
          within : (m : ℕ) → Contains found m ⊎ (n ≡ m) → m < length nodes
          within m (inl w) = was.within m w
          within m (inr e) = subst (λ z. z < length nodes) e (subst (λ z. n < z) count (fits_within names n simple fitted))

          fitting : (m : ℕ) → Contains found m ⊎ (n ≡ m) → fits_at names m simple ≡ true
          fitting m (inl w) = was.fitting m w
          fitting m (inr e) = subst (λ z. fits_at names z simple ≡ true) e fitted

          sound : (m : ℕ) → Contains found m ⊎ (n ≡ m) → (k : ℕ) × Contains (seen ++ p ∷ []) k × Stands nodes joint m k
          sound m (inl w) = sound_more m w
          sound m (inr e) = (p, Contains-push seen p, subst (λ z. Stands nodes joint z p) e stands)

          complete : (m k : ℕ) → Stands nodes joint m k → fits_at names m simple ≡ true → Contains seen k ⊎ (p ≡ k) → Contains (found ++ n ∷ []) m
          complete m k s f (inl w) = Contains-append_left found (n ∷ []) m (was.complete m k w s f)
          complete m k s f (inr e) = subst (λ z. Contains (found ++ n ∷ []) z) (one m (subst (λ z. Stands nodes joint m z) (sym e) s)) (Contains-push found n)

      pub before_more : (o : Option ℕ) → joint ≢ Descendant → length names ≡ length nodes → ((m : ℕ) → (o ≡ Some m) ↔ Stands nodes joint m p) → ((x : ℕ) → Contains seen x → Covers nodes x p) →
          AreBefore nodes names (seen ++ p ∷ []) joint simple (with_fitting names found o simple)
      before_more None one count stands covers = before_same (λ m s f. none-some m ((stands m).1 s))
      before_more (Some n) one count stands covers = of_fit (fits_at names n simple) refl
        where
          here : Stands nodes joint n p
          here = (stands n).0 refl

          only : (m : ℕ) → Stands nodes joint m p → n ≡ m
          only m s = some-same n m ((stands m).1 s)

          of_fit : (b : Bool) → fits_at names n simple ≡ b → AreBefore nodes names (seen ++ p ∷ []) joint simple (if b then found ++ n ∷ [] else found)
          of_fit true e = before_push n count here only e (λ x w. let s = was.sound x w in cover_before nodes joint one s.0 p x n (covers s.0 s.1) s.2 here)
          of_fit false e = before_same (λ m s f. false≢true (sym e ∙ subst (λ z. fits_at names z simple ≡ true) (sym (only m s)) f))

-- the one node before another, by each joint that leaves one
pub same_before : (k m : ℕ) → (Some k ≡ Some m) ↔ (m ≡ k)
same_before k m = (λ e. sym (some-same k m e), λ e. ap Some (sym e))

pub no_parent : (nodes : List Node) (k m : ℕ) → k ≡ 0 → (None ≡ Some m) ↔ Stands nodes Child m k
no_parent nodes k m root = (λ e. absurd (none-some m e), λ s. let h = s.0 in absurd (omega (arith, h, root)))

pub one_parent : (nodes : List Node) (k p m : ℕ) → 0 < k → p ≡ slice_index (parents_of nodes) k → (Some p ≡ Some m) ↔ Stands nodes Child m k
one_parent nodes k p m some is = (λ e. (some, sym is ∙ some-same p m e), λ s. ap Some (is ∙ s.1))

pub one_before : (nodes : List Node) (adjacent : List (Option ℕ)) (k m : ℕ) (found : Option ℕ) → AreAdjacent nodes adjacent → k < length nodes → found ≡ slice_index_or adjacent k None → (found ≡ Some m) ↔ Stands nodes Adjacent m k
one_before nodes adjacent k m found are here is = (λ e. are.some k m here (sym is ∙ e), λ s. back found is s)
  where
    back : (o : Option ℕ) → o ≡ slice_index_or adjacent k None → IsAdjacent nodes m k → o ≡ Some m
    back None q s = absurd (are.none k m here (sym q) s)
    back (Some n) q s = ap Some (one_adjacent nodes n m k (are.some k n here (sym q)) s)

-- what stands as such a joint says to a node is a node
pub stands_within : (nodes : List Node) (joint : Joint) (k m : ℕ) → IsTree (parents_of nodes) → joint ≢ Descendant → k < length nodes → Stands nodes joint m k → m < length nodes
stands_within nodes Same k m tree one here s = subst (λ z. z < length nodes) (sym s) here
stands_within nodes Descendant k m tree one here s = absurd (one refl)
stands_within nodes Child k m tree one here s = subst (λ z. z < length nodes) s.1 (parent_within nodes k tree here s.0)
stands_within nodes Adjacent k m tree one here s = let b = s.before in omega (arith, b, here)

-- those before one in a rising list cover it
pub rising_covers : (nodes : List Node) (places : List ℕ) (k x : ℕ) → IsRising nodes places → k < length places → Contains (take k places) x → Covers nodes x (slice_index places k)
rising_covers nodes places k x rising here w =
    let n = length-take-le k places (omega (arith, here)) in
    let b = w.1 in
    let l : w.0 < k = omega (arith, b, n) in
    let e : slice_index places w.0 ≡ x = get_or_default places w.0 0 x (omega (arith, l, here)) ∙ sym (get_or-take k places w.0 x l) ∙ w.2 in
    subst (λ z. Covers nodes z (slice_index places k)) e (rising w.0 k l here)

-- the next node of a list
pub seen_more : (places : List ℕ) (k p : ℕ) → k < length places → p ≡ slice_index places k → take (k + 1) places ≡ take k places ++ p ∷ []
seen_more places k p here is = take_more places k 0 here ∙ ap (λ z. take k places ++ z ∷ []) (sym is)
