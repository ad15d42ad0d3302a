-- The sibling before each node, found from the last children so far.
use Rattle.std.proofs.Common.{◌≡◌, ◌≢◌, ◌∙◌, ℕ, ◌+◌, ◌<◌, ◌≤◌, ◌⊎◌, inl, inr, List, [], ◌∷◌, ◌++◌, true, false, length, replicate, refl, sym, ap, subst, arith, length-append, set}
use Rattle.std.specs.Prelude.{slice_index, slice_index_or, Option, Some, None}
use Rattle.std.proofs.lemmas.List.{get_or-set_same, get_or-set_other, length-set, get_or_append_left, get_or_push, length-replicate, get_or-replicate, length-map}
use Rattle.std.proofs.lemmas.Bool.{false≢true, cases_lt, cases_eq}
use Rattle.std.proofs.lemmas.Option.{none-some}
use Rattle.lay_doc.specs.declared.node.Node.{Node}
use Rattle.lay_doc.specs.Document.{parents_of, is_text_at}
use Rattle.lay_doc.specs.Tree.{IsTree}
use Rattle.lay_cascade.specs.Siblings.{IsAdjacent, AdjacentTo}
use Rattle.lay_cascade.specs.LastChildren.{IsLastChild, AreLast}

abbrev at : List (Option ℕ) → ℕ → Option ℕ
at xs k = slice_index_or xs k None

module _ (nodes : List Node) where
  abbrev parent : ℕ → ℕ
  parent k = slice_index (parents_of nodes) k

  pub is_adjacent : (last : List (Option ℕ)) (k m : ℕ) → AreLast nodes k last → parent k < length nodes → at last (parent k) ≡ Some m → IsAdjacent nodes m k
  is_adjacent last k m are h e =
      let l = are.some (parent k) m h e in
      record { below_root = l.below_root; before = l.before; siblings = l.parent_is; no_text = l.no_text; nearest = λ j a b q. l.nearest j a b q }

  pub none_adjacent : (last : List (Option ℕ)) (k m : ℕ) → AreLast nodes k last → parent k < length nodes → at last (parent k) ≡ None → IsAdjacent nodes m k → ⊥
  none_adjacent last k m are h e a = absurd (false≢true (sym a.no_text ∙ are.none (parent k) m h e a.below_root a.before a.siblings))

  pub root_alone : (m : ℕ) → IsAdjacent nodes m 0 → ⊥
  root_alone m a = let h = a.before in absurd (omega (arith, h))

  pub adjacent_none : AdjacentTo nodes 0 []
  adjacent_none = record {
    count = refl;
    some = λ k m h e. absurd (omega (arith, h));
    none = λ k m h e a. absurd (omega (arith, h));
  }

  pub adjacent_more : (n : ℕ) (adjacent : List (Option ℕ)) (entry : Option ℕ) → AdjacentTo nodes n adjacent → ((m : ℕ) → entry ≡ Some m → IsAdjacent nodes m n) → ((m : ℕ) → entry ≡ None → IsAdjacent nodes m n → ⊥) → AdjacentTo nodes (n + 1) (adjacent ++ entry ∷ [])
  adjacent_more n adjacent entry are some none = record {
    count = length-append adjacent (entry ∷ []) ∙ ap (λ m. m + 1) are.count;
    some = λ k m h e. some_at k m h (cases_lt k n) e;
    none = λ k m h e. none_at k m h (cases_lt k n) e;
  }
    where
      at_end : (k : ℕ) → k < n + 1 → n ≤ k → k ≡ n
      at_end k h g = omega (arith, h, g)

      some_at : (k m : ℕ) → k < n + 1 → (k < n) ⊎ (n ≤ k) → at (adjacent ++ entry ∷ []) k ≡ Some m → IsAdjacent nodes m k
      some_at k m h (inl l) e = let b : k < length adjacent = rw are.count l in are.some k m l (sym (get_or_append_left adjacent (entry ∷ []) None k b) ∙ e)
      some_at k m h (inr g) e = let q = at_end k h g in subst (λ z. IsAdjacent nodes m z) (sym q) (some m (sym (get_or_push adjacent entry None k (are.count ∙ sym q)) ∙ e))

      none_at : (k m : ℕ) → k < n + 1 → (k < n) ⊎ (n ≤ k) → at (adjacent ++ entry ∷ []) k ≡ None → IsAdjacent nodes m k → ⊥
      none_at k m h (inl l) e a = let b : k < length adjacent = rw are.count l in are.none k m l (sym (get_or_append_left adjacent (entry ∷ []) None k b) ∙ e) a
      none_at k m h (inr g) e a = let q = at_end k h g in none m (sym (get_or_push adjacent entry None k (are.count ∙ sym q)) ∙ e) (subst (λ z. IsAdjacent nodes m z) q a)

  -- a text, or the root, is nobody's last child
  pub last_kept : (n : ℕ) (last : List (Option ℕ)) → AreLast nodes n last → (0 < n → is_text_at nodes n ≡ true) → AreLast nodes (n + 1) last
  last_kept n last are text = record {
    count = are.count;
    some = λ p m h e. kept p m (are.some p m h e);
    none = λ p j h e some b q. none_at p j h e some (cases_lt j n) b q;
  }
    where
      at_end : (j : ℕ) → j < n + 1 → n ≤ j → n ≡ j
      at_end j h g = omega (arith, h, g)

      further : (j : ℕ) → 0 < j → j < n + 1 → n ≤ j → is_text_at nodes j ≡ true
      further j some b g = let q = at_end j b g in subst (λ z. is_text_at nodes z ≡ true) q (text (rw q some))

      near : (p m j : ℕ) → IsLastChild nodes n p m → m < j → j < n + 1 → parent j ≡ p → (j < n) ⊎ (n ≤ j) → is_text_at nodes j ≡ true
      near p m j l a b q (inl i) = l.nearest j a i q
      near p m j l a b q (inr g) = further j (omega (arith, a)) b g

      kept : (p m : ℕ) → IsLastChild nodes n p m → IsLastChild nodes (n + 1) p m
      kept p m l = record {
        below_root = l.below_root;
        before = let b = l.before in omega (arith, b);
        parent_is = l.parent_is;
        no_text = l.no_text;
        nearest = λ j a b q. near p m j l a b q (cases_lt j n);
      }

      none_at : (p j : ℕ) → p < length nodes → at last p ≡ None → 0 < j → (j < n) ⊎ (n ≤ j) → j < n + 1 → parent j ≡ p → is_text_at nodes j ≡ true
      none_at p j h e some (inl i) b q = are.none p j h e some i q
      none_at p j h e some (inr g) b q = further j some b g

  pub last_set : (n : ℕ) (last : List (Option ℕ)) → AreLast nodes n last → 0 < n → parent n < length nodes → is_text_at nodes n ≡ false → AreLast nodes (n + 1) (set last (parent n) (Some n))
  last_set n last are root within no_text = record {
    count = length-set last (parent n) (Some n) ∙ are.count;
    some = λ p m h e. some_at p m h (cases_eq p (parent n)) e;
    none = λ p j h e some b q. none_at p j h (cases_eq p (parent n)) e some b q;
  }
    where
      here : at (set last (parent n) (Some n)) (parent n) ≡ Some n
      here = let l : parent n < length last = rw are.count within in get_or-set_same last (parent n) (Some n) None l

      there : (p : ℕ) → p ≢ parent n → at (set last (parent n) (Some n)) p ≡ at last p
      there p ne = get_or-set_other last (parent n) p (Some n) None ne

      before_it : (p j : ℕ) → p ≢ parent n → j < n + 1 → parent j ≡ p → j < n
      before_it p j ne b q = settle (cases_lt j n)
        where
          settle : (j < n) ⊎ (n ≤ j) → j < n
          settle (inl i) = i
          settle (inr g) = let e : j ≡ n = omega (arith, b, g) in absurd (ne (sym q ∙ ap parent e))

      own : (m : ℕ) → Some n ≡ Some m → IsLastChild nodes (n + 1) (parent n) m
      own m e = let q : n ≡ m = cc in subst (λ z. IsLastChild nodes (n + 1) (parent n) z) q (record {
        below_root = root;
        before = omega arith;
        parent_is = refl;
        no_text = no_text;
        nearest = λ j a b e. absurd (omega (arith, a, b));
      })

      kept : (p m : ℕ) → p ≢ parent n → IsLastChild nodes n p m → IsLastChild nodes (n + 1) p m
      kept p m ne l = record {
        below_root = l.below_root;
        before = let b = l.before in omega (arith, b);
        parent_is = l.parent_is;
        no_text = l.no_text;
        nearest = λ j a b q. l.nearest j a (before_it p j ne b q) q;
      }

      some_at : (p m : ℕ) → p < length nodes → (p ≡ parent n) ⊎ (p ≢ parent n) → at (set last (parent n) (Some n)) p ≡ Some m → IsLastChild nodes (n + 1) p m
      some_at p m h (inl e) is = subst (λ z. IsLastChild nodes (n + 1) z m) (sym e) (own m (sym here ∙ subst (λ z. at (set last (parent n) (Some n)) z ≡ Some m) e is))
      some_at p m h (inr ne) is = kept p m ne (are.some p m h (sym (there p ne) ∙ is))

      none_at : (p j : ℕ) → p < length nodes → (p ≡ parent n) ⊎ (p ≢ parent n) → at (set last (parent n) (Some n)) p ≡ None → 0 < j → j < n + 1 → parent j ≡ p → is_text_at nodes j ≡ true
      none_at p j h (inl e) is some b q = absurd (none-some n (sym (subst (λ z. at (set last (parent n) (Some n)) z ≡ None) e is) ∙ here))
      none_at p j h (inr ne) is some b q = are.none p j h (sym (there p ne) ∙ is) some (before_it p j ne b q) q

  pub none_last_yet : (last : List (Option ℕ)) → last ≡ replicate (length nodes) None → AreLast nodes 0 last
  none_last_yet last is = record {
    count = ap length is ∙ length-replicate (length nodes) None;
    some = λ p m h e. absurd (none-some m (sym (none_at p h) ∙ e));
    none = λ p j h e some b q. absurd (omega (arith, b));
  }
    where
      none_at : (p : ℕ) → p < length nodes → at last p ≡ None
      none_at p h = ap (λ z. at z p) is ∙ get_or-replicate (length nodes) p None None h

  pub root_or_text : (n : ℕ) (last : List (Option ℕ)) → AreLast nodes n last → (n ≡ 0) ⊎ (is_text_at nodes n ≡ true) → AreLast nodes (n + 1) last
  root_or_text n last are (inl e) = last_kept n last are (λ h. absurd (omega (arith, h, e)))
  root_or_text n last are (inr e) = last_kept n last are (λ h. e)

  length_parents : length (parents_of nodes) ≡ length nodes
  length_parents = length-map nodes (λ n. n.parent)

  pub parent_before : (k : ℕ) → IsTree (parents_of nodes) → k < length nodes → 0 < k → parent k < k
  parent_before k tree here some = tree.before k some (subst (λ z. k < z) (sym length_parents) here)

  pub parent_within : (k : ℕ) → IsTree (parents_of nodes) → k < length nodes → 0 < k → parent k < length nodes
  parent_within k tree here some = let h = tree.before k some (subst (λ z. k < z) (sym length_parents) here) in omega (arith, h, here)

  pub found_adjacent : (last : List (Option ℕ)) (k p m : ℕ) → IsTree (parents_of nodes) → k < length nodes → AreLast nodes k last → 0 < k → p ≡ parent k → at last p ≡ Some m → IsAdjacent nodes m k
  found_adjacent last k p m tree here are some is e = is_adjacent last k m are (parent_within k tree here some) (ap (at last) (sym is) ∙ e)

  pub none_found : (last : List (Option ℕ)) (k p m : ℕ) → IsTree (parents_of nodes) → k < length nodes → AreLast nodes k last → 0 < k → p ≡ parent k → at last p ≡ None → IsAdjacent nodes m k → ⊥
  none_found last k p m tree here are some is e = none_adjacent last k m are (parent_within k tree here some) (ap (at last) (sym is) ∙ e)
