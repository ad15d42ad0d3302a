-- Which nodes stand above others, and which all that one stands in another stands in too.
use Rattle.std.proofs.Common.{◌≡◌, ◌≢◌, ◌∙◌, ℕ, ◌<◌, ◌≤◌, ◌⊎◌, inl, inr, List, refl, sym, subst, arith}
use Rattle.std.specs.Prelude.{slice_index}
use Rattle.std.proofs.lemmas.Bool.{false≢true, cases_lt}
use Rattle.lay_doc.specs.declared.node.Node.{Node}
use Rattle.lay_doc.specs.Document.{parents_of}
use Rattle.lay_doc.specs.Tree.{IsUnder, itself, child}
use Rattle.lay_sheet.specs.declared.selector.Joint.{Joint}
use Rattle.lay_sheet.specs.declared.selector.Joint.TheVariants.{Same, Descendant, Child, Adjacent}
use Rattle.lay_cascade.specs.Siblings.{IsAdjacent}
use Rattle.lay_cascade.specs.Matching.{Stands}
use Rattle.lay_cascade.specs.Rising.{Covers}

module _ (nodes : List Node) where
  abbrev parent : ℕ → ℕ
  parent k = slice_index (parents_of nodes) k

  abbrev under : ℕ → ℕ → Type 0
  under a b = IsUnder (parents_of nodes) a b

  pub under_parent : (n p : ℕ) → under n p → (n ≡ p) ⊎ ((0 < p) × under n (parent p))
  under_parent n p itself = inl refl
  under_parent n p (child k some u) = inr (some, u)

  pub further : (a b c : ℕ) → under a b → under b c → under a c
  further a b c u itself = u
  further a b c u (child k some v) = child k some (further a b (parent k) u v)

  pub parent_above : (k : ℕ) → 0 < k → under (parent k) k
  parent_above k some = child k some itself

  -- all that stands above one stands above what is under it
  pub above_under : (a b c : ℕ) → Stands nodes Descendant a b → under b c → Stands nodes Descendant a c
  above_under a b c s u = of_cases (under_parent b c u)
    where
      of_cases : (b ≡ c) ⊎ ((0 < c) × under b (parent c)) → Stands nodes Descendant a c
      of_cases (inl e) = subst (λ z. Stands nodes Descendant a z) e s
      of_cases (inr w) = (w.0, further a (parent b) (parent c) s.1 (further (parent b) b (parent c) (parent_above b s.0) w.1))

  cover_child : (m n x y : ℕ) → Covers nodes m n → Stands nodes Child x m → Stands nodes Child y n → Covers nodes x y
  cover_child m n x y covers s t = λ a u. of_cases a u (under_parent y x y_over_x)
    where
      y_over_n : Stands nodes Descendant y n
      y_over_n = (t.0, subst (λ z. under y z) (sym t.1) itself)

      y_over_x : under y x
      y_over_x = subst (λ z. under y z) s.1 (covers y y_over_n).1

      of_cases : (a : ℕ) → Stands nodes Descendant a y → (y ≡ x) ⊎ ((0 < x) × under y (parent x)) → Stands nodes Descendant a x
      of_cases a u (inl e) = subst (λ z. Stands nodes Descendant a z) e u
      of_cases a u (inr w) = (w.0, further a y (parent x) (child y u.0 u.1) w.1)

  cover_adjacent : (m n x y : ℕ) → Covers nodes m n → IsAdjacent nodes x m → IsAdjacent nodes y n → Covers nodes x y
  cover_adjacent m n x y covers s t = λ a u.
      let b = t.before in
      let some : 0 < n = omega (arith, b) in
      let w = covers a (some, subst (λ z. under a z) t.siblings u.1) in
      (s.below_root, subst (λ z. under a z) (sym s.siblings) w.1)

  pub cover_before : (joint : Joint) → joint ≢ Descendant → (m n x y : ℕ) → Covers nodes m n → Stands nodes joint x m → Stands nodes joint y n → Covers nodes x y
  cover_before Same one m n x y covers s t = subst (λ z. Covers nodes z y) (sym s) (subst (λ z. Covers nodes m z) (sym t) covers)
  cover_before Descendant one m n x y covers s t = absurd (one refl)
  cover_before Child one m n x y covers s t = cover_child m n x y covers s t
  cover_before Adjacent one m n x y covers s t = cover_adjacent m n x y covers s t

  -- a node has one such sibling at most
  pub one_adjacent : (m n k : ℕ) → IsAdjacent nodes m k → IsAdjacent nodes n k → m ≡ n
  one_adjacent m n k a b = settle (cases_lt m n) (cases_lt n m)
    where
      settle : (m < n) ⊎ (n ≤ m) → (n < m) ⊎ (m ≤ n) → m ≡ n
      settle (inl l) d = absurd (false≢true (sym b.no_text ∙ a.nearest n l b.before b.siblings))
      settle (inr g) (inl l) = absurd (false≢true (sym a.no_text ∙ b.nearest m l a.before a.siblings))
      settle (inr g) (inr h) = omega (arith, g, h)
