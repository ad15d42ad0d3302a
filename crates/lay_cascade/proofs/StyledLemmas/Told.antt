-- What is told of the nodes before they are styled.
use Rattle.std.proofs.Common.{◌≡◌, ◌∙◌, ℕ, ◌+◌, ◌<◌, ◌≤◌, ◌⊎◌, inl, inr, List, [], ◌∷◌, ◌++◌, Bool, false, length, refl, sym, ap, subst, arith}
use Rattle.std.specs.Prelude.{slice_index_or, Option, Some, None}
use Rattle.std.specs.List.{slice_get}
use Rattle.std.proofs.lemmas.Bool.{cases_lt, cases_eq}
use Rattle.std.proofs.lemmas.List.{get_or_append_left, get_or_push, length-append}
use Rattle.std.proofs.lemmas.Option.{get_or_from_slice_get}
use Rattle.std.proofs.Math.ListN.{get_or-eq_default}
use Rattle.lay_doc.specs.declared.node.Node.{Node}
use Rattle.lay_cascade.specs.declared.node_names.names.Names.{Names}
use Rattle.lay_sheet.specs.Sheets.{RuleValue}
use Rattle.lay_sheet.specs.declared.selector.Step.{Step}
use Rattle.lay_cascade.specs.Matching.{IsMatched, Says}
use Rattle.lay_cascade.specs.Columns.{IsColumn}
use Rattle.lay_cascade.specs.declared.styled.entry.Entry.{Entry}
use Rattle.lay_cascade.specs.Styled.Told.{IsTold, AreTold, AreColumns, column_at}

none-some : (b : Bool) → None ≡ Some b → ⊥
none-some b e = absurd cc

same-rule : (a b : RuleValue) → Some a ≡ Some b → a ≡ b
same-rule a b q = cc

same-steps : (a b : List Step) → Some a ≡ Some b → a ≡ b
same-steps a b q = cc

ne_le : {m n : ℕ} → n ≤ m → (m ≡ n → ⊥) → n < m
ne_le {m} {n} g ne = of_cases (cases_lt n m)
  where
    of_cases : (n < m) ⊎ (m ≤ n) → n < m
    of_cases (inl l) = l
    of_cases (inr h) = absurd (ne (omega (arith, g, h)))

-- a list with one more element has that at its end, and else what it had
pushed_at : {X : Type 0} (xs : List X) (x d : X) (s : ℕ) → (slice_index_or (xs ++ x ∷ []) s d ≡ slice_index_or xs s d) ⊎ ((s ≡ length xs) × (slice_index_or (xs ++ x ∷ []) s d ≡ x))
pushed_at xs x d s = of_place (cases_lt s (length xs)) (cases_eq s (length xs))
  where
    more : length (xs ++ x ∷ []) ≡ length xs + 1
    more = length-append xs (x ∷ [])

    behind : length xs ≤ s → (s ≡ length xs → ⊥) → slice_index_or (xs ++ x ∷ []) s d ≡ slice_index_or xs s d
    behind g ne =
        let e = more in
        let l = ne_le g ne in
        let h : length (xs ++ x ∷ []) ≤ s = omega (arith, e, l) in
        get_or-eq_default (xs ++ x ∷ []) d h ∙ sym (get_or-eq_default xs d g)

    of_place : (s < length xs) ⊎ (length xs ≤ s) → (s ≡ length xs) ⊎ (s ≡ length xs → ⊥) →
        (slice_index_or (xs ++ x ∷ []) s d ≡ slice_index_or xs s d) ⊎ ((s ≡ length xs) × (slice_index_or (xs ++ x ∷ []) s d ≡ x))
    of_place (inl l) e = inl (get_or_append_left xs (x ∷ []) d s l)
    of_place (inr g) (inl e) = inr (e, get_or_push xs x d s (sym e))
    of_place (inr g) (inr ne) = inl (behind g ne)

module _ (nodes : List Node) (names : List Names) where
  pub told_says : (selector : List Step) (column : List Bool) (k : ℕ) (b : Bool) → IsTold nodes names selector column → k < length nodes → slice_get column k ≡ Some b → Says b (IsMatched nodes names selector k)
  told_says selector column k b (inl e) h g = absurd (none-some b (sym (ap (λ z. slice_get z k) e) ∙ g))
  told_says selector column k b (inr c) h g = subst (λ z. Says z (IsMatched nodes names selector k)) (get_or_from_slice_get column k b false g) (c.each k h)

  pub told_none : (selectors : List (List Step)) → AreTold nodes names selectors []
  told_none selectors s selector e = inl refl

  pub told_more : (selectors : List (List Step)) (columns : List (List Bool)) (selector : List Step) (column : List Bool) (s : ℕ) → length columns ≡ s → slice_get selectors s ≡ Some selector →
      AreTold nodes names selectors columns → IsTold nodes names selector column → AreTold nodes names selectors (columns ++ column ∷ [])
  told_more selectors columns selector column s count is was told t other e = of_place (pushed_at columns column [] t)
    where
      of_place : (slice_index_or (columns ++ column ∷ []) t [] ≡ slice_index_or columns t []) ⊎ ((t ≡ length columns) × (slice_index_or (columns ++ column ∷ []) t [] ≡ column)) →
          IsTold nodes names other (slice_index_or (columns ++ column ∷ []) t [])
      of_place (inl q) = subst (IsTold nodes names other) (sym q) (was t other e)
      of_place (inr (q, r)) =
          let o = same-steps selector other (sym is ∙ ap (slice_get selectors) (sym count ∙ sym q) ∙ e) in
          subst (IsTold nodes names other) (sym r) (subst (λ z. IsTold nodes names z column) o told)

  pub columns_none : (rules : List RuleValue) → AreColumns rules nodes names []
  columns_none rules r rule e s selector g = inl refl

  pub columns_more : (rules : List RuleValue) (columns : List (List (List Bool))) (rule : RuleValue) (list : List (List Bool)) (r : ℕ) → length columns ≡ r → slice_get rules r ≡ Some rule →
      AreColumns rules nodes names columns → AreTold nodes names rule.selectors list → AreColumns rules nodes names (columns ++ list ∷ [])
  columns_more rules columns rule list r count is was told t other e = of_place (pushed_at columns list [] t)
    where
      of_place : (slice_index_or (columns ++ list ∷ []) t [] ≡ slice_index_or columns t []) ⊎ ((t ≡ length columns) × (slice_index_or (columns ++ list ∷ []) t [] ≡ list)) →
          AreTold nodes names other.selectors (slice_index_or (columns ++ list ∷ []) t [])
      of_place (inl q) = subst (AreTold nodes names other.selectors) (sym q) (was t other e)
      of_place (inr (q, l)) =
          let o = same-rule rule other (sym is ∙ ap (slice_get rules) (sym count ∙ sym q) ∙ e) in
          subst (AreTold nodes names other.selectors) (sym l) (subst (λ (z : RuleValue). AreTold nodes names z.selectors list) o told)
