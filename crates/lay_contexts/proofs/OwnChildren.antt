-- The children of an own node of a context that is no inner context are own nodes.
use Rattle.std.proofs.Common.{◌≡◌, ◌⊎◌, inl, inr, ℕ, zero, suc, ◌+◌, ◌-◌, ◌<◌, ◌≤◌, ◌==◌, true, false, List, [], ◌∷◌, length, map, filter, refl, ap, sym, subst, ◌∙◌, arith, slice_index, slice_index_or}
use Rattle.std.proofs.lemmas.Bool.{cases_lt, eqb-true}
use Rattle.std.proofs.lemmas.Option.{slice_get_within as there}
use Rattle.lay_style.specs.declared.style.Style.{Style}
use Rattle.lay_doc.specs.declared.node.Node.{Node}
use Rattle.lay_doc.specs.Document.{parents_of}
use Rattle.lay_doc.specs.Tree.{IsTree}
use Rattle.lay_boxgen.specs.Contexts.{box_at, is_marked}
use Rattle.lay_contexts.specs.NodeTreeLaws.{children_places, places_from}
use Rattle.lay_contexts.specs.ContextTree.{IsAround, further, parent, parent_of}
use Rattle.lay_contexts.specs.OwnNodes.{AreOwnNodes, OwnNode, own_at}
use Rattle.lay_contexts.proofs.RisingLists.{Has, below-from, from-has, has-from, has-map, map-has, one-rising, rises-from, rises-map}

-- the numbers of the children of the own node with this number
abbrev pub numbers : List OwnNode → (n i : ℕ) → List ℕ
numbers own n i = filter (λ j. (own_at own j).parent == i) (places_from (i + 1) (n - (i + 1)))

pub or-same : (xs : List ℕ) (i d : ℕ) → i < length xs → slice_index_or xs i d ≡ slice_index xs i
or-same [] i d lt = absurd (omega (arith, lt))
or-same (x ∷ xs) zero d lt = refl
or-same (x ∷ xs) (suc i) d lt = or-same xs i d (omega (arith, lt))

module _ (nodes : List Node) (styles : List Style) (is_tree : IsTree (parents_of nodes)) (a : ℕ) (marked : is_marked (box_at nodes styles a) ≡ true)
    (places : List ℕ) (own : List OwnNode) (are : AreOwnNodes nodes styles a places own) where
  abbrev pub place : ℕ → ℕ
  place i = slice_index_or places i a

  pub place-is : (i : ℕ) → i < length places → place i ≡ slice_index places i
  place-is i lt = or-same places i a lt

  pub rising : (i j : ℕ) → i < j → j < length places → place i < place j
  rising i j less lt =
      let r = are.rising i j less lt in
      let p = place-is i (omega (arith, less, lt)) in
      let q = place-is j lt in
      omega (arith, r, p, q)

  one-number : (i j : ℕ) → i < length places → j < length places → place i ≡ place j → i ≡ j
  one-number i j li lj e = elim (cases_lt i j) [
    | inl low ↦ absurd (let r = rising i j low lj in omega (arith, r, e))
    | inr high ↦ elim (cases_lt j i) [
      | inl over ↦ absurd (let r = rising j i over li in omega (arith, r, e))
      | inr under ↦ omega (arith, high, under)
    ]
  ]

  -- an own node that is no inner context
  abbrev pub IsOpen : ℕ → Type 0
  IsOpen i = (i ≡ 0) ⊎ (is_marked (box_at nodes styles (place i)) ≡ false)

  child-around : (i c : ℕ) → i < length places → IsOpen i → 0 < c → parent_of nodes c ≡ place i → IsAround nodes styles c a
  child-around i c lt (inl zero_is) positive e =
      let p : parent_of nodes c ≡ a = e ∙ (ap place zero_is ∙ (place-is 0 are.some ∙ are.first)) in
      subst (IsAround nodes styles c) p (parent c positive (ap (λ (k : ℕ). is_marked (box_at nodes styles k)) p ∙ marked))
  child-around i c lt (inr unshut) positive e = by (cases_lt 0 i)
    where
      by : (0 < i) ⊎ (i ≤ 0) → IsAround nodes styles c a
      by (inl above) =
          let h = are.around i above lt in
          further c a positive (ap (λ (k : ℕ). is_marked (box_at nodes styles k)) e ∙ unshut)
          (subst (λ (k : ℕ). IsAround nodes styles k a) (sym (e ∙ place-is i lt)) h)
      by (inr low) =
          let z : i ≡ 0 = omega (arith, low) in
          let p : parent_of nodes c ≡ a = e ∙ (ap place z ∙ (place-is 0 are.some ∙ are.first)) in
          subst (IsAround nodes styles c) p (parent c positive (ap (λ (k : ℕ). is_marked (box_at nodes styles k)) p ∙ marked))

  parent-number : (j : ℕ) → 0 < j → j < length places → parent_of nodes (place j) ≡ place (own_at own j).parent
  parent-number j positive lt =
      let h = are.parent j positive lt in
      ap (parent_of nodes) (place-is j lt) ∙ (sym h.1 ∙ sym (place-is (own_at own j).parent h.0))

  same-true : (m n : ℕ) → m ≡ n → (m == n) ≡ true
  same-true m n e = grind (arith, e)

  pub children-are : (i : ℕ) → i < length places → IsOpen i → children_places nodes (place i) ≡ map place (numbers own (length places) i)
  children-are i lt unshut =
      one-rising (children_places nodes (place i)) (map place (numbers own (length places) i))
      (rises-from (λ c. slice_index (parents_of nodes) c == place i) (place i + 1) (length nodes - (place i + 1)))
      (rises-map place (length places) rising (numbers own (length places) i)
      (below-from place (length places) rising (λ j. (own_at own j).parent == i) (i + 1) (length places - (i + 1)) (omega (arith, lt)))
      (rises-from (λ j. (own_at own j).parent == i) (i + 1) (length places - (i + 1))))
      into back
    where
      into : (c : ℕ) → Has (children_places nodes (place i)) c → Has (map place (numbers own (length places) i)) c
      into c h =
          let r = from-has (λ c. slice_index (parents_of nodes) c == place i) c (place i + 1) (length nodes - (place i + 1)) h in
          let low = r.0 in
          let high = r.1 in
          let positive : 0 < c = omega (arith, low) in
          let within : c < length nodes = omega (arith, low, high) in
          let e = eqb-true (slice_index (parents_of nodes) c) (place i) r.2 in
          let f = are.all c within (child-around i c lt unshut positive e) in
          let j = f.0 in
          let p : place j ≡ c = place-is j f.1 ∙ f.2 in
          let over : i < j = elim (cases_lt i j) [
            | inl over ↦ over
            | inr under ↦ absurd (elim (cases_lt j i) [
              | inl less ↦ (let q = rising j i less lt in omega (arith, q, p, low))
              | inr more ↦ (let z : i ≡ j = omega (arith, under, more) in let w : place i ≡ place j = ap place z in omega (arith, w, p, low))
            ])
          ] in
          let up = parent-number j (omega (arith, over)) f.1 in
          let n = one-number (own_at own j).parent i (are.parent j (omega (arith, over)) f.1).0 lt (sym up ∙ (ap (parent_of nodes) p ∙ e)) in
          let m = f.1 in
          has-map place (numbers own (length places) i) j c
          (has-from (λ j. (own_at own j).parent == i) j (i + 1) (length places - (i + 1)) (omega (arith, over)) (omega (arith, m, over)) (same-true (own_at own j).parent i n)) p

      back : (c : ℕ) → Has (map place (numbers own (length places) i)) c → Has (children_places nodes (place i)) c
      back c h =
          let r = map-has place (numbers own (length places) i) c h in
          let j = r.0 in
          let s = from-has (λ j. (own_at own j).parent == i) j (i + 1) (length places - (i + 1)) r.1 in
          let low = s.0 in
          let high = s.1 in
          let within : j < length places = omega (arith, low, high) in
          let n = eqb-true (own_at own j).parent i s.2 in
          let up = parent-number j (omega (arith, low)) within in
          let e : parent_of nodes c ≡ place i = ap (parent_of nodes) (sym r.2) ∙ (up ∙ ap place n) in
          let over = rising i j (omega (arith, low)) within in
          let in_nodes = there nodes (slice_index places j) (are.each j within).node (are.each j within).there in
          let p = r.2 in
          let q = place-is j within in
          has-from (λ c. slice_index (parents_of nodes) c == place i) c (place i + 1) (length nodes - (place i + 1)) (omega (arith, over, p)) (omega (arith, over, p, q, in_nodes))
          (same-true (slice_index (parents_of nodes) c) (place i) e)
