-- A document has one list of contexts, in which each stands behind the one around it.
use Rattle.std.proofs.Common.{◌≡◌, inl, inr, ℕ, zero, suc, ◌<◌, List, [], ◌∷◌, length, map, get_or, refl, ap, sym, subst, ◌∙◌, arith}
use Rattle.std.proofs.lemmas.Bool.{cases_lt}
use Rattle.lay_style.specs.declared.style.Style.{Style}
use Rattle.lay_doc.specs.declared.node.Node.{Node}
use Rattle.lay_doc.specs.Document.{parents_of}
use Rattle.lay_doc.specs.Tree.{IsTree}
use Rattle.lay_doc.proofs.NodeColumns.{length-parents}
use Rattle.lay_boxgen.specs.Contexts.{IsContextAt, box_at, is_marked}
use Rattle.lay_contexts.specs.ContextTree.{IsAround, StandsIn, StandsOnce, further, parent, parent_of}
use Rattle.lay_contexts.specs.DocumentContexts.{AreDocumentContexts, ContextsStandInOrder, OneListOfContexts, spot_at}
use Rattle.lay_contexts.specs.declared.context_spot.ContextSpot.{ContextSpot}
use Rattle.lay_contexts.proofs.RisingLists.{AllAbove, Has, Rises, one-rising}
use Rattle.lay_contexts.proofs.OneStand.{contexts_stand_once, marked-true, within}

abbrev places : List ContextSpot → List ℕ
places spots = map (λ s. s.place) spots

place-at : (spots : List ContextSpot) (i : ℕ) → get_or (places spots) i 0 ≡ (spot_at spots i).place
place-at [] i = refl
place-at (s ∷ ss) zero = refl
place-at (s ∷ ss) (suc i) = place-at ss i

above-all : (x : ℕ) (ss : List ContextSpot) → ((j : ℕ) → j < length ss → x < (spot_at ss j).place) → AllAbove x (places ss)
above-all x [] h = tt
above-all x (s ∷ ss) h = (h 0 (omega arith), above-all x ss (λ j lt. h (suc j) (omega (arith, lt))))

rises : (ss : List ContextSpot) → ((i j : ℕ) → i < j → j < length ss → (spot_at ss i).place < (spot_at ss j).place) → Rises (places ss)
rises [] h = tt
rises (s ∷ ss) h = (
  above-all s.place ss (λ j lt. h 0 (suc j) (omega arith) (omega (arith, lt))),
  rises ss (λ i j less lt. h (suc i) (suc j) (omega (arith, less)) (omega (arith, lt))),
)

has-at : (ss : List ContextSpot) (i : ℕ) → i < length ss → (k : ℕ) → (spot_at ss i).place ≡ k → Has (places ss) k
has-at [] i lt k e = absurd (omega (arith, lt))
has-at (s ∷ ss) zero lt k e = inl e
has-at (s ∷ ss) (suc i) lt k e = inr (has-at ss i (omega (arith, lt)) k e)

at-has : (ss : List ContextSpot) (k : ℕ) → Has (places ss) k → (i : ℕ) × (i < length ss) × ((spot_at ss i).place ≡ k)
at-has [] k h = absurd h
at-has (s ∷ ss) k (inl e) = (0, omega arith, e)
at-has (s ∷ ss) k (inr h) = let r = at-has ss k h in (suc r.0, (let lt = r.1 in omega (arith, lt)), r.2)

-- Lists with the same spots are equal.
same-spots : (ss ts : List ContextSpot) → length ss ≡ length ts → ((i : ℕ) → i < length ss → spot_at ss i ≡ spot_at ts i) → ss ≡ ts
same-spots [] [] e h = refl
same-spots [] (t ∷ ts) e h = absurd (omega (arith, e))
same-spots (s ∷ ss) [] e h = absurd (omega (arith, e))
same-spots (s ∷ ss) (t ∷ ts) e h =
    ap (λ x. x ∷ ss) (h 0 (omega arith)) ∙ ap (λ xs. t ∷ xs) (same-spots ss ts (omega (arith, e)) (λ i lt. h (suc i) (omega (arith, lt))))

spot-is : (s t : ContextSpot) → s.place ≡ t.place → s.around ≡ t.around → s.at ≡ t.at → s ≡ t
spot-is s t p a b =
    ap (λ (x : ℕ). record s { place = x }) p
    ∙ (ap (λ (x : ℕ). record { place = t.place; around = x; at = s.at }) a ∙ ap (λ (x : ℕ). record { place = t.place; around = t.around; at = x }) b)

length-places : (ss : List ContextSpot) → length (places ss) ≡ length ss
length-places [] = refl
length-places (s ∷ ss) = ap suc (length-places ss)

module _ (nodes : List Node) (styles : List Style) (once : (k : ℕ) → 0 < k → IsContextAt nodes styles k → StandsOnce nodes styles k) where
  -- the number of a context is the only one
  one-number : (ss : List ContextSpot) → AreDocumentContexts nodes styles ss → (i j : ℕ) → i < length ss → j < length ss → (spot_at ss i).place ≡ (spot_at ss j).place → i ≡ j
  one-number ss a i j li lj e = elim (cases_lt i j) [
    | inl low ↦ absurd (let r = a.rising i j low lj in omega (arith, r, e))
    | inr high ↦ elim (cases_lt j i) [
      | inl over ↦ absurd (let r = a.rising j i over li in omega (arith, r, e))
      | inr under ↦ omega (arith, high, under)
    ]
  ]

  behind-root : (ss : List ContextSpot) → AreDocumentContexts nodes styles ss → (i : ℕ) → 0 < i → i < length ss → 0 < (spot_at ss i).place
  behind-root ss a i positive lt = let r = a.rising 0 i positive lt in omega (arith, r)

  same-places : (ss ts : List ContextSpot) → AreDocumentContexts nodes styles ss → AreDocumentContexts nodes styles ts → places ss ≡ places ts
  same-places ss ts a b =
      one-rising (places ss) (places ts) (rises ss a.rising) (rises ts b.rising) (into ss ts a b) (into ts ss b a)
    where
      into : (xs ys : List ContextSpot) → AreDocumentContexts nodes styles xs → AreDocumentContexts nodes styles ys → (k : ℕ) → Has (places xs) k → Has (places ys) k
      into xs ys p q k h =
          let r = at-has xs k h in
          let c = q.all k (subst (IsContextAt nodes styles) r.2 (p.are r.0 r.1)) in
          has-at ys c.0 c.1 k c.2

  one-list : (ss ts : List ContextSpot) → AreDocumentContexts nodes styles ss → AreDocumentContexts nodes styles ts → ss ≡ ts
  one-list ss ts a b = same-spots ss ts count each
    where
      e : places ss ≡ places ts
      e = same-places ss ts a b

      count : length ss ≡ length ts
      count = let l = length-places ss in let m = length-places ts in let n : length (places ss) ≡ length (places ts) = ap (λ (xs : List ℕ). length xs) e in omega (arith, l, m, n)

      place : (i : ℕ) → (spot_at ss i).place ≡ (spot_at ts i).place
      place i = sym (place-at ss i) ∙ (ap (λ (xs : List ℕ). get_or xs i 0) e ∙ place-at ts i)

      other : (i : ℕ) → 0 < i → i < length ss → spot_at ss i ≡ spot_at ts i
      other i positive lt =
          let lt2 : i < length ts = omega (arith, lt, count) in
          let s = spot_at ss i in
          let t = spot_at ts i in
          let o = once s.place (behind-root ss a i positive lt) (a.are i lt) in
          let x = o.only (spot_at ss s.around).place s.at (a.are s.around (a.within i positive lt)) (a.stands i positive lt) in
          let y = o.only (spot_at ts t.around).place t.at (b.are t.around (b.within i positive lt2))
          (subst (λ (k : ℕ). StandsIn nodes styles k (spot_at ts t.around).place t.at) (sym (place i)) (b.stands i positive lt2)) in
          let w = a.within i positive lt in
          let v = b.within i positive lt2 in
          let n : s.around ≡ t.around = one-number ts b s.around t.around (omega (arith, w, count)) v (sym (place s.around) ∙ (x.0 ∙ sym y.0)) in
          spot-is s t (place i) n (x.1 ∙ sym y.1)

      each : (i : ℕ) → i < length ss → spot_at ss i ≡ spot_at ts i
      each zero lt = a.root ∙ sym b.root
      each (suc i) lt = other (suc i) (omega arith) lt

  in-order : IsTree (parents_of nodes) → (ss : List ContextSpot) → AreDocumentContexts nodes styles ss → (i : ℕ) → 0 < i → i < length ss → (spot_at ss i).around < i
  in-order is_tree ss a i positive lt =
      let s = spot_at ss i in
      let o = once s.place (behind-root ss a i positive lt) (a.are i lt) in
      let x = o.only (spot_at ss s.around).place s.at (a.are s.around (a.within i positive lt)) (a.stands i positive lt) in
      let c = a.are i lt in
      let p = before s.place o.around o.nearest (within nodes styles s.place (marked-true (is_marked (box_at nodes styles s.place)) c.establishes)) in
      elim (cases_lt s.around i) [
        | inl low ↦ low
        | inr high ↦ absurd (elim (cases_lt i s.around) [
          | inl over ↦ (let r = a.rising i s.around over (a.within i positive lt) in let q = x.0 in omega (arith, r, p, q))
          | inr under ↦ (let same : s.around ≡ i = omega (arith, high, under) in let r : (spot_at ss s.around).place ≡ s.place = ap (λ (n : ℕ). (spot_at ss n).place) same in let q = x.0 in omega (arith, r, p, q))
        ])
      ]
    where
      before : (k b : ℕ) → IsAround nodes styles k b → k < length nodes → b < k
      before k b (parent j above e) l = is_tree.before j above (let n = length-parents nodes in omega (arith, l, n))
      before k b (further j c above e h) l =
          let n = length-parents nodes in
          let q = is_tree.before j above (omega (arith, l, n)) in
          let r = before (parent_of nodes j) c h (omega (arith, q, l)) in
          omega (arith, q, r)

pub one_list_of_contexts : OneListOfContexts
one_list_of_contexts d styles spots others doc same a b =
    one-list d.nodes styles (λ k positive context. contexts_stand_once d styles k doc same positive context) spots others a b

pub contexts_stand_in_order : ContextsStandInOrder
contexts_stand_in_order d styles spots i doc same a positive lt =
    in-order d.nodes styles (λ k above context. contexts_stand_once d styles k doc same above context) doc.tree spots a i positive lt
