-- A node that is put in moves those behind it by one place, and is the parent of none.
use Rattle.std.proofs.Common.{◌≡◌, ℕ, ◌+◌, ◌-◌, ◌<◌, ◌≤◌, List, [], ◌∷◌, length, get_or, map, take, drop, refl, sym, ap, ◌∙◌, arith, inl, inr}
use Rattle.std.specs.List.{insert}
use Rattle.std.proofs.lemmas.Bool.{cases_lt}
use Rattle.std.proofs.lemmas.List.{drop-map, get_or-map, map-append, take-map, length-map}
use Rattle.std.proofs.lemmas.List.Edits.{get_or-insert_above, get_or-insert_below, length-insert}
use Rattle.lay_style.specs.Values.{Declaration}
use Rattle.lay_style.specs.ComputedStyle.{declarations_at}
use Rattle.lay_doc.specs.declared.node.Node.{Node}
use Rattle.lay_doc.specs.Document.{declarations_of, inserted, moved, parents_of}
use Rattle.lay_doc.specs.Tree.{IsTree, shifted}
use Rattle.lay_after_edits.proofs.Cited.{length-parents, map-map, parents_inserted, shifted_high, shifted_low}
use Rattle.lay_after_edits.specs.Styles.Stretches.{earlier, inserted_at}
use Rattle.lay_after_edits.proofs.StylesLemmas.MovedStyles.{IsMoved}
use Rattle.lay_after_edits.proofs.StylesLemmas.StyleLists.{earlier_high, earlier_low}

map_insert : {X Y : Type 0} (f : X → Y) (xs : List X) (i : ℕ) (x : X) → map f (insert xs i x) ≡ insert (map f xs) i (f x)
map_insert f xs i x = map-append f (take i xs) (x ∷ drop i xs) ∙ rw (take-map f i xs, drop-map f i xs) refl

declarations_inserted : (nodes : List Node) (at : ℕ) (node : Node) → declarations_of (inserted nodes at node) ≡ insert (declarations_of nodes) at node.decls
declarations_inserted nodes at node = map-map (λ n. n.decls) (moved at) (insert nodes at node) ∙ map_insert (λ n. n.decls) nodes at node

module _ (nodes : List Node) (at : ℕ) (node : Node) (tree : IsTree (parents_of nodes)) (above : 0 < at) (within : at ≤ length nodes) where
  abbrev parents : List ℕ
  parents = parents_of nodes

  abbrev news : List ℕ
  news = parents_of (inserted nodes at node)

  length_news : length news ≡ length parents + 1
  length_news =
      let a = ap length (parents_inserted nodes at node) in
      let b = length-map (insert parents at node.parent) (shifted at) in
      let c = length-insert parents at node.parent (omega (arith, within, length-parents nodes)) in
      omega (arith, a, b, c)

  read : (k : ℕ) → k < length news → get_or news k 0 ≡ shifted at (get_or (insert parents at node.parent) k 0)
  read k lt =
      ap (λ (us : List ℕ). get_or us k 0) (parents_inserted nodes at node)
      ∙ get_or-map (shifted at) (insert parents at node.parent) k 0 0
      (let c = length-insert parents at node.parent (omega (arith, within, length-parents nodes)) in omega (arith, lt, length_news, c))

  read_before : (k : ℕ) → k < at → get_or news k 0 ≡ get_or parents k 0
  read_before k low =
      let l = length-parents nodes in
      let a = read k (omega (arith, low, within, l, length_news)) in
      let b = get_or-insert_below parents at node.parent 0 k low (omega (arith, within, l)) in
      let less : get_or parents k 0 < at = elim (cases_lt 0 k) [
        | inl some ↦ (let t = tree.before k some (omega (arith, low, within, l)) in omega (arith, t, low))
        | inr none ↦ (let z : k ≡ 0 = omega (arith, none) in let r = ap (λ (m : ℕ). get_or parents m 0) z ∙ tree.root in omega (arith, r, above))
      ] in
      a ∙ (ap (shifted at) b ∙ shifted_low at (get_or parents k 0) less)

  -- the node at k + 1 was that at k
  read_behind : (k : ℕ) → at ≤ k → k < length parents → get_or news (k + 1) 0 ≡ shifted at (get_or parents k 0)
  read_behind k high lt =
      read (k + 1) (omega (arith, lt, length_news))
      ∙ ap (shifted at) (get_or-insert_above parents at node.parent 0 k high (omega (arith, within, length-parents nodes)))

  earlier_shifted : (u : ℕ) → earlier (inserted_at at) (shifted at u) ≡ u
  earlier_shifted u = elim (cases_lt u at) [
    | inl low ↦ ap (earlier (inserted_at at)) (shifted_low at u low) ∙ earlier_low (inserted_at at) u low
    | inr high ↦ (let e = earlier_high (inserted_at at) (u + 1) (omega (arith, high)) in let f : ((u + 1) - (at + 1)) + at ≡ u = omega (arith, high) in
        ap (earlier (inserted_at at)) (shifted_high at u high) ∙ (e ∙ f))
  ]

  outside_shifted : (u : ℕ) → at ≤ shifted at u → at + 1 ≤ shifted at u
  outside_shifted u from = elim (cases_lt u at) [
    | inl low ↦ (let e = shifted_low at u low in absurd (omega (arith, e, from, low)))
    | inr high ↦ (let e = shifted_high at u high in omega (arith, e, high))
  ]

  -- the place before one behind the new node
  record IsNext (k : ℕ) : Type 0 where
    one : ℕ
    is : one + 1 ≡ k
    high : at ≤ one
    lt : one < length parents
    earlier_is : earlier (inserted_at at) k ≡ one
    parent : get_or news k 0 ≡ shifted at (get_or parents one 0)
    declared : declarations_at (declarations_of (inserted nodes at node)) k ≡ declarations_at (declarations_of nodes) one

  next : (k : ℕ) → at + 1 ≤ k → k < length news → IsNext k
  next k from lt =
      let q : (k - 1) + 1 ≡ k = omega (arith, from) in
      let h : at ≤ k - 1 = omega (arith, from) in
      let l : k - 1 < length parents = omega (arith, from, lt, length_news) in
      let e = earlier_high (inserted_at at) k (omega (arith, from)) in
      let f : (k - (at + 1)) + at ≡ k - 1 = omega (arith, from) in
      record {
        one = k - 1;
        is = q;
        high = h;
        lt = l;
        earlier_is = e ∙ f;
        parent = ap (λ (m : ℕ). get_or news m 0) (sym q) ∙ read_behind (k - 1) h l;
        declared = ap (declarations_at (declarations_of (inserted nodes at node))) (sym q)
            ∙ (ap (λ (ds : List (List Declaration)). declarations_at ds ((k - 1) + 1)) (declarations_inserted nodes at node)
            ∙ get_or-insert_above (declarations_of nodes) at node.decls [] (k - 1) h (omega (arith, within, length-map nodes (λ (n : Node). n.decls))));
      }

  pub inserted_moved : IsMoved parents news (declarations_of nodes) (declarations_of (inserted nodes at node)) (inserted_at at)
  unfolding next
  inserted_moved =
      let l = length-parents nodes in
      record {
        starts = omega arith;
        positive = above;
        some = omega arith;
        ends = omega arith;
        within = omega (arith, within, l, length_news);
        count = omega (arith, length_news);
        parent_before = read_before;
        declared_before = λ k low. ap (λ (ds : List (List Declaration)). declarations_at ds k) (declarations_inserted nodes at node)
            ∙ get_or-insert_below (declarations_of nodes) at node.decls [] k low (omega (arith, within, length-map nodes (λ (n : Node). n.decls)));
        outside = λ k from lt high. (let n = next k from lt in
            let p = n.parent in
            let o = outside_shifted (get_or parents n.one 0) (omega (arith, p, high)) in
            omega (arith, o, p));
        parent_behind = λ k from lt. (let n = next k from lt in
            ap (earlier (inserted_at at)) n.parent ∙ (earlier_shifted (get_or parents n.one 0) ∙ ap (λ (m : ℕ). get_or parents m 0) (sym n.earlier_is)));
        declared_behind = λ k from lt. (let n = next k from lt in n.declared ∙ ap (declarations_at (declarations_of nodes)) (sym n.earlier_is));
      }
