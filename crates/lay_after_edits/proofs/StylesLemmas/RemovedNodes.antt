-- Nodes that are taken out move those behind them, and are the parents of none of these.
use Rattle.std.proofs.Common.{◌≡◌, ℕ, ◌+◌, ◌-◌, ◌<◌, ◌≤◌, List, [], length, get_or, sym, ap, ◌∙◌, arith, inl, inr}
use Rattle.std.specs.List.{remove_range}
use Rattle.std.proofs.lemmas.Bool.{cases_lt}
use Rattle.std.proofs.lemmas.List.{get_or-map, length-map}
use Rattle.lay_style.specs.Values.{Declaration}
use Rattle.lay_style.specs.ComputedStyle.{declarations_at}
use Rattle.lay_doc.specs.declared.node.Node.{Node}
use Rattle.lay_doc.specs.Document.{declarations_of, parents_of}
use Rattle.lay_doc.specs.Removal.{closed_up, moved_back, removed_between}
use Rattle.lay_doc.specs.Tree.{IsSlot, IsTree, child_count, end_of}
use Rattle.lay_after_edits.proofs.Cited.{closed_high, closed_low, cut_read, end_is_slot, length-cut, length-parents, map-cut, map-map, old_high, old_low, old_place, parent_behind, parents_removed}
use Rattle.lay_after_edits.specs.Styles.Stretches.{earlier, removed_at}
use Rattle.lay_after_edits.proofs.StylesLemmas.MovedStyles.{IsMoved}
use Rattle.lay_after_edits.proofs.StylesLemmas.StyleLists.{earlier_high, earlier_low}

declarations_removed : (nodes : List Node) (i j : ℕ) → declarations_of (removed_between nodes i j) ≡ remove_range (declarations_of nodes) i j
declarations_removed nodes i j = map-map (λ n. n.decls) (moved_back i j) (remove_range nodes i j) ∙ map-cut (λ n. n.decls) nodes i j

module _ (nodes : List Node) (p : ℕ) (tree : IsTree (parents_of nodes)) (above : 0 < p) (has : p < length nodes) where
  abbrev parents : List ℕ
  parents = parents_of nodes

  abbrev end : ℕ
  end = end_of parents p

  abbrev news : List ℕ
  news = parents_of (removed_between nodes p end)

  slot : IsSlot parents p (child_count parents p) end
  slot = end_is_slot parents tree p (omega (arith, has, length-parents nodes))

  le : p ≤ end
  le = let a = slot.after in omega (arith, a)

  within : end ≤ length parents
  within = slot.within

  length_cut : length (remove_range parents p end) + (end - p) ≡ length parents
  length_cut = length-cut parents p end le within

  length_news : length news + (end - p) ≡ length parents
  length_news =
      let a = ap length (parents_removed nodes p end) in
      let b = length-map (remove_range parents p end) (closed_up p end) in
      omega (arith, a, b, length_cut)

  read : (k : ℕ) → k < length news → get_or news k 0 ≡ closed_up p end (get_or parents (old_place p end k) 0)
  read k lt =
      ap (λ (us : List ℕ). get_or us k 0) (parents_removed nodes p end)
      ∙ (get_or-map (closed_up p end) (remove_range parents p end) k 0 0 (omega (arith, lt, length_news, length_cut))
      ∙ ap (closed_up p end) (cut_read parents p end k 0 le within))

  declared : (k : ℕ) → declarations_at (declarations_of (removed_between nodes p end)) k ≡ declarations_at (declarations_of nodes) (old_place p end k)
  declared k =
      ap (λ (ds : List (List Declaration)). declarations_at ds k) (declarations_removed nodes p end)
      ∙ cut_read (declarations_of nodes) p end k [] le (omega (arith, within, length-parents nodes, length-map nodes (λ (n : Node). n.decls)))

  earlier_old : (k : ℕ) → p ≤ k → earlier (removed_at parents p) k ≡ old_place p end k
  earlier_old k high =
      let a = earlier_high (removed_at parents p) k high in
      let b = old_high p end k high in
      let c : (k - p) + end ≡ k + (end - p) = omega (arith, high, le) in
      a ∙ (c ∙ sym b)

  earlier_closed : (u : ℕ) → (p ≤ u → end ≤ u) → earlier (removed_at parents p) (closed_up p end u) ≡ u
  earlier_closed u outside = elim (cases_lt u p) [
    | inl low ↦ ap (earlier (removed_at parents p)) (closed_low p end u low) ∙ earlier_low (removed_at parents p) u low
    | inr high ↦ (let h = outside high in
        let q : p ≤ u - (end - p) = omega (arith, h, le) in
        let e = earlier_high (removed_at parents p) (u - (end - p)) q in
        let f : ((u - (end - p)) - p) + end ≡ u = omega (arith, h, le) in
        ap (earlier (removed_at parents p)) (closed_high p end u high) ∙ (e ∙ f))
  ]

  read_before : (k : ℕ) → k < p → get_or news k 0 ≡ get_or parents k 0
  read_before k low =
      let l = length-parents nodes in
      let a = read k (omega (arith, low, le, within, length_news)) in
      let less : get_or parents k 0 < p = elim (cases_lt 0 k) [
        | inl some ↦ (let t = tree.before k some (omega (arith, low, has, l)) in omega (arith, t, low))
        | inr none ↦ (let z : k ≡ 0 = omega (arith, none) in let r = ap (λ (m : ℕ). get_or parents m 0) z ∙ tree.root in omega (arith, r, above))
      ] in
      a ∙ (ap (λ (m : ℕ). closed_up p end (get_or parents m 0)) (old_low p end k low) ∙ closed_low p end (get_or parents k 0) less)

  parent_outside : (k : ℕ) → p ≤ k → k < length news → p ≤ get_or parents (old_place p end k) 0 → end ≤ get_or parents (old_place p end k) 0
  parent_outside k high lt =
      let o = old_high p end k high in
      parent_behind parents tree p end slot (old_place p end k) (omega (arith, o, high, le)) (omega (arith, o, lt, length_news))

  pub removed_moved : IsMoved parents news (declarations_of nodes) (declarations_of (removed_between nodes p end)) (removed_at parents p)
  removed_moved = record {
    starts = le;
    positive = omega (arith, le, above);
    some = above;
    ends = omega arith;
    within = omega (arith, le, within, length_news);
    count = omega (arith, le, length_news);
    parent_before = read_before;
    declared_before = λ k low. declared k ∙ ap (declarations_at (declarations_of nodes)) (old_low p end k low);
    outside = λ k high lt from. from;
    parent_behind = λ k high lt. ap (earlier (removed_at parents p)) (read k lt)
        ∙ (earlier_closed (get_or parents (old_place p end k) 0) (parent_outside k high lt) ∙ ap (λ (m : ℕ). get_or parents m 0) (sym (earlier_old k high)));
    declared_behind = λ k high lt. declared k ∙ ap (declarations_at (declarations_of nodes)) (sym (earlier_old k high));
  }
