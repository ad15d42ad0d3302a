-- The first nodes of a document are one, and the node behind them is put into it as the last child of its parent.
use Rattle.std.proofs.Common.{◌≡◌, ℕ, zero, suc, ◌+◌, ◌<◌, ◌≤◌, ◌==◌, true, false, List, [], ◌∷◌, ◌++◌, length, get_or, map, take, refl, sym, ap, ◌∙◌, arith, inl, inr, subst, Some, None, option_map, nat_lt, nat_le}
use Rattle.std.specs.List.{insert}
use Rattle.std.proofs.lemmas.Bool.{cases_lt, le-ltb, lt-leb, ne_eqb}
use Rattle.std.proofs.lemmas.List.{get_or-map, get_or-take, length-take-le, take-map, take_more}
use Rattle.std.proofs.lemmas.List.Edits.{insert_end}
use Rattle.std.proofs.lemmas.List.Sums.{sum_by-cons}
use Rattle.lay_units.specs.Limits.{longest_text, most_depth, most_nodes, most_text}
use Rattle.lay_style.specs.Places.{place_of}
use Rattle.lay_run.proofs.Cited.{element_column, length-ids, length-parents, place_fresh, place_here, place_later, shifted_low, slot_is}
use Rattle.lay_doc.specs.declared.node.Node.{Node}
use Rattle.lay_doc.specs.NewNodes.{NewNodeValue, is_element}
use Rattle.lay_doc.specs.Tree.{IsSlot, children_before, child_count, slot_of}
use Rattle.lay_doc.specs.Document.{Document, IsDocument, parents_of, ids_of, depths_of, text_lengths_of, text_size, is_element_at, moved, inserted, becomes}
use Rattle.lay_doc.specs.Edits.{insert_fault, after_insert, last_index}

-- the document of the nodes before the place m
abbrev pub front : Document → ℕ → Document
front d m = record d { nodes = take m d.nodes }

-- a number that no one before it is stands at its place
place_at : (xs : List ℕ) (k : ℕ) → k < length xs → ((j : ℕ) → j < k → get_or xs j 0 ≡ get_or xs k 0 → ⊥) → place_of (get_or xs k 0) xs ≡ Some k
place_at [] k lt apart = absurd (omega arith)
place_at (x ∷ xs) zero lt apart = place_here x x xs refl
place_at (x ∷ xs) (suc k) lt apart =
    place_later (get_or xs k 0) x xs (apart 0 (omega arith)) ∙ ap (option_map suc) (place_at xs k (omega arith) (λ j less same. apart (suc j) (omega arith) same))

moved_none : (nodes : List Node) (m : ℕ) → ((k : ℕ) → k < length nodes → get_or (parents_of nodes) k 0 < m) → map (moved m) nodes ≡ nodes
moved_none [] m low = refl
moved_none (x ∷ xs) m low = rw (shifted_low m x.parent (low 0 (omega arith)), moved_none xs m (λ k lt. low (suc k) (omega arith))) refl

text_front : (nodes : List Node) (m : ℕ) → m < length nodes → text_size (take m nodes) + get_or (text_lengths_of nodes) m 0 ≤ text_size nodes
text_front [] m lt = absurd (omega arith)
text_front (x ∷ xs) zero lt = let a = sum_by-cons (λ (n : Node). length n.text) x xs in omega arith
text_front (x ∷ xs) (suc m) lt =
    let a = sum_by-cons (λ (n : Node). length n.text) x xs in
    let b = sum_by-cons (λ (n : Node). length n.text) x (take m xs) in
    let h = text_front xs m (omega arith) in
    omega arith

-- a node without a fault, and the document with it
fault_none : (e : Document) (parent up : ℕ) (new : NewNodeValue) → place_of parent (ids_of e.nodes) ≡ Some up → is_element_at e.nodes up ≡ true → (new.id.0 ≡ 0 → ⊥) → place_of new.id.0 (ids_of e.nodes) ≡ None
    → length e.nodes < most_nodes → get_or (depths_of e.nodes) up 0 < most_depth → length new.text ≤ longest_text → text_size e.nodes + length new.text ≤ most_text
    → insert_fault e parent (last_index e parent) new ≡ None
fault_none e parent up new found element name fresh room deep long texts =
    let named : (new.id.0 == 0) ≡ false = ne_eqb new.id.0 0 name in
    let index : nat_lt (child_count (parents_of e.nodes) up) (child_count (parents_of e.nodes) up) ≡ false = le-ltb _ _ (omega arith) in
    let few : nat_le most_nodes (length e.nodes) ≡ false = lt-leb most_nodes (length e.nodes) room in
    let shallow : nat_le most_depth (get_or (depths_of e.nodes) up 0) ≡ false = lt-leb most_depth (get_or (depths_of e.nodes) up 0) deep in
    let short : nat_lt longest_text (length new.text) ≡ false = le-ltb longest_text (length new.text) long in
    let small : nat_lt most_text (text_size e.nodes + length new.text) ≡ false = le-ltb most_text (text_size e.nodes + length new.text) texts in
    rw (found, element, named, fresh, index, few, shallow, short, small) refl

put_at : (e : Document) (parent up at depth : ℕ) (new : NewNodeValue) → place_of parent (ids_of e.nodes) ≡ Some up → slot_of (parents_of e.nodes) up (child_count (parents_of e.nodes) up) ≡ at → get_or (depths_of e.nodes) up 0 + 1 ≡ depth
    → after_insert e parent (last_index e parent) new ≡ record { width = e.width; height = e.height; nodes = inserted e.nodes at (becomes new up depth) }
put_at e parent up at depth new found slot deeper = rw (found, slot, deeper) refl

module _ (d : Document) (is : IsDocument d) (m : ℕ) (positive : 0 < m) (lt : m < length d.nodes) (new : NewNodeValue) (up depth : ℕ) (stands : (n : Node) → get_or d.nodes m n ≡ becomes new up depth) where
  abbrev node : Node
  node = becomes new up depth

  parent_is : get_or (parents_of d.nodes) m 0 ≡ up
  parent_is = get_or-map (λ (n : Node). n.parent) d.nodes m node 0 lt ∙ ap (λ (n : Node). n.parent) (stands node)

  id_is : get_or (ids_of d.nodes) m 0 ≡ new.id.0
  id_is = get_or-map (λ (n : Node). n.id.0) d.nodes m node 0 lt ∙ ap (λ (n : Node). n.id.0) (stands node)

  depth_is : get_or (depths_of d.nodes) m 0 ≡ depth
  depth_is = get_or-map (λ (n : Node). n.depth) d.nodes m node 0 lt ∙ ap (λ (n : Node). n.depth) (stands node)

  text_is : get_or (text_lengths_of d.nodes) m 0 ≡ length new.text
  text_is = get_or-map (λ (n : Node). length n.text) d.nodes m node 0 lt ∙ ap (λ (n : Node). length n.text) (stands node)

  up_before : up < m
  up_before = let b = is.tree.before m positive (let l = length-parents d.nodes in omega arith) in omega (arith, b, parent_is)

  count : length (take m d.nodes) ≡ m
  count = length-take-le m d.nodes (omega arith)

  -- a column of the first nodes is as that of all
  column : {X : Type 0} (f : Node → X) (k : ℕ) (x : X) → k < m → get_or (map f (take m d.nodes)) k x ≡ get_or (map f d.nodes) k x
  column f k x less = ap (λ (xs : List _). get_or xs k x) (sym (take-map f m d.nodes)) ∙ get_or-take m (map f d.nodes) k x less

  parents_count : length (parents_of (take m d.nodes)) ≡ m
  parents_count = length-parents (take m d.nodes) ∙ count

  ids_count : length (ids_of (take m d.nodes)) ≡ m
  ids_count = length-ids (take m d.nodes) ∙ count

  found : place_of (get_or (ids_of d.nodes) up 0) (ids_of (take m d.nodes)) ≡ Some up
  found =
      let here = column (λ n. n.id.0) up 0 up_before in
      rw (← here) (place_at (ids_of (take m d.nodes)) up (omega (arith, ids_count, up_before)) (λ j less same.
      is.ids j up less (omega (arith, up_before, lt)) (sym (column (λ n. n.id.0) j 0 (omega (arith, up_before))) ∙ same ∙ here)))

  slot : IsSlot (parents_of (take m d.nodes)) up (child_count (parents_of (take m d.nodes)) up) m
  slot = record {
    after = up_before;
    within = omega (arith, parents_count);
    below = λ j from less. let t = is.tree.together j m less (let l = length-parents d.nodes in omega arith) (omega (arith, parent_is)) in
        let c = column (λ n. n.parent) j 0 less in
        omega (arith, t, c, parent_is);
    index_is = ap (λ (k : ℕ). children_before (parents_of (take m d.nodes)) up k) (sym parents_count);
    next = λ short. absurd (omega (arith, parents_count));
  }

  pub next_fits : insert_fault (front d m) (get_or (ids_of d.nodes) up 0) (last_index (front d m) (get_or (ids_of d.nodes) up 0)) new ≡ None
  next_fits =
      let element : is_element_at (take m d.nodes) up ≡ true =
      element_column (take m d.nodes) up ∙ column (λ n. is_element n.kind) up false up_before ∙ sym (element_column d.nodes up)
      ∙ subst (λ (k : ℕ). is_element_at d.nodes k ≡ true) parent_is (is.parent_elements m positive lt) in
      let fresh : place_of new.id.0 (ids_of (take m d.nodes)) ≡ None = place_fresh new.id.0 (ids_of (take m d.nodes)) (λ k less same.
      is.ids k m (omega (arith, ids_count)) lt (sym (column (λ n. n.id.0) k 0 (omega (arith, ids_count))) ∙ same ∙ sym id_is)) in
      let one = is.depth m positive lt in
      let deeper : get_or (depths_of d.nodes) m 0 ≡ get_or (depths_of d.nodes) up 0 + 1 = rw parent_is at one in
      let above : get_or (depths_of (take m d.nodes)) up 0 ≡ get_or (depths_of d.nodes) up 0 = column (λ n. n.depth) up 0 up_before in
      let deep = is.shallow m lt in
      let long = is.short m lt in
      let size = text_front d.nodes m lt in
      let name = is.named m lt in
      fault_none (front d m) (get_or (ids_of d.nodes) up 0) up new found element (λ e. omega (arith, name, e, id_is)) fresh (omega (arith, count, is.few)) (omega (arith, deep, deeper, above))
      (omega (arith, long, text_is)) (omega (arith, size, text_is, is.small))

  pub next_put : after_insert (front d m) (get_or (ids_of d.nodes) up 0) (last_index (front d m) (get_or (ids_of d.nodes) up 0)) new ≡ front d (m + 1)
  next_put =
      let at = slot_is (parents_of (take m d.nodes)) up (child_count (parents_of (take m d.nodes)) up) m slot in
      let above : get_or (depths_of (take m d.nodes)) up 0 ≡ get_or (depths_of d.nodes) up 0 = column (λ n. n.depth) up 0 up_before in
      let deeper : get_or (depths_of (take m d.nodes)) up 0 + 1 ≡ depth =
      let one = is.depth m positive lt in
      let e : get_or (depths_of d.nodes) m 0 ≡ get_or (depths_of d.nodes) up 0 + 1 = rw parent_is at one in
      omega (arith, e, above, depth_is) in
      let low = λ (k : ℕ) (less : k < length (take m d.nodes ++ node ∷ [])). below_m k less in
      let last : insert (take m d.nodes) m node ≡ take m d.nodes ++ node ∷ [] = ap (λ (k : ℕ). insert (take m d.nodes) k node) (sym count) ∙ insert_end (take m d.nodes) node in
      let more : take (m + 1) d.nodes ≡ take m d.nodes ++ node ∷ [] = take_more d.nodes m node lt ∙ ap (λ (n : Node). take m d.nodes ++ n ∷ []) (stands node) in
      let nodes : inserted (take m d.nodes) m node ≡ take (m + 1) d.nodes = ap (map (moved m)) last ∙ moved_none (take m d.nodes ++ node ∷ []) m low ∙ sym more in
      put_at (front d m) (get_or (ids_of d.nodes) up 0) up m depth new found (sym at) deeper ∙ ap (λ (ns : List Node). record { width = d.width; height = d.height; nodes = ns }) nodes
    where
      below_m : (k : ℕ) → k < length (take m d.nodes ++ node ∷ []) → get_or (parents_of (take m d.nodes ++ node ∷ [])) k 0 < m
      below_m k less =
          let more : take (m + 1) d.nodes ≡ take m d.nodes ++ node ∷ [] = take_more d.nodes m node lt ∙ ap (λ (n : Node). take m d.nodes ++ n ∷ []) (stands node) in
          let count' : length (take (m + 1) d.nodes) ≡ m + 1 = length-take-le (m + 1) d.nodes (omega arith) in
          let within : k < m + 1 = rw (← more, count') at less in
          let same : get_or (parents_of (take (m + 1) d.nodes)) k 0 ≡ get_or (parents_of d.nodes) k 0 =
          ap (λ (xs : List ℕ). get_or xs k 0) (sym (take-map (λ n. n.parent) (m + 1) d.nodes)) ∙ get_or-take (m + 1) (parents_of d.nodes) k 0 within in
          rw (← more, same) (elim (cases_lt 0 k) [
            | inl some ↦ (let b = is.tree.before k some (let l = length-parents d.nodes in omega (arith, within)) in omega arith)
            | inr none ↦ (let z : k ≡ 0 = omega arith in rw z (omega (arith, is.tree.root)))
          ])
