-- The columns of a list of nodes after a subtree was taken out of it, and the document that it then is.
use Rattle.std.proofs.Common.{◌≡◌, ℕ, zero, suc, ◌+◌, ◌-◌, ◌<◌, ◌≤◌, List, [], ◌∷◌, length, get_or, refl, sym, ap, ◌∙◌, arith, false, inl, inr, take, drop, map, subst}
use Rattle.std.specs.Prelude.{sum}
use Rattle.std.specs.List.{remove_range}
use Rattle.std.proofs.lemmas.Bool.{cases_lt, lt-ltb, le-ltb}
use Rattle.std.proofs.lemmas.List.{get_or-map, length-map}
use Rattle.std.proofs.lemmas.List.Elements.{All-append, All-take, All-drop, All-map}
use Rattle.std.proofs.lemmas.List.Sums.{sum-map, sum_by-append, sum_by-drop_more}
use Rattle.lay_units.specs.Limits.{longest_text, most_depth, most_text}
use Rattle.lay_doc.specs.declared.node.Node.{Node}
use Rattle.lay_doc.specs.NewNodes.{is_element}
use Rattle.lay_doc.specs.Tree.{IsTree, IsSlot, child_count}
use Rattle.lay_doc.specs.Document.{Document, IsDocument, IsNode, parents_of, ids_of, depths_of, text_lengths_of, text_size}
use Rattle.lay_doc.specs.Removal.{closed_up, moved_back, removed_between}
use Rattle.lay_doc.proofs.NodeColumns.{length-parents, length-ids, length-depths, length-texts, length-elements, elements_of, element_column}
use Rattle.lay_doc.proofs.Inserted.{map-map}
use Rattle.lay_doc.proofs.Subtrees.{parent_outside}
use Rattle.lay_doc.proofs.Cut.{length-cut, map-cut, old_place, old_low, old_high, cut_read, old_less, old_inside, old_more, old_outside, old_less_back, old_le_back, distinct_cut}

pub closed_low : (i j u : ℕ) → u < i → closed_up i j u ≡ u
closed_low i j u low = let t = lt-ltb u i low in rw t refl

pub closed_high : (i j u : ℕ) → i ≤ u → closed_up i j u ≡ u - (j - i)
closed_high i j u high = let t = le-ltb u i high in rw t refl

pub old_closed : (i j u : ℕ) → i ≤ j → (i ≤ u → j ≤ u) → old_place i j (closed_up i j u) ≡ u
old_closed i j u le outside = elim (cases_lt u i) [
  | inl low ↦ ap (old_place i j) (closed_low i j u low) ∙ old_low i j u low
  | inr high ↦ (let h = outside high in let q : (u - (j - i)) + (j - i) ≡ u = omega arith in
      ap (old_place i j) (closed_high i j u high) ∙ old_high i j (u - (j - i)) (omega arith) ∙ q)
]

-- nodes whose parents all stand before `i` aren't moved
pub front_stays_back : (nodes : List Node) (i j k : ℕ) → ((m : ℕ) → m < k → get_or (parents_of nodes) m 0 < i) → map (moved_back i j) (take k nodes) ≡ take k nodes
front_stays_back nodes i j zero low = refl
front_stays_back [] i j (suc k) low = refl
front_stays_back (n ∷ ns) i j (suc k) low =
    let here : moved_back i j n ≡ n = ap (λ (m : ℕ). record n { parent = m }) (closed_low i j n.parent (low 0 (omega arith))) in
    rw (here, front_stays_back ns i j k (λ m lt. low (suc m) (omega arith))) refl

-- a column that the move of places leaves as it is
same_column : {X : Type 0} (f : Node → X) (nodes : List Node) (i j : ℕ) → ((n : Node) → f (moved_back i j n) ≡ f n) → map f (removed_between nodes i j) ≡ remove_range (map f nodes) i j
same_column {X} f nodes i j same = map-map f (moved_back i j) (remove_range nodes i j) ∙ same_map (remove_range nodes i j) ∙ map-cut f nodes i j
  where
    same_map : (xs : List Node) → map (λ n. f (moved_back i j n)) xs ≡ map f xs
    same_map [] = refl
    same_map (x ∷ xs) = rw (same x, same_map xs) refl

pub ids_removed : (nodes : List Node) (i j : ℕ) → ids_of (removed_between nodes i j) ≡ remove_range (ids_of nodes) i j
ids_removed nodes i j = same_column (λ n. n.id.0) nodes i j (λ _. refl)

depths_removed : (nodes : List Node) (i j : ℕ) → depths_of (removed_between nodes i j) ≡ remove_range (depths_of nodes) i j
depths_removed nodes i j = same_column (λ n. n.depth) nodes i j (λ _. refl)

texts_removed : (nodes : List Node) (i j : ℕ) → text_lengths_of (removed_between nodes i j) ≡ remove_range (text_lengths_of nodes) i j
texts_removed nodes i j = same_column (λ n. length n.text) nodes i j (λ _. refl)

elements_removed : (nodes : List Node) (i j : ℕ) → elements_of (removed_between nodes i j) ≡ remove_range (elements_of nodes) i j
elements_removed nodes i j = same_column (λ n. is_element n.kind) nodes i j (λ _. refl)

pub parents_removed : (nodes : List Node) (i j : ℕ) → parents_of (removed_between nodes i j) ≡ map (closed_up i j) (remove_range (parents_of nodes) i j)
parents_removed nodes i j = map-map (λ n. n.parent) (moved_back i j) (remove_range nodes i j) ∙ sym (map-map (closed_up i j) (λ n. n.parent) (remove_range nodes i j)) ∙ ap (map (closed_up i j)) (map-cut (λ n. n.parent) nodes i j)

pub text_size_removed : (nodes : List Node) (i j : ℕ) → text_size (removed_between nodes i j) ≡ text_size (remove_range nodes i j)
text_size_removed nodes i j =
    sym (sum-map (λ (n : Node). length n.text) (removed_between nodes i j))
    ∙ ap sum (texts_removed nodes i j ∙ sym (map-cut (λ (n : Node). length n.text) nodes i j))
    ∙ sum-map (λ (n : Node). length n.text) (remove_range nodes i j)

-- the stretch from p up to e is a node's subtree, and not the whole tree
pub record CutsSubtree (parents : List ℕ) (p e : ℕ) : Type 0 where
  pub tree : IsTree parents
  pub has : p < length parents
  pub not_root : 0 < p
  pub slot : IsSlot parents p (child_count parents p) e

-- what the parents' places are afterwards
record Closes (parents new : List ℕ) (p e : ℕ) : Type 0 where
  length_is : length new + (e - p) ≡ length parents
  read : (k : ℕ) → k < length new → get_or new k 0 ≡ closed_up p e (get_or parents (old_place p e k) 0)

closes_nodes : (nodes : List Node) (p e : ℕ) → p ≤ e → e ≤ length nodes → Closes (parents_of nodes) (parents_of (removed_between nodes p e)) p e
closes_nodes nodes p e le within =
    let len = length-parents nodes in
    let cut = length-cut (parents_of nodes) p e le (omega arith) in
    let len' = length-map (remove_range (parents_of nodes) p e) (closed_up p e) in
    rw (parents_removed nodes p e) (record {
      length_is = omega arith;
      read = λ k lt. get_or-map (closed_up p e) (remove_range (parents_of nodes) p e) k 0 0 (omega arith) ∙ ap (closed_up p e) (cut_read (parents_of nodes) p e k 0 le (omega arith));
    })

-- each parent stood where the old node's parent stands
same_parent : (parents new : List ℕ) (p e : ℕ) → CutsSubtree parents p e → Closes parents new p e → (k : ℕ) → k < length new → old_place p e (get_or new k 0) ≡ get_or parents (old_place p e k) 0
same_parent parents new p e cuts closes k lt =
    let le : p ≤ e = omega (arith, cuts.slot.after) in
    let inside = old_inside p e k (length parents) (omega (arith, closes.length_is)) in
    ap (old_place p e) (closes.read k lt)
    ∙ old_closed p e (get_or parents (old_place p e k) 0) le (parent_outside parents cuts.tree p e cuts.not_root cuts.slot (old_place p e k) inside (old_outside p e k le))

closes_tree : (parents new : List ℕ) (p e : ℕ) → CutsSubtree parents p e → Closes parents new p e → IsTree new
closes_tree parents new p e cuts closes =
    let some : 0 < length new = omega (arith, closes.length_is, cuts.not_root, cuts.slot.within, cuts.slot.after) in
    record {
      root =
          let same = same_parent parents new p e cuts closes 0 some in
          let first : old_place p e 0 ≡ 0 = old_low p e 0 cuts.not_root in
          let none : get_or parents (old_place p e 0) 0 ≡ 0 = ap (λ (m : ℕ). get_or parents m 0) first ∙ cuts.tree.root in
          let more = old_more p e (get_or new 0 0) in
          omega arith;
      before = λ k positive lt.
          let same = same_parent parents new p e cuts closes k lt in
          let more = old_more p e k in
          let b = cuts.tree.before (old_place p e k) (omega arith) (old_inside p e k (length parents) (omega (arith, closes.length_is))) in
          old_less_back p e (get_or new k 0) k (omega arith);
      together = λ j k less lt lower.
          let same_k = same_parent parents new p e cuts closes k lt in
          let same_j = same_parent parents new p e cuts closes j (omega arith) in
          let low = old_less p e (get_or new k 0) j lower in
          let t = cuts.tree.together (old_place p e j) (old_place p e k) (old_less p e j k less) (old_inside p e k (length parents) (omega (arith, closes.length_is))) (omega arith) in
          old_le_back p e (get_or new k 0) (get_or new j 0) (omega arith);
    }

-- what holds of each of a list holds of each without a stretch
each_cut : (P : ℕ → Type 0) (xs : List ℕ) (p e : ℕ) → p ≤ e → e ≤ length xs → ((a : ℕ) → a < length xs → P (get_or xs a 0)) → (k : ℕ) → k + (e - p) < length xs → P (get_or (remove_range xs p e) k 0)
each_cut P xs p e le within all k lt = subst P (sym (cut_read xs p e k 0 le within)) (all (old_place p e k) (old_inside p e k (length xs) lt))

-- a document stays one when a subtree is taken out
pub removed_document : (d : Document) (p e : ℕ) → IsDocument d → CutsSubtree (parents_of d.nodes) p e → text_size (remove_range d.nodes p e) ≤ most_text → IsDocument (record d { nodes = removed_between d.nodes p e })
removed_document d p e is cuts small =
    let nodes : List Node = removed_between d.nodes p e in
    let le : p ≤ e = omega (arith, cuts.slot.after) in
    let len_p = length-parents d.nodes in
    let len_i = length-ids d.nodes in
    let len_d = length-depths d.nodes in
    let len_t = length-texts d.nodes in
    let len_e = length-elements d.nodes in
    let within : e ≤ length d.nodes = omega (arith, cuts.slot.within) in
    let count : length nodes + (e - p) ≡ length d.nodes = ap (λ (m : ℕ). m + (e - p)) (length-map (remove_range d.nodes p e) (moved_back p e)) ∙ length-cut d.nodes p e le within in
    let closes = closes_nodes d.nodes p e le within in
    let len_n = length-parents nodes in
    let same = λ (k : ℕ) (lt : k < length nodes). same_parent (parents_of d.nodes) (parents_of nodes) p e cuts closes k (omega arith) in
    let inside = λ (k : ℕ) (lt : k < length nodes). old_inside p e k (length d.nodes) (omega arith) in
    let depth_read = λ (k : ℕ). cut_read (depths_of d.nodes) p e k 0 le (omega arith) in
    let first : old_place p e 0 ≡ 0 = old_low p e 0 cuts.not_root in
    record {
      wide = is.wide;
      narrow = is.narrow;
      high = is.high;
      low = is.low;
      some = omega (arith, cuts.not_root, cuts.slot.after);
      few = omega (arith, is.few);
      tree = closes_tree (parents_of d.nodes) (parents_of nodes) p e cuts closes;
      forms = All-map IsNode (moved_back p e) (remove_range d.nodes p e) (All-append IsNode (take p d.nodes) (drop e d.nodes) (All-take IsNode p d.nodes is.forms) (All-drop IsNode e d.nodes is.forms));
      root_element = element_column nodes 0 ∙ rw (elements_removed d.nodes p e) (cut_read (elements_of d.nodes) p e 0 false le (omega arith)
          ∙ ap (λ (m : ℕ). get_or (elements_of d.nodes) m false) first ∙ sym (element_column d.nodes 0) ∙ is.root_element);
      parent_elements = λ k positive lt. element_column nodes (get_or (parents_of nodes) k 0) ∙ rw (elements_removed d.nodes p e) (cut_read (elements_of d.nodes) p e (get_or (parents_of nodes) k 0) false le (omega arith)
          ∙ ap (λ (m : ℕ). get_or (elements_of d.nodes) m false) (same k lt) ∙ sym (element_column d.nodes _)
          ∙ is.parent_elements (old_place p e k) (omega (arith, old_more p e k)) (inside k lt));
      ids = λ j k less lt equal. distinct_cut (ids_of d.nodes) p e le (omega arith) (λ a b ab bl. is.ids a b ab (omega arith)) j k less (omega (arith, length-cut (ids_of d.nodes) p e le (omega arith)))
          (subst (λ (xs : List ℕ). get_or xs j 0 ≡ get_or xs k 0) (ids_removed d.nodes p e) equal);
      named = λ k lt. rw (ids_removed d.nodes p e) (each_cut (λ (v : ℕ). 0 < v) (ids_of d.nodes) p e le (omega arith) (λ a al. is.named a (omega arith)) k (omega arith));
      depth_root = rw (depths_removed d.nodes p e) (depth_read 0 ∙ ap (λ (m : ℕ). get_or (depths_of d.nodes) m 0) first ∙ is.depth_root);
      depth = λ k positive lt. rw (depths_removed d.nodes p e) (depth_read k ∙ is.depth (old_place p e k) (omega (arith, old_more p e k)) (inside k lt)
          ∙ ap (λ (m : ℕ). get_or (depths_of d.nodes) m 0 + 1) (sym (same k lt)) ∙ ap (λ (m : ℕ). m + 1) (sym (depth_read (get_or (parents_of nodes) k 0))));
      shallow = λ k lt. rw (depths_removed d.nodes p e) (each_cut (λ (v : ℕ). v ≤ most_depth) (depths_of d.nodes) p e le (omega arith) (λ a al. is.shallow a (omega arith)) k (omega arith));
      short = λ k lt. rw (texts_removed d.nodes p e) (each_cut (λ (v : ℕ). v ≤ longest_text) (text_lengths_of d.nodes) p e le (omega arith) (λ a al. is.short a (omega arith)) k (omega arith));
      small = omega (arith, text_size_removed d.nodes p e);
    }

-- one node more taken out
pub text_size_cut : (nodes : List Node) (i k : ℕ) → k < length nodes → text_size (remove_range nodes i k) ≡ get_or (text_lengths_of nodes) k 0 + text_size (remove_range nodes i (k + 1))
text_size_cut [] i k lt = absurd (omega arith)
text_size_cut (x ∷ xs) i k lt =
    let f : Node → ℕ = λ (n : Node). length n.text in
    let a = sum_by-append f (take i (x ∷ xs)) (drop k (x ∷ xs)) in
    let b = sum_by-append f (take i (x ∷ xs)) (drop (k + 1) (x ∷ xs)) in
    let c = sum_by-drop_more f (x ∷ xs) k x lt in
    let r = get_or-map f (x ∷ xs) k x 0 lt in
    omega arith

-- the nodes that are left, before the places of their parents are moved
pub cut_kept : (nodes : List Node) (p e : ℕ) → CutsSubtree (parents_of nodes) p e → (k : ℕ) → k < length (remove_range nodes p e) → p ≤ get_or (parents_of (remove_range nodes p e)) k 0 → e ≤ get_or (parents_of (remove_range nodes p e)) k 0
cut_kept nodes p e cuts k lt =
    let le : p ≤ e = omega (arith, cuts.slot.after) in
    let len = length-parents nodes in
    let count = length-cut nodes p e le (omega (arith, cuts.slot.within)) in
    rw (map-cut (λ (n : Node). n.parent) nodes p e, cut_read (parents_of nodes) p e k 0 le cuts.slot.within)
    (parent_outside (parents_of nodes) cuts.tree p e cuts.not_root cuts.slot (old_place p e k) (old_inside p e k (length (parents_of nodes)) (omega arith)) (old_outside p e k le))

pub cut_before : (nodes : List Node) (p e : ℕ) → CutsSubtree (parents_of nodes) p e → (k : ℕ) → k < p → get_or (parents_of (remove_range nodes p e)) k 0 < p
cut_before nodes p e cuts k low =
    let le : p ≤ e = omega (arith, cuts.slot.after) in
    rw (map-cut (λ (n : Node). n.parent) nodes p e, cut_read (parents_of nodes) p e k 0 le cuts.slot.within, old_low p e k low)
    (elim (cases_lt 0 k) [
      | inl some ↦ (let b = cuts.tree.before k some (omega (arith, cuts.has)) in omega arith)
      | inr none ↦ (let z : k ≡ 0 = omega arith in let r : get_or (parents_of nodes) k 0 ≡ 0 = ap (λ (m : ℕ). get_or (parents_of nodes) m 0) z ∙ cuts.tree.root in omega (arith, cuts.not_root))
    ])
