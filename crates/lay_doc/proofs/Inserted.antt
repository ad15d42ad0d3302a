-- The columns of a list of nodes after one was put into it, and the document that it then is.
use Rattle.std.proofs.Common.{set, ◌≡◌, ℕ, ◌+◌, ◌-◌, ◌<◌, ◌≤◌, List, [], ◌∷◌, ◌++◌, length, get_or, refl, sym, ap, ◌∙◌, arith, Bool, true, false, inl, inr, take, drop, map, subst, None, suc, zero}
use Rattle.std.specs.List.{All, insert}
use Rattle.std.specs.Prelude.{sum}
use Rattle.std.proofs.lemmas.Bool.{cases_lt}
use Rattle.std.proofs.lemmas.List.{get_or_default, get_or-map, map-append, take-map, drop-map, length-map}
use Rattle.std.proofs.lemmas.List.Elements.{All-append, All-cons, All-take, All-drop, All-map}
use Rattle.std.proofs.lemmas.List.Edits.{map_over_more, length-insert, get_or-insert_below, get_or-insert_at, get_or-insert_above}
use Rattle.std.proofs.lemmas.List.Sums.{sum-map, sum_by-insert}
use Rattle.std.proofs.lemmas.Grind.{common_steps}
use Rattle.lay_units.specs.Limits.{longest_text, most_depth, most_nodes, most_text}
use Rattle.lay_style.specs.Places.{place_of}
use Rattle.lay_doc.proofs.Cited.{place_none}
use Rattle.lay_doc.specs.declared.node.Node.{Node}
use Rattle.lay_doc.specs.NewNodes.{is_element}
use Rattle.lay_doc.specs.Tree.{IsSlot, IsTree, children_before, shifted}
use Rattle.lay_doc.specs.Document.{Document, IsDocument, IsNode, parents_of, ids_of, depths_of, text_lengths_of, text_size, is_element_at, moved, inserted}
use Rattle.lay_doc.proofs.PutTrees.{Puts, puts_tree, shifted_low, shifted_high}
use Rattle.lay_doc.proofs.NodeColumns.{length-parents, length-ids, length-depths, length-texts, length-elements, elements_of, element_column}

map-insert : {X Y : Type 0} (f : X → Y) (xs : List X) (i : ℕ) (x : X) → map f (insert xs i x) ≡ insert (map f xs) i (f x)
map-insert f xs i x = map-append f (take i xs) (x ∷ drop i xs) ∙ rw (take-map f i xs, drop-map f i xs) refl

pub map-map : {X Y Z : Type 0} (g : Y → Z) (f : X → Y) (xs : List X) → map g (map f xs) ≡ map (λ x. g (f x)) xs
map-map g f [] = refl
map-map g f (x ∷ xs) = ap (λ (r : List _). g (f x) ∷ r) (map-map g f xs)

-- a column that the move of places leaves as it is
same_column : {X : Type 0} (f : Node → X) (nodes : List Node) (at : ℕ) (node : Node) → ((n : Node) → f (moved at n) ≡ f n) → map f (inserted nodes at node) ≡ insert (map f nodes) at (f node)
same_column {X} f nodes at node same = map-map f (moved at) (insert nodes at node) ∙ same_map (insert nodes at node) ∙ map-insert f nodes at node
  where
    same_map : (xs : List Node) → map (λ n. f (moved at n)) xs ≡ map f xs
    same_map [] = refl
    same_map (x ∷ xs) = rw (same x, same_map xs) refl

pub ids_inserted : (nodes : List Node) (at : ℕ) (node : Node) → ids_of (inserted nodes at node) ≡ insert (ids_of nodes) at node.id.0
ids_inserted nodes at node = same_column (λ n. n.id.0) nodes at node (λ _. refl)

depths_inserted : (nodes : List Node) (at : ℕ) (node : Node) → depths_of (inserted nodes at node) ≡ insert (depths_of nodes) at node.depth
depths_inserted nodes at node = same_column (λ n. n.depth) nodes at node (λ _. refl)

texts_inserted : (nodes : List Node) (at : ℕ) (node : Node) → text_lengths_of (inserted nodes at node) ≡ insert (text_lengths_of nodes) at (length node.text)
texts_inserted nodes at node = same_column (λ n. length n.text) nodes at node (λ _. refl)

elements_inserted : (nodes : List Node) (at : ℕ) (node : Node) → elements_of (inserted nodes at node) ≡ insert (elements_of nodes) at (is_element node.kind)
elements_inserted nodes at node = same_column (λ n. is_element n.kind) nodes at node (λ _. refl)

pub parents_inserted : (nodes : List Node) (at : ℕ) (node : Node) → parents_of (inserted nodes at node) ≡ map (shifted at) (insert (parents_of nodes) at node.parent)
parents_inserted nodes at node = map-map (λ n. n.parent) (moved at) (insert nodes at node) ∙ sym (map-map (shifted at) (λ n. n.parent) (insert nodes at node)) ∙ ap (map (shifted at)) (map-insert (λ n. n.parent) nodes at node)

pub text_size_inserted : (nodes : List Node) (at : ℕ) (node : Node) → text_size (inserted nodes at node) ≡ text_size nodes + length node.text
text_size_inserted nodes at node =
    sym (sum-map (λ (n : Node). length n.text) (inserted nodes at node)) ∙ ap sum (texts_inserted nodes at node)
    ∙ sum_by-insert (λ (x : ℕ). x) (text_lengths_of nodes) at (length node.text)
    ∙ ap (λ (m : ℕ). m + length node.text) (sum-map (λ (n : Node). length n.text) nodes)

-- a loop that moves each node's parent's place: what is ahead is as it was
pub ahead : {X : Type 0} (f : X → X) (xs ys : List X) (i : ℕ) (x : X) → i < length xs → ys ≡ map f (take i xs) ++ drop i xs → get_or ys i x ≡ get_or xs i x
ahead f xs ys i x within is = rw is (grind (arith, common_steps, length-map (take i xs) f))

above_read : {X : Type 0} (xs : List X) (at : ℕ) (x d : X) (k : ℕ) → at < k → at ≤ length xs → get_or (insert xs at x) k d ≡ get_or xs (k - 1) d
above_read xs at x d k over within =
    let q : k - 1 + 1 ≡ k = omega arith in
    ap (λ (m : ℕ). get_or (insert xs at x) m d) (sym q) ∙ get_or-insert_above xs at x d (k - 1) (omega arith) within

pub moved_read : {X : Type 0} (xs : List X) (at : ℕ) (x d : X) (u : ℕ) → at ≤ length xs → get_or (insert xs at x) (shifted at u) d ≡ get_or xs u d
moved_read xs at x d u within = elim (cases_lt u at) [
  | inl low ↦ ap (λ (m : ℕ). get_or (insert xs at x) m d) (shifted_low at u low) ∙ get_or-insert_below xs at x d u low within
  | inr high ↦ ap (λ (m : ℕ). get_or (insert xs at x) m d) (shifted_high at u high) ∙ get_or-insert_above xs at x d u high within
]

-- each place of the longer list is the new one or a place of the old list
data Reads (xs : List ℕ) (at x k : ℕ) : Type 0 where
  here : k ≡ at → get_or (insert xs at x) k 0 ≡ x → Reads xs at x k
  old : (m : ℕ) → m < length xs → (m < at → k ≡ m) → (at ≤ m → k ≡ m + 1) → get_or (insert xs at x) k 0 ≡ get_or xs m 0 → Reads xs at x k

reads : (xs : List ℕ) (at x k : ℕ) → at ≤ length xs → k < length xs + 1 → Reads xs at x k
reads xs at x k within lt = elim (cases_lt k at) [
  | inl low ↦ old k (omega arith) (λ _. refl) (λ h. absurd (omega arith)) (get_or-insert_below xs at x 0 k low within)
  | inr high ↦ elim (cases_lt at k) [
    | inl over ↦ old (k - 1) (omega arith) (λ h. absurd (omega arith)) (λ _. omega arith) (above_read xs at x 0 k over within)
    | inr same ↦ (let q : k ≡ at = omega arith in here q (ap (λ (m : ℕ). get_or (insert xs at x) m 0) q ∙ get_or-insert_at xs at x 0 within))
  ]
]

distinct_insert : (xs : List ℕ) (at x : ℕ) → at ≤ length xs → ((a b : ℕ) → a < b → b < length xs → get_or xs a 0 ≡ get_or xs b 0 → ⊥) → ((a : ℕ) → a < length xs → get_or xs a 0 ≡ x → ⊥)
    → (j k : ℕ) → j < k → k < length xs + 1 → get_or (insert xs at x) j 0 ≡ get_or (insert xs at x) k 0 → ⊥
distinct_insert xs at x within apart fresh j k less lt same =
    elim (reads xs at x j within (omega arith)) [
      | here a b ↦ elim (reads xs at x k within lt) [
        | here c d ↦ omega arith
        | old m ml lo hi e ↦ fresh m ml (sym e ∙ sym same ∙ b)
      ]
      | old m ml lo hi e ↦ elim (reads xs at x k within lt) [
        | here c d ↦ fresh m ml (sym e ∙ same ∙ d)
        | old n nl lo2 hi2 e2 ↦ apart m n (elim (cases_lt m at) [ inl p ↦ elim (cases_lt n at) [ inl q ↦ omega (arith, lo p, lo2 q) | inr q ↦ omega (arith, lo p, hi2 q) ] | inr p ↦ elim (cases_lt n at) [ inl q ↦ omega (arith, hi p, lo2 q) | inr q ↦ omega (arith, hi p, hi2 q) ] ]) nl (sym e ∙ same ∙ e2)
      ]
    ]

-- what holds of each of a list and of one more holds of each with it
each_insert : (P : ℕ → Type 0) (xs : List ℕ) (at x : ℕ) → at ≤ length xs → ((a : ℕ) → a < length xs → P (get_or xs a 0)) → P x → (k : ℕ) → k < length xs + 1 → P (get_or (insert xs at x) k 0)
each_insert P xs at x within all one k lt = elim (reads xs at x k within lt) [
  | here a b ↦ subst P (sym b) one
  | old m ml lo hi e ↦ subst P (sym e) (all m ml)
]

pub small_parents : (nodes : List Node) (at b : ℕ) (node : Node) → at ≤ length nodes → ((k : ℕ) → k < length nodes → get_or (parents_of nodes) k 0 < b) → node.parent < b → (k : ℕ) → k < length (insert nodes at node) → get_or (parents_of (insert nodes at node)) k 0 < b
small_parents nodes at b node within small one k lt =
    let len = length-parents nodes in
    let count = length-insert nodes at node within in
    rw (map-insert (λ n. n.parent) nodes at node)
    (each_insert (λ (v : ℕ). v < b) (parents_of nodes) at node.parent (omega arith) (λ a al. small a (omega arith)) one k (omega arith))

-- the parents' places after a node was put at a slot
puts_nodes : (nodes : List Node) (at : ℕ) (node : Node) → at ≤ length nodes → node.parent < at → Puts (parents_of nodes) (parents_of (inserted nodes at node)) node.parent at
puts_nodes nodes at node within up =
    let len = length-parents nodes in
    let len' : length (insert (parents_of nodes) at node.parent) ≡ length nodes + 1 = length-insert (parents_of nodes) at node.parent (omega (arith, len)) ∙ omega (arith, len) in
    let read = λ (k : ℕ) (lt : k < length nodes + 1). get_or-map (shifted at) (insert (parents_of nodes) at node.parent) k 0 0 (omega (arith, len')) in
    rw (parents_inserted nodes at node) (record {
      length_is = length-map (insert (parents_of nodes) at node.parent) (shifted at) ∙ omega (arith, len', len);
      below = λ k low. read k (omega arith) ∙ ap (shifted at) (get_or-insert_below (parents_of nodes) at node.parent 0 k low (omega (arith, len)));
      here = read at (omega arith) ∙ ap (shifted at) (get_or-insert_at (parents_of nodes) at node.parent 0 (omega (arith, len))) ∙ shifted_low at node.parent up;
      above = λ k over short. read k (omega (arith, len)) ∙ ap (shifted at) (above_read (parents_of nodes) at node.parent 0 k over (omega (arith, len)));
    })

-- where a node other than the root comes from, and its parent's place
data Origin (nodes : List Node) (at : ℕ) (node : Node) (k : ℕ) : Type 0 where
  new : k ≡ at → get_or (parents_of (inserted nodes at node)) k 0 ≡ node.parent → Origin nodes at node k
  old : (j : ℕ) → 0 < j → j < length nodes → k ≡ shifted at j → get_or (parents_of (inserted nodes at node)) k 0 ≡ shifted at (get_or (parents_of nodes) j 0) → Origin nodes at node k

origin : (nodes : List Node) (at : ℕ) (node : Node) → at ≤ length nodes → node.parent < at → (k : ℕ) → 0 < k → k < length nodes + 1 → Origin nodes at node k
origin nodes at node within up k positive lt =
    let puts = puts_nodes nodes at node within up in
    let len = length-parents nodes in
    elim (cases_lt k at) [
      | inl low ↦ old k positive (omega arith) (sym (shifted_low at k low)) (puts.below k low)
      | inr high ↦ elim (cases_lt at k) [
        | inl over ↦ old (k - 1) (omega arith) (omega arith) ((let q : k ≡ k - 1 + 1 = omega arith in q) ∙ sym (shifted_high at (k - 1) (omega arith))) (puts.above k over (omega arith))
        | inr same ↦ (let q : k ≡ at = omega arith in new q (ap (λ (m : ℕ). get_or (parents_of (inserted nodes at node)) m 0) q ∙ puts.here))
      ]
    ]

depth_insert : (nodes : List Node) (at : ℕ) (node : Node) → at ≤ length nodes → node.parent < at
    → ((j : ℕ) → 0 < j → j < length nodes → get_or (depths_of nodes) j 0 ≡ get_or (depths_of nodes) (get_or (parents_of nodes) j 0) 0 + 1)
    → node.depth ≡ get_or (depths_of nodes) node.parent 0 + 1
    → (k : ℕ) → 0 < k → k < length nodes + 1 → get_or (depths_of (inserted nodes at node)) k 0 ≡ get_or (depths_of (inserted nodes at node)) (get_or (parents_of (inserted nodes at node)) k 0) 0 + 1
depth_insert nodes at node within up each one k positive lt =
    let len = length-depths nodes in
    rw (depths_inserted nodes at node) (elim (origin nodes at node within up k positive lt) [
      | new is parent ↦ rw (parent, is) (get_or-insert_at (depths_of nodes) at node.depth 0 (omega arith) ∙ one
          ∙ ap (λ (m : ℕ). m + 1) (sym (get_or-insert_below (depths_of nodes) at node.depth 0 node.parent up (omega arith))))
      | old j above short is parent ↦ rw (parent, is) (moved_read (depths_of nodes) at node.depth 0 j (omega arith) ∙ each j above short
          ∙ ap (λ (m : ℕ). m + 1) (sym (moved_read (depths_of nodes) at node.depth 0 (get_or (parents_of nodes) j 0) (omega arith))))
    ])

parents_insert : (nodes : List Node) (at : ℕ) (node : Node) → at ≤ length nodes → node.parent < at
    → ((j : ℕ) → 0 < j → j < length nodes → is_element_at nodes (get_or (parents_of nodes) j 0) ≡ true)
    → is_element_at nodes node.parent ≡ true
    → (k : ℕ) → 0 < k → k < length nodes + 1 → is_element_at (inserted nodes at node) (get_or (parents_of (inserted nodes at node)) k 0) ≡ true
parents_insert nodes at node within up each one k positive lt =
    let len = length-elements nodes in
    let x : Bool = is_element node.kind in
    element_column (inserted nodes at node) _ ∙ rw (elements_inserted nodes at node) (elim (origin nodes at node within up k positive lt) [
      | new is parent ↦ rw parent (get_or-insert_below (elements_of nodes) at x false node.parent up (omega arith) ∙ sym (element_column nodes node.parent) ∙ one)
      | old j above short is parent ↦ rw parent (moved_read (elements_of nodes) at x false (get_or (parents_of nodes) j 0) (omega arith) ∙ sym (element_column nodes _) ∙ each j above short)
    ])

root_insert : (nodes : List Node) (at : ℕ) (node : Node) → 0 < at → at ≤ length nodes → is_element_at nodes 0 ≡ true → is_element_at (inserted nodes at node) 0 ≡ true
root_insert nodes at node positive within root =
    let len = length-elements nodes in
    element_column (inserted nodes at node) 0 ∙ rw (elements_inserted nodes at node) (get_or-insert_below (elements_of nodes) at (is_element node.kind) false 0 positive (omega arith) ∙ sym (element_column nodes 0) ∙ root)

-- there is room for a node below its parent at a slot
pub record HasRoom (d : Document) (at : ℕ) (node : Node) : Type 0 where
  pub has_parent : node.parent < length d.nodes
  pub slot : IsSlot (parents_of d.nodes) node.parent (children_before (parents_of d.nodes) node.parent at) at
  pub of_element : is_element_at d.nodes node.parent ≡ true
  pub fresh : place_of node.id.0 (ids_of d.nodes) ≡ None
  pub has_name : 0 < node.id.0
  pub room : length d.nodes < most_nodes
  pub deeper : node.depth ≡ get_or (depths_of d.nodes) node.parent 0 + 1
  pub not_deep : get_or (depths_of d.nodes) node.parent 0 < most_depth
  pub not_long : length node.text ≤ longest_text
  pub form : IsNode node
  pub texts_fit : text_size d.nodes + length node.text ≤ most_text

-- what holds of each node holds of each with one put in
forms_inserted : (nodes : List Node) (at : ℕ) (node : Node) → All IsNode nodes → IsNode node → All IsNode (inserted nodes at node)
forms_inserted nodes at node all one =
    All-map IsNode (moved at) (insert nodes at node) (All-append IsNode (take at nodes) (node ∷ drop at nodes) (All-take IsNode at nodes all) (All-cons IsNode node (drop at nodes) one (All-drop IsNode at nodes all)))

-- a document stays one when a node is put at a slot
pub put_document : (d : Document) → IsDocument d → (at : ℕ) (node : Node) → HasRoom d at node → IsDocument (record d { nodes = inserted d.nodes at node })
put_document d is at node fits =
    let len = length-parents d.nodes in
    let len_d = length-depths d.nodes in
    let len_i = length-ids d.nodes in
    let len_t = length-texts d.nodes in
    let slot = fits.slot in
    let within : at ≤ length d.nodes = omega (arith, slot.within) in
    let nodes : List Node = inserted d.nodes at node in
    let count : length nodes ≡ length d.nodes + 1 = length-map (insert d.nodes at node) (moved at) ∙ length-insert d.nodes at node within in
    let puts = puts_nodes d.nodes at node within slot.after in
    record {
      wide = is.wide;
      narrow = is.narrow;
      high = is.high;
      low = is.low;
      some = omega (arith, count);
      few = omega (arith, count, fits.room);
      tree = puts_tree (parents_of d.nodes) (parents_of nodes) node.parent (children_before (parents_of d.nodes) node.parent at) at is.tree (omega (arith, fits.has_parent)) slot puts;
      forms = forms_inserted d.nodes at node is.forms fits.form;
      root_element = root_insert d.nodes at node (omega (arith, slot.after)) within is.root_element;
      parent_elements = λ k positive lt. parents_insert d.nodes at node within slot.after is.parent_elements fits.of_element k positive (omega (arith, count));
      ids = λ j k less lt same. distinct_insert (ids_of d.nodes) at node.id.0 (omega arith) (λ a b ab bl. is.ids a b ab (omega arith))
          (λ a al. place_none node.id.0 (ids_of d.nodes) fits.fresh a al) j k less (omega (arith, count))
          (subst (λ (xs : List ℕ). get_or xs j 0 ≡ get_or xs k 0) (ids_inserted d.nodes at node) same);
      named = λ k lt. rw (ids_inserted d.nodes at node) (each_insert (λ (v : ℕ). 0 < v) (ids_of d.nodes) at node.id.0 (omega arith) (λ a al. is.named a (omega arith)) fits.has_name k (omega (arith, count)));
      depth_root = rw (depths_inserted d.nodes at node) (get_or-insert_below (depths_of d.nodes) at node.depth 0 0 (omega (arith, slot.after)) (omega arith) ∙ is.depth_root);
      depth = λ k positive lt. depth_insert d.nodes at node within slot.after is.depth fits.deeper k positive (omega (arith, count));
      shallow = λ k lt. rw (depths_inserted d.nodes at node) (each_insert (λ (v : ℕ). v ≤ most_depth) (depths_of d.nodes) at node.depth (omega arith) (λ a al. is.shallow a (omega arith)) (omega (arith, fits.deeper, fits.not_deep)) k (omega (arith, count)));
      short = λ k lt. rw (texts_inserted d.nodes at node) (each_insert (λ (v : ℕ). v ≤ longest_text) (text_lengths_of d.nodes) at (length node.text) (omega arith) (λ a al. is.short a (omega arith)) fits.not_long k (omega (arith, count)));
      small = omega (arith, text_size_inserted d.nodes at node, fits.texts_fit);
    }

-- nodes whose parents all stand before `at` aren't moved
pub front_stays : (nodes : List Node) (at k : ℕ) → ((j : ℕ) → j < k → get_or (parents_of nodes) j 0 < at) → map (moved at) (take k nodes) ≡ take k nodes
front_stays nodes at zero low = refl
front_stays [] at (suc k) low = refl
front_stays (n ∷ ns) at (suc k) low =
    let here : moved at n ≡ n = ap (λ (m : ℕ). record n { parent = m }) (shifted_low at n.parent (low 0 (omega arith))) in
    rw (here, front_stays ns at k (λ j lt. low (suc j) (omega arith))) refl

-- the parents of the nodes up to a new one stand before it
pub parents_before : (nodes : List Node) (at : ℕ) (node : Node) → IsTree (parents_of nodes) → 0 < at → at ≤ length nodes → (k : ℕ) → k < at → get_or (parents_of (insert nodes at node)) k 0 < at
parents_before nodes at node tree positive within k low =
    let len = length-parents nodes in
    rw (map-insert (λ n. n.parent) nodes at node)
    (let e = get_or-insert_below (parents_of nodes) at node.parent 0 k low (omega arith) in
    elim (cases_lt 0 k) [
      | inl some ↦ omega (arith, e, tree.before k some (omega arith))
      | inr none ↦ (let z : k ≡ 0 = omega arith in let r : get_or (parents_of nodes) k 0 ≡ 0 = rw z tree.root in omega (arith, e, r))
    ])

-- in a tree each parent's place is that of a node
pub parents_within : (parents : List ℕ) → IsTree parents → (k : ℕ) → k < length parents → get_or parents k 0 < length parents
parents_within parents tree k lt = elim (cases_lt 0 k) [
  | inl some ↦ omega (arith, tree.before k some lt)
  | inr none ↦ (let z : k ≡ 0 = omega arith in rw z (omega (arith, tree.root)))
]

-- the loop over the nodes from a new one on: what is ahead is as it was, and what it leaves
pub length_ahead : {X : Type 0} (f : X → X) (xs ys : List X) (k : ℕ) → k ≤ length xs → ys ≡ map f (take k xs) ++ drop k xs → length ys ≡ length xs
length_ahead f xs ys k lt is = rw is (grind (arith, common_steps, length-map (take k xs) f))

pub parent_ahead : (f : Node → Node) (xs ys : List Node) (k : ℕ) → k < length xs → ys ≡ map f (take k xs) ++ drop k xs → get_or (parents_of ys) k 0 ≡ get_or (parents_of xs) k 0
parent_ahead f [] ys k lt is = absurd (omega arith)
parent_ahead f (x ∷ xs) ys k lt is =
    let n = length_ahead f (x ∷ xs) ys k (omega arith) is in
    get_or-map (λ n. n.parent) ys k x 0 (omega arith) ∙ ap (λ (n : Node). n.parent) (ahead f (x ∷ xs) ys k x lt is) ∙ sym (get_or-map (λ n. n.parent) (x ∷ xs) k x 0 lt)

pub shift_more : (f : Node → Node) (xs ys zs : List Node) (k : ℕ) → k < length xs → ys ≡ map f (take k xs) ++ drop k xs → ((d : Node) → zs ≡ set ys k (f (get_or ys k d)))
    → zs ≡ map f (take (k + 1) xs) ++ drop (k + 1) xs
shift_more f [] ys zs k lt is gives = absurd (omega arith)
shift_more f (x ∷ xs) ys zs k lt is gives =
    let n = length_ahead f (x ∷ xs) ys k (omega arith) is in
    let v : Node = get_or ys k x in
    gives x ∙ map_over_more f (x ∷ xs) ys k v lt is (get_or_default ys k x v (omega arith))
