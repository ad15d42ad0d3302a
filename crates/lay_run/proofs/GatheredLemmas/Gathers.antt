-- A list of nodes keeps its facts when a node is put into it, and has them with its root alone.
use Rattle.std.proofs.Common.{◌≡◌, ◌≢◌, ℕ, ◌+◌, ◌<◌, ◌≤◌, List, [], ◌∷◌, ◌++◌, length, get_or, map, sym, ap, ◌∙◌, arith, inl, inr, Option, Some, None, option_map, IfSome, subst}
use Rattle.std.specs.List.{insert}
use Rattle.std.proofs.lemmas.Bool.{cases_lt, cases_eq, eq-eqb, ne_eqb}
use Rattle.std.proofs.lemmas.Grind.{elements}
use Rattle.std.proofs.lemmas.List.{get_or-map, get_or-set_same, get_or-set_other, length-set, length-append, map-append, length-map}
use Rattle.std.proofs.lemmas.List.Edits.{length-insert, get_or-insert_at}
use Rattle.lay_style.specs.Places.{place_of}
use Rattle.lay_run.proofs.Cited.{edits_leave_documents, ids_inserted, length-ids, length-parents, map_some, moved_read, parent_behind, place_here, place_insert_here, place_insert_other, place_later, shifted_high, shifted_low, slot_is, text_size_inserted}
use Rattle.lay_doc.specs.declared.node.Node.{Node}
use Rattle.lay_doc.specs.declared.node.NodeId.{NodeId}
use Rattle.lay_doc.specs.declared.edit.Edit.TheVariants.{Insert}
use Rattle.lay_doc.specs.NewNodes.{NewNodeValue, IsNodeForm}
use Rattle.lay_doc.specs.Tree.{IsSlot, child_count, shifted}
use Rattle.lay_doc.specs.Document.{Document, IsDocument, parents_of, ids_of, depths_of, moved, inserted, becomes}
use Rattle.lay_doc.specs.Edits.{insert_fault, after_insert, last_index}
use Rattle.lay_run.specs.declared.gathered.listing.Listed.{Listed}
use Rattle.lay_run.specs.declared.gathered.listing.Listing.{Listing}
use Rattle.lay_run.specs.Gathered.Numbers.{number_of}
use Rattle.lay_run.specs.Gathered.Listings.{ups_of, depths_of as item_depths}
use Rattle.lay_run.specs.Gathered.Links.{with_behind, with_child, HasNodeLinks}
use Rattle.lay_run.specs.Gathered.Growth.{Grows}
use Rattle.lay_run.specs.Gathered.Standing.{IsListingOf, IsGathered}
use Rattle.lay_run.proofs.GatheredLemmas.Orders.{Shifts, more_places, length-more, more_old, more_new, shifts, stays, moves, shifted_rises, order_more, places_more}
use Rattle.lay_run.proofs.GatheredLemmas.Faults.{item_at}
use Rattle.lay_run.proofs.GatheredLemmas.Ends.{Linked, Ends, ends}

-- the number that has a place among ids is the one that stands there
pub place_is : (n : ℕ) (xs : List ℕ) (k : ℕ) → place_of n xs ≡ Some k → get_or xs k 0 ≡ n
place_is n [] k e = absurd cc
place_is n (x ∷ xs) k e = elim (cases_eq x n) [
  | inl same ↦ (let h = sym (place_here n x xs same) ∙ e in let z : k ≡ 0 = cc in ap (λ (m : ℕ). get_or (x ∷ xs) m 0) z ∙ same)
  | inr other ↦ (let s = map_some (place_of n xs) k (sym (place_later n x xs other) ∙ e) in ap (λ (m : ℕ). get_or (x ∷ xs) m 0) s.next ∙ place_is n xs s.before s.is)
]

-- a list with one more at its end
push_old : {X : Type 0} (xs : List X) (x d : X) (i : ℕ) → i < length xs → get_or (xs ++ x ∷ []) i d ≡ get_or xs i d
push_old xs x d i lt = grind (arith, elements)

push_new : {X : Type 0} (xs : List X) (x d : X) (i : ℕ) → i ≡ length xs → get_or (xs ++ x ∷ []) i d ≡ x
push_new xs x d i is = grind (arith, elements)

push_column : {X : Type 0} (f : X → ℕ) (xs : List X) (x : X) → map f (xs ++ x ∷ []) ≡ map f xs ++ f x ∷ []
push_column f xs x = map-append f xs (x ∷ [])

-- links with one more
behind_here : (nexts : List ℕ) (b : ℕ) → b < length nexts → get_or (with_behind nexts b) b 0 ≡ length nexts
behind_here nexts b lt = get_or-set_same (nexts ++ get_or nexts b 0 ∷ []) b (length nexts) 0 (let l = length-append nexts (get_or nexts b 0 ∷ []) in omega arith)

behind_old : (nexts : List ℕ) (b i : ℕ) → i < length nexts → i ≢ b → get_or (with_behind nexts b) i 0 ≡ get_or nexts i 0
behind_old nexts b i lt other = get_or-set_other (nexts ++ get_or nexts b 0 ∷ []) b i (length nexts) 0 other ∙ push_old nexts (get_or nexts b 0) 0 i lt

behind_new : (nexts : List ℕ) (b i : ℕ) → b < length nexts → i ≡ length nexts → get_or (with_behind nexts b) i 0 ≡ get_or nexts b 0
behind_new nexts b i lt is = get_or-set_other (nexts ++ get_or nexts b 0 ∷ []) b i (length nexts) 0 (λ e. omega arith) ∙ push_new nexts (get_or nexts b 0) 0 i is

child_here : (lasts : List ℕ) (u : ℕ) → u < length lasts → get_or (with_child lasts u) u 0 ≡ length lasts
child_here lasts u lt = get_or-set_same (lasts ++ length lasts ∷ []) u (length lasts) 0 (let l = length-append lasts (length lasts ∷ []) in omega arith)

child_old : (lasts : List ℕ) (u i : ℕ) → i < length lasts → i ≢ u → get_or (with_child lasts u) i 0 ≡ get_or lasts i 0
child_old lasts u i lt other = get_or-set_other (lasts ++ length lasts ∷ []) u i (length lasts) 0 other ∙ push_old lasts (length lasts) 0 i lt

child_new : (lasts : List ℕ) (u i : ℕ) → u < length lasts → i ≡ length lasts → get_or (with_child lasts u) i 0 ≡ length lasts
child_new lasts u i lt is = get_or-set_other (lasts ++ length lasts ∷ []) u i (length lasts) 0 (λ e. omega arith) ∙ push_new lasts (length lasts) 0 i is

-- the trees by place and by number
linked : (d : Document) (l : Listing) → (g : IsGathered d l) → Linked (parents_of d.nodes) g.stands.places (ups_of l.items.items) l.lasts.items
linked d l g =
    let s = g.stands in
    let len = length-parents d.nodes in
    record {
      tree = s.document.tree;
      order = s.order;
      count = omega (arith, len, s.count);
      root = s.root;
      parent = λ i lt. let w = s.order.within i (omega (arith, len, s.count, lt)) in parent_of i (omega (arith, len, lt)) (omega (arith, w, s.count));
      up_within = λ i lt. elim (cases_lt 0 i) [
        | inl some ↦ (let u = s.ups i some (omega (arith, len, lt)) in omega (arith, u, lt))
        | inr none ↦ (let z : i ≡ 0 = omega arith in rw z (omega (arith, s.root_up, lt)))
      ];
      child = λ i lt other. let c = g.child i (omega (arith, len, lt)) other in (c.0, omega (arith, len, c.1), c.2);
      last = λ i k positive lt up. g.last i k positive (omega (arith, len, lt)) up;
    }
  where
    parent_of : (i : ℕ) → i < length d.nodes → get_or g.stands.places i 0 < length d.nodes → get_or (parents_of d.nodes) (get_or g.stands.places i 0) 0 ≡ get_or g.stands.places (get_or (ups_of l.items.items) i 0) 0
    parent_of i lt within =
        let x = item_at l.items.items i (omega (arith, g.stands.item_count, lt)) in
        let node : Node = becomes x.new 0 0 in
        get_or-map (λ (n : Node). n.parent) d.nodes (get_or g.stands.places i 0) node 0 within ∙ ap (λ (n : Node). n.parent) (g.stands.nodes i node x lt)

-- so the list has links, by which the last node of a subtree is found
pub has_links : (d : Document) (l : Listing) → IsGathered d l → HasNodeLinks l
has_links d l g = record {
  nexts = omega (arith, g.stands.next_count, g.stands.item_count);
  lasts = omega (arith, g.last_count, g.stands.item_count);
  rising = λ i lt. elim (cases_eq (get_or l.lasts.items i 0) i) [
    | inl same ↦ (omega arith, omega arith)
    | inr other ↦ (let c = g.child i (omega (arith, g.last_count, lt)) other in
        let u = g.stands.ups (get_or l.lasts.items i 0) c.0 c.1 in
        (omega (arith, u, c.2), omega (arith, g.last_count, c.1)))
  ];
}

module _ (d : Document) (a b : Listing) (g : IsGathered d a) (parent : NodeId) (up : ℕ) (new : NewNodeValue) (grows : Grows a b parent up new) (number : number_of a.numbers parent.0 ≡ Some up) (fresh : place_of new.id.0 (ids_of d.nodes) ≡ None) where
  abbrev places : List ℕ
  places = g.stands.places

  abbrev at : ℕ
  at = get_or places grows.before 0 + 1

  abbrev count : ℕ
  count = length d.nodes

  up_within : up < count
  up_within = let k = g.known parent.0 in rw number at k

  before_ends : Ends (parents_of d.nodes) places (ups_of a.items.items) a.lasts.items (linked d a g) up grows.before
  before_ends = ends (parents_of d.nodes) places (ups_of a.items.items) a.lasts.items (linked d a g) up grows.before (let l = length-parents d.nodes in omega (arith, l, up_within)) grows.is_last

  before_within : grows.before < count
  before_within = let w = before_ends.within in omega (arith, w, length-parents d.nodes)

  slot : IsSlot (parents_of d.nodes) (get_or places up 0) (child_count (parents_of d.nodes) (get_or places up 0)) at
  slot = before_ends.slot

  within : at ≤ count
  within = let w = slot.within in omega (arith, w, length-parents d.nodes)

  abbrev node : Node
  node = becomes new (get_or places up 0) (get_or (item_depths a.items.items) up 0 + 1)

  abbrev nodes : List Node
  nodes = inserted d.nodes at node

  abbrev put : Document
  put = record { width = d.width; height = d.height; nodes = nodes }

  placed : place_of parent.0 (ids_of d.nodes) ≡ Some (get_or places up 0)
  placed = g.found parent.0 ∙ ap (option_map (λ i. get_or places i 0)) number

  abbrev listed : Listed
  listed = record { parent = parent; up = up; depth = get_or (item_depths a.items.items) up 0 + 1; new = new }

  depth_is : get_or (depths_of d.nodes) (get_or places up 0) 0 ≡ get_or (item_depths a.items.items) up 0
  depth_is =
      let w = g.stands.order.within up (omega (arith, g.stands.count, up_within)) in
      get_or-map (λ (n : Node). n.depth) d.nodes (get_or places up 0) node 0 (omega (arith, w, g.stands.count)) ∙ ap (λ (n : Node). n.depth) (g.stands.nodes up node listed up_within)

  pub put_is : after_insert d parent.0 (last_index d parent.0) new ≡ put
  put_is =
      let p = get_or places up 0 in
      let s = slot_is (parents_of d.nodes) p (child_count (parents_of d.nodes) p) at slot in
      rw placed (ap (λ (m : ℕ). at_depth m (get_or (depths_of d.nodes) p 0)) (sym s) ∙ ap (at_depth at) depth_is)
    where
      at_depth : ℕ → ℕ → Document
      at_depth m k = record { width = d.width; height = d.height; nodes = inserted d.nodes m (becomes new (get_or places up 0) (k + 1)) }

  length-put : length nodes ≡ count + 1
  length-put = length-map (insert d.nodes at node) (moved at) ∙ length-insert d.nodes at node within

  length-items : length b.items.items ≡ count + 1
  length-items = rw grows.items (let l = length-append a.items.items (listed ∷ []) in omega (arith, l, g.stands.item_count))

  length-nexts : length b.nexts.items ≡ count + 1
  length-nexts = rw grows.nexts (let l = length-append a.nexts.items (get_or a.nexts.items grows.before 0 ∷ []) in
      let s = length-set (a.nexts.items ++ get_or a.nexts.items grows.before 0 ∷ []) grows.before (length a.nexts.items) in
      omega (arith, l, s, g.stands.next_count))

  length-lasts : length b.lasts.items ≡ count + 1
  length-lasts = rw grows.lasts (let l = length-append a.lasts.items (length a.lasts.items ∷ []) in
      let s = length-set (a.lasts.items ++ length a.lasts.items ∷ []) up (length a.lasts.items) in
      omega (arith, l, s, g.last_count))

  ups_old : (i : ℕ) → i < count → get_or (ups_of b.items.items) i 0 ≡ get_or (ups_of a.items.items) i 0
  ups_old i lt = rw (grows.items, push_column (λ (x : Listed). x.up) a.items.items listed)
      (push_old (ups_of a.items.items) up 0 i (let l = length-map a.items.items (λ (x : Listed). x.up) in omega (arith, l, g.stands.item_count, lt)))

  ups_new : (i : ℕ) → i ≡ count → get_or (ups_of b.items.items) i 0 ≡ up
  ups_new i is = rw (grows.items, push_column (λ (x : Listed). x.up) a.items.items listed)
      (push_new (ups_of a.items.items) up 0 i (let l = length-map a.items.items (λ (x : Listed). x.up) in omega (arith, l, g.stands.item_count, is)))

  depths_old : (i : ℕ) → i < count → get_or (item_depths b.items.items) i 0 ≡ get_or (item_depths a.items.items) i 0
  depths_old i lt = rw (grows.items, push_column (λ (x : Listed). x.depth) a.items.items listed)
      (push_old (item_depths a.items.items) listed.depth 0 i (let l = length-map a.items.items (λ (x : Listed). x.depth) in omega (arith, l, g.stands.item_count, lt)))

  depths_new : (i : ℕ) → i ≡ count → get_or (item_depths b.items.items) i 0 ≡ listed.depth
  depths_new i is = rw (grows.items, push_column (λ (x : Listed). x.depth) a.items.items listed)
      (push_new (item_depths a.items.items) listed.depth 0 i (let l = length-map a.items.items (λ (x : Listed). x.depth) in omega (arith, l, g.stands.item_count, is)))

  items_old : (i : ℕ) (x : Listed) → i < count → get_or b.items.items i x ≡ get_or a.items.items i x
  items_old i x lt = rw grows.items (push_old a.items.items listed x i (omega (arith, g.stands.item_count, lt)))

  items_new : (i : ℕ) (x : Listed) → i ≡ count → get_or b.items.items i x ≡ listed
  items_new i x is = rw grows.items (push_new a.items.items listed x i (omega (arith, g.stands.item_count, is)))

  old_place : (i : ℕ) → i < count → get_or (more_places places at) i 0 ≡ shifted at (get_or places i 0)
  old_place i lt = more_old places at i (omega (arith, g.stands.count, lt))

  new_place : (i : ℕ) → i ≡ count → get_or (more_places places at) i 0 ≡ at
  new_place i is = more_new places at i (omega (arith, g.stands.count, is))

  place_within' : (i : ℕ) → i < count → get_or places i 0 < count
  place_within' i lt = let w = g.stands.order.within i (omega (arith, g.stands.count, lt)) in omega (arith, w, g.stands.count)

  up_is : (i : ℕ) → i < count → get_or (ups_of a.items.items) i 0 < count
  up_is i lt = elim (cases_lt 0 i) [
    | inl some ↦ (let u = g.stands.ups i some lt in omega (arith, u, lt))
    | inr none ↦ (let z : i ≡ 0 = omega arith in rw z (omega (arith, g.stands.root_up, lt)))
  ]

  read_old : (u : ℕ) (m : Node) → u < count → get_or nodes (shifted at u) m ≡ moved at (get_or d.nodes u m)
  read_old u m lt = get_or-map (moved at) (insert d.nodes at node) (shifted at u) m m (bound (shifts at u)) ∙ ap (moved at) (moved_read d.nodes at node m u within)
    where
      bound : Shifts at u → shifted at u < length (insert d.nodes at node)
      bound (stays l e) = let n = length-insert d.nodes at node within in omega (arith, n, lt, e)
      bound (moves l e) = let n = length-insert d.nodes at node within in omega (arith, n, lt, e)

  read_new : (m : Node) → get_or nodes at m ≡ moved at node
  read_new m = get_or-map (moved at) (insert d.nodes at node) at m m (let n = length-insert d.nodes at node within in omega (arith, n, within)) ∙ ap (moved at) (get_or-insert_at d.nodes at node m within)

  nodes_more : (i : ℕ) (m : Node) (x : Listed) → i < count + 1 → get_or nodes (get_or (more_places places at) i 0) m
      ≡ becomes (get_or b.items.items i x).new (get_or (more_places places at) (get_or (ups_of b.items.items) i 0) 0) (get_or (item_depths b.items.items) i 0)
  nodes_more i m x lt = elim (cases_lt i count) [
    | inl old ↦ rw (ups_old i old, old_place i old, old_place (get_or (ups_of a.items.items) i 0) (up_is i old), depths_old i old, items_old i x old)
        (read_old (get_or places i 0) m (place_within' i old) ∙ ap (moved at) (g.stands.nodes i m x old))
    | inr high ↦ (let is : i ≡ count = omega arith in
        rw (ups_new i is, new_place i is, old_place up up_within, depths_new i is, items_new i x is) (read_new m))
  ]

  parents_more : (i : ℕ) (x : Listed) → 0 < i → i < count + 1 → (get_or b.items.items i x).parent.0 ≡ get_or (ids_of nodes) (get_or (more_places places at) (get_or (ups_of b.items.items) i 0) 0) 0
  parents_more i x positive lt =
      let len = length-ids d.nodes in
      rw (ids_inserted d.nodes at node) (elim (cases_lt i count) [
        | inl old ↦ rw (ups_old i old, old_place (get_or (ups_of a.items.items) i 0) (up_is i old), items_old i x old)
            (g.stands.parents i x positive old ∙ sym (moved_read (ids_of d.nodes) at new.id.0 0 (get_or places (get_or (ups_of a.items.items) i 0) 0) (omega (arith, len, within))))
        | inr high ↦ (let is : i ≡ count = omega arith in
            rw (ups_new i is, old_place up up_within, items_new i x is)
            (sym (place_is parent.0 (ids_of d.nodes) (get_or places up 0) placed) ∙ sym (moved_read (ids_of d.nodes) at new.id.0 0 (get_or places up 0) (omega (arith, len, within)))))
      ])

  -- the node behind each one
  record Behind (i : ℕ) : Type 0 where
    next_within : get_or b.nexts.items i 0 < count + 1
    next_place : get_or (more_places places at) (get_or b.nexts.items i 0) 0 ≡ get_or (more_places places at) i 0 + 1

  behind_before : (i : ℕ) → i ≡ grows.before → Behind i
  behind_before i is =
      let here : get_or b.nexts.items i 0 ≡ count = rw (grows.nexts, is) (behind_here a.nexts.items grows.before (omega (arith, g.stands.next_count, before_within)) ∙ g.stands.next_count) in
      let old : get_or (more_places places at) i 0 ≡ get_or places grows.before 0 = rw is (old_place grows.before before_within ∙ shifted_low at (get_or places grows.before 0) (omega arith)) in
      record {
        next_within = omega (arith, here);
        next_place = new_place (get_or b.nexts.items i 0) here ∙ (let q : at ≡ get_or (more_places places at) i 0 + 1 = omega (arith, old) in q);
      }

  behind_other : (i : ℕ) → i < count → i ≢ grows.before → get_or (more_places places at) i 0 + 1 < count + 1 → Behind i
  behind_other i lt other short =
      let next : get_or b.nexts.items i 0 ≡ get_or a.nexts.items i 0 = rw grows.nexts (behind_old a.nexts.items grows.before i (omega (arith, g.stands.next_count, lt)) other) in
      let old = old_place i lt in
      let apart : get_or places i 0 ≢ get_or places grows.before 0 = λ e. other (g.stands.order.apart i grows.before (omega (arith, g.stands.count, lt)) (omega (arith, g.stands.count, before_within)) e) in
      elim (shifts at (get_or places i 0)) [
        | stays low e ↦ (let less : get_or places i 0 + 1 < at = omega (arith, low, apart) in
            let h = g.stands.behind i lt (omega (arith, less, within)) in
            let moved_to = old_place (get_or a.nexts.items i 0) h.0 in
            let stay = shifted_low at (get_or places (get_or a.nexts.items i 0) 0) (omega (arith, h.1, less)) in
            record {
              next_within = omega (arith, next, h.0);
              next_place = rw next (omega (arith, moved_to, stay, h.1, old, e));
            })
        | moves high e ↦ (let h = g.stands.behind i lt (omega (arith, old, e, short)) in
            let moved_to = old_place (get_or a.nexts.items i 0) h.0 in
            let move = shifted_high at (get_or places (get_or a.nexts.items i 0) 0) (omega (arith, h.1, high)) in
            record {
              next_within = omega (arith, next, h.0);
              next_place = rw next (omega (arith, moved_to, move, h.1, old, e));
            })
      ]

  behind_last : (i : ℕ) → i ≡ count → get_or (more_places places at) i 0 + 1 < count + 1 → Behind i
  behind_last i is short =
      let next : get_or b.nexts.items i 0 ≡ get_or a.nexts.items grows.before 0 =
      rw grows.nexts (behind_new a.nexts.items grows.before i (omega (arith, g.stands.next_count, before_within)) (omega (arith, g.stands.next_count, is))) in
      let here = new_place i is in
      let h = g.stands.behind grows.before before_within (omega (arith, here, short)) in
      let moved_to = old_place (get_or a.nexts.items grows.before 0) h.0 in
      let move = shifted_high at (get_or places (get_or a.nexts.items grows.before 0) 0) (omega (arith, h.1)) in
      record {
        next_within = omega (arith, next, h.0);
        next_place = rw next (omega (arith, moved_to, move, h.1, here));
      }

  behind_more : (i : ℕ) → i < count + 1 → get_or (more_places places at) i 0 + 1 < count + 1 → Behind i
  behind_more i lt short = elim (cases_lt i count) [
    | inl old ↦ elim (cases_eq i grows.before) [
      | inl same ↦ behind_before i same
      | inr other ↦ behind_other i old other short
    ]
    | inr high ↦ behind_last i (omega arith) short
  ]

  found_more : (id : ℕ) → place_of id (ids_of nodes) ≡ option_map (λ i. get_or (more_places places at) i 0) (number_of b.numbers id)
  found_more id =
      let len = length-ids d.nodes in
      rw (ids_inserted d.nodes at node, grows.numbers id) (elim (cases_eq id new.id.0) [
        | inl same ↦ (let t = eq-eqb id new.id.0 same in
            rw t (ap (λ (k : ℕ). place_of k (insert (ids_of d.nodes) at new.id.0)) same ∙ place_insert_here (ids_of d.nodes) at new.id.0 (omega (arith, len, within)) fresh
            ∙ ap (λ m. Some m) (sym (new_place (length a.items.items) g.stands.item_count))))
        | inr other ↦ (let t = ne_eqb id new.id.0 other in
            rw t (place_insert_other (ids_of d.nodes) at new.id.0 id (omega (arith, len, within)) (λ e. other (sym e)) ∙ ap (option_map (shifted at)) (g.found id)
            ∙ sym (places_more places at (number_of a.numbers id) (known_as (number_of a.numbers id) (g.known id)))))
      ])
    where
      known_as : (o : Option ℕ) → IfSome o (λ i. i < count) → IfSome o (λ i. i < length places)
      known_as None k = tt
      known_as (Some i) k = omega (arith, k, g.stands.count)

  known_more : (id : ℕ) → IfSome (number_of b.numbers id) (λ i. i < count + 1)
  known_more id = rw (grows.numbers id) (elim (cases_eq id new.id.0) [
    | inl same ↦ (let t = eq-eqb id new.id.0 same in rw t (omega (arith, g.stands.item_count)))
    | inr other ↦ (let t = ne_eqb id new.id.0 other in rw t (more (number_of a.numbers id) (g.known id)))
  ])
    where
      more : (o : Option ℕ) → IfSome o (λ i. i < count) → IfSome o (λ i. i < count + 1)
      more None k = tt
      more (Some i) k = omega (arith, k)

  lasts_up : (i : ℕ) → i ≡ up → get_or b.lasts.items i 0 ≡ count
  lasts_up i is = rw (grows.lasts, is) (child_here a.lasts.items up (omega (arith, g.last_count, up_within)) ∙ g.last_count)

  lasts_old : (i : ℕ) → i < count → i ≢ up → get_or b.lasts.items i 0 ≡ get_or a.lasts.items i 0
  lasts_old i lt other = rw grows.lasts (child_old a.lasts.items up i (omega (arith, g.last_count, lt)) other)

  lasts_new : (i : ℕ) → i ≡ count → get_or b.lasts.items i 0 ≡ i
  lasts_new i is = rw grows.lasts (child_new a.lasts.items up i (omega (arith, g.last_count, up_within)) (omega (arith, g.last_count, is)) ∙ (let q : length a.lasts.items ≡ i = omega (arith, g.last_count, is) in q))

  child_more : (i : ℕ) → i < count + 1 → get_or b.lasts.items i 0 ≢ i
      → (0 < get_or b.lasts.items i 0) × (get_or b.lasts.items i 0 < count + 1) × (get_or (ups_of b.items.items) (get_or b.lasts.items i 0) 0 ≡ i)
  child_more i lt own = elim (cases_eq i up) [
    | inl same ↦ (let l = lasts_up i same in (omega (arith, l, up_within), omega (arith, l), ups_new (get_or b.lasts.items i 0) l ∙ sym same))
    | inr other ↦ elim (cases_lt i count) [
      | inl old ↦ (let l = lasts_old i old other in
          let c = g.child i old (λ e. own (l ∙ e)) in
          (omega (arith, l, c.0), omega (arith, l, c.1), rw l (ups_old (get_or a.lasts.items i 0) c.1 ∙ c.2)))
      | inr high ↦ absurd (own (lasts_new i (omega arith)))
    ]
  ]

  -- a child of the parent stands before the place of the new one
  sibling_before : (k : ℕ) → 0 < k → k < count → get_or (ups_of a.items.items) k 0 ≡ up → get_or places k 0 < at
  sibling_before k positive lt is = elim (cases_lt (get_or places k 0) at) [
    | inl low ↦ low
    | inr high ↦ (let len = length-parents d.nodes in
        let p : get_or (parents_of d.nodes) (get_or places k 0) 0 ≡ get_or places up 0 = (linked d a g).parent k (omega (arith, len, lt)) ∙ ap (λ (m : ℕ). get_or places m 0) is in
        let h = parent_behind (parents_of d.nodes) g.stands.document.tree (get_or places up 0) at slot (get_or places k 0) high (omega (arith, len, place_within' k lt)) (omega (arith, p)) in
        absurd (omega (arith, h, p, slot.after)))
  ]

  last_more : (i k : ℕ) → 0 < k → k < count + 1 → get_or (ups_of b.items.items) k 0 ≡ i
      → (get_or b.lasts.items i 0 ≢ i) × (get_or (more_places places at) k 0 ≤ get_or (more_places places at) (get_or b.lasts.items i 0) 0)
  last_more i k positive lt is = elim (cases_lt k count) [
    | inl old ↦ (let was : get_or (ups_of a.items.items) k 0 ≡ i = sym (ups_old k old) ∙ is in
        let low = g.stands.ups k positive old in
        elim (cases_eq i up) [
          | inl same ↦ (let l = lasts_up i same in
              let s = sibling_before k positive old (was ∙ same) in
              let o = old_place k old in
              let e = shifted_low at (get_or places k 0) s in
              let n = new_place (get_or b.lasts.items i 0) l in
              (λ q. omega (arith, l, q, same, up_within), omega (arith, o, e, n, s)))
          | inr other ↦ (let l = lasts_old i (omega (arith, was, low, old)) other in
              let h = g.last i k positive old was in
              let c = g.child i (omega (arith, was, low, old)) h.0 in
              let o = old_place k old in
              let n = old_place (get_or a.lasts.items i 0) c.1 in
              let r = shifted_rises at (get_or places k 0) (get_or places (get_or a.lasts.items i 0) 0) h.1 in
              (λ q. h.0 (sym l ∙ q), rw l (omega (arith, o, n, r))))
        ])
    | inr high ↦ (let at_end : k ≡ count = omega arith in
        let same : i ≡ up = sym is ∙ ups_new k at_end in
        let l = lasts_up i same in
        (λ q. omega (arith, l, q, same, up_within), (let e : get_or b.lasts.items i 0 ≡ k = l ∙ sym at_end in rw e (omega arith))))
  ]

  stands_more : IsDocument put → IsListingOf put b.items.items b.nexts.items
  stands_more is = record {
    document = is;
    places = more_places places at;
    order = order_more places at (omega (arith, g.stands.count, within)) g.stands.order;
    count = length-more places at ∙ ap (λ (m : ℕ). m + 1) g.stands.count ∙ sym length-put;
    item_count = length-items ∙ sym length-put;
    next_count = length-nexts ∙ sym length-put;
    root = old_place 0 g.stands.document.some ∙ shifted_low at (get_or places 0 0) (omega (arith, g.stands.root)) ∙ g.stands.root;
    root_up = ups_old 0 g.stands.document.some ∙ g.stands.root_up;
    ups = λ i positive lt. elim (cases_lt i count) [
      | inl old ↦ (let u = g.stands.ups i positive old in rw (ups_old i old) u)
      | inr high ↦ (let is_last : i ≡ count = omega (arith, lt, length-put, high) in rw (ups_new i is_last) (omega (arith, up_within, high)))
    ];
    nodes = λ i m x lt. nodes_more i m x (omega (arith, lt, length-put));
    parents = λ i x positive lt. parents_more i x positive (omega (arith, lt, length-put));
    behind = λ i lt short. let h = behind_more i (omega (arith, lt, length-put)) (omega (arith, short, length-put)) in (omega (arith, h.next_within, length-put), h.next_place);
  }

  put_gathered : IsDocument put → IsGathered put b
  unfolding stands_more
  put_gathered is = record {
    stands = stands_more is;
    last_count = length-lasts ∙ sym length-put;
    found = found_more;
    known = λ id. rw length-put (known_more id);
    child = λ i lt own. let c = child_more i (omega (arith, lt, length-put)) own in (c.0, omega (arith, c.1, length-put), c.2);
    last = λ i k positive lt is_up. last_more i k positive (omega (arith, lt, length-put)) is_up;
    text = (let t = text_size_inserted d.nodes at node in omega (arith, t, grows.bytes, g.text));
  }

  pub gathered_more : IsNodeForm new.kind new.decls new.text → insert_fault d parent.0 (last_index d parent.0) new ≡ None → IsGathered (after_insert d parent.0 (last_index d parent.0) new) b
  gathered_more form none =
      let is : IsDocument (after_insert d parent.0 (last_index d parent.0) new) = edits_leave_documents d (Insert parent (last_index d parent.0) new) g.stands.document form none in
      subst (λ (e : Document). IsGathered e b) (sym put_is) (put_gathered (subst IsDocument put_is is))
