-- The nodes of a list are put in document order, each behind all before it.
use Rattle.std.proofs.Common.{◌≡◌, ◌≢◌, ℕ, ◌+◌, ◌<◌, true, List, [], ◌∷◌, length, get_or, take, refl, sym, ap, ◌∙◌, arith, inl, inr, None, subst}
use Rattle.std.proofs.lemmas.Bool.{cases_lt, ne_eqb}
use Rattle.std.proofs.lemmas.List.{get_or-map, take_more}
use Rattle.std.proofs.Math.Seq.{take-length}
use Rattle.lay_doc.specs.declared.node.Node.{Node}
use Rattle.lay_doc.specs.NewNodes.{is_element}
use Rattle.lay_doc.specs.Document.{Document, ids_of, becomes, root_document}
use Rattle.lay_doc.specs.Edits.{root_fault, insert_fault, after_insert, last_index}
use Rattle.lay_run.proofs.Cited.{element_read}
use Rattle.lay_run.specs.declared.gathered.listing.Listed.{Listed}
use Rattle.lay_run.specs.Gathered.Listings.{ups_of, depths_of as item_depths}
use Rattle.lay_run.specs.Gathered.Standing.{IsListingOf, HasPut}
use Rattle.lay_run.proofs.GatheredLemmas.Prefixes.{front, next_fits, next_put}

module _ (d : Document) (items : List Listed) (nexts : List ℕ) (s : IsListingOf d items nexts) where
  abbrev node_of : Listed → Node
  node_of x = becomes x.new 0 0

  -- the root stands first
  root_at : (x : Listed) (n : Node) → get_or d.nodes 0 n ≡ becomes (get_or items 0 x).new (get_or s.places (get_or (ups_of items) 0 0) 0) (get_or (item_depths items) 0 0)
  root_at x n = ap (λ (k : ℕ). get_or d.nodes k n) (sym s.root) ∙ s.nodes 0 n x s.document.some

  root_parent : (x : Listed) → get_or s.places (get_or (ups_of items) 0 0) 0 ≡ 0
  root_parent x = ap (λ (k : ℕ). get_or s.places k 0) s.root_up ∙ s.root

  root_depth : (x : Listed) → get_or (item_depths items) 0 0 ≡ 1
  root_depth x = sym (get_or-map (λ (n : Node). n.depth) d.nodes 0 (node_of x) 0 s.document.some ∙ ap (λ (n : Node). n.depth) (root_at x (node_of x))) ∙ s.document.depth_root

  pub root_fits : (x : Listed) → root_fault (get_or items 0 x).new ≡ None
  root_fits x =
      let id = get_or-map (λ (n : Node). n.id.0) d.nodes 0 (node_of x) 0 s.document.some ∙ ap (λ (n : Node). n.id.0) (root_at x (node_of x)) in
      let element : is_element (get_or items 0 x).new.kind ≡ true = ap (λ (n : Node). is_element n.kind) (sym (root_at x (node_of x))) ∙ element_read d.nodes 0 (node_of x) s.document.some ∙ s.document.root_element in
      let named = ne_eqb (get_or items 0 x).new.id.0 0 (λ e. let p = s.document.named 0 s.document.some in omega (arith, p, id, e)) in
      rw (element, named) refl

  pub root_put : (x : Listed) → root_document d.width d.height (get_or items 0 x).new ≡ front d 1
  root_put x =
      let one : take 1 d.nodes ≡ get_or d.nodes 0 (node_of x) ∷ [] = take_more d.nodes 0 (node_of x) s.document.some in
      let first : becomes (get_or items 0 x).new 0 1 ≡ get_or d.nodes 0 (node_of x) =
      ap (λ (k : ℕ). becomes (get_or items 0 x).new k 1) (sym (root_parent x)) ∙ ap (λ (k : ℕ). becomes (get_or items 0 x).new (get_or s.places (get_or (ups_of items) 0 0) 0) k) (sym (root_depth x)) ∙ sym (root_at x (node_of x)) in
      ap (λ (ns : List Node). record { width = d.width; height = d.height; nodes = ns }) (ap (λ (n : Node). n ∷ []) first ∙ sym one)

  -- the node behind the last one that was put
  pub record IsNext (at m : ℕ) : Type 0 where
    pub within : at < length items
    pub place : get_or s.places at 0 ≡ m
    pub fits : (x : Listed) → insert_fault (front d m) (get_or items at x).parent.0 (last_index (front d m) (get_or items at x).parent.0) (get_or items at x).new ≡ None
    pub put : (x : Listed) → after_insert (front d m) (get_or items at x).parent.0 (last_index (front d m) (get_or items at x).parent.0) (get_or items at x).new ≡ front d (m + 1)

  pub next_is : (at m : ℕ) → at < length items → get_or s.places at 0 + 1 ≡ m → m < length d.nodes → IsNext (get_or nexts at 0) m
  next_is at m within last lt =
      let b = s.behind at (omega (arith, within, s.item_count)) (omega (arith, last, lt)) in
      let next = get_or nexts at 0 in
      let place : get_or s.places next 0 ≡ m = b.1 ∙ last in
      let positive : 0 < next = elim (cases_lt 0 next) [
        | inl some ↦ some
        | inr none ↦ (let z : next ≡ 0 = omega arith in let e = ap (λ (k : ℕ). get_or s.places k 0) z in absurd (omega (arith, e, place, s.root, last)))
      ] in
      let up = get_or s.places (get_or (ups_of items) next 0) 0 in
      let depth = get_or (item_depths items) next 0 in
      let stands : (x : Listed) (n : Node) → get_or d.nodes m n ≡ becomes (get_or items next x).new up depth = λ x n. ap (λ (k : ℕ). get_or d.nodes k n) (sym place) ∙ s.nodes next n x b.0 in
      let parent : (x : Listed) → (get_or items next x).parent.0 ≡ get_or (ids_of d.nodes) up 0 = λ x. s.parents next x positive b.0 in
      record {
        within = omega (arith, b.0, s.item_count);
        place = place;
        fits = λ x. rw (parent x) (next_fits d s.document m (omega (arith, last)) lt (get_or items next x).new up depth (stands x));
        put = λ x. rw (parent x) (next_put d s.document m (omega (arith, last)) lt (get_or items next x).new up depth (stands x));
      }

-- the root is put
pub put_first : (d : Document) (items : List Listed) (nexts : List ℕ) → IsListingOf d items nexts → (put : Document) (left : List Listed) → put ≡ front d 1 → length left ≡ length items
    → ((i : ℕ) (x : Listed) → i ≢ 0 → get_or left i x ≡ get_or items i x) → HasPut d items nexts put left 0 1
put_first d items nexts s put left is count others = record {
  stands = s;
  count = count;
  within = omega (arith, s.item_count, s.document.some);
  last = omega (arith, s.root);
  before = is;
  rest = λ i x lt high. others i x (λ z. let e = ap (λ (k : ℕ). get_or s.places k 0) z in omega (arith, e, s.root, high));
}

-- one more node is put
pub put_more : (d : Document) (items : List Listed) (nexts : List ℕ) (put : Document) (left : List Listed) (at m : ℕ) → HasPut d items nexts put left at m → m < length d.nodes
    → (more : Document) (fewer : List Listed) → more ≡ front d (m + 1) → length fewer ≡ length left
    → ((i : ℕ) (x : Listed) → i ≢ get_or nexts at 0 → get_or fewer i x ≡ get_or left i x) → HasPut d items nexts more fewer (get_or nexts at 0) (m + 1)
put_more d items nexts put left at m h lt more fewer is count others =
    let n = next_is d items nexts h.stands at m h.within h.last lt in
    record {
      stands = h.stands;
      count = count ∙ h.count;
      within = n.within;
      last = omega (arith, n.place);
      before = is;
      rest = λ i x less high. others i x (λ z. let e = ap (λ (k : ℕ). get_or h.stands.places k 0) z in omega (arith, e, n.place, high)) ∙ h.rest i x less (omega (arith, high));
    }

-- the node that is taken out next has no fault, and is put behind all others
module _ (d : Document) (items : List Listed) (nexts : List ℕ) (put : Document) (left : List Listed) (at m : ℕ) (h : HasPut d items nexts put left at m) (lt : m < length d.nodes) (taken : Listed) (is : (x : Listed) → taken ≡ get_or left (get_or nexts at 0) x) where
  pub next_within : get_or nexts at 0 < length left
  next_within = let n = next_is d items nexts h.stands at m h.within h.last lt in omega (arith, n.within, h.count)

  item : taken ≡ get_or items (get_or nexts at 0) taken
  item = let n = next_is d items nexts h.stands at m h.within h.last lt in is taken ∙ h.rest (get_or nexts at 0) taken n.within (omega (arith, n.place))

  pub may_push : insert_fault put taken.parent.0 (last_index put taken.parent.0) taken.new ≡ None
  may_push =
      let n = next_is d items nexts h.stands at m h.within h.last lt in
      let one = subst (λ (y : Listed). insert_fault (front d m) y.parent.0 (last_index (front d m) y.parent.0) y.new ≡ None) (sym item) (n.fits taken) in
      subst (λ (e : Document). insert_fault e taken.parent.0 (last_index e taken.parent.0) taken.new ≡ None) (sym h.before) one

  pub pushed : after_insert put taken.parent.0 (last_index put taken.parent.0) taken.new ≡ front d (m + 1)
  pushed =
      let n = next_is d items nexts h.stands at m h.within h.last lt in
      let one = subst (λ (y : Listed). after_insert (front d m) y.parent.0 (last_index (front d m) y.parent.0) y.new ≡ front d (m + 1)) (sym item) (n.put taken) in
      subst (λ (e : Document). after_insert e taken.parent.0 (last_index e taken.parent.0) taken.new ≡ front d (m + 1)) (sym h.before) one

pub all_put : (d : Document) → front d (length d.nodes) ≡ d
all_put d = ap (λ ns. record d { nodes = ns }) (take-length d.nodes)
