-- The first fault of a node in terms of its list is that of the document, and one that has none fits.
use Rattle.std.proofs.Common.{◌≡◌, ℕ, zero, suc, ◌+◌, ◌<◌, ◌≤◌, ◌==◌, ◌||◌, not, Bool, true, false, List, [], ◌∷◌, length, get_or, refl, sym, ap, ◌∙◌, arith, Option, Some, None, option_map, is_some, nat_lt, nat_le, if◌then◌else◌}
use Rattle.std.proofs.lemmas.Bool.{le-ltb, leb-false, ltb-false, or_parts}
use Rattle.std.proofs.lemmas.List.{get_or-map}
use Rattle.lay_units.specs.Limits.{longest_text, most_depth, most_nodes, most_text}
use Rattle.lay_style.specs.Places.{place_of}
use Rattle.lay_doc.specs.declared.node.Node.{Node}
use Rattle.lay_doc.specs.declared.edit.EditFault.{EditFault}
use Rattle.lay_doc.specs.declared.edit.EditFault.TheVariants.{NoNode, NotElement, IdTaken, TooManyNodes, TooDeep, TextTooLong}
use Rattle.lay_doc.specs.NewNodes.{NewNodeValue, is_element}
use Rattle.lay_doc.specs.Tree.{child_count}
use Rattle.lay_doc.specs.Document.{Document, parents_of, ids_of, depths_of, text_size, is_element_at, is_too_long, becomes}
use Rattle.lay_doc.specs.Edits.{insert_fault, last_index}
use Rattle.lay_run.proofs.Cited.{element_read}
use Rattle.lay_run.specs.declared.gathered.listing.Listed.{Listed}
use Rattle.lay_run.specs.declared.gathered.listing.Listing.{Listing}
use Rattle.lay_run.specs.Gathered.Numbers.{number_of}
use Rattle.lay_run.specs.Gathered.Listings.{insertion_fault, is_listed_element as is_item_element, depths_of as item_depths}
use Rattle.lay_run.specs.Gathered.Standing.{IsGathered}

pub item_element : (items : List Listed) (k : ℕ) (x : Listed) → k < length items → is_element (get_or items k x).new.kind ≡ is_item_element items k
item_element [] k x lt = absurd (omega arith)
item_element (y ∷ ys) zero x lt = refl
item_element (y ∷ ys) (suc k) x lt = item_element ys k x (omega arith)

pub item_at : (items : List Listed) (k : ℕ) → k < length items → Listed
item_at [] k lt = absurd (omega arith)
item_at (y ∷ ys) zero lt = y
item_at (y ∷ ys) (suc k) lt = item_at ys k (omega arith)

some_mapped : (f : ℕ → ℕ) (o : Option ℕ) → is_some (option_map f o) ≡ is_some o
some_mapped f None = refl
some_mapped f (Some k) = refl

pub no_parent : (d : Document) (l : Listing) → IsGathered d l → (parent : ℕ) (new : NewNodeValue) → number_of l.numbers parent ≡ None → insert_fault d parent (last_index d parent) new ≡ Some NoNode
no_parent d l g parent new none =
    let placed : place_of parent (ids_of d.nodes) ≡ None = g.found parent ∙ ap (option_map (λ i. get_or g.stands.places i 0)) none in
    rw placed refl

pub fault_is : (d : Document) (l : Listing) → IsGathered d l → (parent up : ℕ) (new : NewNodeValue) → number_of l.numbers parent ≡ Some up → insert_fault d parent (last_index d parent) new ≡ insertion_fault l up new
fault_is d l g parent up new number =
    let places = g.stands.places in
    let up_within : up < length d.nodes = (let k = g.known parent in rw number at k) in
    let placed : place_of parent (ids_of d.nodes) ≡ Some (get_or places up 0) = g.found parent ∙ ap (option_map (λ i. get_or places i 0)) number in
    let within : get_or places up 0 < length d.nodes = (let w = g.stands.order.within up (omega (arith, g.stands.count, up_within)) in omega (arith, w, g.stands.count)) in
    let item = item_at l.items.items up (omega (arith, g.stands.item_count, up_within)) in
    let node : Node = becomes item.new 0 0 in
    let stands = g.stands.nodes up node item up_within in
    let element : is_element_at d.nodes (get_or places up 0) ≡ is_item_element l.items.items up =
    sym (element_read d.nodes (get_or places up 0) node within) ∙ ap (λ (n : Node). is_element n.kind) stands ∙ item_element l.items.items up item (omega (arith, g.stands.item_count, up_within)) in
    let taken : is_some (place_of new.id.0 (ids_of d.nodes)) ≡ is_some (number_of l.numbers new.id.0) = ap is_some (g.found new.id.0) ∙ some_mapped (λ i. get_or places i 0) (number_of l.numbers new.id.0) in
    let index : nat_lt (child_count (parents_of d.nodes) (get_or places up 0)) (child_count (parents_of d.nodes) (get_or places up 0)) ≡ false = le-ltb _ _ (omega arith) in
    let count : length d.nodes ≡ length l.items.items = sym g.stands.item_count in
    let depth : get_or (depths_of d.nodes) (get_or places up 0) 0 ≡ get_or (item_depths l.items.items) up 0 =
    get_or-map (λ (n : Node). n.depth) d.nodes (get_or places up 0) node 0 within ∙ ap (λ (n : Node). n.depth) stands in
    let size : text_size d.nodes ≡ l.text_bytes = sym g.text in
    rw (placed, element, taken, index, count, depth, size) refl

-- a node that has no fault
pub record Fits (l : Listing) (up : ℕ) (new : NewNodeValue) : Type 0 where
  pub fresh : number_of l.numbers new.id.0 ≡ None
  pub few : length l.items.items < most_nodes
  pub shallow : get_or (item_depths l.items.items) up 0 < most_depth
  pub small : l.text_bytes + length new.text ≤ most_text

record Passed (b : Bool) (rest : Option EditFault) : Type 0 where
  no : b ≡ false
  after : rest ≡ None

passed : (b : Bool) (f : EditFault) (rest : Option EditFault) → (if b then Some f else rest) ≡ None → Passed b rest
passed true f rest h = absurd cc
passed false f rest h = record { no = refl; after = h }

none_there : (o : Option ℕ) → is_some o ≡ false → o ≡ None
none_there None h = refl
none_there (Some k) h = absurd cc

pub fits : (l : Listing) (up : ℕ) (new : NewNodeValue) → insertion_fault l up new ≡ None → Fits l up new
fits l up new none =
    let a = passed (not (is_item_element l.items.items up)) NotElement _ none in
    let b = passed ((new.id.0 == 0) || is_some (number_of l.numbers new.id.0)) IdTaken _ a.after in
    let e = passed (nat_le most_nodes (length l.items.items)) TooManyNodes _ b.after in
    let h = passed (nat_le most_depth (get_or (item_depths l.items.items) up 0)) TooDeep _ e.after in
    let t = passed (is_too_long l.text_bytes (length new.text)) TextTooLong _ h.after in
    record {
      fresh = none_there (number_of l.numbers new.id.0) (or_parts (new.id.0 == 0) (is_some (number_of l.numbers new.id.0)) b.no).1;
      few = leb-false most_nodes (length l.items.items) e.no;
      shallow = leb-false most_depth (get_or (item_depths l.items.items) up 0) h.no;
      small = ltb-false most_text (l.text_bytes + length new.text) (or_parts (nat_lt longest_text (length new.text)) (nat_lt most_text (l.text_bytes + length new.text)) t.no).1;
    }
