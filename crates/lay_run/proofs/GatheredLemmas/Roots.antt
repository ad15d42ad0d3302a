-- The list of a root alone, and the sides of a document that is made of a list.
use Rattle.std.proofs.Common.{◌≡◌, ℕ, ◌+◌, ◌<◌, ◌≤◌, Bool, true, false, List, [], ◌∷◌, ◌++◌, length, get_or, refl, sym, ap, ◌∙◌, arith, inl, inr, Option, Some, None}
use Rattle.std.proofs.lemmas.Bool.{cases_eq, eq-eqb, ne_eqb}
use Rattle.std.proofs.lemmas.List.Elements.{All-cons}
use Rattle.std.proofs.lemmas.List.Sums.{sum_by-cons}
use Rattle.lay_style.specs.Places.{place_of}
use Rattle.lay_style.specs.Values.{Declaration}
use Rattle.lay_run.proofs.Cited.{place_here, place_later}
use Rattle.lay_doc.specs.declared.node.Node.{Node}
use Rattle.lay_doc.specs.declared.node.NodeId.{NodeId}
use Rattle.lay_doc.specs.declared.node.Kind.{Kind}
use Rattle.lay_doc.specs.declared.node.Kind.TheVariants.{Element, Text, Replaced}
use Rattle.lay_doc.specs.NewNodes.{NewNodeValue, IsNodeForm, is_element}
use Rattle.lay_doc.specs.Document.{Document, IsDocument, IsNode, ids_of, text_size, root_document, becomes}
use Rattle.lay_doc.specs.Edits.{root_fault, after_insert, last_index}
use Rattle.lay_run.specs.declared.gathered.listing.Listed.{Listed}
use Rattle.lay_run.specs.declared.gathered.listing.Listing.{Listing}
use Rattle.lay_run.specs.Gathered.ListedDocuments.{with_last, with_each, listed_document}
use Rattle.lay_run.specs.Gathered.Listings.{depths_of}
use Rattle.lay_run.specs.Gathered.Growth.{IsOfRoot, Grows, IsSame}
use Rattle.lay_run.specs.Gathered.Standing.{IsGathered}

-- a root without a fault
record IsRoot (root : NewNodeValue) : Type 0 where
  of_element : is_element root.kind ≡ true
  named : 0 < root.id.0

root_without_fault : (root : NewNodeValue) → root_fault root ≡ None → IsRoot root
root_without_fault root none = by (is_element root.kind) refl
  where
    by : (b : Bool) → is_element root.kind ≡ b → IsRoot root
    by false e = let h = rw e at none in absurd cc
    by true e = elim (cases_eq root.id.0 0) [
      | inl same ↦ (let t = eq-eqb root.id.0 0 same in let h = rw (e, t) at none in absurd cc)
      | inr other ↦ record { of_element = e; named = omega (arith, other) }
    ]

no_text : (k : Kind) (decls : List Declaration) (text : List ℕ) → is_element k ≡ true → IsNodeForm k decls text → text ≡ []
no_text (Element colspan rowspan) decls text e form = form.0
no_text Text decls text e form = absurd cc
no_text (Replaced w h) decls text e form = absurd cc

one_text : (n : Node) → text_size (n ∷ []) ≡ length n.text
one_text n = let a = sum_by-cons (λ (m : Node). length m.text) n [] in omega (arith, a)

pub root_is_document : (width height : ℕ) (root : NewNodeValue) → 1 ≤ width → width ≤ 1000000 → 1 ≤ height → height ≤ 1000000 → IsNodeForm root.kind root.decls root.text → root_fault root ≡ None → IsDocument (root_document width height root)
root_is_document width height root wide narrow high low form none =
    let is = root_without_fault root none in
    let text = no_text root.kind root.decls root.text is.of_element form in
    let bytes : length root.text ≡ 0 = ap length text in
    record {
      wide = wide;
      narrow = narrow;
      high = high;
      low = low;
      some = omega arith;
      few = omega arith;
      tree = record { root = refl; before = λ k positive lt. absurd (omega arith); together = λ j k less lt lower. absurd (omega arith) };
      forms = All-cons IsNode (becomes root 0 1) [] form (λ i e lt. absurd (omega arith));
      root_element = is.of_element;
      parent_elements = λ k positive lt. absurd (omega arith);
      ids = λ j k less lt same. omega arith;
      named = λ k lt. let z : k ≡ 0 = omega arith in rw z is.named;
      depth_root = refl;
      depth = λ k positive lt. absurd (omega arith);
      shallow = λ k lt. let z : k ≡ 0 = omega arith in rw z (omega arith);
      short = λ k lt. let z : k ≡ 0 = omega arith in rw (z, bytes) (omega arith);
      small = (let t = one_text (becomes root 0 1) in omega (arith, t, bytes));
    }

pub root_gathered : (width height : ℕ) (root : NewNodeValue) (l : Listing) → IsDocument (root_document width height root) → IsOfRoot l root → IsGathered (root_document width height root) l
root_gathered width height root l is of = record {
  stands = record {
    document = is;
    places = 0 ∷ [];
    order = record {
      within = λ i lt. let z : i ≡ 0 = omega arith in rw z (omega arith);
      apart = λ i j il jl e. omega arith;
      each = λ k lt. record { number = 0; within = omega arith; stands = omega arith };
    };
    count = refl;
    item_count = rw of.items refl;
    next_count = rw of.nexts refl;
    root = refl;
    root_up = rw of.items refl;
    ups = λ i positive lt. absurd (omega arith);
    nodes = λ i n x lt. let z : i ≡ 0 = omega arith in rw (z, of.items) refl;
    parents = λ i x positive lt. absurd (omega arith);
    behind = λ i lt short. let z : i ≡ 0 = omega arith in absurd (let h = rw z at short in omega (arith, h));
  };
  last_count = rw of.lasts refl;
  found = λ id. rw (of.numbers id) (elim (cases_eq id root.id.0) [
    | inl e ↦ (let t = eq-eqb id root.id.0 e in rw t (place_here id root.id.0 [] (sym e)))
    | inr other ↦ (let t = ne_eqb id root.id.0 other in rw t (place_later id root.id.0 [] (λ e. other (sym e))))
  ]);
  known = λ id. rw (of.numbers id) (elim (cases_eq id root.id.0) [
    | inl e ↦ (let t = eq-eqb id root.id.0 e in rw t (omega arith))
    | inr other ↦ (let t = ne_eqb id root.id.0 other in rw t tt)
  ]);
  child = λ i lt own. let z : i ≡ 0 = omega arith in absurd (own (rw (z, of.lasts) refl));
  last = λ i k positive lt up. absurd (omega arith);
  text = of.bytes ∙ sym (one_text (becomes root 0 1));
}

-- a node that is put into a document leaves the viewport as it is
record Sides (d e : Document) : Type 0 where
  pub width : e.width ≡ d.width
  pub height : e.height ≡ d.height

put_sides : (d : Document) (x : Listed) → Sides d (with_last d x)
put_sides d x = by (place_of x.parent.0 (ids_of d.nodes)) refl
  where
    by : (o : Option ℕ) → place_of x.parent.0 (ids_of d.nodes) ≡ o → Sides d (with_last d x)
    by None e = record { width = rw e refl; height = rw e refl }
    by (Some p) e = record { width = rw e refl; height = rw e refl }

each_sides : (d : Document) (xs : List Listed) → Sides d (with_each d xs)
each_sides d [] = record { width = refl; height = refl }
each_sides d (x ∷ xs) =
    let one = put_sides d x in
    let rest = each_sides (with_last d x) xs in
    record { width = rest.width ∙ one.width; height = rest.height ∙ one.height }

pub listed_width : (width height : ℕ) (xs : List Listed) → (listed_document width height xs).width ≡ width
listed_width width height [] = refl
listed_width width height (x ∷ xs) = (each_sides (root_document width height x.new) xs).width

pub listed_height : (width height : ℕ) (xs : List Listed) → (listed_document width height xs).height ≡ height
listed_height width height [] = refl
listed_height width height (x ∷ xs) = (each_sides (root_document width height x.new) xs).height

-- a node at the end of a list is put last
each_more : (d : Document) (xs : List Listed) (x : Listed) → with_each d (xs ++ x ∷ []) ≡ with_last (with_each d xs) x
each_more d [] x = refl
each_more d (y ∷ ys) x = each_more (with_last d y) ys x

pub listed_more : (width height : ℕ) (xs : List Listed) (x : Listed) → 0 < length xs → listed_document width height (xs ++ x ∷ []) ≡ with_last (listed_document width height xs) x
listed_more width height [] x some = absurd (omega arith)
listed_more width height (y ∷ ys) x some = each_more (root_document width height y.new) ys x

-- a list that grows by one node is one of the document with that node put last
pub grown_document : (width height : ℕ) (a b : Listing) (parent : NodeId) (up : ℕ) (new : NewNodeValue) → Grows a b parent up new → 0 < length a.items.items
    → listed_document width height b.items.items ≡ after_insert (listed_document width height a.items.items) parent.0 (last_index (listed_document width height a.items.items) parent.0) new
grown_document width height a b parent up new grows some =
    ap (listed_document width height) grows.items ∙ listed_more width height a.items.items (record { parent = parent; up = up; depth = get_or (depths_of a.items.items) up 0 + 1; new = new }) some

-- the same nodes, links and numbers keep the same facts
pub same_gathered : (d : Document) (a b : Listing) → IsGathered d a → IsSame a b → IsGathered d b
same_gathered d a b g same = record {
  stands = record {
    document = g.stands.document;
    places = g.stands.places;
    order = g.stands.order;
    count = g.stands.count;
    item_count = rw same.items g.stands.item_count;
    next_count = rw same.nexts g.stands.next_count;
    root = g.stands.root;
    root_up = rw same.items g.stands.root_up;
    ups = rw same.items g.stands.ups;
    nodes = rw same.items g.stands.nodes;
    parents = rw same.items g.stands.parents;
    behind = rw same.nexts g.stands.behind;
  };
  last_count = rw same.lasts g.last_count;
  found = λ id. rw (same.numbers id) (g.found id);
  known = λ id. rw (same.numbers id) (g.known id);
  child = rw (same.lasts, same.items) g.child;
  last = rw (same.lasts, same.items) g.last;
  text = rw same.bytes g.text;
}
