-- In the list of a context's boxes those of inner contexts are of contexts.
use Rattle.std.proofs.Common.{◌≡◌, ◌<◌, ℕ, zero, suc, ◌+◌, ◌==◌, Bool, true, false, All, List, [], ◌∷◌, ◌++◌, refl, ap, sym, subst, ◌∙◌, if◌then◌else◌, Option, None, Some, option_map, length, slice_index, arith}
use Rattle.lay_style.specs.declared.style.Style.{Style}
use Rattle.lay_style.specs.Places.{place_of}
use Rattle.lay_doc.specs.Document.{Document, IsDocument, ids_of}
use Rattle.lay_boxgen.proofs.Cited.{length-ids}
use Rattle.lay_boxgen.specs.Boxes.{Tree, Trees, tree, no_trees, also, trees_of, facts_of}
use Rattle.lay_boxgen.specs.Contexts.{IsContextAt, IsContextThere}
use Rattle.lay_boxgen.specs.InnerBoxes.{AllBoxes, AllIn, AllOf, IsInnerContext, LeadsOn, IsPlaceBehind, BoxesLeadOn}
use Rattle.lay_boxgen.specs.Listing.{box_node, listed, all_listed, listed_part, boxes_at, boxes_of}
use Rattle.lay_boxgen.specs.Parts.{is_closed, put, all_put, put_list, nothing, whole, part}
use Rattle.lay_box_tree.specs.declared.box_tree.BoxNode.{BoxNode}
use Rattle.lay_boxgen.specs.declared.facts.Facts.{Facts}
use Rattle.lay_boxgen.proofs.InnerContexts.{inner_boxes_are_contexts}

module _ (P : Facts → Type 0) where
  part_by : (us : Trees) → AllIn P us → AllIn P (all_put nothing us) → (b : Bool) → AllIn P (if b then no_trees else all_put nothing us)
  part_by us h g true = tt
  part_by us h g false = g

  mutual
    in-part : (t : Tree) → AllBoxes P t → AllBoxes P (put nothing t)
    in-part (tree f us) h = (h.0, part_by us h.1 (all-in-part us h.1) (is_closed f))

    all-in-part : (us : Trees) → AllIn P us → AllIn P (all_put nothing us)
    all-in-part no_trees h = tt
    all-in-part (also t ts) h = (in-part t h.0, all-in-part ts h.1)

  list-in-part : (ts : List Tree) → AllOf P ts → AllOf P (put_list nothing ts)
  list-in-part [] h = tt
  list-in-part (t ∷ ts) h = (in-part t h.0, list-in-part ts h.1)

  in-list : (ts : List Tree) → AllOf P ts → AllIn P (trees_of ts)
  in-list [] h = tt
  in-list (t ∷ ts) h = (h.0, in-list ts h.1)

-- a fact of each member, member by member
abbrev Each : {X : Type 0} → (X → Type 0) → List X → Type 0
Each Q [] = Unit {0}
Each Q (x ∷ xs) = Q x × Each Q xs

all-each : {X : Type 0} (Q : X → Type 0) (xs : List X) → Each Q xs → All Q xs
all-each Q [] h k d less = absurd (omega (arith, less))
all-each Q (x ∷ xs) h zero d less = h.0
all-each Q (x ∷ xs) h (suc k) d less = all-each Q xs h.1 k d (omega (arith, less))

all-append : {X : Type 0} (Q : X → Type 0) (xs ys : List X) → Each Q xs → Each Q ys → Each Q (xs ++ ys)
all-append Q [] ys h g = g
all-append Q (x ∷ xs) ys h g = (h.0, all-append Q xs ys h.1 g)

-- the place of an id is the only one that has it
place-found : (ids : List ℕ) (k : ℕ) → k < length ids → ((j : ℕ) → j < k → slice_index ids j ≡ slice_index ids k → ⊥) → place_of (slice_index ids k) ids ≡ Some k
place-found [] k less h = absurd (omega (arith, less))
place-found (x ∷ xs) zero less h = simp (same x) refl
  where
    same : (y : ℕ) → (y == y) ≡ true
    same y = grind (arith)
place-found (x ∷ xs) (suc k) less h =
    let other : (x == slice_index xs k) ≡ false = differs x (slice_index xs k) (h 0 (omega arith)) in
    simp other (ap (option_map suc) (place-found xs k (omega (arith, less)) (λ j low e. h (suc j) (omega (arith, low)) e)))
  where
    differs : (a b : ℕ) → (a ≡ b → ⊥) → (a == b) ≡ false
    differs a b n = grind (arith, n)

module _ (d : Document) (styles : List Style) (id k : ℕ) (doc : IsDocument d) (at : place_of id (ids_of d.nodes) ≡ Some k) where
  leads : (f : Facts) → IsInnerContext d.nodes styles k f → (b : BoxNode) → b.node ≡ f.node → b.inner ≡ f.inner → LeadsOn d styles id b
  leads f p b n i inner =
      let c = p (sym i ∙ inner) in
      let found : place_of b.node.0 (ids_of d.nodes) ≡ Some f.place =
      ap (λ x. place_of x (ids_of d.nodes)) (ap (λ x. x.0) n ∙ sym c.node)
      ∙ place-found (ids_of d.nodes) f.place (subst (λ m. f.place < m) (sym (length-ids d.nodes)) c.within) (λ j low e. doc.ids j f.place low c.within e) in (
        subst (IsContextThere d.nodes styles) (sym found) c.context,
        subst (λ o. IsPlaceBehind o (place_of b.node.0 (ids_of d.nodes))) (sym at) (subst (IsPlaceBehind (Some k)) (sym found) c.behind),
      )

  mutual
    listed-leads : (above : Facts) (parent here : ℕ) (t : Tree) → AllBoxes (IsInnerContext d.nodes styles k) t → Each (LeadsOn d styles id) (listed d.nodes styles above parent here t)
    listed-leads above parent here (tree f us) h = (leads f h.0 (box_node d.nodes styles above parent f) refl refl, all-listed-lead f here (here + 1) us h.1)

    all-listed-lead : (above : Facts) (parent here : ℕ) (us : Trees) → AllIn (IsInnerContext d.nodes styles k) us → Each (LeadsOn d styles id) (all_listed d.nodes styles above parent here us)
    all-listed-lead above parent here no_trees h = tt
    all-listed-lead above parent here (also t ts) h =
        all-append (LeadsOn d styles id) (listed d.nodes styles above parent here t)
        (all_listed d.nodes styles above parent (here + length (listed d.nodes styles above parent here t)) ts)
        (listed-leads above parent here t h.0)
        (all-listed-lead above parent (here + length (listed d.nodes styles above parent here t)) ts h.1)

  part-leads : (ts : List Tree) → AllOf (IsInnerContext d.nodes styles k) ts → Each (LeadsOn d styles id) (listed_part d.nodes styles ts)
  part-leads [] h = tt
  part-leads (t ∷ ts) h = all-listed-lead (facts_of t) 0 0 (trees_of (t ∷ ts)) (in-list (IsInnerContext d.nodes styles k) (t ∷ ts) h)

  boxes-lead : IsContextAt d.nodes styles k → Each (LeadsOn d styles id) (boxes_of d styles id)
  boxes-lead c = subst (λ o. Each (LeadsOn d styles id) (boxes_at d.nodes styles o)) (sym at)
      (part-leads (part d.nodes styles k) (list-in-part (IsInnerContext d.nodes styles k) (whole d.nodes styles k) (inner_boxes_are_contexts d.nodes styles k c.generates)))

boxes_by : (d : Document) (styles : List Style) (id : ℕ) → IsDocument d → (o : Option ℕ) → place_of id (ids_of d.nodes) ≡ o → IsContextThere d.nodes styles o
    → Each (LeadsOn d styles id) (boxes_of d styles id)
boxes_by d styles id doc None e c = absurd c
boxes_by d styles id doc (Some k) e c = boxes-lead d styles id k doc e c

pub boxes_lead_on : BoxesLeadOn
boxes_lead_on d styles id doc c = all-each (LeadsOn d styles id) (boxes_of d styles id) (boxes_by d styles id doc (place_of id (ids_of d.nodes)) refl c)
