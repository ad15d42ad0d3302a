-- Contexts that are built of those before edits of declarations or texts.
use Rattle.std.proofs.Common.{◌≡◌, inl, inr, ℕ, ◌+◌, ◌<◌, ◌≤◌, Bool, false, List, [], ◌∷◌, ◌++◌, length, ap, sym, subst, ◌∙◌, arith, slice_index}
use Rattle.std.proofs.lemmas.Bool.{cases_lt}
use Rattle.std.proofs.lemmas.Grind.{elements}
use Rattle.std.proofs.lemmas.List.{get_or-map}
use Rattle.lay_style.specs.declared.style.Style.{Style}
use Rattle.lay_after_edits.proofs.Cited.{are_contexts, context_within, end_is_slot, length-ids, length-parents, place_within}
use Rattle.lay_doc.specs.declared.edit.Edit.{Edit}
use Rattle.lay_doc.specs.Document.{Document, IsDocument, ids_of, parents_of}
use Rattle.lay_box_tree.specs.declared.box_tree.BoxNode.{BoxNode}
use Rattle.lay_boxgen.specs.Contexts.{IsContextAt}
use Rattle.lay_contexts.specs.ContextList.{AreContextsOf}
use Rattle.lay_contexts.specs.Contexts.{AreContexts, Context, boxes_in, context_at}
use Rattle.lay_contexts.specs.ContextTree.{boxes_of_place}
use Rattle.lay_contexts.specs.DocumentContexts.{root_spot, spot_at}
use Rattle.lay_contexts.specs.declared.context_spot.ContextSpot.{ContextSpot}
use Rattle.lay_after_edits.specs.Contexts.Anchored.{IsAnchored, IsNarrowed}
use Rattle.lay_after_edits.specs.Contexts.Building.{AreBuiltTo, IsBuilt}
use Rattle.lay_after_edits.specs.Contexts.Edited.{IsEdited}
use Rattle.lay_after_edits.specs.Contexts.Reach.{ArePlacesOf, AreReachFlags, IsEditReach, IsReachedContext, IsRestyled}
use Rattle.lay_after_edits.specs.Contexts.Rebuilt.{AreRebuilt, SameBoxes}
use Rattle.lay_after_edits.specs.declared.contexts.reach.Reach.{Reach}
use Rattle.lay_after_edits.specs.Contexts.Unstyled.{all_unstyled}
use Rattle.lay_after_edits.proofs.ContextsLemmas.AlikeBoxes.{AlikeNode}
use Rattle.lay_after_edits.proofs.ContextsLemmas.AnchoredContexts.{anchored-boxes}
use Rattle.lay_after_edits.proofs.ContextsLemmas.Flags.{flag-before, flag-last}
use Rattle.lay_after_edits.proofs.ContextsLemmas.LaterList.{later-are}
use Rattle.lay_after_edits.proofs.ContextsLemmas.Outward.{kept-boxes}
use Rattle.lay_after_edits.proofs.ContextsLemmas.Restyling.{Restyling, not-under, restyling-of, same-boxes, subject-alike}
use Rattle.lay_after_edits.proofs.ContextsLemmas.SameBoxes.{same-context}

pub from-within : (d : Document) (styles : List Style) (places : List ℕ) (id : ℕ) (r : Reach) → IsEditReach d.nodes styles places id r → r.from < length d.nodes
from-within d styles places id r is = let w = place_within id (ids_of d.nodes) r.from is.subject in omega (arith, w, length-ids d.nodes)

pub until-within : (d : Document) (styles : List Style) (places : List ℕ) (id : ℕ) (r : Reach) → IsDocument d → IsEditReach d.nodes styles places id r → r.until ≤ length d.nodes
until-within d styles places id r doc is =
    let slot = end_is_slot (parents_of d.nodes) doc.tree r.from (let w = from-within d styles places id r is in omega (arith, w, length-parents d.nodes)) in
    let w = slot.within in
    omega (arith, w, is.until_is, length-parents d.nodes)

-- the contexts of a document, by their places
module _ (d : Document) (ss : List Style) (contexts : List Context) (of : AreContextsOf d.nodes ss contexts) (places : List ℕ) (places_are : ArePlacesOf contexts places) where
  place-is : (i : ℕ) → i < length contexts → slice_index places i ≡ (spot_at of.spots i).place
  place-is i lt = places_are.each i lt ∙ ap (λ (s : ContextSpot). s.place) (of.numbered.each i lt).spot

  pub context-before : (i : ℕ) → i < length contexts → IsContextAt d.nodes ss (slice_index places i)
  context-before i lt = subst (IsContextAt d.nodes ss) (sym (place-is i lt)) (of.are.are i (omega (arith, lt, of.numbered.count)))

  pub boxes-before : (i : ℕ) → i < length contexts → boxes_in contexts i ≡ boxes_of_place d.nodes ss (slice_index places i)
  boxes-before i lt =
      (of.numbered.each i lt).boxes_are
      ∙ (get_or-map (λ (s : ContextSpot). boxes_of_place d.nodes ss s.place) of.spots i root_spot [] (omega (arith, lt, of.numbered.count))
      ∙ ap (boxes_of_place d.nodes ss) (sym (place-is i lt)))

-- an edit of declarations or a text that leaves the boxes of the contexts that it doesn't reach
module _ (d e : Document) (ss ts : List Style) (edit : Edit) (contexts : List Context) (doc : IsDocument d) (other_doc : IsDocument e) (edited : IsEdited d ss edit e ts)
    (of : AreContextsOf d.nodes ss contexts) (places : List ℕ) (places_are : ArePlacesOf contexts places) (r : Reach) (is : IsRestyled d ss edit ts places r) where
  abbrev count : length ss ≡ length d.nodes
  count = edited.before.length_is ∙ length-parents d.nodes

  abbrev other_count : length ts ≡ length e.nodes
  other_count = edited.after.length_is ∙ length-parents e.nodes

  has : r.from < length d.nodes
  has = from-within d ss places is.id r is.reach

  restyling : Restyling d e ss ts r.from
  restyling = restyling-of d e ss ts edit is.id r.from doc edited is.change is.reach.subject

  subject : AlikeNode d.nodes e.nodes r.from
  subject = subject-alike d e ss ts edit is.id r.from edited is.change is.reach.subject is.text

  same : SameBoxes d.nodes e.nodes ss ts
  same = same-boxes d e ss ts r.from r.until doc has restyling subject is.reach.until_is is.alike

  kept-context : (i : ℕ) → i < length contexts → (IsReachedContext r i (slice_index places i) → ⊥) → boxes_in contexts i ≡ boxes_of_place e.nodes ts (slice_index places i)
  kept-context i lt apart =
      boxes-before d ss contexts of places places_are i lt
      ∙ sym (kept-boxes d e ss ts r.from r.until doc other_doc count other_count has restyling subject is.reach.until_is is.alike (slice_index places i)
      (context-before d ss contexts of places places_are i lt)
      (λ b. apart (inr b)) (λ around. apart (inl (is.reach.around_is i (omega (arith, lt, places_are.count)) around))))

  anchored-context : IsAnchored edit d.nodes ss r.from → (i : ℕ) → i < length contexts → ((r.from ≤ slice_index places i) × (slice_index places i < r.until) → ⊥)
      → boxes_in contexts i ≡ boxes_of_place e.nodes ts (slice_index places i)
  anchored-context anchored i lt apart =
      let context = context-before d ss contexts of places places_are i lt in
      let within = context_within d.nodes ss (slice_index places i) context in
      boxes-before d ss contexts of places places_are i lt
      ∙ sym (anchored-boxes d e ss ts edit doc edited is.id r.from is.change is.reach.subject restyling.ids same anchored (slice_index places i) within context
      (not-under d e ss ts r.from r.until doc has restyling subject is.reach.until_is is.alike (slice_index places i) within apart))

  narrowed-context : (narrow : Reach) → IsNarrowed edit d.nodes ss r narrow → (i : ℕ) → i < length contexts → (IsReachedContext narrow i (slice_index places i) → ⊥)
      → boxes_in contexts i ≡ boxes_of_place e.nodes ts (slice_index places i)
  narrowed-context narrow narrowed i lt apart =
      let inside : (r.from ≤ slice_index places i) × (slice_index places i < r.until) → ⊥ =
      λ b. (let low = b.0 in let high = b.1 in apart (inr (omega (arith, low, narrowed.from_is), omega (arith, high, narrowed.until_is)))) in
      elim narrowed.around_is [
        | inl around ↦ kept-context i lt (λ reached. elim reached [
          | inl is_around ↦ apart (inl (around ∙ is_around))
          | inr is_inside ↦ inside is_inside
        ])
        | inr anchored ↦ anchored-context anchored i lt inside
      ]

  pub rebuilt-of : (narrow : Reach) → IsNarrowed edit d.nodes ss r narrow → (flags : List Bool) (n : ℕ) → n ≡ length places → AreReachFlags narrow places flags n
      → AreRebuilt d.nodes e.nodes ss ts contexts places flags
  rebuilt-of narrow narrowed flags n n_is reached = record {
    places_are = places_are;
    flags = reached.count ∙ (n_is ∙ places_are.count);
    ids = restyling.ids;
    same = same;
    kept = λ i lt is_not. narrowed-context narrow narrowed i lt (reached.each i (omega (arith, lt, n_is, places_are.count)) is_not);
  }

-- contexts that are built of them
module _ (d e : Document) (ss ts : List Style) (contexts : List Context) (other_doc : IsDocument e) (other_count : length ts ≡ length e.nodes)
    (of : AreContextsOf d.nodes ss contexts) (places : List ℕ) (reached : List Bool) (is : AreRebuilt d.nodes e.nodes ss ts contexts places reached) where
  pub later-context : (i : ℕ) → i < length contexts → IsContextAt e.nodes ts (slice_index places i)
  later-context i lt = same-context d.nodes e.nodes ss ts is.same (slice_index places i) (context-before d ss contexts of places is.places_are i lt)

  pub built-are : (items : List Context) (n : ℕ) → n ≡ length contexts → AreBuiltTo contexts e.nodes ts places items reached n → AreContextsOf e.nodes ts items
  built-are items n e_n built =
      later-are d e ss ts contexts of places is.places_are is.same is.ids items reached (subst (AreBuiltTo contexts e.nodes ts places items reached) e_n built)

  pub built-contexts : (items : List Context) (n : ℕ) → n ≡ length contexts → AreBuiltTo contexts e.nodes ts places items reached n → AreContexts items
  built-contexts items n e_n built = are_contexts e ts items other_doc other_count (built-are items n e_n built)

-- one more flag
pub one-reach-flag : (r : Reach) (places : List ℕ) (flags : List Bool) (b : Bool) (n : ℕ) → AreReachFlags r places flags n
    → (b ≡ false → IsReachedContext r n (slice_index places n) → ⊥) → AreReachFlags r places (flags ++ b ∷ []) (n + 1)
one-reach-flag r places flags b n known other = record {
  count = grind (arith, elements, known.count);
  each = λ i lt is_not reached. elim (cases_lt i n) [
    | inl low ↦ known.each i low (sym (flag-before flags b i (omega (arith, low, known.count))) ∙ is_not) reached
    | inr high ↦ (let z : i ≡ n = omega (arith, lt, high) in
        other (sym (flag-last flags b i (omega (arith, z, known.count))) ∙ is_not) (subst (λ (m : ℕ). IsReachedContext r m (slice_index places m)) z reached))
  ];
}

-- a context with other boxes, which are the same but for their styles
pub is-built : (contexts : List Context) (e : Document) (ts : List Style) (places : List ℕ) (i : ℕ) (c : Context) (made : Bool)
    → (boxes : List BoxNode) → c ≡ record (context_at contexts i) { boxes = boxes } → boxes ≡ boxes_of_place e.nodes ts (slice_index places i)
    → all_unstyled boxes ≡ all_unstyled (boxes_in contexts i) → (made ≡ false → boxes ≡ boxes_in contexts i)
    → IsBuilt contexts e.nodes ts places c made i
is-built contexts e ts places i c made boxes is are unstyled kept = record {
  links = record {
    place = ap (λ (x : Context). x.place) is;
    outer = ap (λ (x : Context). x.outer) is;
    outer_box = ap (λ (x : Context). x.outer_box) is;
    inner = ap (λ (x : Context). x.inner) is;
    boxes = ap (λ (x : Context). all_unstyled x.boxes) is ∙ unstyled;
  };
  boxes = ap (λ (x : Context). x.boxes) is ∙ are;
  kept = λ f. ap (λ (x : Context). x.boxes) is ∙ kept f;
}
