-- An edit of declarations or the text of one node leaves the nodes where they stand, what all others are, and the styles of all that
-- aren't below it.
use Rattle.std.proofs.Common.{◌≡◌, inl, inr, ℕ, zero, suc, ◌<◌, ◌≤◌, List, [], ◌∷◌, length, refl, ap, sym, subst, ◌∙◌, arith, Option, None, Some, IsSome, slice_get}
use Rattle.std.proofs.lemmas.Bool.{cases_lt}
use Rattle.lay_style.specs.declared.style.Style.{Style}
use Rattle.lay_style.specs.ComputedStyle.{HasStyles, style_at}
use Rattle.lay_style.specs.Places.{place_of}
use Rattle.lay_doc.specs.declared.edit.Edit.{Edit}
use Rattle.lay_doc.specs.declared.edit.Edit.TheVariants.{SetStyle, ClearStyle, SetText, Insert, Remove, Bad}
use Rattle.lay_doc.specs.declared.node.Node.{Node}
use Rattle.lay_doc.specs.Changes.{changed_at, style_fault, text_fault, with_style, with_text, without_style}
use Rattle.lay_doc.specs.Document.{Document, IsDocument, declarations_of, ids_of, parents_of}
use Rattle.lay_doc.specs.Edits.{fault}
use Rattle.lay_doc.specs.Tree.{IsUnder, end_of}
use Rattle.lay_after_edits.proofs.Cited.{changed-keeping, got, has_subtree_lem, ids-stay, length-ids, length-parents, parents-stay, place_within, restyled, same-style, SameNode, Stays}
use Rattle.lay_contexts.specs.Edited.Reached.{place_in, subject_of}
use Rattle.lay_after_edits.specs.Contexts.Edited.{IsEdited}
use Rattle.lay_after_edits.specs.Contexts.Reach.{AreAlike, AreTextsAlike, IsAlike, IsChange, StaysSeen}
use Rattle.lay_after_edits.specs.Contexts.Rebuilt.{SameBoxes}
use Rattle.lay_after_edits.proofs.ContextsLemmas.AlikeBoxes.{AlikeNode, alike-of-same}
use Rattle.lay_after_edits.proofs.ContextsLemmas.SameBoxes.{boxes-of-alike}

pub record Restyling (d e : Document) (ss ts : List Style) (p : ℕ) : Type 0 where
  pub parents : parents_of e.nodes ≡ parents_of d.nodes
  pub ids : ids_of e.nodes ≡ ids_of d.nodes
  pub content : (k : ℕ) → k < length d.nodes → (k ≡ p → ⊥) → SameNode d.nodes e.nodes k k
  pub outside : (k : ℕ) → k < length d.nodes → (IsUnder (parents_of d.nodes) p k → ⊥) → style_at ts k ≡ style_at ss k

same-node : (ns : List Node) (k : ℕ) → k < length ns → SameNode ns ns k k
same-node ns k lt = let g = got ns k lt in record { one = g.0; other = g.0; here = g.1; there = g.1; id = refl; kind = refl; text = refl }

other-content : (p : ℕ) (f : Node → Node) (ns : List Node) (k : ℕ) → k < length ns → (k ≡ p → ⊥) → SameNode ns (changed_at p f ns) k k
other-content p f [] k lt apart = absurd (omega (arith, lt))
other-content zero f (x ∷ xs) zero lt apart = absurd (apart refl)
other-content zero f (x ∷ xs) (suc k) lt apart =
    let s = same-node xs k (omega (arith, lt)) in
    record { one = s.one; other = s.other; here = s.here; there = s.there; id = s.id; kind = s.kind; text = s.text }
other-content (suc p) f (x ∷ xs) zero lt apart = record { one = x; other = x; here = refl; there = refl; id = refl; kind = refl; text = refl }
other-content (suc p) f (x ∷ xs) (suc k) lt apart =
    let s = other-content p f xs k (omega (arith, lt)) (λ e. apart (ap suc e)) in
    record { one = s.one; other = s.other; here = s.here; there = s.there; id = s.id; kind = s.kind; text = s.text }

-- the node that is changed
changed-content : (p : ℕ) (f : Node → Node) → ((n : Node) → n.id ≡ (f n).id) → ((n : Node) → n.kind ≡ (f n).kind) → (ns : List Node) → p < length ns
    → ((n : Node) → slice_get ns p ≡ Some n → AreTextsAlike n.text (f n).text) → AlikeNode ns (changed_at p f ns) p
changed-content p f i q [] lt t = absurd (omega (arith, lt))
changed-content zero f i q (x ∷ xs) lt t = record { one = x; other = f x; here = refl; there = refl; id = i x; kind = q x; text = t x refl }
changed-content (suc p) f i q (x ∷ xs) lt t =
    let s = changed-content p f i q xs (omega (arith, lt)) t in
    record { one = s.one; other = s.other; here = s.here; there = s.there; id = s.id; kind = s.kind; text = s.text }

abbrev AreStyled : Document → List Style → Type 0
AreStyled d styles = HasStyles (parents_of d.nodes) (declarations_of d.nodes) styles

by-change : (d : Document) (edit : Edit) (p : ℕ) (f : Node → Node) (ss ts : List Style) (doc : IsDocument d) (named : place_in (ids_of d.nodes) (subject_of edit) ≡ Some p)
    (same_id : (n : Node) → (f n).id ≡ n.id) (same_parent : (n : Node) → (f n).parent ≡ n.parent)
    → AreStyled d ss → AreStyled (record d { nodes = changed_at p f d.nodes }) ts → Restyling d (record d { nodes = changed_at p f d.nodes }) ss ts p
by-change d edit p f ss ts doc named same_id same_parent before after =
    let keep = changed-keeping d edit p f doc named same_id same_parent in
    record {
      parents = parents-stay d edit p f doc named same_id same_parent;
      ids = ids-stay d edit p f doc named same_id same_parent;
      content = other-content p f d.nodes;
      outside = λ k lt apart. sym (same-style d.nodes (changed_at p f d.nodes) ss ts (Stays d edit p f doc named same_id same_parent) keep.same keep.declared doc.tree before after k k (refl, lt, apart));
    }

over-change : (d e : Document) (edit : Edit) (p : ℕ) (f : Node → Node) (ss ts : List Style) (doc : IsDocument d) (named : place_in (ids_of d.nodes) (subject_of edit) ≡ Some p)
    (same_id : (n : Node) → (f n).id ≡ n.id) (same_parent : (n : Node) → (f n).parent ≡ n.parent)
    → AreStyled d ss → AreStyled e ts → e ≡ record d { nodes = changed_at p f d.nodes } → Restyling d e ss ts p
over-change d e edit p f ss ts doc named same_id same_parent before after is =
    subst (λ (x : Document). Restyling d x ss ts p) (sym is)
    (by-change d edit p f ss ts doc named same_id same_parent before (subst (λ (x : Document). AreStyled x ts) is after))

named-at : (d : Document) (node id p : ℕ) → node ≡ id → place_of id (ids_of d.nodes) ≡ Some p → place_of node (ids_of d.nodes) ≡ Some p
named-at d node id p same named = ap (λ (i : ℕ). place_of i (ids_of d.nodes)) same ∙ named

pub restyling-of : (d e : Document) (ss ts : List Style) (edit : Edit) (id p : ℕ) → IsDocument d → IsEdited d ss edit e ts → IsChange edit id → place_of id (ids_of d.nodes) ≡ Some p
    → Restyling d e ss ts p
restyling-of d e ss ts (SetStyle node decl) id p doc edited change named =
    let at = named-at d node.0 id p change named in
    over-change d e (SetStyle node decl) p (with_style decl) ss ts doc at (λ n. refl) (λ n. refl) edited.before edited.after
    (edited.later ∙ restyled d node.0 (with_style decl) p at)
restyling-of d e ss ts (ClearStyle node property) id p doc edited change named =
    let at = named-at d node.0 id p change named in
    over-change d e (ClearStyle node property) p (without_style property) ss ts doc at (λ n. refl) (λ n. refl) edited.before edited.after
    (edited.later ∙ restyled d node.0 (without_style property) p at)
restyling-of d e ss ts (SetText node text) id p doc edited change named =
    let at = named-at d node.0 id p change named in
    over-change d e (SetText node text) p (with_text text) ss ts doc at (λ n. refl) (λ n. refl) edited.before edited.after
    (edited.later ∙ restyled d node.0 (with_text text) p at)
restyling-of d e ss ts (Insert parent index new) id p doc edited change named = absurd change
restyling-of d e ss ts (Remove node) id p doc edited change named = absurd change
restyling-of d e ss ts (Bad bad) id p doc edited change named = absurd change

over-subject : (d e : Document) (p : ℕ) (f : Node → Node) → ((n : Node) → n.id ≡ (f n).id) → ((n : Node) → n.kind ≡ (f n).kind) → p < length d.nodes
    → ((n : Node) → slice_get d.nodes p ≡ Some n → AreTextsAlike n.text (f n).text) → e ≡ record d { nodes = changed_at p f d.nodes } → AlikeNode d.nodes e.nodes p
over-subject d e p f i q lt t is = subst (λ (x : Document). AlikeNode d.nodes x.nodes p) (sym is) (changed-content p f i q d.nodes lt t)

pub subject-alike : (d e : Document) (ss ts : List Style) (edit : Edit) (id p : ℕ) → IsEdited d ss edit e ts → IsChange edit id → place_of id (ids_of d.nodes) ≡ Some p
    → StaysSeen edit d.nodes p → AlikeNode d.nodes e.nodes p
subject-alike d e ss ts (SetStyle node decl) id p edited change named seen =
    over-subject d e p (with_style decl) (λ n. refl) (λ n. refl) (let w = place_within id (ids_of d.nodes) p named in omega (arith, w, length-ids d.nodes)) (λ n here. inl refl)
    (edited.later ∙ restyled d node.0 (with_style decl) p (named-at d node.0 id p change named))
subject-alike d e ss ts (ClearStyle node property) id p edited change named seen =
    over-subject d e p (without_style property) (λ n. refl) (λ n. refl) (let w = place_within id (ids_of d.nodes) p named in omega (arith, w, length-ids d.nodes)) (λ n here. inl refl)
    (edited.later ∙ restyled d node.0 (without_style property) p (named-at d node.0 id p change named))
subject-alike d e ss ts (SetText node text) id p edited change named seen =
    over-subject d e p (with_text text) (λ n. refl) (λ n. refl) (let w = place_within id (ids_of d.nodes) p named in omega (arith, w, length-ids d.nodes)) (λ n here. inr (seen.0 n here, seen.1))
    (edited.later ∙ restyled d node.0 (with_text text) p (named-at d node.0 id p change named))
subject-alike d e ss ts (Insert parent index new) id p edited change named seen = absurd change
subject-alike d e ss ts (Remove node) id p edited change named seen = absurd change
subject-alike d e ss ts (Bad bad) id p edited change named seen = absurd change

-- an edit without a fault changes a node that is there
by-style : (d : Document) (id : ℕ) → style_fault d id ≡ None → IsSome (place_of id (ids_of d.nodes))
by-style d id none = by (place_of id (ids_of d.nodes)) refl
  where
    by : (o : Option ℕ) → place_of id (ids_of d.nodes) ≡ o → IsSome (place_of id (ids_of d.nodes))
    by None e = absurd (let h = rw e at none in cc)
    by (Some p) e = subst (λ (q : Option ℕ). IsSome q) (sym e) refl

by-text : (d : Document) (id bytes : ℕ) → text_fault d id bytes ≡ None → IsSome (place_of id (ids_of d.nodes))
by-text d id bytes none = by (place_of id (ids_of d.nodes)) refl
  where
    by : (o : Option ℕ) → place_of id (ids_of d.nodes) ≡ o → IsSome (place_of id (ids_of d.nodes))
    by None e = absurd (let h = rw e at none in cc)
    by (Some p) e = subst (λ (q : Option ℕ). IsSome q) (sym e) refl

abbrev IsThere : Document → ℕ → Type 0
IsThere d id = IsSome (place_of id (ids_of d.nodes))

pub subject-there : (d : Document) (edit : Edit) (id : ℕ) → fault d edit ≡ None → IsChange edit id → IsSome (place_of id (ids_of d.nodes))
subject-there d (SetStyle node decl) id none change = subst (IsThere d) change (by-style d node.0 none)
subject-there d (ClearStyle node property) id none change = subst (IsThere d) change (by-style d node.0 none)
subject-there d (SetText node text) id none change = subst (IsThere d) change (by-text d node.0 (length text) none)
subject-there d (Insert parent index new) id none change = absurd change
subject-there d (Remove node) id none change = absurd change
subject-there d (Bad bad) id none change = absurd change

pub same-alike : (s t : Style) → t ≡ s → IsAlike s t
same-alike s t e = record {
  display = ap (λ (x : Style). x.display) (sym e);
  position = ap (λ (x : Style). x.position) (sym e);
  float = ap (λ (x : Style). x.float) (sym e);
  overflow = ap (λ (x : Style). x.overflow) (sym e);
  white_space = ap (λ (x : Style). x.text.white_space) (sym e);
}

-- where the styles of that node and those below it are alike, and its text, all boxes are the same
module _ (d e : Document) (ss ts : List Style) (p until : ℕ) (doc : IsDocument d) (has : p < length d.nodes) (r : Restyling d e ss ts p)
    (subject : AlikeNode d.nodes e.nodes p) (end : until ≡ end_of (parents_of d.nodes) p) (alike : AreAlike ss ts p until) where
  pub not-under : (k : ℕ) → k < length d.nodes → ((p ≤ k) × (k < until) → ⊥) → IsUnder (parents_of d.nodes) p k → ⊥
  not-under k lt apart u =
      let is = (has_subtree_lem (parents_of d.nodes) p k doc.tree (omega (arith, has, length-parents d.nodes)) (omega (arith, lt, length-parents d.nodes))).0 u in
      let low = is.0 in
      let high = is.1 in
      apart (low, omega (arith, high, end))

  alike-at : (k : ℕ) → k < length d.nodes → IsAlike (style_at ss k) (style_at ts k)
  alike-at k lt = elim (cases_lt k p) [
    | inl before ↦ same-alike (style_at ss k) (style_at ts k) (r.outside k lt (not-under k lt (λ b. (let low = b.0 in omega (arith, low, before)))))
    | inr from ↦ elim (cases_lt k until) [
      | inl inner ↦ alike k from inner
      | inr behind ↦ same-alike (style_at ss k) (style_at ts k) (r.outside k lt (not-under k lt (λ b. (let high = b.1 in omega (arith, high, behind)))))
    ]
  ]

  alike-node : (k : ℕ) → k < length d.nodes → AlikeNode d.nodes e.nodes k
  alike-node k lt = elim (cases_lt k p) [
    | inl low ↦ alike-of-same d.nodes e.nodes k (r.content k lt (λ is. omega (arith, low, is)))
    | inr from ↦ elim (cases_lt p k) [
      | inl high ↦ alike-of-same d.nodes e.nodes k (r.content k lt (λ is. omega (arith, high, is)))
      | inr until_here ↦ (let z : p ≡ k = omega (arith, from, until_here) in subst (AlikeNode d.nodes e.nodes) z subject)
    ]
  ]

  pub same-boxes : SameBoxes d.nodes e.nodes ss ts
  same-boxes = boxes-of-alike d.nodes e.nodes ss ts r.parents alike-node alike-at
