-- A change of one node keeps all nodes but that one and those below it.
use Rattle.std.proofs.Common.{◌≡◌, ℕ, zero, suc, ◌<◌, List, [], ◌∷◌, length, refl, ap, sym, subst, ◌∙◌, arith, Option, Some, slice_get, slice_index}
use Rattle.lay_style.specs.ComputedStyle.{declarations_at}
use Rattle.lay_doc.specs.declared.edit.Edit.{Edit}
use Rattle.lay_doc.specs.declared.node.Node.{Node}
use Rattle.lay_doc.specs.Changes.{changed_at}
use Rattle.lay_doc.specs.Document.{Document, IsDocument, declarations_of, ids_of, parents_of}
use Rattle.lay_doc.specs.Tree.{IsUnder, child, itself}
use Rattle.lay_contexts.proofs.Cited.{column_stays, length-changed}
use Rattle.lay_doc.proofs.NodeColumns.{length-parents}
use Rattle.lay_contexts.specs.ContextTree.{parent_of}
use Rattle.lay_contexts.specs.Edited.Reached.{IsReached, IsUnderThere, place_in, subject_of}
use Rattle.lay_contexts.proofs.EditedLemmas.KeptContexts.{Keeping}
use Rattle.lay_contexts.proofs.EditedLemmas.OwnList.{got}
use Rattle.lay_contexts.proofs.EditedLemmas.SameTrees.{SameNode, same-declarations}

changed-other : (p k : ℕ) (f : Node → Node) (ns : List Node) → (p ≡ k → ⊥) → slice_get (changed_at p f ns) k ≡ slice_get ns k
changed-other p k f [] other = refl
changed-other zero zero f (x ∷ xs) other = absurd (other refl)
changed-other zero (suc k) f (x ∷ xs) other = refl
changed-other (suc p) zero f (x ∷ xs) other = refl
changed-other (suc p) (suc k) f (x ∷ xs) other = changed-other p k f xs (λ e. other (ap suc e))

module _ (d : Document) (edit : Edit) (p : ℕ) (f : Node → Node) (doc : IsDocument d) (named : place_in (ids_of d.nodes) (subject_of edit) ≡ Some p)
    (same_id : (n : Node) → (f n).id ≡ n.id) (same_parent : (n : Node) → (f n).parent ≡ n.parent) where
  abbrev pub changed : Document
  changed = record d { nodes = changed_at p f d.nodes }

  -- a node that isn't below the changed one stays where it is
  abbrev pub Stays : ℕ → ℕ → Type 0
  Stays k m = (k ≡ m) × (k < length d.nodes) × (IsUnder (parents_of d.nodes) p k → ⊥)

  pub parents-stay : parents_of changed.nodes ≡ parents_of d.nodes
  parents-stay = column_stays (λ n. n.parent) f same_parent p d.nodes

  pub ids-stay : ids_of changed.nodes ≡ ids_of d.nodes
  ids-stay = column_stays (λ n. n.id.0) f (λ n. ap (λ i. i.0) (same_id n)) p d.nodes

  node-stays : (k m : ℕ) → Stays k m → SameNode d.nodes changed.nodes k m
  node-stays k m r =
      let g = got d.nodes k r.1 in
      record {
        one = g.0;
        other = g.0;
        here = g.1;
        there = ap (slice_get (changed_at p f d.nodes)) (sym r.0)
            ∙ (changed-other p k f d.nodes (λ e. r.2 (subst (IsUnder (parents_of d.nodes) p) e itself)) ∙ g.1);
        id = refl;
        kind = refl;
        text = refl;
      }

  declared-stays : (k m : ℕ) → Stays k m → declarations_at (declarations_of d.nodes) k ≡ declarations_at (declarations_of changed.nodes) m
  unfolding node-stays
  declared-stays k m r = let s = node-stays k m r in same-declarations d.nodes changed.nodes k m s.one s.other s.here s.there refl

  parent-stays : (k m : ℕ) → Stays k m → 0 < k → (0 < m) × Stays (parent_of d.nodes k) (parent_of changed.nodes m)
  parent-stays k m r positive =
      let lt = r.1 in
      let is = r.0 in
      let before = doc.tree.before k positive (omega (arith, lt, length-parents d.nodes)) in (
        omega (arith, positive, is),
        (
          ap (λ (j : ℕ). parent_of d.nodes j) is ∙ ap (λ (xs : List ℕ). slice_index xs m) (sym parents-stay),
          omega (arith, before, lt),
          λ u. r.2 (child k positive u),
        ),
      )

  pub changed-keeping : Keeping d changed (IsReached d edit) (IsReached changed edit) Stays
  changed-keeping = record {
    same = record {
      node = node-stays;
      rising = λ j l k m a b less. (let x = a.0 in let y = b.0 in omega (arith, less, x, y));
      falling = λ j l k m a b less. (let x = a.0 in let y = b.0 in omega (arith, less, x, y));
      root = λ k m r positive. (let x = r.0 in omega (arith, positive, x));
      parent = parent-stays;
    };
    declared = declared-stays;
    to = λ k. k;
    from = λ m. m;
    forth = λ k lt not_so. (refl, lt, λ u. not_so (subst (λ (o : Option ℕ). IsUnderThere (parents_of d.nodes) o k) (sym named) u));
    come = λ m lt not_so. (
      refl,
      omega (arith, lt, length-changed f p d.nodes),
      λ u. not_so (subst (λ (o : Option ℕ). IsUnderThere (parents_of changed.nodes) o m) (sym (ap (λ (xs : List ℕ). place_in xs (subject_of edit)) ids-stay ∙ named))
          (subst (λ (xs : List ℕ). IsUnder xs p m) (sym parents-stay) u)),
    );
  }
