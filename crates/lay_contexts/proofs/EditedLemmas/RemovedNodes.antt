-- A removal keeps all nodes that it doesn't take out.
use Rattle.std.proofs.Common.{◌≡◌, inl, inr, ℕ, ◌+◌, ◌-◌, ◌<◌, ◌≤◌, length, refl, ap, sym, subst, ◌∙◌, arith, Option, Some, option_map, slice_get}
use Rattle.std.specs.List.{remove_range}
use Rattle.std.proofs.lemmas.Bool.{cases_lt}
use Rattle.std.proofs.lemmas.Option.{slice_get-map}
use Rattle.std.proofs.lemmas.List.{length-map}
use Rattle.lay_style.specs.ComputedStyle.{declarations_at}
use Rattle.lay_doc.specs.declared.edit.Edit.{Edit}
use Rattle.lay_doc.specs.Document.{Document, IsDocument, declarations_of, ids_of, parents_of}
use Rattle.lay_doc.specs.Removal.{closed_up, moved_back, removed_between}
use Rattle.lay_doc.specs.Tree.{IsSlot, child_count, end_of}
use Rattle.lay_contexts.proofs.Cited.{closed_high, closed_low, end_is_slot, has_subtree_lem, length-cut, old_closed, old_inside, old_less, old_less_back, old_more, old_outside, old_place, parent_outside}
use Rattle.lay_doc.proofs.NodeColumns.{length-parents}
use Rattle.lay_contexts.specs.ContextTree.{parent_of}
use Rattle.lay_contexts.specs.Edited.Reached.{IsReached, IsUnderThere, place_in, subject_of}
use Rattle.lay_contexts.proofs.EditedLemmas.KeptContexts.{Keeping}
use Rattle.lay_contexts.proofs.EditedLemmas.MovedNodes.{get-old}
use Rattle.lay_contexts.proofs.EditedLemmas.OwnList.{got}
use Rattle.lay_contexts.proofs.EditedLemmas.SameTrees.{SameNode, or-map, same-declarations}

module _ (d : Document) (edit : Edit) (p : ℕ) (doc : IsDocument d) (not_root : 0 < p) (has : p < length d.nodes) (named : place_in (ids_of d.nodes) (subject_of edit) ≡ Some p) where
  abbrev end : ℕ
  end = end_of (parents_of d.nodes) p

  abbrev pub shrunk : Document
  shrunk = record d { nodes = removed_between d.nodes p end }

  -- a node that isn't taken out
  abbrev pub Closes : ℕ → ℕ → Type 0
  Closes k m = (old_place p end m ≡ k) × (m + (end - p) < length d.nodes)

  slot : IsSlot (parents_of d.nodes) p (child_count (parents_of d.nodes) p) end
  slot = end_is_slot (parents_of d.nodes) doc.tree p (omega (arith, has, length-parents d.nodes))

  le : p ≤ end
  le = let a = slot.after in omega (arith, a)

  within : end ≤ length d.nodes
  within = let w = slot.within in omega (arith, w, length-parents d.nodes)

  length-shrunk : length shrunk.nodes + (end - p) ≡ length d.nodes
  length-shrunk = ap (λ (n : ℕ). n + (end - p)) (length-map (remove_range d.nodes p end) (moved_back p end)) ∙ length-cut d.nodes p end le within

  old-within : (k m : ℕ) → Closes k m → k < length d.nodes
  old-within k m r = let o = old_inside p end m (length d.nodes) r.1 in let e = r.0 in omega (arith, o, e)

  node-closes : (k m : ℕ) → Closes k m → SameNode d.nodes shrunk.nodes k m
  node-closes k m r =
      let g = got d.nodes k (old-within k m r) in
      record {
        one = g.0;
        other = moved_back p end g.0;
        here = g.1;
        there = slice_get-map (moved_back p end) (remove_range d.nodes p end) m
            ∙ ap (option_map (moved_back p end)) (get-old d.nodes p end m le within r.1 (old_inside p end m (length d.nodes) r.1) ∙ (ap (slice_get d.nodes) r.0 ∙ g.1));
        id = refl;
        kind = refl;
        text = refl;
      }

  parent-closed : (k m : ℕ) → Closes k m → parent_of shrunk.nodes m ≡ closed_up p end (parent_of d.nodes k)
  unfolding node-closes
  parent-closed k m r =
      let s = node-closes k m r in
      let g = got d.nodes k (old-within k m r) in
      or-map (λ n. n.parent) shrunk.nodes m (moved_back p end g.0) 0 s.there ∙ ap (closed_up p end) (sym (or-map (λ n. n.parent) d.nodes k g.0 0 g.1))

  declared-closes : (k m : ℕ) → Closes k m → declarations_at (declarations_of d.nodes) k ≡ declarations_at (declarations_of shrunk.nodes) m
  unfolding node-closes
  declared-closes k m r = let s = node-closes k m r in same-declarations d.nodes shrunk.nodes k m s.one s.other s.here s.there refl

  old-parent : (k m : ℕ) → Closes k m → old_place p end (parent_of shrunk.nodes m) ≡ parent_of d.nodes k
  old-parent k m r =
      let lt = old-within k m r in
      let outside : p ≤ k → end ≤ k = λ from. subst (λ (j : ℕ). end ≤ j) r.0 (old_outside p end m le (subst (λ (j : ℕ). p ≤ j) (sym r.0) from)) in
      ap (old_place p end) (parent-closed k m r)
      ∙ old_closed p end (parent_of d.nodes k) le (parent_outside (parents_of d.nodes) doc.tree p end not_root slot k (omega (arith, lt, length-parents d.nodes)) outside)

  parent-closes : (k m : ℕ) → Closes k m → 0 < k → (0 < m) × Closes (parent_of d.nodes k) (parent_of shrunk.nodes m)
  parent-closes k m r positive =
      let lt = old-within k m r in
      let e = r.0 in
      let short = r.1 in
      let o = old-parent k m r in
      let before = doc.tree.before k positive (omega (arith, lt, length-parents d.nodes)) in
      let less : parent_of shrunk.nodes m < m = old_less_back p end (parent_of shrunk.nodes m) m (omega (arith, o, before, e)) in
      (omega (arith, less), (o, omega (arith, less, short)))

  forth : (k : ℕ) → k < length d.nodes → (IsReached d edit k → ⊥) → Closes k (closed_up p end k)
  forth k lt not_so = elim (cases_lt k p) [
    | inl low ↦ (let c = closed_low p end k low in (old_closed p end k le (λ from. absurd (omega (arith, low, from))), omega (arith, c, low, le, within)))
    | inr from ↦ elim (cases_lt k end) [
      | inl inner ↦ absurd (not_so (subst (λ (o : Option ℕ). IsUnderThere (parents_of d.nodes) o k) (sym named)
          ((has_subtree_lem (parents_of d.nodes) p k doc.tree (omega (arith, has, length-parents d.nodes)) (omega (arith, lt, length-parents d.nodes))).1 (from, inner))))
      | inr behind ↦ (let c = closed_high p end k from in (old_closed p end k le (λ h. behind), omega (arith, c, behind, lt, le)))
    ]
  ]

  pub shrunk-keeping : Keeping d shrunk (IsReached d edit) (IsReached shrunk edit) Closes
  shrunk-keeping = record {
    same = record {
      node = node-closes;
      rising = λ j l k m a b less. (let x = a.0 in let y = b.0 in old_less_back p end l m (omega (arith, less, x, y)));
      falling = λ j l k m a b less. (let x = a.0 in let y = b.0 in let z = old_less p end l m less in omega (arith, z, x, y));
      root = λ k m r positive. (let x = r.0 in let z = old_more p end m in omega (arith, positive, x, z));
      parent = parent-closes;
    };
    declared = declared-closes;
    to = closed_up p end;
    from = old_place p end;
    forth = forth;
    come = λ m lt not_so. (refl, omega (arith, lt, length-shrunk));
  }
