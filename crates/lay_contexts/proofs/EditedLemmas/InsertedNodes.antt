-- An insertion keeps all nodes that were there.
use Rattle.std.proofs.Common.{◌≡◌, inl, inr, ℕ, zero, suc, ◌+◌, ◌-◌, ◌<◌, ◌≤◌, length, refl, ap, sym, subst, ◌∙◌, arith, Option, Some, option_map, slice_get, if◌then◌else◌, nat_lt}
use Rattle.std.specs.List.{insert}
use Rattle.std.proofs.lemmas.Bool.{cases_lt, le-ltb, lt-ltb}
use Rattle.std.proofs.lemmas.List.Edits.{get_or-insert_at, length-insert}
use Rattle.std.proofs.lemmas.Option.{slice_get-map, slice_get-get_or}
use Rattle.std.proofs.lemmas.List.{length-map}
use Rattle.lay_style.specs.ComputedStyle.{declarations_at}
use Rattle.lay_doc.specs.declared.edit.Edit.{Edit}
use Rattle.lay_doc.specs.declared.node.Node.{Node}
use Rattle.lay_doc.specs.Document.{Document, IsDocument, declarations_of, ids_of, inserted, moved, parents_of}
use Rattle.lay_doc.specs.Tree.{itself, shifted}
use Rattle.lay_contexts.proofs.Cited.{length-ids, shifted_high, shifted_low}
use Rattle.lay_doc.proofs.NodeColumns.{length-parents}
use Rattle.lay_contexts.specs.ContextTree.{parent_of}
use Rattle.lay_contexts.specs.Edited.Reached.{IsReached, IsUnderThere, place_in, subject_of}
use Rattle.lay_contexts.proofs.EditedLemmas.KeptContexts.{Keeping}
use Rattle.lay_contexts.proofs.EditedLemmas.MovedNodes.{get-shifted, shifted-back, shifted-less, shifted-more}
use Rattle.lay_contexts.proofs.EditedLemmas.NamedPlaces.{place-is}
use Rattle.lay_contexts.proofs.EditedLemmas.OwnList.{got}
use Rattle.lay_contexts.proofs.EditedLemmas.SameTrees.{SameNode, or-map, same-declarations}

-- where a node of the longer list stood
abbrev unshifted : ℕ → ℕ → ℕ
unshifted at m = if nat_lt m at then m else (m - 1)

module _ (d : Document) (edit : Edit) (at : ℕ) (new : Node) (doc : IsDocument d) (above : 0 < at) (within : at ≤ length d.nodes)
    (is : IsDocument (record d { nodes = inserted d.nodes at new })) (subject : subject_of edit ≡ Some new.id.0) where
  abbrev pub grown : Document
  grown = record d { nodes = inserted d.nodes at new }

  -- a node that was there
  abbrev pub Shifts : ℕ → ℕ → Type 0
  Shifts k m = (shifted at k ≡ m) × (k < length d.nodes)

  length-grown : length grown.nodes ≡ length d.nodes + 1
  length-grown = length-map (insert d.nodes at new) (moved at) ∙ length-insert d.nodes at new within

  node-shifts : (k m : ℕ) → Shifts k m → SameNode d.nodes grown.nodes k m
  node-shifts k m r =
      let g = got d.nodes k r.1 in
      record {
        one = g.0;
        other = moved at g.0;
        here = g.1;
        there = ap (slice_get grown.nodes) (sym r.0)
            ∙ (slice_get-map (moved at) (insert d.nodes at new) (shifted at k) ∙ ap (option_map (moved at)) (get-shifted d.nodes at new k within r.1 ∙ g.1));
        id = refl;
        kind = refl;
        text = refl;
      }

  parent-shifted : (k m : ℕ) → Shifts k m → shifted at (parent_of d.nodes k) ≡ parent_of grown.nodes m
  unfolding node-shifts
  parent-shifted k m r =
      let s = node-shifts k m r in
      let g = got d.nodes k r.1 in
      ap (shifted at) (or-map (λ n. n.parent) d.nodes k g.0 0 g.1) ∙ sym (or-map (λ n. n.parent) grown.nodes m (moved at g.0) 0 s.there)

  declared-shifts : (k m : ℕ) → Shifts k m → declarations_at (declarations_of d.nodes) k ≡ declarations_at (declarations_of grown.nodes) m
  unfolding node-shifts
  declared-shifts k m r = let s = node-shifts k m r in same-declarations d.nodes grown.nodes k m s.one s.other s.here s.there refl

  parent-shifts : (k m : ℕ) → Shifts k m → 0 < k → (0 < m) × Shifts (parent_of d.nodes k) (parent_of grown.nodes m)
  parent-shifts k m r positive =
      let lt = r.1 in
      let e = r.0 in
      let before = doc.tree.before k positive (omega (arith, lt, length-parents d.nodes)) in
      ((let more = shifted-more at k in omega (arith, more, positive, e)), (parent-shifted k m r, omega (arith, before, lt)))

  root-shifts : (k m : ℕ) → Shifts k m → 0 < m → 0 < k
  root-shifts zero m r positive = (let e = r.0 in let z = shifted_low at 0 above in omega (arith, e, z, positive))
  root-shifts (suc k) m r positive = omega arith

  named : place_in (ids_of grown.nodes) (subject_of edit) ≡ Some at
  named =
      let lt : at < length (insert d.nodes at new) = (let l = length-insert d.nodes at new within in omega (arith, within, l)) in
      let there : slice_get grown.nodes at ≡ Some (moved at new) =
      slice_get-map (moved at) (insert d.nodes at new) at
      ∙ ap (option_map (moved at)) (slice_get-get_or (insert d.nodes at new) at new lt ∙ ap Some (get_or-insert_at d.nodes at new new within)) in
      ap (place_in (ids_of grown.nodes)) subject
      ∙ place-is new.id.0 (ids_of grown.nodes) (λ i j less in_ids. is.ids i j less (omega (arith, in_ids, length-ids grown.nodes))) at
      (omega (arith, within, length-grown, length-ids grown.nodes)) (or-map (λ n. n.id.0) grown.nodes at (moved at new) 0 there)

  comes : (m : ℕ) → m < length grown.nodes → (IsReached grown edit m → ⊥) → Shifts (unshifted at m) m
  comes m lt not_so = elim (cases_lt m at) [
    | inl low ↦ (let e : unshifted at m ≡ m = (let t = lt-ltb m at low in rw t refl) in (ap (shifted at) e ∙ shifted_low at m low, omega (arith, e, low, within)))
    | inr high ↦ elim (cases_lt at m) [
      | inl over ↦ (let e : unshifted at m ≡ m - 1 = (let t = le-ltb m at high in rw t refl) in
          let f = shifted_high at (m - 1) (omega (arith, over)) in
          let g : (m - 1) + 1 ≡ m = omega (arith, over) in
          (ap (shifted at) e ∙ (f ∙ g), omega (arith, e, lt, over, length-grown)))
      | inr under ↦ absurd (let same : at ≡ m = omega (arith, high, under) in
          not_so (subst (λ (o : Option ℕ). IsUnderThere (parents_of grown.nodes) o m) (sym named) (subst (λ (k : ℕ). IsUnderThere (parents_of grown.nodes) (Some at) k) same itself)))
    ]
  ]

  pub grown-keeping : Keeping d grown (IsReached d edit) (IsReached grown edit) Shifts
  grown-keeping = record {
    same = record {
      node = node-shifts;
      rising = λ j l k m a b less. (let x = a.0 in let y = b.0 in let z = shifted-less at j k less in omega (arith, z, x, y));
      falling = λ j l k m a b less. (let x = a.0 in let y = b.0 in shifted-back at j k (omega (arith, less, x, y)));
      root = root-shifts;
      parent = parent-shifts;
    };
    declared = declared-shifts;
    to = shifted at;
    from = unshifted at;
    forth = λ k lt not_so. (refl, lt);
    come = comes;
  }
