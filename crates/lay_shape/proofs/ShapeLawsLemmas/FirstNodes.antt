-- The first node has one id before an edit and after it.
use Rattle.std.proofs.Common.{◌≡◌, ◌<◌, ◌≤◌, ◌+◌, ◌-◌, ◌==◌, ℕ, zero, suc, nat_lt, Bool, true, false, if◌then◌else◌, List, [], ◌∷◌, length, slice_index, drop, Option, None, Some, refl, ap, ◌∙◌, arith}
use Rattle.lay_style.specs.Places.{place_of}
use Rattle.lay_doc.specs.declared.edit.Edit.{Edit}
use Rattle.lay_doc.specs.declared.edit.Edit.TheVariants.{SetStyle, ClearStyle, SetText, Insert, Remove, Bad}
use Rattle.lay_doc.specs.declared.node.Node.{Node}
use Rattle.lay_doc.specs.declared.node.NodeId.{NodeId}
use Rattle.lay_doc.specs.Changes.{after_change, changed_at, with_style, with_text, without_style}
use Rattle.lay_doc.specs.Document.{Document, becomes, depths_of, ids_of, inserted, parents_of}
use Rattle.lay_doc.specs.Edits.{after, after_insert, fault, inserted_below}
use Rattle.lay_doc.specs.NewNodes.{NewNodeValue}
use Rattle.lay_doc.specs.Removal.{after_remove, remove_fault, removed, removed_between}
use Rattle.lay_doc.specs.Tree.{end_of, slot_from, slot_of}

abbrev first_id : List Node → ℕ
first_id nodes = slice_index (ids_of nodes) 0

-- a slot is looked for behind the parent
slot_behind : (p index at : ℕ) (us : List ℕ) → at ≤ slot_from p index at us
slot_behind p index at [] = omega arith
slot_behind p index at (u ∷ us) = by (nat_lt u p) (u == p) (index == 0) (slot_behind p (index - 1) (at + 1) us) (slot_behind p index (at + 1) us)
  where
    by : (before child here : Bool) → at + 1 ≤ slot_from p (index - 1) (at + 1) us → at + 1 ≤ slot_from p index (at + 1) us
        → at ≤ (if before then at else (if child then (if here then at else slot_from p (index - 1) (at + 1) us) else slot_from p index (at + 1) us))
    by true child here x y = omega arith
    by false true true x y = omega arith
    by false true false x y = omega (arith, x)
    by false false here x y = omega (arith, y)

first_put : (nodes : List Node) (at : ℕ) (new : Node) → 0 < at → 0 < length nodes → first_id (inserted nodes at new) ≡ first_id nodes
first_put nodes zero new behind some = absurd (omega (arith, behind))
first_put [] (suc at) new behind some = absurd (omega (arith, some))
first_put (n ∷ nodes) (suc at) new behind some = refl

first_left : (nodes : List Node) (p end : ℕ) → 0 < p → 0 < length nodes → first_id (removed_between nodes p end) ≡ first_id nodes
first_left nodes zero end behind some = absurd (omega (arith, behind))
first_left [] (suc p) end behind some = absurd (omega (arith, some))
first_left (n ∷ nodes) (suc p) end behind some = refl

first_changed : (nodes : List Node) (p : ℕ) (f : Node → Node) → ((n : Node) → (f n).id ≡ n.id) → first_id (changed_at p f nodes) ≡ first_id nodes
first_changed [] p f same = refl
first_changed (n ∷ nodes) zero f same = ap (λ (i : NodeId). i.0) (same n)
first_changed (n ∷ nodes) (suc p) f same = refl

module _ (d : Document) where
  of_changed : (id : ℕ) (f : Node → Node) → ((n : Node) → (f n).id ≡ n.id) → first_id (after_change d id f).nodes ≡ first_id d.nodes
  of_changed id f same = by (place_of id (ids_of d.nodes)) refl
    where
      by : (o : Option ℕ) → place_of id (ids_of d.nodes) ≡ o → first_id (after_change d id f).nodes ≡ first_id d.nodes
      by None e = rw e refl
      by (Some p) e = (let is : after_change d id f ≡ record d { nodes = changed_at p f d.nodes } = rw e refl in ap (λ (x : Document). first_id x.nodes) is ∙ first_changed d.nodes p f same)

  of_put : (parent index : ℕ) (new : NewNodeValue) → 0 < length d.nodes → first_id (after_insert d parent index new).nodes ≡ first_id d.nodes
  of_put parent index new some = by (place_of parent (ids_of d.nodes)) refl
    where
      by : (o : Option ℕ) → place_of parent (ids_of d.nodes) ≡ o → first_id (after_insert d parent index new).nodes ≡ first_id d.nodes
      by None e = rw e refl
      by (Some p) e =
          let is : after_insert d parent index new ≡ inserted_below d p index new = rw e refl in
          let behind = slot_behind p index (p + 1) (drop (p + 1) (parents_of d.nodes)) in
          ap (λ (x : Document). first_id x.nodes) is
          ∙ first_put d.nodes (slot_of (parents_of d.nodes) p index) (becomes new p (slice_index (depths_of d.nodes) p + 1)) (omega (arith, behind)) some

  of_left : (id : ℕ) → remove_fault d id ≡ None → 0 < length d.nodes → first_id (after_remove d id).nodes ≡ first_id d.nodes
  of_left id accepted some = by (place_of id (ids_of d.nodes)) refl
    where
      by : (o : Option ℕ) → place_of id (ids_of d.nodes) ≡ o → first_id (after_remove d id).nodes ≡ first_id d.nodes
      by None e = rw e refl
      by (Some zero) e = absurd (let never = rw e at accepted in cc)
      by (Some (suc p)) e =
          let is : after_remove d id ≡ record d { nodes = removed d.nodes (suc p) } = rw e refl in
          ap (λ (x : Document). first_id x.nodes) is ∙ first_left d.nodes (suc p) (end_of (parents_of d.nodes) (suc p)) (omega arith) some

pub first_id_stays : (d : Document) (edit : Edit) → 0 < length d.nodes → fault d edit ≡ None → slice_index (ids_of (after d edit).nodes) 0 ≡ slice_index (ids_of d.nodes) 0
first_id_stays d (SetStyle node decl) some accepted = of_changed d node.0 (with_style decl) (λ n. refl)
first_id_stays d (ClearStyle node property) some accepted = of_changed d node.0 (without_style property) (λ n. refl)
first_id_stays d (SetText node text) some accepted = of_changed d node.0 (with_text text) (λ n. refl)
first_id_stays d (Insert parent index new) some accepted = of_put d parent.0 index new some
first_id_stays d (Remove node) some accepted = of_left d node.0 accepted some
first_id_stays d (Bad bad) some accepted = refl
