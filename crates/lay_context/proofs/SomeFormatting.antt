-- Contexts have a list of formatting contexts: context by context those of its roots, in the order of its boxes.
use Rattle.std.proofs.Common.{◌≡◌, inl, inr, ℕ, zero, suc, ◌+◌, ◌<◌, ◌≤◌, true, false, List, [], ◌∷◌, ◌++◌, length, slice_index, refl, subst, arith}
use Rattle.std.proofs.lemmas.Bool.{cases_Bool}
use Rattle.lay_doc.specs.Tree.{IsTree}
use Rattle.lay_box_tree.specs.BoxColumns.{box_parents}
use Rattle.lay_box_tree.specs.Containers.{box_parent}
use Rattle.lay_box_tree.specs.declared.box_tree.BoxNode.{BoxNode}
use Rattle.lay_contexts.specs.Contexts.{AreContexts, Context, boxes_in}
use Rattle.lay_contexts.specs.FormattingContextList.{AreFormattingContextsOf, formatting_context_of}
use Rattle.lay_contexts.specs.FormattingContexts.{FormattingContext}
use Rattle.lay_contexts.specs.Homes.{AreHomes, further, is_root}
use Rattle.lay_contexts.specs.Listed.{AreListedTo}
use Rattle.lay_context.proofs.Cited.{HomesTo, all_listed, next_listed, none_listed, one_home, one_listed, one_passed, own_or_parent, parent_before}
use Rattle.lay_context.proofs.FoundLists.{found_list}

-- the homes of the boxes of a context
homes_to : (boxes : List BoxNode) → IsTree (box_parents boxes) → (n : ℕ) → n ≤ length boxes → (homes : List ℕ) × HomesTo boxes homes n
homes_to boxes tree zero le = ([], record { count = refl; each = λ k lt. absurd (omega (arith, lt)) })
homes_to boxes tree (suc n) le =
    let so_far = homes_to boxes tree n (omega (arith, le)) in
    let next : n + 1 ≡ suc n = omega arith in
    elim (cases_Bool (is_root boxes (box_parent boxes n))) [
      | inl is ↦ (
        so_far.0 ++ box_parent boxes n ∷ [],
        subst (HomesTo boxes (so_far.0 ++ box_parent boxes n ∷ [])) next (one_home boxes so_far.0 n (box_parent boxes n) so_far.1 (own_or_parent boxes tree n is)),
      )
      | inr not ↦ (let up = parent_before boxes tree n (omega (arith, le)) not in
          let home = slice_index so_far.0 (box_parent boxes n) in (
            so_far.0 ++ home ∷ [],
            subst (HomesTo boxes (so_far.0 ++ home ∷ [])) next
                (one_home boxes so_far.0 n home so_far.1 (further n home up.0 not (so_far.1.each (box_parent boxes n) up.1))),
          ))
    ]

some_homes : (boxes : List BoxNode) → IsTree (box_parents boxes) → (homes : List ℕ) × AreHomes boxes homes
some_homes boxes tree = let all = homes_to boxes tree (length boxes) (omega arith) in (all.0, record { count = all.1.count; each = all.1.each })

module _ (contexts : List Context) (are : AreContexts contexts) (homes : List (List ℕ)) where
  -- the roots of a context
  roots_to : (i n : ℕ) → n ≤ length (boxes_in contexts i) → (all : List FormattingContext) × AreListedTo contexts homes all i 0
      → (all : List FormattingContext) × AreListedTo contexts homes all i n
  roots_to i zero le begun = begun
  roots_to i (suc n) le begun =
      let so_far = roots_to i n (omega (arith, le)) begun in
      let next : n + 1 ≡ suc n = omega arith in
      let c : FormattingContext = formatting_context_of contexts homes i n in
      elim (cases_Bool (is_root (boxes_in contexts i) n)) [
        | inl is ↦ (
          so_far.0 ++ c ∷ [],
          subst (AreListedTo contexts homes (so_far.0 ++ c ∷ []) i) next (one_listed contexts homes so_far.0 c i n so_far.1 (omega (arith, le)) is refl),
        )
        | inr not ↦ (so_far.0, subst (AreListedTo contexts homes so_far.0 i) next (one_passed contexts homes so_far.0 i n so_far.1 not))
      ]

  listed_to : (i : ℕ) → i ≤ length contexts → (all : List FormattingContext) × AreListedTo contexts homes all i 0
  listed_to zero le = ([], none_listed contexts homes)
  listed_to (suc i) le =
      let so_far = roots_to i (length (boxes_in contexts i)) (omega arith) (listed_to i (omega (arith, le))) in
      let next : i + 1 ≡ suc i = omega arith in
      (so_far.0, subst (λ (k : ℕ). AreListedTo contexts homes so_far.0 k 0) next (next_listed contexts homes so_far.0 i (length (boxes_in contexts i)) refl so_far.1))

pub some_formatting_contexts : (contexts : List Context) → AreContexts contexts → (all : List FormattingContext) × AreFormattingContextsOf contexts all
some_formatting_contexts contexts are =
    let homes = found_list [] (λ (i : ℕ) (hs : List ℕ). AreHomes (boxes_in contexts i) hs) (length contexts) (λ i lt. some_homes (boxes_in contexts i) (are.boxes i lt).tree) in
    let all = listed_to contexts are homes.0 (length contexts) (omega arith) in
    (all.0, all_listed contexts homes.0 all.0 (length contexts) refl (record { count = homes.1; each = homes.2 }) all.1)
