-- What is still to come of the boxes below a container, a box further.
use Rattle.std.proofs.Common.{◌≡◌, ℕ, zero, suc, ◌+◌, ◌<◌, ◌≤◌, ◌==◌, true, false, List, [], ◌∷◌, ◌++◌, length, drop, reverse, get_or, slice_index, refl, sym, ap, ◌∙◌, arith, append_assoc, append-nil, length-drop, inl, inr, ◌⊎◌}
use Rattle.std.proofs.lemmas.Bool.{ne_eqb, eq-eqb}
use Rattle.std.proofs.lemmas.List.{drop_all, drop-map, get_or-drop, drop_more, reverse-append}
use Rattle.lay_doc.specs.Tree.{IsTree}
use Rattle.lay_box_tree.specs.BoxColumns.{box_parents}
use Rattle.lay_box_tree.specs.Containers.{box_parent}
use Rattle.lay_box_tree.specs.Roles.{role_of}
use Rattle.lay_box_tree.specs.declared.box_role.Role.{Role}
use Rattle.lay_box_tree.specs.declared.box_role.Role.TheVariants as role
use Rattle.lay_box_tree.specs.declared.box_tree.BoxNode.{BoxNode}
use Rattle.lay_line_items.proofs.Cited.{length-parents}
use Rattle.lay_space.specs.declared.item.Item.{Item}
use Rattle.lay_space.specs.declared.item.Item.TheVariants as item
use Rattle.lay_line_items.specs.InlineItems.{items_below, items_at, items_as}
use Rattle.lay_line_items.specs.InlineStarts.{takes_room}
use Rattle.lay_line_items.specs.OpenBoxes.{to_come, all_items, innermost, Fall, is_inline}

-- none of these boxes is a child of the box at q
none_below : (boxes bs : List BoxNode) (q k : ℕ) → ((i : ℕ) → i < length bs → slice_index (box_parents bs) i ≡ q → ⊥) → items_below boxes q k bs ≡ []
none_below boxes [] q k none = refl
none_below boxes (b ∷ bs) q k none =
    let other : (b.parent == q) ≡ false = ne_eqb b.parent q (none 0 (omega arith)) in
    rw other (none_below boxes bs q (k + 1) (λ i lt. none (suc i) (omega (arith, lt))))

parent_behind : (boxes : List BoxNode) (k i : ℕ) → slice_index (box_parents (drop k boxes)) i ≡ box_parent boxes (k + i)
parent_behind boxes k i = let moved : box_parents (drop k boxes) ≡ drop k (box_parents boxes) = sym (drop-map (λ b. b.parent) k boxes) in rw moved (get_or-drop k (box_parents boxes) i 0)

-- where the box at k stands in a box at p, no box from there on is in one between p and k
pub over : (boxes : List BoxNode) → IsTree (box_parents boxes) → (k q : ℕ) → k < length boxes → box_parent boxes k < q → q < k → items_below boxes q k (drop k boxes) ≡ []
over boxes tree k q within low high =
    none_below boxes (drop k boxes) q k (λ i lt e.
    let len = length-drop k boxes in
    let at : box_parent boxes (k + i) ≡ q = sym (parent_behind boxes k i) ∙ e in
    elim (first_or_later i) [
      | inl first ↦ (let same : k + i ≡ k = omega (arith, first) in let here : box_parent boxes k ≡ q = rw same at at in absurd (omega (arith, here, low)))
      | inr later ↦ (
          let counted = length-parents boxes in
          let near : box_parent boxes (k + i) < k = omega (arith, at, high) in
          let less = tree.together k (k + i) (omega (arith, later)) (omega (arith, counted, len, lt, within)) near in
          absurd (omega (arith, less, at, low)))
    ])
  where
    first_or_later : (i : ℕ) → (i ≡ 0) ⊎ (0 < i)
    first_or_later zero = inl refl
    first_or_later (suc i) = inr (omega arith)

-- nothing is in any box where no box is left
pub none_left : (boxes : List BoxNode) (q k : ℕ) → length boxes ≤ k → items_below boxes q k (drop k boxes) ≡ []
none_left boxes q k past = let gone = drop_all k boxes past in rw gone refl

pub fall_up : (c : ℕ) (qs : List ℕ) (j k : ℕ) → j ≤ k → Fall c qs j → Fall c qs k
fall_up c [] j k le is = omega (arith, is, le)
fall_up c (q ∷ qs) j k le is = (omega (arith, is.0, le), is.1)

-- a box that stands in none of these gives them nothing
skipped : (boxes : List BoxNode) (c k : ℕ) (qs : List ℕ) (b : BoxNode) (bs : List BoxNode) → Fall c qs b.parent
    → to_come boxes c qs k (b ∷ bs) ≡ to_come boxes c qs (k + 1) bs
skipped boxes c k [] b bs fall = let other : (b.parent == c) ≡ false = ne_eqb b.parent c (λ e. omega (arith, fall, e)) in rw other refl
skipped boxes c k (q ∷ qs) b bs fall =
    let other : (b.parent == q) ≡ false = ne_eqb b.parent q (λ e. omega (arith, fall.0, e)) in
    let less : q ≤ b.parent = omega (arith, fall.0) in
    rw (other, skipped boxes c k qs b bs (fall_up c qs q b.parent less fall.1)) refl

-- and one that stands in the innermost gives that what it gives
held : (boxes : List BoxNode) (c k : ℕ) (qs : List ℕ) (b : BoxNode) (bs : List BoxNode) → innermost c qs ≡ b.parent → Fall c qs (b.parent + 1)
    → to_come boxes c qs k (b ∷ bs) ≡ items_at boxes k b (items_below boxes k (k + 1) bs) ++ to_come boxes c qs (k + 1) bs
held boxes c k [] b bs inside fall =
    let same : (b.parent == c) ≡ true = eq-eqb b.parent c (sym inside) in
    rw same refl
held boxes c k (q ∷ qs) b bs inside fall =
    let same : (b.parent == q) ≡ true = eq-eqb b.parent q (sym inside) in
    let less : q ≤ b.parent = omega (arith, inside) in
    rw (same, skipped boxes c k qs b bs (fall_up c qs q b.parent less fall.1), append_assoc) refl

pub fall_low : (c : ℕ) (qs : List ℕ) (k : ℕ) → Fall c qs k → c < k
fall_low c [] k is = is
fall_low c (q ∷ qs) k is = let low = fall_low c qs q is.1 in omega (arith, low, is.0)

pub parent_at : (boxes : List BoxNode) (k : ℕ) (b : BoxNode) → k < length boxes → b ≡ get_or boxes k b → box_parent boxes k ≡ b.parent
parent_at [] k b within is = absurd (omega (arith, within))
parent_at (x ∷ xs) zero b within is = ap (λ n. n.parent) (sym is)
parent_at (x ∷ xs) (suc k) b within is = parent_at xs k b (omega (arith, within)) is

pub box_next : (boxes : List BoxNode) (k : ℕ) (b : BoxNode) → k < length boxes → b ≡ get_or boxes k b → drop k boxes ≡ b ∷ drop (k + 1) boxes
box_next boxes k b within is = drop_more boxes k b within ∙ ap (λ x. x ∷ drop (k + 1) boxes) (sym is)

-- the box at k isn't below the container but in another box there
pub past_skipped : (boxes : List BoxNode) (c k : ℕ) (items : List Item) (qs : List ℕ) (b : BoxNode) → k < length boxes → b ≡ get_or boxes k b
    → Fall c qs (b.parent + 1) → (innermost c qs ≡ b.parent → ⊥) → all_items boxes c items qs k ≡ all_items boxes c items qs (k + 1)
past_skipped boxes c k items qs b within is fall elsewhere =
    let next = box_next boxes k b within is in
    rw next (ap (λ xs. items ++ xs) (skipped boxes c k qs b (drop (k + 1) boxes) (lower qs fall elsewhere)))
  where
    lower : (qs : List ℕ) → Fall c qs (b.parent + 1) → (innermost c qs ≡ b.parent → ⊥) → Fall c qs b.parent
    lower [] fall elsewhere = omega (arith, fall, elsewhere)
    lower (q ∷ qs) fall elsewhere = (omega (arith, fall.0, elsewhere), fall.1)

inline_gives : (r : Role) → is_inline r ≡ true → (boxes : List BoxNode) (k : ℕ) (b : BoxNode) (inside : List Item)
    → items_as boxes r k b inside ≡ item.Start k (takes_room boxes k b) ∷ inside ++ item.End k ∷ []
inline_gives role.Inline e boxes k b inside = refl
inline_gives role.Own e boxes k b inside = absurd cc
inline_gives role.Block e boxes k b inside = absurd cc
inline_gives role.Solid e boxes k b inside = absurd cc
inline_gives role.LeftFloat e boxes k b inside = absurd cc
inline_gives role.RightFloat e boxes k b inside = absurd cc
inline_gives role.Anchor e boxes k b inside = absurd cc
inline_gives role.Text e boxes k b inside = absurd cc
inline_gives role.Atomic e boxes k b inside = absurd cc
inline_gives role.TablePart e boxes k b inside = absurd cc

-- the box at k is an inline box that stands in the innermost open one
pub past_inline : (boxes : List BoxNode) (c k : ℕ) (items : List Item) (qs : List ℕ) (b : BoxNode) → k < length boxes → b ≡ get_or boxes k b
    → Fall c qs (b.parent + 1) → innermost c qs ≡ b.parent → is_inline (role_of b) ≡ true
    → all_items boxes c items qs k ≡ all_items boxes c (items ++ item.Start k (takes_room boxes k b) ∷ []) (k ∷ qs) (k + 1)
past_inline boxes c k items qs b within is fall inside inline =
    let next = box_next boxes k b within is in
    let bs = drop (k + 1) boxes in
    let below = items_below boxes k (k + 1) bs in
    let gives = inline_gives (role_of b) inline boxes k b below in
    ap (λ xs. items ++ to_come boxes c qs k xs) next
    ∙ ap (λ xs. items ++ xs) (held boxes c k qs b bs inside fall ∙ ap (λ xs. xs ++ to_come boxes c qs (k + 1) bs) gives)
    ∙ ap (λ xs. items ++ item.Start k (takes_room boxes k b) ∷ xs) (append_assoc below (item.End k ∷ []) (to_come boxes c qs (k + 1) bs))
    ∙ sym (append_assoc items (item.Start k (takes_room boxes k b) ∷ []) (to_come boxes c (k ∷ qs) (k + 1) bs))

-- the box at k is another one that stands there
pub past_leaf : (boxes : List BoxNode) (c k : ℕ) (items : List Item) (qs : List ℕ) (b : BoxNode) → k < length boxes → b ≡ get_or boxes k b
    → Fall c qs (b.parent + 1) → innermost c qs ≡ b.parent → (after : List Item)
    → after ≡ items ++ items_at boxes k b (items_below boxes k (k + 1) (drop (k + 1) boxes))
    → all_items boxes c items qs k ≡ all_items boxes c after qs (k + 1)
past_leaf boxes c k items qs b within is fall inside after put =
    let next = box_next boxes k b within is in
    let bs = drop (k + 1) boxes in
    let own = items_at boxes k b (items_below boxes k (k + 1) bs) in
    ap (λ xs. items ++ to_come boxes c qs k xs) next
    ∙ ap (λ xs. items ++ xs) (held boxes c k qs b bs inside fall)
    ∙ sym (append_assoc items own (to_come boxes c qs (k + 1) bs))
    ∙ ap (λ xs. xs ++ to_come boxes c qs (k + 1) bs) (sym put)

pub turned : (old new : List ℕ) (q : ℕ) → old ≡ new ++ q ∷ [] → reverse old ≡ q ∷ reverse new
turned old new q e = ap reverse e ∙ reverse-append new (q ∷ [])

-- the innermost open box ends
pub ended : (boxes : List BoxNode) (c q k : ℕ) (items : List Item) (qs : List ℕ) → items_below boxes q k (drop k boxes) ≡ []
    → all_items boxes c items (q ∷ qs) k ≡ all_items boxes c (items ++ item.End q ∷ []) qs k
ended boxes c q k items qs none =
    ap (λ xs. items ++ (xs ++ item.End q ∷ to_come boxes c qs k (drop k boxes))) none
    ∙ sym (append_assoc items (item.End q ∷ []) (to_come boxes c qs k (drop k boxes)))

-- all have ended
pub all_ended : (boxes : List BoxNode) (c k : ℕ) (items : List Item) (qs : List ℕ) → Fall c qs (c + 1) → items_below boxes c k (drop k boxes) ≡ []
    → all_items boxes c items qs k ≡ items
all_ended boxes c k items [] fall none = ap (λ xs. items ++ xs) none ∙ append-nil items
all_ended boxes c k items (q ∷ qs) fall none = let low = fall_low c qs q fall.1 in absurd (omega (arith, low, fall.0))
