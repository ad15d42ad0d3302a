-- What the items below a box say of one box, and of its parent.
use Rattle.std.proofs.Common.{◌≡◌, ◌≢◌, ℕ, zero, suc, ◌+◌, ◌<◌, ◌≤◌, ◌==◌, Bool, true, false, List, [], ◌∷◌, ◌++◌, length, drop, slice_index_or, refl, sym, ap, ◌∙◌, arith, inl, inr, append_assoc, append-nil, add-one, if◌then◌else◌}
use Rattle.std.proofs.lemmas.Bool.{cases_eq, eq-eqb, eqb-true, ne_eqb}
use Rattle.lay_doc.specs.Tree.{IsTree}
use Rattle.lay_box_tree.specs.BoxColumns.{box_parents}
use Rattle.lay_box_tree.specs.Containers.{box_parent}
use Rattle.lay_box_tree.specs.Roles.{box_roles, role_at, role_of}
use Rattle.lay_box_tree.specs.declared.box_role.Role.{Role}
use Rattle.lay_box_tree.specs.declared.box_role.Role.TheVariants as role
use Rattle.lay_box_tree.specs.declared.box_tree.BoxNode.{BoxNode}
use Rattle.lay_flow_boxes.proofs.Cited.{length-parents}
use Rattle.lay_space.specs.declared.item.Item.{Item}
use Rattle.lay_space.specs.declared.item.Item.TheVariants as item
use Rattle.lay_line_items.specs.InlineItems.{items_as, items_at, items_below}
use Rattle.lay_line_items.specs.InlineStarts.{takes_room}
use Rattle.lay_line_items.specs.OpenBoxes.{is_inline}
use Rattle.lay_flow_boxes.specs.LineItems.{Sort, anchor, atomic, end, float, named, sorts_of, start, text}

-- what a box of this role is
abbrev pub own_sorts : Role → List Sort
own_sorts role.Inline = start ∷ end ∷ []
own_sorts role.Text = text ∷ []
own_sorts role.Atomic = atomic ∷ []
own_sorts role.LeftFloat = float ∷ []
own_sorts role.RightFloat = float ∷ []
own_sorts role.Anchor = anchor ∷ []
own_sorts role.Own = []
own_sorts role.Block = []
own_sorts role.Solid = []
own_sorts role.TablePart = []

-- these where an inline box begins
abbrev opens : Sort → List Sort → List Sort
opens start os = os
opens text os = []
opens atomic os = []
opens end os = []
opens float os = []
opens anchor os = []

abbrev pub spread : List Sort → List Sort → List Sort
spread os [] = []
spread os (s ∷ ss) = opens s os ++ spread os ss

spread_append : (os xs ys : List Sort) → spread os (xs ++ ys) ≡ spread os xs ++ spread os ys
spread_append os [] ys = refl
spread_append os (x ∷ xs) ys = ap (λ r. opens x os ++ r) (spread_append os xs ys) ∙ sym (append_assoc (opens x os) (spread os xs) (spread os ys))

append_by : (b : Bool) (s : Sort) (xs ys zs : List Sort) → zs ≡ xs ++ ys → (if b then s ∷ zs else zs) ≡ (if b then s ∷ xs else xs) ++ ys
append_by true s xs ys zs e = ap (λ r. s ∷ r) e
append_by false s xs ys zs e = e

pub sorts_append : (k : ℕ) (xs ys : List Item) → sorts_of k (xs ++ ys) ≡ sorts_of k xs ++ sorts_of k ys
sorts_append k [] ys = refl
sorts_append k (x ∷ xs) ys = append_by ((named x).box == k) (named x).sort (sorts_of k xs) (sorts_of k ys) (sorts_of k (xs ++ ys)) (sorts_append k xs ys)

-- of another box
other_ends : (k i : ℕ) (takes : Bool) (inside : List Item) → i ≢ k → sorts_of k (item.Start i takes ∷ inside ++ item.End i ∷ []) ≡ sorts_of k inside
other_ends k i takes inside other =
    let no : (i == k) ≡ false = ne_eqb i k other in
    rw no (sorts_append k inside (item.End i ∷ []) ∙ rw no (append-nil (sorts_of k inside)))

other_as : (boxes : List BoxNode) (r : Role) (k i : ℕ) (b : BoxNode) (inside : List Item) → i ≢ k
    → sorts_of k (items_as boxes r i b inside) ≡ (if is_inline r then sorts_of k inside else [])
other_as boxes role.Inline k i b inside other = other_ends k i (takes_room boxes i b) inside other
other_as boxes role.Text k i b inside other = (let no = ne_eqb i k other in rw no refl)
other_as boxes role.Atomic k i b inside other = (let no = ne_eqb i k other in rw no refl)
other_as boxes role.LeftFloat k i b inside other = (let no = ne_eqb i k other in rw no refl)
other_as boxes role.RightFloat k i b inside other = (let no = ne_eqb i k other in rw no refl)
other_as boxes role.Anchor k i b inside other = (let no = ne_eqb i k other in rw no refl)
other_as boxes role.Own k i b inside other = refl
other_as boxes role.Block k i b inside other = refl
other_as boxes role.Solid k i b inside other = refl
other_as boxes role.TablePart k i b inside other = refl

-- of the box itself
own_ends : (k : ℕ) (takes : Bool) (inside : List Item) → sorts_of k inside ≡ [] → sorts_of k (item.Start k takes ∷ inside ++ item.End k ∷ []) ≡ start ∷ end ∷ []
own_ends k takes inside none =
    let yes : (k == k) ≡ true = eq-eqb k k refl in
    rw yes (ap (λ r. start ∷ r) (sorts_append k inside (item.End k ∷ []) ∙ rw (yes, none) refl))

same_as : (boxes : List BoxNode) (r : Role) (k : ℕ) (b : BoxNode) (inside : List Item) → sorts_of k inside ≡ [] → sorts_of k (items_as boxes r k b inside) ≡ own_sorts r
same_as boxes role.Inline k b inside none = own_ends k (takes_room boxes k b) inside none
same_as boxes role.Text k b inside none = (let yes : (k == k) ≡ true = eq-eqb k k refl in rw yes refl)
same_as boxes role.Atomic k b inside none = (let yes : (k == k) ≡ true = eq-eqb k k refl in rw yes refl)
same_as boxes role.LeftFloat k b inside none = (let yes : (k == k) ≡ true = eq-eqb k k refl in rw yes refl)
same_as boxes role.RightFloat k b inside none = (let yes : (k == k) ≡ true = eq-eqb k k refl in rw yes refl)
same_as boxes role.Anchor k b inside none = (let yes : (k == k) ≡ true = eq-eqb k k refl in rw yes refl)
same_as boxes role.Own k b inside none = refl
same_as boxes role.Block k b inside none = refl
same_as boxes role.Solid k b inside none = refl
same_as boxes role.TablePart k b inside none = refl

none_if : (b : Bool) (xs : List Sort) → xs ≡ [] → (if b then xs else []) ≡ []
none_if true xs e = e
none_if false xs e = refl

none_by : (c : Bool) (k : ℕ) (xs ys : List Item) → sorts_of k xs ≡ [] → sorts_of k ys ≡ [] → sorts_of k (if c then xs ++ ys else ys) ≡ []
none_by true k xs ys e f = sorts_append k xs ys ∙ rw (e, f) refl
none_by false k xs ys e f = f

-- the items of boxes from a place on say nothing of a box before it
pub none_before : (boxes : List BoxNode) (k p i : ℕ) (bs : List BoxNode) → k < i → sorts_of k (items_below boxes p i bs) ≡ []
none_before boxes k p i [] lt = refl
none_before boxes k p i (b ∷ bs) lt =
    none_by (b.parent == p) k (items_at boxes i b (items_below boxes i (i + 1) bs)) (items_below boxes p (i + 1) bs)
    (other_as boxes (role_of b) k i b (items_below boxes i (i + 1) bs) (λ e. omega (arith, e, lt))
    ∙ none_if (is_inline (role_of b)) (sorts_of k (items_below boxes i (i + 1) bs)) (none_before boxes k i (i + 1) bs (omega (arith, lt))))
    (none_before boxes k p (i + 1) bs (omega (arith, lt)))

-- the box at k, and those behind it
next_is : (xs : List BoxNode) (k : ℕ) (b : BoxNode) (bs : List BoxNode) → drop k xs ≡ b ∷ bs → drop (suc k) xs ≡ bs
next_is [] zero b bs e = absurd cc
next_is [] (suc k) b bs e = absurd cc
next_is (x ∷ xs) zero b bs e = cc
next_is (x ∷ xs) (suc k) b bs e = next_is xs k b bs e

pub behind : (xs : List BoxNode) (k : ℕ) (b : BoxNode) (bs : List BoxNode) → drop k xs ≡ b ∷ bs → drop (k + 1) xs ≡ bs
behind xs k b bs e = rw (add-one k) (next_is xs k b bs e)

pub parent_is : (xs : List BoxNode) (k : ℕ) (b : BoxNode) (bs : List BoxNode) → drop k xs ≡ b ∷ bs → box_parent xs k ≡ b.parent
parent_is [] zero b bs e = absurd cc
parent_is [] (suc k) b bs e = absurd cc
parent_is (x ∷ xs) zero b bs e = ap (λ (y : BoxNode). y.parent) (let q : x ≡ b = cc in q)
parent_is (x ∷ xs) (suc k) b bs e = parent_is xs k b bs e

read_role : (xs : List BoxNode) (k : ℕ) (b : BoxNode) (bs : List BoxNode) → drop k xs ≡ b ∷ bs → slice_index_or (box_roles xs) k role.Own ≡ role_of b
read_role [] zero b bs e = absurd cc
read_role [] (suc k) b bs e = absurd cc
read_role (x ∷ xs) zero b bs e = ap role_of (let q : x ≡ b = cc in q)
read_role (x ∷ xs) (suc k) b bs e = read_role xs k b bs e

pub role_is : (boxes : List BoxNode) (k : ℕ) (b : BoxNode) (bs : List BoxNode) → 0 < k → drop k boxes ≡ b ∷ bs → role_at boxes k ≡ role_of b
role_is boxes zero b bs positive e = absurd (omega (arith, positive))
role_is boxes (suc k) b bs positive e = (let other : (suc k == 0) ≡ false = ne_eqb (suc k) 0 (λ z. omega (arith, z)) in rw other (read_role boxes (suc k) b bs e))

pub some_behind : (boxes : List BoxNode) (k : ℕ) → drop k boxes ≡ [] → k < length boxes → ⊥
some_behind [] k e lt = omega (arith, lt)
some_behind (x ∷ xs) zero e lt = cc
some_behind (x ∷ xs) (suc k) e lt = some_behind xs k e (omega (arith, lt))

-- One box.
module _ (boxes : List BoxNode) (tree : IsTree (box_parents boxes)) (k : ℕ) (positive : 0 < k) (within : k < length boxes) where
  abbrev own : List Sort
  own = own_sorts (role_at boxes k)

  abbrev q : ℕ
  q = box_parent boxes k

  before : q < k
  before = tree.before k positive (omega (arith, length-parents boxes, within))

  -- these items have the box where they have the start of its parent
  abbrev Follows : List Item → Type 0
  Follows xs = sorts_of k xs ≡ spread own (sorts_of q xs)

  follow_by : (c : Bool) (xs ys : List Item) → (c ≡ true → Follows xs) → Follows ys → Follows (if c then xs ++ ys else ys)
  follow_by true xs ys hx hy =
      sorts_append k xs ys ∙ ap (λ r. r ++ sorts_of k ys) (hx refl) ∙ ap (λ r. spread own (sorts_of q xs) ++ r) hy
      ∙ sym (ap (spread own) (sorts_append q xs ys) ∙ spread_append own (sorts_of q xs) (sorts_of q ys))
  follow_by false xs ys hx hy = hy

  inline_or : (r : Role) (xs : List Sort) → xs ≡ own → (if is_inline r then xs else []) ≡ spread own (own_sorts r)
  inline_or role.Inline xs e = e ∙ sym (append-nil own)
  inline_or role.Text xs e = refl
  inline_or role.Atomic xs e = refl
  inline_or role.LeftFloat xs e = refl
  inline_or role.RightFloat xs e = refl
  inline_or role.Anchor xs e = refl
  inline_or role.Own xs e = refl
  inline_or role.Block xs e = refl
  inline_or role.Solid xs e = refl
  inline_or role.TablePart xs e = refl

  if_follow : (b : Bool) (xs : List Item) → Follows xs → (if b then sorts_of k xs else []) ≡ spread own (if b then sorts_of q xs else [])
  if_follow true xs h = h
  if_follow false xs h = refl

  -- of boxes in a box at i
  in_box : (i : ℕ) (b : BoxNode) (inside : List Item) → i ≢ k → (q ≢ i → Follows inside) → (q ≡ i → (sorts_of k inside ≡ own) × (sorts_of q inside ≡ []))
      → Follows (items_at boxes i b inside)
  in_box i b inside other deeper here =
      let mine = other_as boxes (role_of b) k i b inside other in
      elim (cases_eq q i) [
        | inl same ↦ (let h = here same in
            let parents : sorts_of q (items_at boxes i b inside) ≡ own_sorts (role_of b) =
            rw (sym same) (same_as boxes (role_of b) q b inside h.1) in
            mine ∙ inline_or (role_of b) (sorts_of k inside) h.0 ∙ sym (ap (spread own) parents))
        | inr not_same ↦ (let parents = other_as boxes (role_of b) q i b inside (λ e. not_same (sym e)) in
            mine ∙ if_follow (is_inline (role_of b)) inside (deeper not_same) ∙ sym (ap (spread own) parents))
      ]

  one_by : (c : Bool) (xs ys : List Item) → (c ≡ true → sorts_of k xs ≡ []) → sorts_of k ys ≡ own → sorts_of k (if c then xs ++ ys else ys) ≡ own
  one_by true xs ys hx hy = sorts_append k xs ys ∙ ap (λ r. r ++ sorts_of k ys) (hx refl) ∙ hy
  one_by false xs ys hx hy = hy

  one_first : (c : Bool) (xs ys : List Item) → c ≡ true → sorts_of k xs ≡ own → sorts_of k ys ≡ [] → sorts_of k (if c then xs ++ ys else ys) ≡ own
  one_first true xs ys e hx hy = sorts_append k xs ys ∙ ap (λ r. sorts_of k xs ++ r) hy ∙ append-nil (sorts_of k xs) ∙ hx
  one_first false xs ys e hx hy = absurd cc

  mutual
    -- of boxes in another box than the parent
    pub follows : (p i : ℕ) (bs : List BoxNode) → drop i boxes ≡ bs → q ≢ p → Follows (items_below boxes p i bs)
    follows p i [] e other = refl
    follows p i (b ∷ bs) e other =
        let next = behind boxes i b bs e in
        let at = parent_is boxes i b bs e in
        follow_by (b.parent == p) (items_at boxes i b (items_below boxes i (i + 1) bs)) (items_below boxes p (i + 1) bs)
        (λ c. in_box i b (items_below boxes i (i + 1) bs)
        (λ same. (let here : box_parent boxes k ≡ b.parent = ap (box_parent boxes) (sym same) ∙ at in other (here ∙ eqb-true b.parent p c)))
        (λ deeper. follows i (i + 1) bs next deeper)
        (λ here. (below i (i + 1) bs next here (omega arith) (omega (arith, before, here)), none_before boxes q i (i + 1) bs (omega (arith, here)))))
        (follows p (i + 1) bs next other)

    -- of boxes in the parent
    pub below : (p i : ℕ) (bs : List BoxNode) → drop i boxes ≡ bs → q ≡ p → p < i → i ≤ k → sorts_of k (items_below boxes p i bs) ≡ own
    below p i [] e is low high = absurd (some_behind boxes i e (omega (arith, high, within)))
    below p i (b ∷ bs) e is low high =
        let next = behind boxes i b bs e in
        let at = parent_is boxes i b bs e in
        let inside = items_below boxes i (i + 1) bs in
        elim (cases_eq i k) [
          | inl same ↦ (let here : b.parent ≡ p = sym at ∙ ap (box_parent boxes) same ∙ is in
              let role = ap (role_at boxes) (sym same) ∙ role_is boxes i b bs (omega (arith, low)) e in
              let mine : sorts_of k (items_at boxes i b inside) ≡ own = rw same
              (same_as boxes (role_of b) k b (items_below boxes k (k + 1) bs) (none_before boxes k k (k + 1) bs (omega arith)) ∙ ap own_sorts (sym role)) in
              one_first (b.parent == p) (items_at boxes i b inside) (items_below boxes p (i + 1) bs) (eq-eqb b.parent p here) mine (none_before boxes k p (i + 1) bs (omega (arith, same))))
          | inr other ↦ one_by (b.parent == p) (items_at boxes i b inside) (items_below boxes p (i + 1) bs)
              (λ c. other_as boxes (role_of b) k i b inside other
              ∙ none_if (is_inline (role_of b)) (sorts_of k inside)
              (follows i (i + 1) bs next (λ same. omega (arith, same, is, low)) ∙ ap (spread own) (none_before boxes q i (i + 1) bs (omega (arith, is, low)))))
              (below p (i + 1) bs next is (omega (arith, low)) (omega (arith, high, other)))
        ]
