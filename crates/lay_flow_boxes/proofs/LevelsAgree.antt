-- A block box has an inline-level child where it holds inline-level boxes alone.
use Rattle.std.proofs.Common.{◌≡◌, ℕ, zero, suc, ◌+◌, ◌<◌, ◌≤◌, ◌==◌, ◌&&◌, ◌||◌, not, nat_lt, Bool, true, false, List, [], ◌∷◌, ◌++◌, length, drop, refl, sym, ap, subst, ◌∙◌, arith, inl, inr, if◌then◌else◌}
use Rattle.std.specs.List.{list_any}
use Rattle.std.proofs.lemmas.Bool.{cases_eq, cases_lt, eq-eqb, eqb-true, ltb-true, or_right, or_left, or_parts}
use Rattle.lay_box_tree.specs.Containers.{IsContainer, box_parent, counts, further as at_further, parent as at_parent}
use Rattle.lay_box_tree.specs.Roles.{is_inline_level, role_at, role_of}
use Rattle.lay_box_tree.specs.declared.box_role.Role.{Role}
use Rattle.lay_box_tree.specs.declared.box_role.Role.TheVariants as role
use Rattle.lay_box_tree.specs.declared.box_tree.BoxNode.{BoxNode}
use Rattle.lay_flow_boxes.proofs.Cited.{containers_are_nearest_lem, length-parents, one_container, some_before}
use Rattle.lay_measure.specs.Children.{Child, child_as, holds_lines, is_inline_level as is_inline_child}
use Rattle.lay_measure.specs.MeasureInValue.{MeasureInValue}
use Rattle.lay_measure.specs.PreferredWidths.{as_measured_child, children, own_preferred_widths}
use Rattle.lay_measure.specs.LineParts.{contribution}
use Rattle.lay_measure.specs.declared.preferred_widths.PreferredWidths.{PreferredWidths}
use Rattle.lay_box_tree.specs.Containing.{container_of}
use Rattle.lay_box_tree.specs.ContextBoxes.{AreContextBoxes}
use Rattle.lay_flow_boxes.specs.declared.inline_containers.Level.TheVariants.{Block as block_level, Inline as inline_level}
use Rattle.lay_flow_boxes.specs.InlineContainers.{holds, is_beside_lines, is_block_box, is_of, is_own_container, stands_in}
use Rattle.lay_flow_boxes.specs.LineItems.{AreHeldByOthers, IsInLines, holds_nothing}
use Rattle.lay_flow_boxes.specs.OneLevel.{WidthsAgreeOnLines}
use Rattle.lay_flow_boxes.proofs.FlowFacts.{beside_by, not_held, positive_lt}
use Rattle.lay_flow_boxes.proofs.ItemSorts.{behind, parent_is, role_is, some_behind}
use Rattle.lay_flow_boxes.proofs.LinesAreItems.{block_counts, within}

-- an inline-level child of the box at c
record HasInlineChild (boxes : List BoxNode) (c from : ℕ) : Type 0 where
  place : ℕ
  least : from ≤ place
  there : place < length boxes
  parent : box_parent boxes place ≡ c
  level : is_inline_level (role_at boxes place) ≡ true

-- a child says so
child_says : (r : Role) (w : PreferredWidths) → list_any is_inline_child (child_as r w) ≡ is_inline_level r
child_says role.Own w = refl
child_says role.Block w = refl
child_says role.Solid w = refl
child_says role.LeftFloat w = refl
child_says role.RightFloat w = refl
child_says role.Anchor w = refl
child_says role.Inline w = refl
child_says role.Text w = refl
child_says role.Atomic w = refl
child_says role.TablePart w = refl

any_append : (xs ys : List Child) → list_any is_inline_child (xs ++ ys) ≡ (list_any is_inline_child xs || list_any is_inline_child ys)
any_append [] ys = refl
any_append (x ∷ xs) ys = by (is_inline_child x) (any_append xs ys)
  where
    by : (b : Bool) → list_any is_inline_child (xs ++ ys) ≡ (list_any is_inline_child xs || list_any is_inline_child ys)
        → (b || list_any is_inline_child (xs ++ ys)) ≡ ((b || list_any is_inline_child xs) || list_any is_inline_child ys)
    by true e = refl
    by false e = e

both_ways : (a b : Bool) → (a ≡ true → b ≡ true) → (b ≡ true → a ≡ true) → a ≡ b
both_ways true true f g = refl
both_ways true false f g = sym (f refl)
both_ways false true f g = g refl
both_ways false false f g = refl

-- One formatting context that is measured.
module _ (m : MeasureInValue) (are : AreContextBoxes m.boxes) (c : ℕ) where
  abbrev says : BoxNode → ℕ → List Child → Bool
  says b i cs = list_any is_inline_child (as_measured_child m i b cs)

  later : (i : ℕ) → HasInlineChild m.boxes c (i + 1) → HasInlineChild m.boxes c i
  later i h = record { place = h.place; least = (let l = h.least in omega (arith, l)); there = h.there; parent = h.parent; level = h.level }

  -- what children say is so of one
  found_in : (i : ℕ) (bs : List BoxNode) → drop i m.boxes ≡ bs → 0 < i → holds_lines (children m c i bs) ≡ true → HasInlineChild m.boxes c i
  found_in i [] e positive h = absurd cc
  found_in i (b ∷ bs) e positive h = by (found_in (i + 1) bs (behind m.boxes i b bs e) (omega arith)) (b.parent == c) refl h
    where
      first : (a : Bool) → list_any is_inline_child (as_measured_child m i b (children m i (i + 1) bs)) ≡ a → b.parent ≡ c → (holds_lines (children m c (i + 1) bs) ≡ true → HasInlineChild m.boxes c (i + 1))
          → (a || holds_lines (children m c (i + 1) bs)) ≡ true → HasInlineChild m.boxes c i
      first true s same rest h = record {
        place = i;
        least = omega arith;
        there = within m.boxes i b bs e;
        parent = parent_is m.boxes i b bs e ∙ same;
        level = ap is_inline_level (role_is m.boxes i b bs positive e) ∙ (sym (child_says (role_of b) (contribution b (own_preferred_widths m i (role_of b) (children m i (i + 1) bs)))) ∙ s);
      }
      first false s same rest h = later i (rest h)

      by : (holds_lines (children m c (i + 1) bs) ≡ true → HasInlineChild m.boxes c (i + 1)) → (x : Bool) → (b.parent == c) ≡ x
          → holds_lines (if x then as_measured_child m i b (children m i (i + 1) bs) ++ children m c (i + 1) bs else children m c (i + 1) bs) ≡ true → HasInlineChild m.boxes c i
      by rest true same h =
          first (list_any is_inline_child (as_measured_child m i b (children m i (i + 1) bs))) refl (eqb-true b.parent c same) rest
          (sym (any_append (as_measured_child m i b (children m i (i + 1) bs)) (children m c (i + 1) bs)) ∙ h)
      by rest false other h = later i (rest h)

  -- and the other way round
  said_of : (k i : ℕ) (bs : List BoxNode) → drop i m.boxes ≡ bs → 0 < i → i ≤ k → k < length m.boxes → box_parent m.boxes k ≡ c → is_inline_level (role_at m.boxes k) ≡ true
      → holds_lines (children m c i bs) ≡ true
  said_of k i [] e positive low lt parent level = absurd (some_behind m.boxes i e (omega (arith, low, lt)))
  said_of k i (b ∷ bs) e positive low lt parent level = elim (cases_eq i k) [
    | inl same ↦ (let mine : b.parent ≡ c = sym (parent_is m.boxes i b bs e) ∙ ap (box_parent m.boxes) same ∙ parent in
        let inline : is_inline_level (role_of b) ≡ true = ap is_inline_level (sym (role_is m.boxes i b bs positive e) ∙ ap (role_at m.boxes) same) ∙ level in
        here (b.parent == c) (eq-eqb b.parent c mine)
        (child_says (role_of b) (contribution b (own_preferred_widths m i (role_of b) (children m i (i + 1) bs))) ∙ inline))
    | inr other ↦ further (b.parent == c) (said_of k (i + 1) bs (behind m.boxes i b bs e) (omega arith) (omega (arith, low, other)) lt parent level)
  ]
    where
      here : (x : Bool) → x ≡ true → list_any is_inline_child (as_measured_child m i b (children m i (i + 1) bs)) ≡ true
          → holds_lines (if x then as_measured_child m i b (children m i (i + 1) bs) ++ children m c (i + 1) bs else children m c (i + 1) bs) ≡ true
      here true q s = any_append (as_measured_child m i b (children m i (i + 1) bs)) (children m c (i + 1) bs) ∙ or_left _ (holds_lines (children m c (i + 1) bs)) s
      here false q s = absurd cc

      further : (x : Bool) → holds_lines (children m c (i + 1) bs) ≡ true
          → holds_lines (if x then as_measured_child m i b (children m i (i + 1) bs) ++ children m c (i + 1) bs else children m c (i + 1) bs) ≡ true
      further true h = any_append (as_measured_child m i b (children m i (i + 1) bs)) (children m c (i + 1) bs) ∙ or_right (list_any is_inline_child (as_measured_child m i b (children m i (i + 1) bs))) _ h
      further false h = h

-- One container.
module _ (boxes : List BoxNode) (are : AreContextBoxes boxes) (c : ℕ) where
  nearest : (k : ℕ) → IsInLines boxes c k → IsContainer boxes k c
  nearest k is = subst (IsContainer boxes k) is.container (containers_are_nearest_lem boxes k are is.within)

  stands : (k : ℕ) → IsInLines boxes c k → is_inline_level (role_at boxes k) ≡ true → stands_in inline_level boxes c k ≡ true
  stands k is level =
      let positive = positive_lt k is.behind in
      let same : (container_of boxes k == c) ≡ true = eq-eqb (container_of boxes k) c is.container in
      rw (positive, same) level

  -- a box in it is one that it holds
  held : (k n : ℕ) → k < n → stands_in inline_level boxes c k ≡ true → holds inline_level boxes c n ≡ true
  held k zero lt s = absurd (omega (arith, lt))
  held k (suc n) lt s = elim (cases_lt k n) [
    | inl low ↦ or_left (holds inline_level boxes c n) (stands_in inline_level boxes c n) (held k n low s)
    | inr high ↦ (let q : k ≡ n = omega (arith, lt, high) in or_right (holds inline_level boxes c n) (stands_in inline_level boxes c n) (rw (sym q) s))
  ]

  -- and the other way round
  record IsHeld : Type 0 where
    place : ℕ
    is : IsInLines boxes c place
    level : is_inline_level (role_at boxes place) ≡ true

  held_by : (k : ℕ) → k < length boxes → (p s l : Bool) → nat_lt 0 k ≡ p → (container_of boxes k == c) ≡ s → is_inline_level (role_at boxes k) ≡ l → (p && s && l) ≡ true → IsHeld
  held_by k lt true true true p s l e = record {
    place = k;
    is = record { behind = ltb-true 0 k p; within = lt; container = eqb-true (container_of boxes k) c s };
    level = l;
  }
  held_by k lt true true false p s l e = absurd cc
  held_by k lt true false l p s q e = absurd cc
  held_by k lt false s l p q r e = absurd cc

  some_held : (n : ℕ) → n ≤ length boxes → holds inline_level boxes c n ≡ true → IsHeld
  some_held zero le e = absurd cc
  some_held (suc n) le e = by (some_held n (omega (arith, le))) (holds inline_level boxes c n) refl e
    where
      by : (holds inline_level boxes c n ≡ true → IsHeld) → (a : Bool) → holds inline_level boxes c n ≡ a → (a || stands_in inline_level boxes c n) ≡ true → IsHeld
      by before true p e = before p
      by before false p e = held_by n (omega (arith, le)) (nat_lt 0 n) (container_of boxes n == c) (is_inline_level (role_at boxes n)) refl refl refl e

  -- between such a box and its container are inline boxes alone
  opened : (r : Role) → is_beside_lines r ≡ false → holds_nothing r ≡ false → is_inline_level r ≡ true
  opened role.Inline b h = refl
  opened role.Text b h = refl
  opened role.Atomic b h = refl
  opened role.LeftFloat b h = absurd cc
  opened role.RightFloat b h = absurd cc
  opened role.Anchor b h = absurd cc
  opened role.Own b h = absurd cc
  opened role.Block b h = absurd cc
  opened role.Solid b h = absurd cc
  opened role.TablePart b h = absurd cc

  not_beside : holds block_level boxes c (length boxes) ≡ false → (k : ℕ) → IsInLines boxes c k → is_beside_lines (role_at boxes k) ≡ false
  not_beside none k is =
      let same : (container_of boxes k == c) ≡ true = eq-eqb (container_of boxes k) c is.container in
      (or_parts (is_beside_lines (role_at boxes k)) (is_own_container boxes k) (beside_by (nat_lt 0 k) (container_of boxes k == c) (is_of block_level boxes k) (not_held boxes c (length boxes) k none is.within) (positive_lt k is.behind) same)).0

  outermost : AreHeldByOthers boxes → holds block_level boxes c (length boxes) ≡ false → (turns k : ℕ) → k < turns → IsInLines boxes c k → is_inline_level (role_at boxes k) ≡ true
      → HasInlineChild boxes c (c + 1)
  outermost others none zero k lt is level = absurd (omega (arith, lt))
  outermost others none (suc turns) k lt is level =
      by (λ j less there l. outermost others none turns j less there l) (are.tree.before k is.behind (omega (arith, length-parents boxes, is.within))) (counts boxes (box_parent boxes k)) refl
    where
      by : ((j : ℕ) → j < turns → IsInLines boxes c j → is_inline_level (role_at boxes j) ≡ true → HasInlineChild boxes c (c + 1)) → box_parent boxes k < k
          → (b : Bool) → counts boxes (box_parent boxes k) ≡ b → HasInlineChild boxes c (c + 1)
      by further before true e =
          let same : box_parent boxes k ≡ c = one_container boxes k (box_parent boxes k) c (at_parent k is.behind e) (nearest k is) in
          record { place = k; least = omega (arith, same, before); there = is.within; parent = same; level = level }
      by further before false e =
          let p : ℕ = box_parent boxes k in
          let up = one_container boxes k (container_of boxes p) c (at_further k (container_of boxes p) is.behind e (containers_are_nearest_lem boxes p are (omega (arith, before, is.within)))) (nearest k is) in
          let there : IsInLines boxes c p = record { behind = some_before boxes p e; within = omega (arith, before, is.within); container = up } in
          further p (omega (arith, before, lt)) there (opened (role_at boxes p) (not_beside none p there) (others k is.behind is.within))

  -- an inline-level child is such a box
  child_held : counts boxes c ≡ true → HasInlineChild boxes c (c + 1) → holds inline_level boxes c (length boxes) ≡ true
  child_held open_one h =
      let k : ℕ = h.place in
      let positive : 0 < k = (let l = h.least in omega (arith, l)) in
      let mine : IsContainer boxes k c = subst (IsContainer boxes k) h.parent (at_parent k positive (subst (λ (p : ℕ). counts boxes p ≡ true) (sym h.parent) open_one)) in
      let there : IsInLines boxes c k = record { behind = positive; within = h.there; container = one_container boxes k (container_of boxes k) c (containers_are_nearest_lem boxes k are h.there) mine } in
      held k (length boxes) h.there (stands k there h.level)

of_block : (b h n : Bool) → b ≡ true → (h ≡ true → n ≡ false) → (b && h && not n) ≡ h
of_block true true true p f = sym (f refl)
of_block true true false p f = refl
of_block true false n p f = refl
of_block false h n p f = absurd cc

pub widths_agree_lem : WidthsAgreeOnLines
widths_agree_lem m c are others one lt block =
    let boxes = m.boxes in
    let flow = of_block (is_block_box (role_at boxes c)) (holds inline_level boxes c (length boxes)) (holds block_level boxes c (length boxes)) block (one c) in
    both_ways (holds_lines (children m c (c + 1) (drop (c + 1) boxes))) (holds inline_level boxes c (length boxes))
    (λ h. child_held boxes are c (block_counts boxes c lt block) (found_in m are c (c + 1) (drop (c + 1) boxes) refl (omega arith) h))
    (λ h. (let k = some_held boxes are c (length boxes) (omega arith) h in
    let child = outermost boxes are c others (one c h) (k.place + 1) k.place (omega arith) k.is k.level in
    said_of m are c child.place (c + 1) (drop (c + 1) boxes) refl (omega arith) child.least child.there child.parent child.level))
    ∙ sym flow
