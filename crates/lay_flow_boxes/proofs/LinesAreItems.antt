-- The boxes that stand in the lines of a block container are the items of these lines, each once.
use Rattle.std.proofs.Common.{◌≡◌, ℕ, zero, suc, ◌+◌, ◌<◌, ◌==◌, ◌&&◌, not, Bool, true, false, List, [], ◌∷◌, ◌++◌, length, drop, slice_index_or, All, refl, sym, ap, subst, ◌∙◌, arith, inl, inr, if◌then◌else◌}
use Rattle.std.proofs.lemmas.Bool.{cases_lt, eqb-true, or_parts, both_ways}
use Rattle.std.proofs.lemmas.List.{drop_all, append-nil}
use Rattle.std.proofs.lemmas.List.Elements.{All-append, All-cons, All-nil}
use Rattle.lay_box_tree.specs.Containers.{IsContainer, box_containers, box_parent, counts, further as at_further, parent as at_parent}
use Rattle.lay_box_tree.specs.Kinds.{is_block_container_kind}
use Rattle.lay_box_tree.specs.Roles.{float_role, role_at, role_in, role_of, role_of_kind}
use Rattle.lay_box_tree.specs.declared.box_role.Role.{Role}
use Rattle.lay_box_tree.specs.declared.box_role.Role.TheVariants as role
use Rattle.lay_box_tree.specs.declared.box_tree.BoxKind.{BoxKind}
use Rattle.lay_box_tree.specs.declared.box_tree.BoxKind.TheVariants as kind
use Rattle.lay_box_tree.specs.declared.box_tree.BoxNode.{BoxNode}
use Rattle.lay_box_tree.specs.declared.box_tree.Flow.{Flow}
use Rattle.lay_box_tree.specs.declared.box_tree.Flow.TheVariants.{InFlow, Floating, Absolute}
use Rattle.lay_flow_boxes.proofs.Cited.{containers_are_nearest_lem, length-parents, one_container, some_before}
use Rattle.lay_style.specs.declared.style_words.Float.{Float}
use Rattle.lay_style.specs.declared.style_words.Float.TheVariants as floating
use Rattle.lay_space.specs.declared.item.Item.{Item}
use Rattle.lay_space.specs.declared.item.Item.TheVariants as item
use Rattle.lay_line_items.specs.InlineItems.{items_as, items_at, items_below, items_of}
use Rattle.lay_line_items.specs.InlineStarts.{takes_room}
use Rattle.lay_line_items.specs.OpenBoxes.{is_inline}
use Rattle.lay_box_tree.specs.Containing.{container_of}
use Rattle.lay_box_tree.specs.ContextBoxes.{AreContextBoxes}
use Rattle.lay_flow_boxes.specs.declared.inline_containers.Level.TheVariants.{Block as block_level, Inline as inline_level}
use Rattle.lay_flow_boxes.specs.InlineContainers.{holds, is_beside_lines, is_block_box, is_inline_container, is_own_container}
use Rattle.lay_flow_boxes.specs.LineItems.{AreHeldByOthers, BoxesInLinesAreItems, IsInLines, IsInLinesAs, ItemsAreBoxesInLines, Sort, as_anchor, as_atomic, as_inline, as_left_float, as_right_float, as_text, end, holds_nothing, named, sorts_of, start}
use Rattle.lay_flow_boxes.proofs.FlowFacts.{container_counts, in_line_container}
use Rattle.lay_flow_boxes.proofs.ItemSorts.{behind, below, follows, own_sorts, parent_is, role_is, some_behind, spread}

-- what stands in lines is of these roles
in_lines : (r : Role) → is_beside_lines r ≡ false → IsInLinesAs r (own_sorts r)
in_lines role.Inline e = as_inline
in_lines role.Text e = as_text
in_lines role.Atomic e = as_atomic
in_lines role.LeftFloat e = as_left_float
in_lines role.RightFloat e = as_right_float
in_lines role.Anchor e = as_anchor
in_lines role.Own e = absurd cc
in_lines role.Block e = absurd cc
in_lines role.Solid e = absurd cc
in_lines role.TablePart e = absurd cc

-- what holds boxes there is an inline box
open_sorts : (r : Role) (ss : List Sort) → IsInLinesAs r ss → holds_nothing r ≡ false → ss ≡ start ∷ end ∷ []
open_sorts r ss as_inline e = refl
open_sorts r ss as_text e = absurd cc
open_sorts r ss as_atomic e = absurd cc
open_sorts r ss as_left_float e = absurd cc
open_sorts r ss as_right_float e = absurd cc
open_sorts r ss as_anchor e = absurd cc

-- One block container that holds lines.
module _ (boxes : List BoxNode) (c : ℕ) (are : AreContextBoxes boxes) (lines : is_inline_container boxes c ≡ true) where
  -- a box in them
  role_in_lines : (k : ℕ) → IsInLines boxes c k → IsInLinesAs (role_at boxes k) (own_sorts (role_at boxes k))
  role_in_lines k is =
      let here : is_inline_container boxes (container_of boxes k) ≡ true = rw is.container lines in
      in_lines (role_at boxes k) (or_parts (is_beside_lines (role_at boxes k)) (is_own_container boxes k) (in_line_container boxes k is.behind is.within here)).0

  counted : (k : ℕ) → IsInLines boxes c k → counts boxes c ≡ true
  counted k is = container_counts boxes k c (subst (IsContainer boxes k) is.container (containers_are_nearest_lem boxes k are is.within))

  own_sorts_of : (held : AreHeldByOthers boxes) (turns k : ℕ) → k < turns → IsInLines boxes c k → sorts_of k (items_of boxes c) ≡ own_sorts (role_at boxes k)
  own_sorts_of held zero k lt is = absurd (omega (arith, lt))
  own_sorts_of held (suc turns) k lt is =
      let before : box_parent boxes k < k = are.tree.before k is.behind (omega (arith, length-parents boxes, is.within)) in
      let container = subst (IsContainer boxes k) is.container (containers_are_nearest_lem boxes k are is.within) in
      by_count (λ j less there. own_sorts_of held turns j less there) (counts boxes (box_parent boxes k)) refl before container
    where
      by_count : ((j : ℕ) → j < turns → IsInLines boxes c j → sorts_of j (items_of boxes c) ≡ own_sorts (role_at boxes j)) → (b : Bool) → counts boxes (box_parent boxes k) ≡ b
          → box_parent boxes k < k → IsContainer boxes k c → sorts_of k (items_of boxes c) ≡ own_sorts (role_at boxes k)
      by_count earlier true e before container =
          let same : box_parent boxes k ≡ c = one_container boxes k (box_parent boxes k) c (at_parent k is.behind e) container in
          below boxes are.tree k is.behind is.within c (c + 1) (drop (c + 1) boxes) refl same (omega arith) (omega (arith, same, before))
      by_count earlier false e before container =
          let p : ℕ = box_parent boxes k in
          let nearest = containers_are_nearest_lem boxes p are (omega (arith, before, is.within)) in
          let up = one_container boxes k (container_of boxes p) c (at_further k (container_of boxes p) is.behind e nearest) container in
          let there : IsInLines boxes c p = record { behind = some_before boxes p e; within = omega (arith, before, is.within); container = up } in
          let opened = open_sorts (role_at boxes p) (own_sorts (role_at boxes p)) (role_in_lines p there) (held k is.behind is.within) in
          follows boxes are.tree k is.behind is.within c (c + 1) (drop (c + 1) boxes) refl (λ same. both_ways (counts boxes c) (subst (λ (p : ℕ). counts boxes p ≡ false) same e) (counted k is))
          ∙ ap (spread (own_sorts (role_at boxes k))) (earlier p (omega (arith, before, lt)) there ∙ opened)
          ∙ append-nil (own_sorts (role_at boxes k))

pub boxes_in_lines_lem : BoxesInLinesAreItems
boxes_in_lines_lem boxes c k are held lines is =
    rw (own_sorts_of boxes c are lines held (k + 1) k (omega arith) is) (role_in_lines boxes c are lines k is)

-- an inline box is no block container
inline_kind : (b : BoxNode) → is_inline (role_of b) ≡ true → is_block_container_kind b.kind ≡ false
inline_kind b e = by_flow b.flow b.style.float b.inner b.kind e
  where
    by_kind : (inner : Bool) (k : BoxKind) → is_inline (role_of_kind inner k) ≡ true → is_block_container_kind k ≡ false
    by_kind inner kind.Inline e = refl
    by_kind inner (kind.Text t) e = refl
    by_kind inner kind.Anchor e = refl
    by_kind inner kind.Table e = refl
    by_kind inner kind.RowGroup e = refl
    by_kind inner kind.HeaderGroup e = refl
    by_kind inner kind.FooterGroup e = refl
    by_kind inner kind.Row e = refl
    by_kind inner (kind.ColumnGroup n) e = refl
    by_kind inner (kind.Column n) e = refl
    by_kind inner (kind.Replaced w h i) e = refl
    by_kind true kind.Block e = absurd cc
    by_kind false kind.Block e = absurd cc
    by_kind inner kind.Wrapper e = absurd cc
    by_kind inner kind.InlineBlock e = absurd cc
    by_kind inner kind.InlineWrapper e = absurd cc
    by_kind inner kind.Caption e = absurd cc
    by_kind inner (kind.Cell m n) e = absurd cc

    by_float : (f : Float) (r : Role) → is_inline (float_role f r) ≡ true → is_inline r ≡ true
    by_float floating.None r e = e
    by_float floating.Left r e = absurd cc
    by_float floating.Right r e = absurd cc

    by_flow : (w : Flow) (f : Float) (inner : Bool) (k : BoxKind) → is_inline (role_in w f (role_of_kind inner k)) ≡ true → is_block_container_kind k ≡ false
    by_flow InFlow f inner k e = by_kind inner k e
    by_flow Floating f inner k e = by_kind inner k (by_float f (role_of_kind inner k) e)
    by_flow Absolute f inner k e = by_kind inner k e

read_counts : (xs : List BoxNode) (k : ℕ) (b : BoxNode) (bs : List BoxNode) → drop k xs ≡ b ∷ bs → slice_index_or (box_containers xs) k false ≡ is_block_container_kind b.kind
read_counts [] zero b bs e = absurd cc
read_counts [] (suc k) b bs e = absurd cc
read_counts (x ∷ xs) zero b bs e = ap (λ (y : BoxNode). is_block_container_kind y.kind) (let q : x ≡ b = cc in q)
read_counts (x ∷ xs) (suc k) b bs e = read_counts xs k b bs e

inline_counts : (boxes : List BoxNode) (k : ℕ) (b : BoxNode) (bs : List BoxNode) → 0 < k → drop k boxes ≡ b ∷ bs → is_inline (role_of b) ≡ true → counts boxes k ≡ false
inline_counts boxes zero b bs positive e i = absurd (omega (arith, positive))
inline_counts boxes (suc k) b bs positive e i = read_counts boxes (suc k) b bs e ∙ inline_kind b i

pub within : (boxes : List BoxNode) (k : ℕ) (b : BoxNode) (bs : List BoxNode) → drop k boxes ≡ b ∷ bs → k < length boxes
within [] zero b bs e = absurd cc
within [] (suc k) b bs e = absurd cc
within (x ∷ xs) zero b bs e = omega arith
within (x ∷ xs) (suc k) b bs e = omega (arith, within xs k b bs e)

-- The items of boxes that stand in one container.
module _ (boxes : List BoxNode) (c : ℕ) (are : AreContextBoxes boxes) where
  abbrev Stands : Item → Type 0
  Stands x = IsInLines boxes c (named x).box

  -- what is in the box at p stands in the container at c
  abbrev Leads : ℕ → Type 0
  Leads p = (j : ℕ) → 0 < j → j < length boxes → box_parent boxes j ≡ p → container_of boxes j ≡ c

  deeper : (k : ℕ) → IsInLines boxes c k → counts boxes k ≡ false → Leads k
  deeper k is closed j positive within e =
      one_container boxes j (container_of boxes j) c (containers_are_nearest_lem boxes j are within)
      (at_further j c positive (subst (λ (p : ℕ). counts boxes p ≡ false) (sym e) closed)
      (subst (λ (p : ℕ). IsContainer boxes p c) (sym e) (subst (IsContainer boxes k) is.container (containers_are_nearest_lem boxes k are is.within))))

  all_as : (r : Role) (k : ℕ) (b : BoxNode) (inside : List Item) → IsInLines boxes c k → (is_inline r ≡ true → All Stands inside)
      → All Stands (items_as boxes r k b inside)
  all_as role.Inline k b inside is all =
      All-cons Stands (item.Start k (takes_room boxes k b)) (inside ++ item.End k ∷ []) is
      (All-append Stands inside (item.End k ∷ []) (all refl) (All-cons Stands (item.End k) [] is (All-nil Stands)))
  all_as role.Text k b inside is all = All-cons Stands _ [] is (All-nil Stands)
  all_as role.Atomic k b inside is all = All-cons Stands _ [] is (All-nil Stands)
  all_as role.LeftFloat k b inside is all = All-cons Stands _ [] is (All-nil Stands)
  all_as role.RightFloat k b inside is all = All-cons Stands _ [] is (All-nil Stands)
  all_as role.Anchor k b inside is all = All-cons Stands _ [] is (All-nil Stands)
  all_as role.Own k b inside is all = All-nil Stands
  all_as role.Block k b inside is all = All-nil Stands
  all_as role.Solid k b inside is all = All-nil Stands
  all_as role.TablePart k b inside is all = All-nil Stands

  all_by : (b : Bool) (xs ys : List Item) → (b ≡ true → All Stands xs) → All Stands ys → All Stands (if b then xs ++ ys else ys)
  all_by true xs ys hx hy = All-append Stands xs ys (hx refl) hy
  all_by false xs ys hx hy = hy

  all_below : (p i : ℕ) (bs : List BoxNode) → drop i boxes ≡ bs → 0 < i → Leads p → All Stands (items_below boxes p i bs)
  all_below p i [] e positive leads = All-nil Stands
  all_below p i (b ∷ bs) e positive leads =
      let next = behind boxes i b bs e in
      let lt = within boxes i b bs e in
      all_by (b.parent == p) (items_at boxes i b (items_below boxes i (i + 1) bs)) (items_below boxes p (i + 1) bs)
      (λ same. (let is : IsInLines boxes c i = record { behind = positive; within = lt; container = leads i positive lt (parent_is boxes i b bs e ∙ eqb-true b.parent p same) } in
      all_as (role_of b) i b (items_below boxes i (i + 1) bs) is
      (λ inline. all_below i (i + 1) bs next (omega arith) (deeper i is (inline_counts boxes i b bs positive e inline)))))
      (all_below p (i + 1) bs next (omega arith) leads)

  from_own : counts boxes c ≡ true → Leads c
  from_own open_one j positive within e =
      one_container boxes j (container_of boxes j) c (containers_are_nearest_lem boxes j are within)
      (subst (IsContainer boxes j) e (at_parent j positive (subst (λ (p : ℕ). counts boxes p ≡ true) (sym e) open_one)))

-- a block box of the context is a container
block_kind : (b : BoxNode) → is_block_box (role_of b) ≡ true → is_block_container_kind b.kind ≡ true
block_kind b e = by_flow b.flow b.style.float b.inner b.kind e
  where
    by_kind : (inner : Bool) (k : BoxKind) → is_block_box (role_of_kind inner k) ≡ true → is_block_container_kind k ≡ true
    by_kind inner kind.Block e = refl
    by_kind inner kind.Wrapper e = refl
    by_kind inner kind.InlineBlock e = refl
    by_kind inner kind.InlineWrapper e = refl
    by_kind inner kind.Caption e = refl
    by_kind inner (kind.Cell m n) e = refl
    by_kind inner kind.Inline e = absurd cc
    by_kind inner (kind.Text t) e = absurd cc
    by_kind inner kind.Anchor e = absurd cc
    by_kind inner kind.Table e = absurd cc
    by_kind inner kind.RowGroup e = absurd cc
    by_kind inner kind.HeaderGroup e = absurd cc
    by_kind inner kind.FooterGroup e = absurd cc
    by_kind inner kind.Row e = absurd cc
    by_kind inner (kind.ColumnGroup n) e = absurd cc
    by_kind inner (kind.Column n) e = absurd cc
    by_kind inner (kind.Replaced w h true) e = absurd cc
    by_kind inner (kind.Replaced w h false) e = absurd cc

    by_float : (f : Float) (r : Role) → is_block_box (float_role f r) ≡ true → is_block_box r ≡ true
    by_float floating.None r e = e
    by_float floating.Left r e = absurd cc
    by_float floating.Right r e = absurd cc

    by_flow : (w : Flow) (f : Float) (inner : Bool) (k : BoxKind) → is_block_box (role_in w f (role_of_kind inner k)) ≡ true → is_block_container_kind k ≡ true
    by_flow InFlow f inner k e = by_kind inner k e
    by_flow Floating f inner k e = by_kind inner k (by_float f (role_of_kind inner k) e)
    by_flow Absolute f inner k e = by_kind inner k e

block_read : (boxes : List BoxNode) (k : ℕ) (bs : List BoxNode) → drop (suc k) boxes ≡ bs → suc k < length boxes → is_block_box (role_at boxes (suc k)) ≡ true → counts boxes (suc k) ≡ true
block_read boxes k [] e lt block = absurd (some_behind boxes (suc k) e lt)
block_read boxes k (b ∷ bs) e lt block =
    read_counts boxes (suc k) b bs e ∙ block_kind b (ap is_block_box (sym (role_is boxes (suc k) b bs (omega arith) e)) ∙ block)

pub block_counts : (boxes : List BoxNode) (k : ℕ) → k < length boxes → is_block_box (role_at boxes k) ≡ true → counts boxes k ≡ true
block_counts boxes zero lt block = refl
block_counts boxes (suc k) lt block = block_read boxes k (drop (suc k) boxes) refl lt block

first_of : (a b c : Bool) → (a && b && c) ≡ true → a ≡ true
first_of true b c e = refl
first_of false b c e = absurd cc

pub items_are_boxes_lem : ItemsAreBoxesInLines
items_are_boxes_lem boxes c are lines = elim (cases_lt c (length boxes)) [
  | inl lt ↦ all_below boxes c are c (c + 1) (drop (c + 1) boxes) refl (omega arith)
      (from_own boxes c are (block_counts boxes c lt (first_of (is_block_box (role_at boxes c)) (holds inline_level boxes c (length boxes)) (not (holds block_level boxes c (length boxes))) lines)))
  | inr past ↦ (let gone : drop (c + 1) boxes ≡ [] = drop_all (c + 1) boxes (omega (arith, past)) in
      rw gone (All-nil (λ (x : Item). IsInLines boxes c (named x).box)))
]
