-- The boxes of a context as a list, each with whether it stands in an anonymous table.
use Rattle.std.proofs.Common.{◌≡◌, ◌⊎◌, inl, inr, ℕ, zero, suc, ◌+◌, ◌-◌, ◌<◌, ◌↔◌, Bool, true, false, ◌&&◌, ◌||◌, List, [], ◌∷◌, ◌++◌, length, map, get_or, if◌then◌else◌, refl, ap, sym, subst, ◌∙◌, arith, slice_index}
use Rattle.std.proofs.lemmas.Bool.{cases_lt}
use Rattle.std.proofs.lemmas.List.{get_or-map, length-append}
use Rattle.lay_style.specs.declared.style.Style.{Style}
use Rattle.lay_style.specs.declared.style_words.TableLayout.TheVariants.{Auto}
use Rattle.lay_style.specs.ComputedStyle.{style_at}
use Rattle.lay_doc.specs.declared.node.Node.{Node}
use Rattle.lay_doc.specs.Document.{ids_of}
use Rattle.lay_boxgen.specs.Boxes.{Tree, Trees, tree, no_trees, also, trees_of}
use Rattle.lay_boxgen.specs.Forms.{is_anchor, is_table}
use Rattle.lay_boxgen.specs.declared.facts.Facts.{Facts}
use Rattle.lay_boxgen.specs.declared.facts.Form.{Form}
use Rattle.lay_boxgen.specs.declared.facts.Form.TheVariants as form
use Rattle.lay_box_tree.specs.BoxColumns.{box_at, box_parents, no_box}
use Rattle.lay_box_tree.specs.declared.box_tree.BoxKind.TheVariants as kind
use Rattle.lay_box_tree.specs.declared.box_tree.BoxNode.{BoxNode}
use Rattle.lay_box_tree.specs.Kinds.{is_wrapper}
use Rattle.lay_contexts.proofs.Cited.{parents-append}
use Rattle.lay_box_tree.proofs.BoxForests.{length-parents}
use Rattle.lay_boxgen.specs.Listing.{all_listed, box_node, box_style, kind_of, listed, listed_part, style_of, text_at}
use Rattle.lay_contexts.specs.Edited.AnonymousTables.{AllInside, EachInside, IsInStrayPart, IsKnownInside, ListInside, is_anonymous_table}

-- the box is the wrapper of an anonymous table
abbrev pub is_table_box : BoxNode → Bool
is_table_box b = b.anonymous && is_wrapper b.kind

abbrev pub table_boxes : List BoxNode → List Bool
table_boxes boxes = map is_table_box boxes

wrapper-kind : (text : List ℕ) (x : Form) → is_wrapper (kind_of text x) ≡ is_table x
wrapper-kind text form.Wrapper = refl
wrapper-kind text _ = refl

-- whether each box stands in one
abbrev mutual
  pub marks_of : Bool → Tree → List Bool
  marks_of b (tree f us) = b ∷ all_marks (b || is_anonymous_table f) us

  pub all_marks : Bool → Trees → List Bool
  all_marks b no_trees = []
  all_marks b (also t ts) = marks_of b t ++ all_marks b ts

-- Lists one behind the other.
at-left : {X : Type 0} (xs ys : List X) (i : ℕ) (d : X) → i < length xs → get_or (xs ++ ys) i d ≡ get_or xs i d
at-left [] ys i d lt = absurd (omega (arith, lt))
at-left (x ∷ xs) ys zero d lt = refl
at-left (x ∷ xs) ys (suc i) d lt = at-left xs ys i d (omega (arith, lt))

at-right : {X : Type 0} (xs ys : List X) (n k : ℕ) (d : X) → n ≡ length xs + k → get_or (xs ++ ys) n d ≡ get_or ys k d
at-right [] ys n k d e = let same : n ≡ k = omega (arith, e) in ap (λ (m : ℕ). get_or ys m d) same
at-right (x ∷ xs) ys zero k d e = absurd (omega (arith, e))
at-right (x ∷ xs) ys (suc n) k d e = at-right xs ys n k d (omega (arith, e))

-- The marks of boxes from the place `at` on, in trees below the box at `parent`, in which the state is b.
record HasMarks (parent at : ℕ) (b : Bool) (ps : List ℕ) (ts ms : List Bool) : Type 0 where
  tables : length ts ≡ length ps
  count : length ms ≡ length ps
  near : (i : ℕ) → i < length ps
      → ((get_or ps i 0 ≡ parent) × (get_or ms i false ≡ b))
      ⊎ ((m : ℕ) × (m < length ps) × (get_or ps i 0 ≡ at + m) × (get_or ms i false ≡ (get_or ms m false || get_or ts m false)))

marks-append : (parent at : ℕ) (b : Bool) (ps qs : List ℕ) (ts us ms ns : List Bool) → HasMarks parent at b ps ts ms → HasMarks parent (at + length ps) b qs us ns
    → HasMarks parent at b (ps ++ qs) (ts ++ us) (ms ++ ns)
marks-append parent at b ps qs ts us ms ns first second = record {
  tables = (let a = length-append ts us in let c = length-append ps qs in omega (arith, a, c, first.tables, second.tables));
  count = (let a = length-append ms ns in let c = length-append ps qs in omega (arith, a, c, first.count, second.count));
  near = near;
}
  where
    near : (i : ℕ) → i < length (ps ++ qs)
        → ((get_or (ps ++ qs) i 0 ≡ parent) × (get_or (ms ++ ns) i false ≡ b))
        ⊎ ((m : ℕ) × (m < length (ps ++ qs)) × (get_or (ps ++ qs) i 0 ≡ at + m) × (get_or (ms ++ ns) i false ≡ (get_or (ms ++ ns) m false || get_or (ts ++ us) m false)))
    near i lt = elim (cases_lt i (length ps)) [
      | inl low ↦ (let l = length-append ps qs in
          let p = at-left ps qs i 0 low in
          let q = at-left ms ns i false (omega (arith, low, first.count)) in
          elim (first.near i low) [
            | inl here ↦ inl (p ∙ here.0, q ∙ here.1)
            | inr there ↦ (let m : ℕ = there.0 in let in_first = there.1 in inr (
              m,
              omega (arith, in_first, l),
              p ∙ there.2,
              q ∙ (there.3
                  ∙ (ap (λ (x : Bool). x || get_or ts m false) (sym (at-left ms ns m false (omega (arith, in_first, first.count))))
                  ∙ ap (λ (x : Bool). get_or (ms ++ ns) m false || x) (sym (at-left ts us m false (omega (arith, in_first, first.tables)))))),
            ))
          ])
      | inr high ↦ (let l = length-append ps qs in
          let j : ℕ = i - length ps in
          let p = at-right ps qs i j 0 (omega (arith, high)) in
          let q = at-right ms ns i j false (omega (arith, high, first.count)) in
          elim (second.near j (omega (arith, lt, l, high))) [
            | inl here ↦ inl (p ∙ here.0, q ∙ here.1)
            | inr there ↦ (let m : ℕ = there.0 in let in_second = there.1 in let e = there.2 in inr (
              length ps + m,
              omega (arith, in_second, l),
              p ∙ (e ∙ omega arith),
              q ∙ (there.3
                  ∙ (ap (λ (x : Bool). x || get_or us m false) (sym (at-right ms ns (length ps + m) m false (omega (arith, first.count))))
                  ∙ ap (λ (x : Bool). get_or (ms ++ ns) (length ps + m) false || x) (sym (at-right ts us (length ps + m) m false (omega (arith, first.tables)))))),
            ))
          ])
    ]

marks-grow : (parent at : ℕ) (b t : Bool) (ps : List ℕ) (ts ms : List Bool) → HasMarks at (at + 1) (b || t) ps ts ms → HasMarks parent at b (parent ∷ ps) (t ∷ ts) (b ∷ ms)
marks-grow parent at b t ps ts ms below = record {
  tables = ap suc below.tables;
  count = ap suc below.count;
  near = near;
}
  where
    near : (i : ℕ) → i < length (parent ∷ ps)
        → ((get_or (parent ∷ ps) i 0 ≡ parent) × (get_or (b ∷ ms) i false ≡ b))
        ⊎ ((m : ℕ) × (m < length (parent ∷ ps)) × (get_or (parent ∷ ps) i 0 ≡ at + m) × (get_or (b ∷ ms) i false ≡ (get_or (b ∷ ms) m false || get_or (t ∷ ts) m false)))
    near zero lt = inl (refl, refl)
    near (suc i) lt = elim (below.near i (omega (arith, lt))) [
      | inl here ↦ (let e = here.0 in inr (0, omega arith, omega (arith, e), here.1))
      | inr there ↦ (let in_below = there.1 in let e = there.2 in inr (suc there.0, omega (arith, in_below), omega (arith, e), there.3))
    ]

tables-append : (xs ys : List BoxNode) → table_boxes (xs ++ ys) ≡ table_boxes xs ++ table_boxes ys
tables-append [] ys = refl
tables-append (x ∷ xs) ys = ap (λ (ts : List Bool). is_table_box x ∷ ts) (tables-append xs ys)

module _ (nodes : List Node) (styles : List Style) where
  table-is : (above : Facts) (parent : ℕ) (f : Facts) → is_table_box (box_node nodes styles above parent f) ≡ is_anonymous_table f
  table-is above parent f = ap (λ (x : Bool). f.anonymous && x) (wrapper-kind (text_at nodes f.place) f.form)

  mutual
    tree-marks : (above : Facts) (parent at : ℕ) (b : Bool) (t : Tree)
        → HasMarks parent at b (box_parents (listed nodes styles above parent at t)) (table_boxes (listed nodes styles above parent at t)) (marks_of b t)
    tree-marks above parent at b (tree f us) =
        let boxes = all_listed nodes styles f at (at + 1) us in
        subst (λ (x : Bool). HasMarks parent at b (parent ∷ box_parents boxes) (x ∷ table_boxes boxes) (b ∷ all_marks (b || is_anonymous_table f) us)) (sym (table-is above parent f))
        (marks-grow parent at b (is_anonymous_table f) (box_parents boxes) (table_boxes boxes) (all_marks (b || is_anonymous_table f) us) (trees-marks f at (at + 1) (b || is_anonymous_table f) us))

    trees-marks : (above : Facts) (parent at : ℕ) (b : Bool) (ts : Trees)
        → HasMarks parent at b (box_parents (all_listed nodes styles above parent at ts)) (table_boxes (all_listed nodes styles above parent at ts)) (all_marks b ts)
    trees-marks above parent at b no_trees = record { tables = refl; count = refl; near = λ i lt. absurd (omega (arith, lt)) }
    trees-marks above parent at b (also t ts) =
        let xs = listed nodes styles above parent at t in
        let ys = all_listed nodes styles above parent (at + length xs) ts in
        let l : length xs ≡ length (box_parents xs) = sym (length-parents xs) in
        let rest : HasMarks parent (at + length (box_parents xs)) b (box_parents ys) (table_boxes ys) (all_marks b ts) =
        subst (λ (n : ℕ). HasMarks parent (at + n) b (box_parents ys) (table_boxes ys) (all_marks b ts)) l (trees-marks above parent (at + length xs) b ts) in
        subst (λ (ps : List ℕ). HasMarks parent at b ps (table_boxes (xs ++ ys)) (marks_of b t ++ all_marks b ts)) (sym (parents-append xs ys))
        (subst (λ (us : List Bool). HasMarks parent at b (box_parents xs ++ box_parents ys) us (marks_of b t ++ all_marks b ts)) (sym (tables-append xs ys))
        (marks-append parent at b (box_parents xs) (box_parents ys) (table_boxes xs) (table_boxes ys) (marks_of b t) (all_marks b ts) (tree-marks above parent at b t) rest))

-- What holds of each box with its mark.
abbrev Pairs : (Bool → BoxNode → Type 0) → List Bool → List BoxNode → Type 0
Pairs Q [] [] = Unit {0}
Pairs Q [] (b ∷ bs) = ⊥
Pairs Q (m ∷ ms) [] = ⊥
Pairs Q (m ∷ ms) (b ∷ bs) = Q m b × Pairs Q ms bs

pairs-append : (Q : Bool → BoxNode → Type 0) (ms ns : List Bool) (bs cs : List BoxNode) → Pairs Q ms bs → Pairs Q ns cs → Pairs Q (ms ++ ns) (bs ++ cs)
pairs-append Q [] ns [] cs h g = g
pairs-append Q [] ns (b ∷ bs) cs h g = absurd h
pairs-append Q (m ∷ ms) ns [] cs h g = absurd h
pairs-append Q (m ∷ ms) ns (b ∷ bs) cs h g = (h.0, pairs-append Q ms ns bs cs h.1 g)

pair-at : (Q : Bool → BoxNode → Type 0) (ms : List Bool) (bs : List BoxNode) → Pairs Q ms bs → (i : ℕ) → i < length bs → Q (get_or ms i false) (box_at bs i)
pair-at Q [] [] h i lt = absurd (omega (arith, lt))
pair-at Q [] (b ∷ bs) h i lt = absurd h
pair-at Q (m ∷ ms) [] h i lt = absurd h
pair-at Q (m ∷ ms) (b ∷ bs) h zero lt = h.0
pair-at Q (m ∷ ms) (b ∷ bs) h (suc i) lt = pair-at Q ms bs h.1 i (omega (arith, lt))

module _ (nodes : List Node) (styles : List Style) (P : Bool → Facts → Type 0) (Q : Bool → BoxNode → Type 0)
    (says : (b : Bool) (above : Facts) (parent : ℕ) (f : Facts) → P b f → Q b (box_node nodes styles above parent f)) where
  mutual
    tree-pairs : (above : Facts) (parent at : ℕ) (b : Bool) (t : Tree) → EachInside P b t → Pairs Q (marks_of b t) (listed nodes styles above parent at t)
    tree-pairs above parent at b (tree f us) h = (says b above parent f h.0, trees-pairs f at (at + 1) (b || is_anonymous_table f) us h.1)

    trees-pairs : (above : Facts) (parent at : ℕ) (b : Bool) (ts : Trees) → AllInside P b ts → Pairs Q (all_marks b ts) (all_listed nodes styles above parent at ts)
    trees-pairs above parent at b no_trees h = tt
    trees-pairs above parent at b (also t ts) h =
        pairs-append Q (marks_of b t) (all_marks b ts) (listed nodes styles above parent at t) (all_listed nodes styles above parent (at + length (listed nodes styles above parent at t)) ts)
        (tree-pairs above parent at b t h.0) (trees-pairs above parent (at + length (listed nodes styles above parent at t)) b ts h.1)

all-inside : (P : Bool → Facts → Type 0) (b : Bool) (ts : List Tree) → ListInside P b ts → AllInside P b (trees_of ts)
all-inside P b [] h = tt
all-inside P b (t ∷ ts) h = (h.0, all-inside P b ts h.1)

-- what is known of the boxes of a context with their marks
pub record Marked (nodes : List Node) (styles : List Style) (boxes : List BoxNode) (marks : List Bool) : Type 0 where
  pub own : get_or marks 0 false ≡ false
  pub above : (k : ℕ) → 0 < k → k < length boxes
      → ((slice_index (box_parents boxes) k ≡ 0) × (get_or marks k false ≡ false))
      ⊎ (get_or marks k false ≡ (get_or marks (slice_index (box_parents boxes) k) false || is_table_box (box_at boxes (slice_index (box_parents boxes) k))))
  pub automatic : (k : ℕ) → k < length boxes → is_table_box (box_at boxes k) ≡ true → (box_at boxes k).style.table.layout ≡ Auto
  pub known : (k : ℕ) → k < length boxes → (box_at boxes k).inner ≡ true
      → ((box_at boxes k).anonymous ≡ false) × ((x : ℕ) × (x < length nodes) × (slice_index (ids_of nodes) x ≡ (box_at boxes k).node.0) × ((get_or marks k false ≡ true) ↔ IsInStrayPart nodes styles x))

-- a box by itself, by what is known of its facts
abbrev KnownBox : List Node → List Style → Bool → BoxNode → Type 0
KnownBox nodes styles b x =
    (x.inner ≡ true → (x.anonymous ≡ false) × ((k : ℕ) × (k < length nodes) × (slice_index (ids_of nodes) k ≡ x.node.0) × ((b ≡ true) ↔ IsInStrayPart nodes styles k)))
    × (is_table_box x ≡ true → x.style.table.layout ≡ Auto)

-- an anonymous table has the initial `table-layout`
automatic-style : (styles : List Style) (above f : Facts) (text : List ℕ) (a : Bool) (x : Form) → f.anonymous ≡ a → (a && is_wrapper (kind_of text x)) ≡ true
    → (style_of styles (if is_anchor x then above else f)).table.layout ≡ Auto
automatic-style styles above f text true form.Wrapper e h = ap (λ (b : Bool). (box_style b (style_at styles f.place)).table.layout) e
automatic-style styles above f text true form.InlineWrapper e h = ap (λ (b : Bool). (box_style b (style_at styles f.place)).table.layout) e
automatic-style styles above f text _ x e h = absurd cc

module _ (nodes : List Node) (styles : List Style) (f : Facts) (us : Trees) (ts : List Tree) (h : ListInside (IsKnownInside nodes styles) false (tree f us ∷ ts)) where
  abbrev boxes : List BoxNode
  boxes = listed_part nodes styles (tree f us ∷ ts)

  abbrev marks : List Bool
  marks = all_marks false (trees_of (tree f us ∷ ts))

  has : HasMarks 0 0 false (box_parents boxes) (table_boxes boxes) marks
  has = trees-marks nodes styles f 0 0 false (trees_of (tree f us ∷ ts))

  pairs : Pairs (KnownBox nodes styles) marks boxes
  pairs =
      trees-pairs nodes styles (IsKnownInside nodes styles) (KnownBox nodes styles)
      (λ b over parent g known. (
        λ inner. (let n = known inner in (n.element, (n.place, n.within, n.node, n.inside_is))),
        λ h. automatic-style styles over g (text_at nodes g.place) g.anonymous g.form refl h,
      ))
      f 0 0 false (trees_of (tree f us ∷ ts)) (all-inside (IsKnownInside nodes styles) false (tree f us ∷ ts) h)

  above : (k : ℕ) → 0 < k → k < length boxes
      → ((slice_index (box_parents boxes) k ≡ 0) × (get_or marks k false ≡ false))
      ⊎ (get_or marks k false ≡ (get_or marks (slice_index (box_parents boxes) k) false || is_table_box (box_at boxes (slice_index (box_parents boxes) k))))
  above k positive lt = elim (has.near k (omega (arith, lt, length-parents boxes))) [
    | inl here ↦ inl here
    | inr there ↦ (let m : ℕ = there.0 in let in_boxes = there.1 in let e : slice_index (box_parents boxes) k ≡ m = (let q = there.2 in omega (arith, q)) in
        inr (there.3
        ∙ (ap (λ (x : Bool). get_or marks m false || x) (get_or-map is_table_box boxes m no_box false (omega (arith, in_boxes, length-parents boxes)))
        ∙ ap (λ (j : ℕ). get_or marks j false || is_table_box (box_at boxes j)) (sym e))))
  ]

  pub marked-part : Marked nodes styles boxes marks
  marked-part = record {
    own = refl;
    above = above;
    automatic = λ k lt h. (pair-at (KnownBox nodes styles) marks boxes pairs k lt).1 h;
    known = λ k lt inner. (pair-at (KnownBox nodes styles) marks boxes pairs k lt).0 inner;
  }
