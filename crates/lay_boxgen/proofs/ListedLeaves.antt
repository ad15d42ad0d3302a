-- In the list of a context's boxes none is inside that of an inner context.
use Rattle.std.proofs.Common.{◌≡◌, ◌⊎◌, ℕ, zero, suc, ◌+◌, ◌-◌, ◌<◌, Bool, false, List, [], ◌∷◌, ◌++◌, length, get_or, refl, ap, arith, inl, inr, length-append, slice_get, slice_index, slice_index_or, Some}
use Rattle.std.proofs.lemmas.Bool.{cases_lt}
use Rattle.std.proofs.lemmas.Option.{get_or_from_slice_get}
use Rattle.lay_style.specs.declared.style.Style.{Style}
use Rattle.lay_doc.specs.declared.node.Node.{Node}
use Rattle.lay_boxgen.specs.Boxes.{Tree, Trees, tree, no_trees, also, trees_of}
use Rattle.lay_box_tree.specs.BoxColumns.{box_parents, box_inner, HasInnerLeaves, IsBoxTree}
use Rattle.lay_boxgen.specs.TreeLaws.{InnerBoxesAreLeaves}
use Rattle.lay_boxgen.specs.Listing.{listed, all_listed, listed_part}
use Rattle.lay_boxgen.specs.Parts.{part}
use Rattle.lay_box_tree.specs.declared.box_tree.BoxNode.{BoxNode}
use Rattle.lay_boxgen.specs.declared.facts.Facts.{Facts}
use Rattle.lay_boxgen.proofs.Cited.{parents-append, read_left, read_right}
use Rattle.lay_box_tree.proofs.BoxForests.{length-parents}
use Rattle.lay_boxgen.proofs.ListedForests.{boxes_are_a_tree_lem}
use Rattle.lay_boxgen.proofs.FirstBoxes.{StartsOpen, part_starts_open}
use Rattle.lay_boxgen.proofs.InnerLeaves.{IsOver, HasLeaves, AllHaveLeaves, part_has_leaves}

-- the box at p is one of those from the place `at` on, with these flags, and isn't marked as inner
abbrev IsOpenAt : ℕ → List Bool → ℕ → Type 0
IsOpenAt at flags p = (m : ℕ) × (p ≡ at + m) × (slice_get flags m ≡ Some false)

-- the parents of boxes from the place `at` on, in trees below the box at `parent`
record HasOpenParents (parent at : ℕ) (us : List ℕ) (flags : List Bool) : Type 0 where
  near : (i : ℕ) → i < length us → (get_or us i 0 ≡ parent) ⊎ IsOpenAt at flags (get_or us i 0)

get-left : (xs ys : List Bool) (m : ℕ) → slice_get xs m ≡ Some false → slice_get (xs ++ ys) m ≡ Some false
get-left [] ys zero h = cc
get-left [] ys (suc m) h = cc
get-left (x ∷ xs) ys zero h = h
get-left (x ∷ xs) ys (suc m) h = get-left xs ys m h

get-right : (xs ys : List Bool) (n m : ℕ) → n ≡ length xs + m → slice_get ys m ≡ Some false → slice_get (xs ++ ys) n ≡ Some false
get-right [] ys n m e h = rw (let same : n ≡ m = omega (arith, e) in same) h
get-right (x ∷ xs) ys zero m e h = absurd (omega (arith, e))
get-right (x ∷ xs) ys (suc n) m e h = get-right xs ys n m (omega (arith, e)) h

-- trees behind trees
append : (parent at : ℕ) (xs ys : List ℕ) (fs gs : List Bool) → length fs ≡ length xs → HasOpenParents parent at xs fs → HasOpenParents parent (at + length xs) ys gs
    → HasOpenParents parent at (xs ++ ys) (fs ++ gs)
append parent at xs ys fs gs count first second = record { near = near }
  where
    near : (i : ℕ) → i < length (xs ++ ys) → (get_or (xs ++ ys) i 0 ≡ parent) ⊎ IsOpenAt at (fs ++ gs) (get_or (xs ++ ys) i 0)
    near i lt = elim (cases_lt i (length xs)) [
      | inl low ↦ (let e = read_left xs ys i low in rw e (elim (first.near i low) [
        | inl p ↦ inl p
        | inr b ↦ inr (b.0, b.1, get-left fs gs b.0 b.2)
      ]))
      | inr high ↦ (let e = read_right xs ys i (i - length xs) (omega arith) in
          rw e (elim (second.near (i - length xs) (omega (arith, length-append xs ys))) [
            | inl p ↦ inl p
            | inr b ↦ inr (length fs + b.0, omega (arith, b.1, count), get-right fs gs (length fs + b.0) b.0 refl b.2)
          ]))
    ]

-- a box with trees below it
grow : (parent at : ℕ) (cs : List ℕ) (b : Bool) (fs : List Bool) → (0 < length cs → b ≡ false) → HasOpenParents at (at + 1) cs fs → HasOpenParents parent at (parent ∷ cs) (b ∷ fs)
grow parent at cs b fs unmarked below = record { near = near }
  where
    near : (i : ℕ) → i < length (parent ∷ cs) → (get_or (parent ∷ cs) i 0 ≡ parent) ⊎ IsOpenAt at (b ∷ fs) (get_or (parent ∷ cs) i 0)
    near zero lt = inl refl
    near (suc i) lt = inr (elim (below.near i (omega arith)) [
      | inl e ↦ (0, omega (arith, e), ap Some (unmarked (omega arith)))
      | inr c ↦ (suc c.0, omega (arith, c.1), c.2)
    ])

none : (parent at : ℕ) → HasOpenParents parent at [] []
none parent at = record { near = λ i lt. absurd (omega arith) }

flags-append : (xs ys : List BoxNode) → box_inner (xs ++ ys) ≡ box_inner xs ++ box_inner ys
flags-append [] ys = refl
flags-append (x ∷ xs) ys = ap (λ (fs : List Bool). x.inner ∷ fs) (flags-append xs ys)

length-flags : (xs : List BoxNode) → length (box_inner xs) ≡ length xs
length-flags [] = refl
length-flags (x ∷ xs) = ap suc (length-flags xs)

over : (nodes : List Node) (styles : List Style) (at : ℕ) (f : Facts) (us : Trees) → IsOver f us → 0 < length (box_parents (all_listed nodes styles f at (at + 1) us)) → f.inner ≡ false
over nodes styles at f no_trees h lt = absurd (omega (arith, lt))
over nodes styles at f (also t ts) h lt = h

mutual
  tree_open : (nodes : List Node) (styles : List Style) (above : Facts) (parent at : ℕ) (t : Tree) → HasLeaves t
      → HasOpenParents parent at (box_parents (listed nodes styles above parent at t)) (box_inner (listed nodes styles above parent at t))
  tree_open nodes styles above parent at (tree f us) h =
      let below = all_listed nodes styles f at (at + 1) us in
      grow parent at (box_parents below) f.inner (box_inner below) (over nodes styles at f us h.0) (trees_open nodes styles f at (at + 1) us h.1)

  trees_open : (nodes : List Node) (styles : List Style) (above : Facts) (parent at : ℕ) (ts : Trees) → AllHaveLeaves ts
      → HasOpenParents parent at (box_parents (all_listed nodes styles above parent at ts)) (box_inner (all_listed nodes styles above parent at ts))
  trees_open nodes styles above parent at no_trees h = none parent at
  trees_open nodes styles above parent at (also t ts) h =
      let xs = listed nodes styles above parent at t in
      let ys = all_listed nodes styles above parent (at + length xs) ts in
      let parents = length-parents xs in
      let flags = length-flags xs in
      let rest : HasOpenParents parent (at + length (box_parents xs)) (box_parents ys) (box_inner ys) = rw parents (trees_open nodes styles above parent (at + length xs) ts h.1) in
      rw (parents-append xs ys, flags-append xs ys)
      (append parent at (box_parents xs) (box_parents ys) (box_inner xs) (box_inner ys) (omega (arith, parents, flags)) (tree_open nodes styles above parent at t h.0) rest)

read_open : (flags : List Bool) (p : ℕ) → slice_index_or flags 0 false ≡ false → (p ≡ 0) ⊎ IsOpenAt 0 flags p → slice_index_or flags p false ≡ false
read_open flags p own (inl e) = rw e own
read_open flags p own (inr b) = rw (let same : p ≡ b.0 = omega (arith, b.1) in same) (get_or_from_slice_get flags b.0 false false b.2)

listed-leaves : (nodes : List Node) (styles : List Style) (ts : List Tree) → AllHaveLeaves (trees_of ts) → StartsOpen ts → HasInnerLeaves (listed_part nodes styles ts)
listed-leaves nodes styles [] h s = record { own = refl; parents = λ j positive lt. absurd (omega (arith, lt)) }
listed-leaves nodes styles (tree f us ∷ ts) h s =
    let boxes = all_listed nodes styles f 0 0 (trees_of (tree f us ∷ ts)) in
    let all = trees_open nodes styles f 0 0 (trees_of (tree f us ∷ ts)) h in
    record {
      own = s;
      parents = λ j positive lt. read_open (box_inner boxes) (slice_index (box_parents boxes) j) s (all.near j (omega (arith, lt, length-parents boxes)));
    }

pub inner_boxes_are_leaves_lem : InnerBoxesAreLeaves
inner_boxes_are_leaves_lem nodes styles k = listed-leaves nodes styles (part nodes styles k) (part_has_leaves nodes styles k) (part_starts_open nodes styles k)

pub listed_box_tree : (nodes : List Node) (styles : List Style) (k : ℕ) → IsBoxTree (listed_part nodes styles (part nodes styles k))
listed_box_tree nodes styles k = record { tree = boxes_are_a_tree_lem nodes styles (part nodes styles k); leaves = inner_boxes_are_leaves_lem nodes styles k }
