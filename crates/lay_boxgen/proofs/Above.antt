-- A node generates a box where its parent does and keeps it.
use Rattle.std.proofs.Common.{◌≡◌, ◌<◌, ℕ, List, IsTrue, slice_index, arith, subst, sym}
use Rattle.lay_style.specs.declared.style.Style.{Style}
use Rattle.lay_doc.specs.declared.node.Node.{Node}
use Rattle.lay_doc.specs.Document.{parents_of}
use Rattle.lay_boxgen.specs.Contexts.{box_at, has_box, keeps, GeneratesBox, root, below}

module _ (nodes : List Node) (styles : List Style) where
  pub kept_by : (k : ℕ) → GeneratesBox nodes styles k → 0 < k → IsTrue (keeps (box_at nodes styles (slice_index (parents_of nodes) k)) (box_at nodes styles k))
  kept_by k (root h) lt = absurd (omega (arith, lt))
  kept_by k (below j less h g) lt = h

  pub parent_generates : (k : ℕ) → GeneratesBox nodes styles k → 0 < k → GeneratesBox nodes styles (slice_index (parents_of nodes) k)
  parent_generates k (root h) lt = absurd (omega (arith, lt))
  parent_generates k (below j less h g) lt = g

  pub root_has : (k : ℕ) → GeneratesBox nodes styles k → k ≡ 0 → IsTrue (has_box (box_at nodes styles 0))
  root_has k (root h) e = h
  root_has k (below j less h g) e = absurd (omega (arith, less, e))

  pub from_root : (k : ℕ) → k ≡ 0 → IsTrue (has_box (box_at nodes styles 0)) → GeneratesBox nodes styles k
  from_root k e h = subst (GeneratesBox nodes styles) (sym e) (root h)
