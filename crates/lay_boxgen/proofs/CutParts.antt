-- What is generated of a context's tree with nothing in the boxes of inner contexts is its part.
use Rattle.std.proofs.Common.{◌≡◌, List, [], ◌∷◌, refl, ap, sym, ◌∙◌, Option, None, Some, option_map, slice_get}
use Rattle.lay_style.specs.declared.style.Style.{Style}
use Rattle.lay_doc.specs.declared.node.Node.{Node}
use Rattle.lay_boxgen.specs.Boxes.{Tree, tree, trees_of, facts_of}
use Rattle.lay_boxgen.specs.CutTrees.{cut_own, generated_cut}
use Rattle.lay_boxgen.specs.Generation.{generated}
use Rattle.lay_boxgen.specs.Listing.{all_listed, listed_part}
use Rattle.lay_boxgen.specs.Parts.{put, all_put, put_list, nothing, own_tree, generated_of}
use Rattle.lay_boxgen.specs.declared.facts.Facts.{Facts}
use Rattle.lay_boxgen.proofs.Inside.{parts_agree}
use Rattle.lay_boxgen.proofs.Putting.{put-trees_of}

own-put : (t : Tree) → cut_own t ≡ put nothing (own_tree t)
own-put (tree f us) = refl

pub part-cut : (o : Option Tree) → put_list nothing (generated_cut (option_map cut_own o)) ≡ put_list nothing (generated_of o)
part-cut None = refl
part-cut (Some t) = ap (λ u. put_list nothing (generated u)) (own-put t) ∙ parts_agree (own_tree t)

-- the first tree's box is the same in a part
pub listed-first : (nodes : List Node) (styles : List Style) (t : Tree) (ts : List Tree)
    → listed_part nodes styles (put_list nothing (t ∷ ts)) ≡ all_listed nodes styles (facts_of t) 0 0 (all_put nothing (trees_of (t ∷ ts)))
listed-first nodes styles (tree f us) ts =
    ap (all_listed nodes styles f 0 0) (sym (put-trees_of nothing (tree f us ∷ ts)))

pub listed-all : (nodes : List Node) (styles : List Style) (ts : List Tree) (f : Facts) → option_map facts_of (slice_get ts 0) ≡ Some f
    → all_listed nodes styles f 0 0 (all_put nothing (trees_of ts)) ≡ listed_part nodes styles (put_list nothing ts)
listed-all nodes styles [] f h = cc
listed-all nodes styles (t ∷ ts) f h =
    ap (λ g. all_listed nodes styles g 0 0 (all_put nothing (trees_of (t ∷ ts)))) (sym (ap (unwrap f) h)) ∙ sym (listed-first nodes styles t ts)
  where
    unwrap : Facts → Option Facts → Facts
    unwrap g None = g
    unwrap g (Some x) = x
