-- The first box that is generated of a node's tree has its facts, so that a context's own box isn't marked as inner.
use Rattle.std.proofs.Common.{◌≡◌, Bool, true, false, ◌&&◌, ℕ, List, [], ◌∷◌, ◌++◌, refl, ap, if◌then◌else◌, Option, None, Some}
use Rattle.std.specs.List.{list_any}
use Rattle.lay_style.specs.declared.style.Style.{Style}
use Rattle.lay_doc.specs.declared.node.Node.{Node}
use Rattle.lay_boxgen.specs.Boxes.{Tree, Trees, tree, trees_of, facts_of, all_remade, in_box}
use Rattle.lay_boxgen.specs.BrokenInlines.{is_block_box, part_over, parts_from, broken}
use Rattle.lay_boxgen.specs.Forms.{is_inline}
use Rattle.lay_boxgen.specs.Generation.{generated}
use Rattle.lay_boxgen.specs.InlineRuns.{run_wrapped}
use Rattle.lay_boxgen.specs.Irrelevant.{relevant}
use Rattle.lay_boxgen.specs.MissingChildren.{child_wrapped}
use Rattle.lay_boxgen.specs.MissingParents.{parented}
use Rattle.lay_boxgen.specs.TableWrappers.{in_wrapper}
use Rattle.lay_boxgen.specs.NodeTrees.{as_own, tree_at}
use Rattle.lay_boxgen.specs.Parts.{put_list, nothing, generated_of, part}
use Rattle.lay_boxgen.specs.declared.facts.Facts.{Facts}

abbrev StartsWith : Facts → List Tree → Type 0
StartsWith f [] = ⊥
StartsWith f (t ∷ ts) = facts_of t ≡ f

parts_by : (f : Facts) (t : Tree) (ts held : List Tree) → StartsWith f (parts_from f false (held ++ t ∷ []) ts) → (b : Bool)
    → StartsWith f (if b then part_over f false held ++ t ∷ [] ++ parts_from f true [] ts else parts_from f false (held ++ t ∷ []) ts)
parts_by f t ts held h true = refl
parts_by f t ts held h false = h

parts-start : (f : Facts) (ts held : List Tree) → StartsWith f (parts_from f false held ts)
parts-start f [] held = refl
parts-start f (t ∷ ts) held = parts_by f t ts held (parts-start f ts (held ++ t ∷ [])) (is_block_box t)

broken_by : (f : Facts) (ts : List Tree) (b : Bool) → StartsWith f (if b then parts_from f false [] ts else (tree f (trees_of ts) ∷ []))
broken_by f ts true = parts-start f ts []
broken_by f ts false = refl

broken-starts : (f : Facts) (ts : List Tree) → StartsWith f (broken f ts)
broken-starts f ts = broken_by f ts (is_inline f.form && list_any is_block_box ts)

append-starts : (f : Facts) (xs ys : List Tree) → StartsWith f xs → StartsWith f (xs ++ ys)
append-starts f [] ys h = absurd h
append-starts f (x ∷ xs) ys h = h

remade-starts : (f : Facts) (xs : List Tree) → StartsWith f xs → StartsWith f (all_remade (in_box run_wrapped) (trees_of xs))
remade-starts f [] h = absurd h
remade-starts f (tree g us ∷ xs) h = h

generated-starts : (f : Facts) (us : Trees) → StartsWith f (generated (tree f us))
generated-starts f us =
    let t1 = relevant f (all_remade (in_box relevant) us) in
    let t2 = child_wrapped f (all_remade (in_box child_wrapped) (trees_of t1)) in
    let t3 = parented f (all_remade (in_box parented) (trees_of t2)) in
    let t4 = in_wrapper f (all_remade (in_box in_wrapper) (trees_of t3)) in
    let t5 = all_remade broken (trees_of t4) in
    remade-starts f (broken f t5 ++ []) (append-starts f (broken f t5) [] (broken-starts f t5))

-- the first of these boxes, if there is one, isn't that of an inner context
abbrev pub StartsOpen : List Tree → Type 0
StartsOpen [] = Unit {0}
StartsOpen (t ∷ ts) = (facts_of t).inner ≡ false

put-open : (f : Facts) (ts : List Tree) → StartsWith (as_own f) ts → StartsOpen (put_list nothing ts)
put-open f [] h = absurd h
put-open f (tree g us ∷ ts) h = ap (λ x. x.inner) h

own_by : (o : Option Tree) → StartsOpen (put_list nothing (generated_of o))
own_by None = tt
own_by (Some (tree f us)) = put-open f (generated (tree (as_own f) us)) (generated-starts (as_own f) us)

pub part_starts_open : (nodes : List Node) (styles : List Style) (k : ℕ) → StartsOpen (part nodes styles k)
part_starts_open nodes styles k = own_by (tree_at nodes styles k)
