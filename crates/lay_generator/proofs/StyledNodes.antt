-- A declaration that is set on a node leaves ids, kinds and the number of nodes as they are, and so the faults of such edits; and two of
-- different nodes come to the same whichever is first.
use Rattle.std.proofs.Common.{◌≡◌, ℕ, zero, suc, List, [], ◌∷◌, length, refl, sym, ap, ◌∙◌, Option, Some, None}
use Rattle.lay_run.proofs.GatheredLemmas.Gathers.{place_is}
use Rattle.lay_style.specs.Values.{Declaration}
use Rattle.lay_style.specs.Places.{place_of}
use Rattle.lay_doc.specs.declared.node.Node.{Node}
use Rattle.lay_doc.specs.Document.{Document, ids_of, is_text_at}
use Rattle.lay_doc.specs.Changes.{after_change, changed_at, style_fault, with_style}

ids_stay : (x : Declaration) (p : ℕ) (nodes : List Node) → ids_of (changed_at p (with_style x) nodes) ≡ ids_of nodes
ids_stay x p [] = refl
ids_stay x zero (n ∷ ns) = refl
ids_stay x (suc p) (n ∷ ns) = ap (λ is. n.id.0 ∷ is) (ids_stay x p ns)

texts_stay : (x : Declaration) (p : ℕ) (nodes : List Node) (k : ℕ) → is_text_at (changed_at p (with_style x) nodes) k ≡ is_text_at nodes k
texts_stay x p [] k = refl
texts_stay x zero (n ∷ ns) zero = refl
texts_stay x zero (n ∷ ns) (suc k) = refl
texts_stay x (suc p) (n ∷ ns) zero = refl
texts_stay x (suc p) (n ∷ ns) (suc k) = texts_stay x p ns k

count_stays : (x : Declaration) (p : ℕ) (nodes : List Node) → length (changed_at p (with_style x) nodes) ≡ length nodes
count_stays x p [] = refl
count_stays x zero (n ∷ ns) = refl
count_stays x (suc p) (n ∷ ns) = ap suc (count_stays x p ns)

-- the same ids, texts at the same places, and as many nodes
pub record SameNodes (d e : Document) : Type 0 where
  pub ids : ids_of e.nodes ≡ ids_of d.nodes
  pub texts : (k : ℕ) → is_text_at e.nodes k ≡ is_text_at d.nodes k
  pub count : length e.nodes ≡ length d.nodes

pub nodes_same : (d : Document) → SameNodes d d
nodes_same d = record { ids = refl; texts = λ k. refl; count = refl }

pub same_on : (d e f : Document) → SameNodes d e → SameNodes e f → SameNodes d f
same_on d e f de ef = record { ids = ef.ids ∙ de.ids; texts = λ k. ef.texts k ∙ de.texts k; count = ef.count ∙ de.count }

-- the document with the declaration on the node at a place, where there is one
abbrev set_at : Option ℕ → Declaration → Document → Document
set_at None x d = d
set_at (Some p) x d = record d { nodes = changed_at p (with_style x) d.nodes }

set_is : (d : Document) (id : ℕ) (x : Declaration) → after_change d id (with_style x) ≡ set_at (place_of id (ids_of d.nodes)) x d
set_is d id x = by (place_of id (ids_of d.nodes)) refl
  where
    by : (o : Option ℕ) → place_of id (ids_of d.nodes) ≡ o → after_change d id (with_style x) ≡ set_at (place_of id (ids_of d.nodes)) x d
    by None e = rw e refl
    by (Some p) e = rw e refl

set_same : (o : Option ℕ) (x : Declaration) (d : Document) → SameNodes d (set_at o x d)
set_same None x d = nodes_same d
set_same (Some p) x d = record { ids = ids_stay x p d.nodes; texts = texts_stay x p d.nodes; count = count_stays x p d.nodes }

pub styled_same : (d : Document) (id : ℕ) (x : Declaration) → SameNodes d (after_change d id (with_style x))
styled_same d id x = rw (set_is d id x) (set_same (place_of id (ids_of d.nodes)) x d)

pub fault_stays : (d e : Document) (id : ℕ) → SameNodes d e → style_fault e id ≡ style_fault d id
fault_stays d e id same = by (place_of id (ids_of d.nodes)) refl
  where
    by : (o : Option ℕ) → place_of id (ids_of d.nodes) ≡ o → style_fault e id ≡ style_fault d id
    by None at = rw (same.ids, at) refl
    by (Some p) at = rw (same.ids, at, same.texts p) refl

exchanged : (x y : Declaration) (p q : ℕ) (nodes : List Node) → (p ≡ q → ⊥)
    → changed_at q (with_style y) (changed_at p (with_style x) nodes) ≡ changed_at p (with_style x) (changed_at q (with_style y) nodes)
exchanged x y p q [] other = refl
exchanged x y zero zero (n ∷ ns) other = absurd (other refl)
exchanged x y zero (suc q) (n ∷ ns) other = refl
exchanged x y (suc p) zero (n ∷ ns) other = refl
exchanged x y (suc p) (suc q) (n ∷ ns) other = ap (λ ms. n ∷ ms) (exchanged x y p q ns (λ e. other (ap suc e)))

both_set : (x y : Declaration) (a b : Option ℕ) (d : Document) → ((p : ℕ) → a ≡ Some p → b ≡ Some p → ⊥)
    → set_at b y (set_at a x d) ≡ set_at a x (set_at b y d)
both_set x y None None d apart = refl
both_set x y None (Some q) d apart = refl
both_set x y (Some p) None d apart = refl
both_set x y (Some p) (Some q) d apart =
    ap (λ (ns : List Node). record d { nodes = ns }) (exchanged x y p q d.nodes (λ e. apart p refl (ap Some (sym e))))

twice_set : (d : Document) (i j : ℕ) (x y : Declaration)
    → after_change (after_change d i (with_style x)) j (with_style y) ≡ set_at (place_of j (ids_of d.nodes)) y (set_at (place_of i (ids_of d.nodes)) x d)
twice_set d i j x y =
    set_is (after_change d i (with_style x)) j y
    ∙ (ap (λ (ids : List ℕ). set_at (place_of j ids) y (after_change d i (with_style x))) (styled_same d i x).ids
    ∙ ap (set_at (place_of j (ids_of d.nodes)) y) (set_is d i x))

pub styles_exchanged : (d : Document) (i j : ℕ) (x y : Declaration) → (i ≡ j → ⊥)
    → after_change (after_change d i (with_style x)) j (with_style y) ≡ after_change (after_change d j (with_style y)) i (with_style x)
styles_exchanged d i j x y other =
    twice_set d i j x y
    ∙ (both_set x y (place_of i (ids_of d.nodes)) (place_of j (ids_of d.nodes)) d
    (λ p at_i at_j. other (sym (place_is i (ids_of d.nodes) p at_i) ∙ place_is j (ids_of d.nodes) p at_j))
    ∙ sym (twice_set d j i y x))
