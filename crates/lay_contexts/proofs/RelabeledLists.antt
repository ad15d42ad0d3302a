-- The list of a context's boxes is the same where the nodes stand elsewhere.
use Rattle.std.proofs.Common.{◌≡◌, ℕ, ◌+◌, Bool, true, false, List, [], ◌∷◌, ◌++◌, length, refl, ap, ◌∙◌, sym, if◌then◌else◌}
use Rattle.lay_style.specs.declared.style.Style.{Style}
use Rattle.lay_style.specs.ComputedStyle.{style_at}
use Rattle.lay_doc.specs.declared.node.Node.{Node}
use Rattle.lay_boxgen.specs.AnonymousStyle.{anonymous_style}
use Rattle.lay_boxgen.specs.Boxes.{Tree, Trees, tree, no_trees, also, trees_of}
use Rattle.lay_boxgen.specs.Forms.{is_anchor}
use Rattle.lay_boxgen.specs.Listing.{all_listed, box_node, kind_of, listed, listed_part, style_of, text_at}
use Rattle.lay_boxgen.specs.Parts.{all_put, is_closed, nothing, put, put_list}
use Rattle.lay_boxgen.specs.declared.facts.Facts.{Facts}
use Rattle.lay_contexts.proofs.Relabeled.{put_at, relabel, relabel_all, relabel_list, trees}

module _ (nodes others : List Node) (styles other_styles : List Style) (to from : ℕ → ℕ)
    (texts : (n : ℕ) → text_at nodes (to n) ≡ text_at others (from n)) (same : (n : ℕ) → style_at styles (to n) ≡ style_at other_styles (from n)) where
  own-style : (f : Facts) → style_of styles (put_at to f) ≡ style_of other_styles (put_at from f)
  own-style f = ap (λ s. if f.anonymous then anonymous_style s else s) (same f.place)

  choose : (b : Bool) (above f : Facts) → style_of styles (if b then put_at to above else put_at to f) ≡ style_of other_styles (if b then put_at from above else put_at from f)
  choose true above f = own-style above
  choose false above f = own-style f

  one-box : (above f : Facts) (parent : ℕ) → box_node nodes styles (put_at to above) parent (put_at to f) ≡ box_node others other_styles (put_at from above) parent (put_at from f)
  one-box above f parent =
      let plain = box_node nodes styles (put_at to above) parent (put_at to f) in
      ap (λ t. record plain { kind = kind_of t f.form }) (texts f.place)
      ∙ ap (λ s. record plain { kind = kind_of (text_at others (from f.place)) f.form; style = s }) (choose (is_anchor f.form) above f)

  mutual
    listed-same : (above : Facts) (parent at : ℕ) (t : Tree)
        → listed nodes styles (put_at to above) parent at (relabel to t) ≡ listed others other_styles (put_at from above) parent at (relabel from t)
    listed-same above parent at (tree f us) =
        ap (λ b. b ∷ all_listed nodes styles (put_at to f) at (at + 1) (relabel_all to us)) (one-box above f parent)
        ∙ ap (λ bs. box_node others other_styles (put_at from above) parent (put_at from f) ∷ bs) (all-listed-same f at (at + 1) us)

    all-listed-same : (above : Facts) (parent at : ℕ) (us : Trees)
        → all_listed nodes styles (put_at to above) parent at (relabel_all to us) ≡ all_listed others other_styles (put_at from above) parent at (relabel_all from us)
    all-listed-same above parent at no_trees = refl
    all-listed-same above parent at (also t ts) =
        let e = listed-same above parent at t in
        let first = listed nodes styles (put_at to above) parent at (relabel to t) in
        ap (λ bs. bs ++ all_listed nodes styles (put_at to above) parent (at + length first) (relabel_all to ts)) e
        ∙ (ap (λ bs. listed others other_styles (put_at from above) parent at (relabel from t) ++ all_listed nodes styles (put_at to above) parent (at + length bs) (relabel_all to ts)) e
        ∙ ap (λ bs. listed others other_styles (put_at from above) parent at (relabel from t) ++ bs)
        (all-listed-same above parent (at + length (listed others other_styles (put_at from above) parent at (relabel from t))) ts))

  pub part-same : (ts : List Tree) → listed_part nodes styles (relabel_list to ts) ≡ listed_part others other_styles (relabel_list from ts)
  part-same [] = refl
  part-same (tree f us ∷ ts) =
      ap (all_listed nodes styles (put_at to f) 0 0) (sym (trees to (tree f us ∷ ts)))
      ∙ (all-listed-same f 0 0 (trees_of (tree f us ∷ ts)) ∙ ap (all_listed others other_styles (put_at from f) 0 0) (trees from (tree f us ∷ ts)))

-- the part of trees whose nodes stand elsewhere
module _ (to : ℕ → ℕ) where
  put-by : (b : Bool) (us : Trees) → (if b then no_trees else relabel_all to us) ≡ relabel_all to (if b then no_trees else us)
  put-by true us = refl
  put-by false us = refl

  mutual
    put-relabel : (t : Tree) → put nothing (relabel to t) ≡ relabel to (put nothing t)
    put-relabel (tree f us) =
        ap (λ vs. tree (put_at to f) (if is_closed f then no_trees else vs)) (all-put-relabel us) ∙ ap (tree (put_at to f)) (put-by (is_closed f) (all_put nothing us))

    all-put-relabel : (us : Trees) → all_put nothing (relabel_all to us) ≡ relabel_all to (all_put nothing us)
    all-put-relabel no_trees = refl
    all-put-relabel (also t ts) = ap (λ r. also r (all_put nothing (relabel_all to ts))) (put-relabel t) ∙ ap (also (relabel to (put nothing t))) (all-put-relabel ts)

  pub list-put-relabel : (ts : List Tree) → put_list nothing (relabel_list to ts) ≡ relabel_list to (put_list nothing ts)
  list-put-relabel [] = refl
  list-put-relabel (t ∷ ts) = ap (λ r. r ∷ put_list nothing (relabel_list to ts)) (put-relabel t) ∙ ap (λ r. relabel to (put nothing t) ∷ r) (list-put-relabel ts)
