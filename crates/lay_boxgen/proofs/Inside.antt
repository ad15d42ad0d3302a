-- What is generated with this inside the boxes of inner contexts.
use Rattle.std.proofs.Common.{◌≡◌, Bool, true, false, ◌&&◌, not, List, [], ◌∷◌, ◌++◌, refl, ap, sym, ◌∙◌, if◌then◌else◌}
use Rattle.lay_boxgen.specs.Boxes.{Tree, Trees, tree, no_trees, also, trees_of, remade, all_remade, in_box}
use Rattle.lay_boxgen.specs.Parts.{is_closed, put, all_put, put_list, nothing}
use Rattle.lay_boxgen.specs.Laws.{inside, StaysOne, PartsAgree, GeneratesInside}
use Rattle.lay_boxgen.specs.Forms.{is_inline}
use Rattle.lay_boxgen.specs.Irrelevant.{relevant}
use Rattle.lay_boxgen.specs.MissingChildren.{child_wrapped}
use Rattle.lay_boxgen.specs.MissingParents.{parented}
use Rattle.lay_boxgen.specs.TableWrappers.{in_wrapper}
use Rattle.lay_boxgen.specs.BrokenInlines.{broken}
use Rattle.lay_boxgen.specs.InlineRuns.{run_wrapped}
use Rattle.lay_boxgen.specs.Generation.{generated}
use Rattle.lay_boxgen.specs.declared.facts.Facts.{Facts}
use Rattle.lay_boxgen.specs.declared.facts.Form.{Form}
use Rattle.lay_boxgen.specs.declared.facts.Form.TheVariants.{Inline}
use Rattle.lay_boxgen.proofs.Putting.{put-append, put-trees_of, put-open, put-relevant, put-child_wrapped, put-parented, put-in_wrapper, broken_open, put-run_wrapped}

-- A rule that sees the facts of the children alone, and makes of the box of an inner context one box with its facts.
pub record IsLocal (make : Facts → List Tree → List Tree) : Type 0 where
  pub into : Facts → List Tree → Trees
  pub alone : (f : Facts) (children : List Tree) → is_closed f ≡ true → make f children ≡ tree f (into f children) ∷ []
  pub opened : (h : Facts → Trees) (f : Facts) (children : List Tree) → is_closed f ≡ false → put_list h (make f children) ≡ make f (put_list h children)

put-closed : (h : Facts → Trees) (f : Facts) (us : Trees) → is_closed f ≡ true → put h (tree f us) ≡ tree f (h f)
put-closed h f us e = simp e refl

put-alone : (h : Facts → Trees) (f : Facts) (us : Trees) → is_closed f ≡ true → put_list h (tree f us ∷ []) ≡ tree f (h f) ∷ []
put-alone h f us e = ap (λ t. t ∷ []) (put-closed h f us e)

in_box_local : (change : Facts → List Tree → List Tree) → ((h : Facts → Trees) (f : Facts) (children : List Tree) → put_list h (change f children) ≡ change f (put_list h children)) → IsLocal (in_box change)
in_box_local change along = record {
  into = λ f children. trees_of (change f children);
  alone = λ f children e. refl;
  opened = λ h f children e. ap (λ t. t ∷ []) (put-open h f (change f children) e ∙ ap (λ r. tree f (trees_of r)) (along h f children));
}

never_inline : (i : Bool) → (i && false) ≡ true → ⊥
never_inline true e = cc
never_inline false e = cc

broken_alone : (k : Form) (f : Facts) (children : List Tree) → is_closed (record f { form = k }) ≡ true → broken (record f { form = k }) children ≡ tree (record f { form = k }) (trees_of children) ∷ []
broken_alone Inline f children e = absurd (never_inline f.inner e)
broken_alone _ f children e = refl

broken_local : IsLocal broken
broken_local = record {
  into = λ f children. trees_of children;
  alone = λ f children e. broken_alone f.form f children e;
  opened = λ h f children e. broken_open h f children e;
}

module _ (make : Facts → List Tree → List Tree) (m : IsLocal make) where
  -- what stands inside the box of an inner context after the step, where this stands before
  abbrev then_inside : (Facts → Trees) → Facts → Trees
  then_inside g f = m.into f (all_remade make (g f))

  remade_by : (g : Facts → Trees) (f : Facts) (us : Trees) → all_remade make (all_put g us) ≡ put_list (then_inside g) (all_remade make us) → (b : Bool) → is_closed f ≡ b
      → remade make (tree f (if b then g f else all_put g us)) ≡ put_list (then_inside g) (make f (all_remade make us))
  remade_by g f us ih true e = m.alone f (all_remade make (g f)) e
      ∙ sym (ap (put_list (then_inside g)) (m.alone f (all_remade make us) e) ∙ put-alone (then_inside g) f (m.into f (all_remade make us)) e)
  remade_by g f us ih false e = ap (make f) ih ∙ sym (m.opened (then_inside g) f (all_remade make us) e)

  mutual
    remade-put : (g : Facts → Trees) (t : Tree) → remade make (put g t) ≡ put_list (then_inside g) (remade make t)
    remade-put g (tree f us) = remade_by g f us (all_remade-put g us) (is_closed f) refl

    all_remade-put : (g : Facts → Trees) (us : Trees) → all_remade make (all_put g us) ≡ put_list (then_inside g) (all_remade make us)
    all_remade-put g no_trees = refl
    all_remade-put g (also t ts) = ap (λ r. r ++ all_remade make (all_put g ts)) (remade-put g t)
        ∙ (ap (λ r. put_list (then_inside g) (remade make t) ++ r) (all_remade-put g ts) ∙ sym (put-append (then_inside g) (remade make t) (all_remade make ts)))

  next : (g : Facts → Trees) (xs ys : List Tree) → ys ≡ put_list g xs → all_remade make (trees_of ys) ≡ put_list (then_inside g) (all_remade make (trees_of xs))
  next g xs ys e = ap (λ r. all_remade make (trees_of r)) e ∙ (ap (all_remade make) (sym (put-trees_of g xs)) ∙ all_remade-put g (trees_of xs))

-- Box generation, rule by rule, with this inside the boxes of inner contexts.
m1 : IsLocal (in_box relevant)
m1 = in_box_local relevant put-relevant

m2 : IsLocal (in_box child_wrapped)
m2 = in_box_local child_wrapped put-child_wrapped

m3 : IsLocal (in_box parented)
m3 = in_box_local parented put-parented

m4 : IsLocal (in_box in_wrapper)
m4 = in_box_local in_wrapper put-in_wrapper

m6 : IsLocal (in_box run_wrapped)
m6 = in_box_local run_wrapped put-run_wrapped

abbrev final : (Facts → Trees) → Facts → Trees
final g = then_inside (in_box run_wrapped) m6 (then_inside broken broken_local (then_inside (in_box in_wrapper) m4 (then_inside (in_box parented) m3 (then_inside (in_box child_wrapped) m2 (then_inside (in_box relevant) m1 g)))))

whole_put : (g : Facts → Trees) (t : Tree) → generated (put g t) ≡ put_list (final g) (generated t)
whole_put g t =
    let g1 = then_inside (in_box relevant) m1 g in
    let g2 = then_inside (in_box child_wrapped) m2 g1 in
    let g3 = then_inside (in_box parented) m3 g2 in
    let g4 = then_inside (in_box in_wrapper) m4 g3 in
    let g5 = then_inside broken broken_local g4 in
    next (in_box run_wrapped) m6 g5 _ _ (next broken broken_local g4 _ _ (next (in_box in_wrapper) m4 g3 _ _ (next (in_box parented) m3 g2 _ _ (next (in_box child_wrapped) m2 g1 _ _ (remade-put (in_box relevant) m1 g t)))))

-- What was put inside before makes no difference.
module _ (h : Facts → Trees) where
  put-put_by : (k : Facts → Trees) (f : Facts) (us : Trees) → all_put h (all_put k us) ≡ all_put h us → (b : Bool)
      → tree f (if b then h f else all_put h (if b then k f else all_put k us)) ≡ tree f (if b then h f else all_put h us)
  put-put_by k f us ih true = refl
  put-put_by k f us ih false = ap (tree f) ih

  mutual
    put-put : (k : Facts → Trees) (t : Tree) → put h (put k t) ≡ put h t
    put-put k (tree f us) = put-put_by k f us (all_put-put k us) (is_closed f)

    all_put-put : (k : Facts → Trees) (us : Trees) → all_put h (all_put k us) ≡ all_put h us
    all_put-put k no_trees = refl
    all_put-put k (also t ts) = ap (λ r. also r (all_put h (all_put k ts))) (put-put k t) ∙ ap (also (put h t)) (all_put-put k ts)

  pub list_put-put : (k : Facts → Trees) (xs : List Tree) → put_list h (put_list k xs) ≡ put_list h xs
  list_put-put k [] = refl
  list_put-put k (x ∷ xs) = ap (λ r. r ∷ put_list h (put_list k xs)) (put-put k x) ∙ ap (λ r. put h x ∷ r) (list_put-put k xs)

pub parts_agree : PartsAgree
parts_agree t = ap (put_list nothing) (whole_put nothing t) ∙ list_put-put nothing (final nothing) (generated t)

-- What is inside the boxes of inner contexts is all that setting it depends on.
module _ (g h : Facts → Trees) (same : (f : Facts) → is_closed f ≡ true → g f ≡ h f) where
  put-same_by : (f : Facts) (us : Trees) → all_put g us ≡ all_put h us → (b : Bool) → is_closed f ≡ b
      → tree f (if b then g f else all_put g us) ≡ tree f (if b then h f else all_put h us)
  put-same_by f us ih true e = ap (tree f) (same f e)
  put-same_by f us ih false e = ap (tree f) ih

  mutual
    put-same : (t : Tree) → put g t ≡ put h t
    put-same (tree f us) = put-same_by f us (all_put-same us) (is_closed f) refl

    all_put-same : (us : Trees) → all_put g us ≡ all_put h us
    all_put-same no_trees = refl
    all_put-same (also t ts) = ap (λ r. also r (all_put g ts)) (put-same t) ∙ ap (also (put h t)) (all_put-same ts)

  list_put-same : (xs : List Tree) → put_list g xs ≡ put_list h xs
  list_put-same [] = refl
  list_put-same (x ∷ xs) = ap (λ r. r ∷ put_list g xs) (put-same x) ∙ ap (λ r. put h x ∷ r) (list_put-same xs)

abbrev first_inside : List Tree → Trees
first_inside [] = no_trees
first_inside (tree f us ∷ ts) = us

pub stays_one : StaysOne
stays_one f b us h = (simp h refl, refl)

never : (i c : Bool) → (i && not c) ≡ true → c ≡ false
never true true e = cc
never false true e = cc
never i false e = refl

pub generates_inside : GeneratesInside
generates_inside g t = whole_put g t ∙ list_put-same (final g) h same (generated t)
  where
    h : Facts → Trees
    h f = inside f (g f)

    same : (f : Facts) → is_closed f ≡ true → final g f ≡ h f
    same f e = ap first_inside (sym (put-alone (final g) f (h f) e)
        ∙ (sym (ap (put_list (final g)) (stays_one f false (g f) (never f.inner (is_inline f.form) e)).0)
        ∙ (sym (whole_put g (tree f (g f))) ∙ (ap generated (put-closed g f (g f) e) ∙ (stays_one f false (g f) (never f.inner (is_inline f.form) e)).0))))
