-- A place at which only an anchor stands, with nothing in it: that is so of what box generation makes, where it was so before.
use Rattle.std.proofs.Common.{◌≡◌, inl, inr, ℕ, Bool, true, false, ◌&&◌, List, [], ◌∷◌, refl, ap, sym, subst, ◌∙◌, filter, if◌then◌else◌, None}
use Rattle.std.specs.List.{list_any}
use Rattle.std.proofs.lemmas.Bool.{cases_eq}
use Rattle.lay_boxgen.specs.Boxes.{Tree, Trees, tree, no_trees, also, trees_of, remade, all_remade, in_box}
use Rattle.lay_boxgen.specs.BrokenInlines.{broken, is_block_box, parts_from}
use Rattle.lay_boxgen.specs.Forms.{is_anchor, is_block_container, is_column, is_column_group, is_inline, is_row, is_row_group, is_table}
use Rattle.lay_boxgen.specs.Generation.{generated}
use Rattle.lay_boxgen.specs.InlineRuns.{block_round, is_no_block, run_wrapped}
use Rattle.lay_boxgen.specs.Irrelevant.{column_group_children, is_irrelevant, relevant}
use Rattle.lay_boxgen.specs.MissingChildren.{child_wrapped, in_cells, in_rows_of_group, in_rows_of_table}
use Rattle.lay_boxgen.specs.MissingParents.{is_cell_in_flow, is_misparented, parented, row_of_cells, table_round}
use Rattle.lay_boxgen.specs.Runs.{anonymous_box, gathered}
use Rattle.lay_boxgen.specs.TableWrappers.{captions_and_table, in_wrapper, is_no_caption_box, table_box}
use Rattle.lay_boxgen.specs.declared.facts.Facts.{Facts}
use Rattle.lay_boxgen.specs.declared.facts.Form.{Form}
use Rattle.lay_boxgen.specs.declared.facts.Form.TheVariants as form
use Rattle.lay_boxgen.specs.Parts.{all_put, is_closed, nothing, put, put_list}
use Rattle.lay_contexts.proofs.EditedLemmas.EachTree.{Each, IsMade, each-append, each-broken, each-child_wrapped, each-filter, each-in_wrapper, each-parented, each-relevant, each-run_wrapped}

-- at the place p stand anchors alone, with nothing in them
abbrev mutual
  pub Clear : ℕ → Tree → Type 0
  Clear p (tree f us) = (f.place ≡ p → (is_anchor f.form ≡ true) × (us ≡ no_trees)) × ClearIn p us

  pub ClearIn : ℕ → Trees → Type 0
  ClearIn p no_trees = Unit {0}
  ClearIn p (also t ts) = Clear p t × ClearIn p ts

pub clear-in : (p : ℕ) (ts : List Tree) → Each (Clear p) ts → ClearIn p (trees_of ts)
clear-in p [] h = tt
clear-in p (t ∷ ts) h = (h.0, clear-in p ts h.1)

-- What the rules make of no boxes in an anchor.
no_table : (x : Form) → is_anchor x ≡ true → is_table x ≡ false
no_table form.Anchor e = refl
no_table form.Block e = absurd cc
no_table form.InlineBlock e = absurd cc
no_table form.Inline e = absurd cc
no_table (form.Text t) e = absurd cc
no_table (form.Replaced w h i) e = absurd cc
no_table form.Wrapper e = absurd cc
no_table form.InlineWrapper e = absurd cc
no_table form.Table e = absurd cc
no_table form.Caption e = absurd cc
no_table form.RowGroup e = absurd cc
no_table form.HeaderGroup e = absurd cc
no_table form.FooterGroup e = absurd cc
no_table form.Row e = absurd cc
no_table (form.ColumnGroup n) e = absurd cc
no_table (form.Column n) e = absurd cc
no_table (form.Cell m n) e = absurd cc

abbrev pub none : List Tree
none = []

pub no-relevant : (f : Facts) → relevant f none ≡ none
no-relevant f = by (is_column f.form) (is_column_group f.form) (is_irrelevant f.form None None)
  where
    by : (a b c : Bool) → (if a then none else (if b then column_group_children none else (if c then none else none))) ≡ none
    by true b c = refl
    by false true c = refl
    by false false true = refl
    by false false false = refl

pub no-child : (f : Facts) → child_wrapped f none ≡ none
no-child f = by (is_table f.form) (is_row_group f.form) (is_row f.form)
  where
    by : (a b c : Bool) → (if a then in_rows_of_table f none else (if b then in_rows_of_group f none else (if c then in_cells f none else none))) ≡ none
    by true b c = refl
    by false true c = refl
    by false false true = refl
    by false false false = refl

pub no-parented : (f : Facts) → parented f none ≡ none
no-parented f = by (is_row f.form)
  where
    by : (a : Bool) → gathered (is_misparented f.form) (table_round f) (if a then none else gathered is_cell_in_flow (row_of_cells f) none) ≡ none
    by true = refl
    by false = refl

no-wrapped : (f : Facts) → is_anchor f.form ≡ true → in_wrapper f none ≡ none
no-wrapped f a = ap (λ (b : Bool). if b then captions_and_table f none else none) (no_table f.form a)

pub no-broken : (f : Facts) → broken f none ≡ tree f no_trees ∷ []
no-broken f = by (is_inline f.form && list_any is_block_box none)
  where
    by : (a : Bool) → (if a then parts_from f false none none else (tree f no_trees ∷ [])) ≡ tree f no_trees ∷ []
    by true = refl
    by false = refl

pub no-run : (f : Facts) → run_wrapped f none ≡ none
no-run f = by (is_block_container f.form && list_any is_block_box none)
  where
    by : (a : Bool) → (if a then gathered is_no_block (block_round f) none else none) ≡ none
    by true = refl
    by false = refl

module _ (p : ℕ) where
  abbrev AllClear : List Tree → Type 0
  AllClear ts = Each (Clear p) ts

  module _ (f : Facts) (apart : f.place ≡ p → ⊥) where
    clear-box : (x : Form) → IsMade x → (run : List Tree) → AllClear run → Clear p (anonymous_box f x run)
    clear-box x is run h = ((λ e. absurd (apart e)), clear-in p run h)

    clear-round : (run : List Tree) → AllClear run → Clear p (anonymous_box f (if is_inline f.form then form.InlineWrapper else form.Wrapper) run)
    clear-round run h = ((λ e. absurd (apart e)), clear-in p run h)

    clear-table : (run : List Tree) → AllClear run → Clear p (table_box f run)
    clear-table run h = ((λ e. absurd (apart e)), clear-in p (filter is_no_caption_box run) (each-filter (Clear p) is_no_caption_box run h))

    clear-tree : (held : List Tree) → AllClear held → Clear p (tree f (trees_of held))
    clear-tree held h = ((λ e. absurd (apart e)), clear-in p held h)

  -- a rule
  record Rule (make : Facts → List Tree → List Tree) : Type 0 where
    along : (f : Facts) → (f.place ≡ p → ⊥) → (ts : List Tree) → AllClear ts → AllClear (make f ts)
    bare : (f : Facts) → is_anchor f.form ≡ true → make f none ≡ tree f no_trees ∷ []

  module _ (make : Facts → List Tree → List Tree) (rule : Rule make) where
    clear-by : (f : Facts) (us : Trees) → (f.place ≡ p → (is_anchor f.form ≡ true) × (us ≡ no_trees)) → AllClear (all_remade make us) → AllClear (make f (all_remade make us))
    clear-by f us alone rest = elim (cases_eq f.place p) [
      | inl same ↦ (let a = alone same in
          let e : make f (all_remade make us) ≡ tree f no_trees ∷ [] = ap (λ (vs : Trees). make f (all_remade make vs)) a.1 ∙ rule.bare f a.0 in
          subst AllClear (sym e) (((λ g. (a.0, refl)), tt), tt))
      | inr apart ↦ rule.along f apart (all_remade make us) rest
    ]

    mutual
      clear-remade : (t : Tree) → Clear p t → AllClear (remade make t)
      clear-remade (tree f us) h = clear-by f us h.0 (clear-all us h.1)

      clear-all : (us : Trees) → ClearIn p us → AllClear (all_remade make us)
      clear-all no_trees h = tt
      clear-all (also t ts) h = each-append (Clear p) (remade make t) (all_remade make ts) (clear-remade t h.0) (clear-all ts h.1)

    clear-list : (ts : List Tree) → AllClear ts → AllClear (all_remade make (trees_of ts))
    clear-list ts h = clear-all (trees_of ts) (clear-in p ts h)

  boxed : (change : Facts → List Tree → List Tree) → ((f : Facts) → (f.place ≡ p → ⊥) → (ts : List Tree) → AllClear ts → AllClear (change f ts))
      → ((f : Facts) → is_anchor f.form ≡ true → change f none ≡ none) → Rule (in_box change)
  boxed change along bare = record {
    along = λ f apart ts h. (((λ e. absurd (apart e)), clear-in p (change f ts) (along f apart ts h)), tt);
    bare = λ f a. ap (λ (cs : List Tree). tree f (trees_of cs) ∷ []) (bare f a);
  }

  pub clear-generated : (t : Tree) → Clear p t → AllClear (generated t)
  clear-generated t h =
      let r1 = boxed relevant (λ f apart ts g. each-relevant (Clear p) f ts g) (λ f a. no-relevant f) in
      let r2 = boxed child_wrapped (λ f apart ts g. each-child_wrapped (Clear p) f (clear-box f apart) ts g) (λ f a. no-child f) in
      let r3 = boxed parented (λ f apart ts g. each-parented (Clear p) f (clear-box f apart) (clear-round f apart) ts g) (λ f a. no-parented f) in
      let r4 = boxed in_wrapper (λ f apart ts g. each-in_wrapper (Clear p) f (clear-table f apart) ts g) no-wrapped in
      let r5 : Rule broken = record { along = λ f apart ts g. each-broken (Clear p) f (clear-tree f apart) ts g; bare = λ f a. no-broken f } in
      let r6 = boxed run_wrapped (λ f apart ts g. each-run_wrapped (Clear p) f (clear-box f apart) ts g) (λ f a. no-run f) in
      let t1 = remade (in_box relevant) t in
      let t2 = all_remade (in_box child_wrapped) (trees_of t1) in
      let t3 = all_remade (in_box parented) (trees_of t2) in
      let t4 = all_remade (in_box in_wrapper) (trees_of t3) in
      let t5 = all_remade broken (trees_of t4) in
      clear-list (in_box run_wrapped) r6 t5
      (clear-list broken r5 t4
      (clear-list (in_box in_wrapper) r4 t3
      (clear-list (in_box parented) r3 t2
      (clear-list (in_box child_wrapped) r2 t1 (clear-remade (in_box relevant) r1 t h)))))

  put-by : (b : Bool) (us : Trees) → us ≡ no_trees → (if b then no_trees else all_put nothing us) ≡ no_trees
  put-by true us e = refl
  put-by false us e = ap (all_put nothing) e

  put-in : (b : Bool) (us : Trees) → ClearIn p (all_put nothing us) → ClearIn p (if b then no_trees else all_put nothing us)
  put-in true us h = tt
  put-in false us h = h

  mutual
    clear-put : (t : Tree) → Clear p t → Clear p (put nothing t)
    clear-put (tree f us) h = ((λ e. (let a = h.0 e in (a.0, put-by (is_closed f) us a.1))), put-in (is_closed f) us (clear-puts us h.1))

    clear-puts : (us : Trees) → ClearIn p us → ClearIn p (all_put nothing us)
    clear-puts no_trees h = tt
    clear-puts (also t ts) h = (clear-put t h.0, clear-puts ts h.1)

  pub clear-put_list : (ts : List Tree) → AllClear ts → AllClear (put_list nothing ts)
  clear-put_list [] h = tt
  clear-put_list (t ∷ ts) h = (clear-put t h.0, clear-put_list ts h.1)
