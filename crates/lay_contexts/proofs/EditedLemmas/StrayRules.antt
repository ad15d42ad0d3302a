-- Which boxes stand in anonymous tables, rule by rule of box generation: before the third stage of 17.2.1 it is said by the parts of tables
-- that stray, and from then on by the wrappers. The second stage leaves that as it is.
use Rattle.std.proofs.Common.{◌≡◌, ◌⊎◌, ⊎_elim, inl, inr, Bool, true, false, ◌&&◌, ◌||◌, List, [], ◌∷◌, ◌++◌, filter, refl, ap, sym, subst, ◌∙◌, if◌then◌else◌}
use Rattle.std.proofs.lemmas.Bool.{or_left, or_right}
use Rattle.lay_boxgen.specs.Boxes.{Tree, Trees, tree, no_trees, also, trees_of, facts_of, remade, all_remade, in_box}
use Rattle.lay_boxgen.specs.BrokenInlines.{broken}
use Rattle.lay_boxgen.specs.Forms.{is_cell, is_in_flow, is_inline, is_proper_table_child, is_row, is_row_group, is_table, is_white}
use Rattle.lay_boxgen.specs.Generation.{generated}
use Rattle.lay_boxgen.specs.InlineRuns.{run_wrapped}
use Rattle.lay_boxgen.specs.Irrelevant.{relevant}
use Rattle.lay_boxgen.specs.MissingChildren.{cell_round, child_wrapped, in_cells, in_rows_of_group, in_rows_of_table, is_no_cell, is_no_proper_table_child, is_no_row, row_round}
use Rattle.lay_boxgen.specs.MissingParents.{cells_in_rows, is_cell_in_flow, is_misparented, parented, row_of_cells, table_round}
use Rattle.lay_boxgen.specs.Runs.{anonymous_box, anonymous_facts, gathered, gathered_from, is_some, is_white_box, run_over}
use Rattle.lay_boxgen.specs.TableWrappers.{in_wrapper, is_no_caption_box, table_box, table_facts}
use Rattle.lay_boxgen.specs.declared.facts.Facts.{Facts}
use Rattle.lay_boxgen.specs.declared.facts.Form.{Form}
use Rattle.lay_boxgen.specs.declared.facts.Form.TheVariants as form
use Rattle.lay_box_tree.specs.declared.box_tree.Flow.TheVariants as flow
use Rattle.lay_boxgen.specs.Parts.{all_put, is_closed, nothing, put, put_list}
use Rattle.lay_contexts.specs.Edited.AnonymousTables.{is_anonymous_table, is_stray, strays_in}
use Rattle.lay_contexts.proofs.EditedLemmas.ClearTrees.{no-child, no-parented, no-relevant, no-run, none}
use Rattle.lay_contexts.proofs.EditedLemmas.EachTree.{Each, IsMade, each-append, each-broken, each-filter, each-in_wrapper, each-map, each-relevant, each-run_wrapped}
use Rattle.lay_contexts.proofs.EditedLemmas.StrayForms.{and-false, cell-at-home, cell-misparented, cells-as-rows, in-row-home, in-table-home, inline-is, is_misparented_form, kept-in-cell, kept-in-row, misparented-is, no-stray, not-both, or-false, row-at-home, strays-alike, white-part}

-- white space is of no inner context, and holds nothing
abbrev pub Blank : Facts → Trees → Type 0
Blank f us = is_white f.form ≡ true → (f.inner ≡ false) × (us ≡ no_trees)

-- what holds of each box beside whether it will stand in an anonymous table
abbrev mutual
  pub Before : (Bool → Facts → Type 0) → Bool → Tree → Type 0
  Before P b (tree f us) = P b f × Blank f us × BeforeIn P f (b || is_anonymous_table f) us

  pub BeforeIn : (Bool → Facts → Type 0) → Facts → Bool → Trees → Type 0
  BeforeIn P f b no_trees = Unit {0}
  BeforeIn P f b (also t ts) = Before P (b || is_stray f (facts_of t)) t × BeforeIn P f b ts

-- and beside whether it stands in one
abbrev mutual
  pub After : (Bool → Facts → Type 0) → Bool → Tree → Type 0
  After P b (tree f us) = P b f × Blank f us × AfterIn P (b || is_anonymous_table f) us

  pub AfterIn : (Bool → Facts → Type 0) → Bool → Trees → Type 0
  AfterIn P b no_trees = Unit {0}
  AfterIn P b (also t ts) = After P b t × AfterIn P b ts

-- Runs that are replaced, with what holds before of those in runs and of the others.
module _ (In Run Out : Tree → Type 0) (fault : Facts → Bool) (close : List Tree → List Tree)
    (joins : (t : Tree) → fault (facts_of t) ≡ true → In t → Run t)
    (blank : (t : Tree) → is_white_box t ≡ true → In t → Run t × Out t)
    (stays : (t : Tree) → fault (facts_of t) ≡ false → is_white_box t ≡ false → In t → Out t)
    (closes : (run : List Tree) → Each Run run → Each Out (close run)) where
  abbrev Both : Tree → Type 0
  Both t = Run t × Out t

  two-run_over : (run gap : List Tree) → Each Run run → Each Both gap → Each Out (run_over close run gap)
  two-run_over [] gap r g = each-map Both Out (λ t h. h.1) gap g
  two-run_over (t ∷ ts) gap r g = each-append Out (close (t ∷ ts)) gap (closes (t ∷ ts) r) (each-map Both Out (λ u h. h.1) gap g)

  out : (t : Tree) → fault (facts_of t) ≡ false → In t → Out t
  out t e h = by (is_white_box t) refl
    where
      by : (b : Bool) → is_white_box t ≡ b → Out t
      by true w = (blank t w h).1
      by false w = stays t e w h

  two-from : (ts run gap : List Tree) → Each In ts → Each Run run → Each Both gap → Each Out (gathered_from fault close run gap ts)
  two-from [] run gap h r g = two-run_over run gap r g
  two-from (t ∷ ts) run gap h r g =
      by (fault (facts_of t)) (is_some run) (is_white_box t) refl refl
      (λ e. two-from ts (run ++ gap ++ t ∷ []) [] h.1 (each-append Run (run ++ gap) (t ∷ []) (each-append Run run gap r (each-map Both Run (λ u k. k.0) gap g)) (joins t e h.0, tt)) tt)
      (λ w. two-from ts run (gap ++ t ∷ []) h.1 r (each-append Both gap (t ∷ []) g (blank t w h.0, tt)))
      (two-from ts [] [] h.1 tt tt)
    where
      ended : fault (facts_of t) ≡ false → Each Out (gathered_from fault close [] [] ts) → Each Out (run_over close run gap ++ t ∷ [] ++ gathered_from fault close [] [] ts)
      ended e rest =
          each-append Out (run_over close run gap ++ t ∷ []) (gathered_from fault close [] [] ts)
          (each-append Out (run_over close run gap) (t ∷ []) (two-run_over run gap r g) (out t e h.0, tt)) rest

      by : (a b c : Bool) → fault (facts_of t) ≡ a → is_white_box t ≡ c
          → (fault (facts_of t) ≡ true → Each Out (gathered_from fault close (run ++ gap ++ t ∷ []) [] ts))
          → (is_white_box t ≡ true → Each Out (gathered_from fault close run (gap ++ t ∷ []) ts))
          → Each Out (gathered_from fault close [] [] ts)
          → Each Out (if a then gathered_from fault close (run ++ gap ++ t ∷ []) [] ts
          else (if b && c then gathered_from fault close run (gap ++ t ∷ []) ts else run_over close run gap ++ t ∷ [] ++ gathered_from fault close [] [] ts))
      by true b c e w joined grown rest = joined e
      by false true true e w joined grown rest = grown w
      by false true false e w joined grown rest = ended e rest
      by false false c e w joined grown rest = ended e rest

  two-gathered : (ts : List Tree) → Each In ts → Each Out (gathered fault close ts)
  two-gathered ts h = two-from ts [] [] h tt tt

module _ (P : Bool → Facts → Type 0) (opened : (b : Bool) (f : Facts) → f.inner ≡ false → P b f) where
  -- a child of a box with these facts
  abbrev Child : Facts → Bool → Tree → Type 0
  Child f b u = Before P (b || is_stray f (facts_of u)) u

  abbrev Middle : Facts → Bool → Tree → Type 0
  Middle f b u = After P (b || is_stray f (facts_of u)) u

  child-in : (f : Facts) (b : Bool) (ts : List Tree) → Each (Child f b) ts → BeforeIn P f b (trees_of ts)
  child-in f b [] h = tt
  child-in f b (t ∷ ts) h = (h.0, child-in f b ts h.1)

  after-in : (b : Bool) (ts : List Tree) → Each (After P b) ts → AfterIn P b (trees_of ts)
  after-in b [] h = tt
  after-in b (t ∷ ts) h = (h.0, after-in b ts h.1)

  -- white space may stand anywhere
  after-white : (b c : Bool) (t : Tree) → is_white (facts_of t).form ≡ true → After P b t → After P c t
  after-white b c (tree f us) w h = let g = h.1 w in (opened c f g.0, h.1, subst (AfterIn P (c || is_anonymous_table f)) (sym g.1) tt)

  at-state : (b c : Bool) → b ≡ c → (t : Tree) → After P b t → After P c t
  at-state b c e t h = subst (λ (x : Bool). After P x t) e h

  -- an anonymous box that is no table
  made-after : (f : Facts) (b : Bool) (x : Form) → IsMade x → (run : List Tree) → Each (After P b) run → After P b (anonymous_box f x run)
  made-after f b x is run h = (
    opened b (anonymous_facts f x) refl,
    λ w. absurd (let z : true ≡ false = sym w ∙ is.1 in cc),
    subst (λ (c : Bool). AfterIn P c (trees_of run)) (sym (or-false b (is_table x) is.0)) (after-in b run h),
  )

  -- the same before the third stage: round children of it
  made-before : (f : Facts) (b : Bool) (x : Form) → IsMade x → (run : List Tree) → Each (Child (anonymous_facts f x) b) run → Before P b (anonymous_box f x run)
  made-before f b x is run h = (
    opened b (anonymous_facts f x) refl,
    λ w. absurd (let z : true ≡ false = sym w ∙ is.1 in cc),
    subst (λ (c : Bool). BeforeIn P (anonymous_facts f x) c (trees_of run)) (sym (or-false b (is_table x) is.0)) (child-in (anonymous_facts f x) b run h),
  )

  -- The first two stages.
  record BeforeRule (change : Facts → List Tree → List Tree) : Type 0 where
    along : (f : Facts) (b : Bool) (ts : List Tree) → Each (Child f b) ts → Each (Child f b) (change f ts)
    bare : (f : Facts) → change f none ≡ none

  module _ (change : Facts → List Tree → List Tree) (rule : BeforeRule change) where
    mutual
      before-remade : (p : Facts) (b : Bool) (t : Tree) → Child p b t → Each (Child p b) (remade (in_box change) t)
      before-remade p b (tree f us) h =
          let c : Bool = (b || is_stray p f) || is_anonymous_table f in (
            (
              h.0,
              λ w. (let g = h.1 w in (g.0, ap (λ (vs : Trees). trees_of (change f (all_remade (in_box change) vs))) g.1 ∙ ap trees_of (rule.bare f))),
              child-in f c (change f (all_remade (in_box change) us)) (rule.along f c (all_remade (in_box change) us) (before-all f c us h.2)),
            ),
            tt,
          )

      before-all : (p : Facts) (b : Bool) (us : Trees) → BeforeIn P p b us → Each (Child p b) (all_remade (in_box change) us)
      before-all p b no_trees h = tt
      before-all p b (also t ts) h = each-append (Child p b) (remade (in_box change) t) (all_remade (in_box change) ts) (before-remade p b t h.0) (before-all p b ts h.1)

  -- a child of one box is as well one of another in which it strays alike
  child-of-other : (f g : Facts) (b : Bool) (t : Tree) → is_stray f (facts_of t) ≡ is_stray g (facts_of t) → Child f b t → Child g b t
  child-of-other f g b t e h = subst (λ (x : Bool). Before P (b || x) t) e h

  white-child : (f g : Facts) (b : Bool) (t : Tree) → is_white_box t ≡ true → Child f b t → Child g b t
  white-child f g b t w h =
      let part = (white-part (facts_of t).form w).part in
      child-of-other f g b t (no-stray f (facts_of t) part ∙ sym (no-stray g (facts_of t) part)) h

  -- and an anonymous box in which it is at home
  child-at-home : (f g : Facts) (b : Bool) (t : Tree) → (facts_of t) ≡ g → is_stray f g ≡ false → Before P b t → Child f b t
  child-at-home f g b t is e h = subst (λ (x : Bool). Before P x t) (sym (or-false b (is_stray f (facts_of t)) (ap (is_stray f) is ∙ e))) h

  -- Cells round what is none, among the children of a row.
  module _ (f r : Facts) (b : Bool) (row : is_row r.form ≡ true) where
    abbrev CellFacts : Facts
    CellFacts = anonymous_facts f (form.Cell 1 1)

    in-cell : (t : Tree) → is_no_cell (facts_of t) ≡ true → Child r b t → Child CellFacts b t
    in-cell t e h =
        child-of-other r CellFacts b t
        (strays-alike r.form (form.Cell 1 1) (facts_of t)
        (⊎_elim (λ out. inl out) (λ other. inr (kept-in-cell r.form (facts_of t).form row other)) (not-both (is_in_flow (facts_of t).flow) (is_cell (facts_of t).form) e))) h

    cell-made : (run : List Tree) → Each (Child CellFacts b) run → Child r b (anonymous_box f (form.Cell 1 1) run)
    cell-made run h =
        child-at-home r CellFacts b (anonymous_box f (form.Cell 1 1) run) refl (cell-at-home r.form 1 1 row) (made-before f b (form.Cell 1 1) (refl, refl, refl) run h)

    cells-along : (ts : List Tree) → Each (Child r b) ts → Each (Child r b) (in_cells f ts)
    cells-along ts h =
        two-gathered (Child r b) (Child CellFacts b) (Child r b) is_no_cell (cell_round f)
        in-cell
        (λ t w k. (white-child r CellFacts b t w k, k))
        (λ t e w k. k)
        (λ run k. (cell-made run k, tt))
        ts h

  -- Rows round what is none.
  module _ (f : Facts) (b : Bool) where
    abbrev RowFacts : Facts
    RowFacts = anonymous_facts f form.Row

    row-made : strays_in f.form form.Row ≡ false → (run : List Tree) → Each (Child RowFacts b) run → Each (Child f b) (row_round f run)
    row-made e run h = (
      child-at-home f RowFacts b (anonymous_box f form.Row (in_cells f run)) refl e
          (made-before f b form.Row (refl, refl, refl) (in_cells f run) (cells-along f RowFacts b refl run h)),
      tt,
    )

    table-child : (t : Tree) → is_table f.form ≡ true → is_no_proper_table_child (facts_of t) ≡ true → Child f b t → Child RowFacts b t
    table-child t table e h =
        child-of-other f RowFacts b t
        (strays-alike f.form form.Row (facts_of t)
        (⊎_elim (λ out. inl out) (λ other. inr (in-table-home f.form (facts_of t).form table ∙ sym (in-row-home (facts_of t).form other)))
        (not-both (is_in_flow (facts_of t).flow) (is_proper_table_child (facts_of t).form) e))) h

    group-child : (t : Tree) → is_row_group f.form ≡ true → is_no_row (facts_of t) ≡ true → Child f b t → Child RowFacts b t
    group-child t group e h =
        child-of-other f RowFacts b t
        (strays-alike f.form form.Row (facts_of t)
        (⊎_elim (λ out. inl out) (λ other. inr (kept-in-row f.form (facts_of t).form group other)) (not-both (is_in_flow (facts_of t).flow) (is_row (facts_of t).form) e))) h

    rows-of-table : is_table f.form ≡ true → (ts : List Tree) → Each (Child f b) ts → Each (Child f b) (in_rows_of_table f ts)
    rows-of-table table ts h =
        two-gathered (Child f b) (Child RowFacts b) (Child f b) is_no_proper_table_child (row_round f)
        (λ t e k. table-child t table e k)
        (λ t w k. (white-child f RowFacts b t w k, k))
        (λ t e w k. k)
        (row-made (row-at-home f.form (or_left (is_table f.form) (is_row_group f.form) table)))
        ts h

    rows-of-group : is_row_group f.form ≡ true → (ts : List Tree) → Each (Child f b) ts → Each (Child f b) (in_rows_of_group f ts)
    rows-of-group group ts h =
        two-gathered (Child f b) (Child RowFacts b) (Child f b) is_no_row (row_round f)
        (λ t e k. group-child t group e k)
        (λ t w k. (white-child f RowFacts b t w k, k))
        (λ t e w k. k)
        (row-made (row-at-home f.form (or_right (is_table f.form) (is_row_group f.form) group)))
        ts h

  child-along : (f : Facts) (b : Bool) (ts : List Tree) → Each (Child f b) ts → Each (Child f b) (child_wrapped f ts)
  child-along f b ts h = by (is_table f.form) (is_row_group f.form) (is_row f.form) refl refl refl
    where
      by : (x y z : Bool) → is_table f.form ≡ x → is_row_group f.form ≡ y → is_row f.form ≡ z
          → Each (Child f b) (if x then in_rows_of_table f ts else (if y then in_rows_of_group f ts else (if z then in_cells f ts else ts)))
      by true y z table group row = rows-of-table f b table ts h
      by false true z table group row = rows-of-group f b group ts h
      by false false true table group row = cells-along f f b row ts h
      by false false false table group row = h

  -- The third stage.
  module _ (f : Facts) (b : Bool) where
    in-table : (t : Tree) → is_stray f (facts_of t) ≡ true → Middle f b t → After P true t
    in-table t e h = at-state (b || is_stray f (facts_of t)) true (or_right b (is_stray f (facts_of t)) e) t h

    -- a child that is no cell in flow, or stands in a row
    abbrev NoCell : Tree → Type 0
    NoCell t = Middle f b t × ((is_cell_in_flow (facts_of t) ≡ false) ⊎ (is_row f.form ≡ true))

    white-cell : (t : Tree) → is_white_box t ≡ true → is_cell_in_flow (facts_of t) ≡ false
    white-cell t w = ap (λ (c : Bool). is_in_flow (facts_of t).flow && c) (white-part (facts_of t).form w).cell ∙ and-false (is_in_flow (facts_of t).flow)

    -- whether cells and rows stray here
    abbrev Strays : Bool
    Strays = strays_in f.form form.Row

    cell-strays : is_row f.form ≡ false → (g : Facts) → is_cell_in_flow g ≡ true → is_stray f g ≡ Strays
    cell-strays other g e = by (is_in_flow g.flow) g.form e
      where
        by : (in_flow : Bool) (x : Form) → (in_flow && is_cell x) ≡ true → (in_flow && strays_in f.form x) ≡ Strays
        by true (form.Cell m n) e = cells-as-rows f.form m n other
        by _ x e = absurd cc

    row-after : (run : List Tree) → Each (After P (b || Strays)) run → NoCell (anonymous_box f form.Row run)
    row-after run h = (made-after f (b || Strays) form.Row (refl, refl, refl) run h, inl refl)

    rows : is_row f.form ≡ false → (ts : List Tree) → Each (Middle f b) ts → Each NoCell (gathered is_cell_in_flow (row_of_cells f) ts)
    rows other ts h =
        two-gathered (Middle f b) (After P (b || Strays)) NoCell is_cell_in_flow (row_of_cells f)
        (λ t e k. at-state (b || is_stray f (facts_of t)) (b || Strays) (ap (λ (x : Bool). b || x) (cell-strays other (facts_of t) e)) t k)
        (λ t w k. (after-white (b || is_stray f (facts_of t)) (b || Strays) t w k, (k, inl (white-cell t w))))
        (λ t e w k. (k, inl e))
        (λ run k. (row-after run k, tt))
        ts h

    cells-in-rows : (ts : List Tree) → Each (Middle f b) ts → Each NoCell (cells_in_rows f ts)
    cells-in-rows ts h = by (is_row f.form) refl
      where
        by : (x : Bool) → is_row f.form ≡ x → Each NoCell (if x then ts else gathered is_cell_in_flow (row_of_cells f) ts)
        by true row = each-map (Middle f b) NoCell (λ t k. (k, inr row)) ts h
        by false other = rows other ts h

    -- what isn't misparented is at home
    home-by : (in_flow : Bool) (x : Form) → (in_flow && is_misparented_form f.form x) ≡ false → (((in_flow && is_cell x) ≡ false) ⊎ (is_row f.form ≡ true))
        → (in_flow && strays_in f.form x) ≡ false
    home-by false x e c = refl
    home-by true (form.Cell m n) e (inl other) = absurd cc
    home-by true (form.Cell m n) e (inr row) = cell-at-home f.form m n row
    home-by true x e c = sym (misparented-is f.form x refl) ∙ e

    stray-by : (in_flow : Bool) (x : Form) → (in_flow && is_misparented_form f.form x) ≡ true → (in_flow && strays_in f.form x) ≡ true
    stray-by false x e = absurd cc
    stray-by true (form.Cell m n) e = absurd (let z : true ≡ false = sym e ∙ cell-misparented f.form m n in cc)
    stray-by true x e = sym (misparented-is f.form x refl) ∙ e

    table-after : (x : Form) → is_table x ≡ true → is_white x ≡ false → (run : List Tree) → Each (After P true) run → After P b (anonymous_box f x run)
    table-after x table other run h = (
      opened b (anonymous_facts f x) refl,
      λ w. absurd (let z : true ≡ false = sym w ∙ other in cc),
      subst (λ (c : Bool). AfterIn P c (trees_of run)) (sym (or_right b (is_table x) table)) (after-in true run h),
    )

    round-after : (run : List Tree) → Each (After P true) run → After P b (anonymous_box f (if is_inline f.form then form.InlineWrapper else form.Wrapper) run)
    round-after run h = by (is_inline f.form)
      where
        by : (i : Bool) → After P b (anonymous_box f (if i then form.InlineWrapper else form.Wrapper) run)
        by true = table-after form.InlineWrapper refl refl run h
        by false = table-after form.Wrapper refl refl run h

    outside : (t : Tree) → is_misparented f.form (facts_of t) ≡ false → NoCell t → After P b t
    outside t e h =
        let home : is_stray f (facts_of t) ≡ false = home-by (is_in_flow (facts_of t).flow) (facts_of t).form e h.1 in
        at-state (b || is_stray f (facts_of t)) b (or-false b (is_stray f (facts_of t)) home) t h.0

    parented-after : (ts : List Tree) → Each (Middle f b) ts → Each (After P b) (parented f ts)
    parented-after ts h =
        two-gathered NoCell (After P true) (After P b) (is_misparented f.form) (table_round f)
        (λ t e k. in-table t (stray-by (is_in_flow (facts_of t).flow) (facts_of t).form e) k.0)
        (λ t w k. (after-white (b || is_stray f (facts_of t)) true t w k.0, after-white (b || is_stray f (facts_of t)) b t w k.0))
        (λ t e w k. outside t e k)
        (λ run k. (round-after run k, tt))
        (cells_in_rows f ts) (cells-in-rows ts h)

  mutual
    middle-remade : (p : Facts) (b : Bool) (t : Tree) → Child p b t → Each (Middle p b) (remade (in_box parented) t)
    middle-remade p b (tree f us) h =
        let c : Bool = (b || is_stray p f) || is_anonymous_table f in (
          (
            h.0,
            λ w. (let g = h.1 w in (g.0, ap (λ (vs : Trees). trees_of (parented f (all_remade (in_box parented) vs))) g.1 ∙ ap trees_of (no-parented f))),
            after-in c (parented f (all_remade (in_box parented) us)) (parented-after f c (all_remade (in_box parented) us) (middle-all f c us h.2)),
          ),
          tt,
        )

    middle-all : (p : Facts) (b : Bool) (us : Trees) → BeforeIn P p b us → Each (Middle p b) (all_remade (in_box parented) us)
    middle-all p b no_trees h = tt
    middle-all p b (also t ts) h = each-append (Middle p b) (remade (in_box parented) t) (all_remade (in_box parented) ts) (middle-remade p b t h.0) (middle-all p b ts h.1)

  -- Wrappers, and the wrapping of inline runs.
  record AfterRule (change : Facts → List Tree → List Tree) : Type 0 where
    along : (f : Facts) (b : Bool) (ts : List Tree) → Each (After P b) ts → Each (After P b) (change f ts)
    bare : (f : Facts) → is_white f.form ≡ true → change f none ≡ none

  module _ (change : Facts → List Tree → List Tree) (rule : AfterRule change) where
    mutual
      after-remade : (b : Bool) (t : Tree) → After P b t → Each (After P b) (remade (in_box change) t)
      after-remade b (tree f us) h =
          let c : Bool = b || is_anonymous_table f in (
            (
              h.0,
              λ w. (let g = h.1 w in (g.0, ap (λ (vs : Trees). trees_of (change f (all_remade (in_box change) vs))) g.1 ∙ ap trees_of (rule.bare f w))),
              after-in c (change f (all_remade (in_box change) us)) (rule.along f c (all_remade (in_box change) us) (after-all c us h.2)),
            ),
            tt,
          )

      after-all : (b : Bool) (us : Trees) → AfterIn P b us → Each (After P b) (all_remade (in_box change) us)
      after-all b no_trees h = tt
      after-all b (also t ts) h = each-append (After P b) (remade (in_box change) t) (all_remade (in_box change) ts) (after-remade b t h.0) (after-all b ts h.1)

  no-table : (f : Facts) → is_white f.form ≡ true → in_wrapper f none ≡ none
  no-table f w = let e = (white-part f.form w).table in rw e refl

  table-box : (f : Facts) (b : Bool) (run : List Tree) → Each (After P b) run → After P b (table_box f run)
  table-box f b run h = (
    opened b (table_facts f) refl,
    λ w. absurd cc,
    subst (λ (c : Bool). AfterIn P c (trees_of (filter is_no_caption_box run))) (sym (or-false b (f.anonymous && false) (and-false f.anonymous)))
        (after-in b (filter is_no_caption_box run) (each-filter (After P b) is_no_caption_box run h)),
  )

  -- Breaking.
  inline-no-table : (f : Facts) → is_inline f.form ≡ true → is_anonymous_table f ≡ false
  inline-no-table f e = ap (λ (x : Form). f.anonymous && is_table x) (inline-is f.form e) ∙ and-false f.anonymous

  inline-no-white : (f : Facts) → is_inline f.form ≡ true → is_white f.form ≡ false
  inline-no-white f e = ap is_white (inline-is f.form e)

  unbroken : (f : Facts) (ts : List Tree) → is_inline f.form ≡ false → broken f ts ≡ tree f (trees_of ts) ∷ []
  unbroken f ts e = rw e refl

  broken-by : (b : Bool) (f : Facts) (us : Trees) → P b f → Blank f us → Each (After P (b || is_anonymous_table f)) (all_remade broken us) → Each (After P b) (broken f (all_remade broken us))
  broken-by b f us p blank h = by (is_inline f.form) refl
    where
      by : (i : Bool) → is_inline f.form ≡ i → Each (After P b) (broken f (all_remade broken us))
      by true e =
          let same : (b || is_anonymous_table f) ≡ b = or-false b (is_anonymous_table f) (inline-no-table f e) in
          each-broken (After P b) f (λ held g. (p, λ w. absurd (let z : true ≡ false = sym w ∙ inline-no-white f e in cc), subst (λ (c : Bool). AfterIn P c (trees_of held)) (sym same) (after-in b held g)))
          (all_remade broken us) (subst (λ (c : Bool). Each (After P c) (all_remade broken us)) same h)
      by false e =
          subst (Each (After P b)) (sym (unbroken f (all_remade broken us) e))
          ((p, λ w. (let g = blank w in (g.0, ap (λ (vs : Trees). trees_of (all_remade broken vs)) g.1)), after-in (b || is_anonymous_table f) (all_remade broken us) h), tt)

  mutual
    broken-remade : (b : Bool) (t : Tree) → After P b t → Each (After P b) (remade broken t)
    broken-remade b (tree f us) h = broken-by b f us h.0 h.1 (broken-all (b || is_anonymous_table f) us h.2)

    broken-all : (b : Bool) (us : Trees) → AfterIn P b us → Each (After P b) (all_remade broken us)
    broken-all b no_trees h = tt
    broken-all b (also t ts) h = each-append (After P b) (remade broken t) (all_remade broken ts) (broken-remade b t h.0) (broken-all b ts h.1)

  -- All of it, in a box in which nothing strays.
  abbrev outer : Facts
  outer = record { node = record { 0 = 0 }; place = 0; form = form.Wrapper; anonymous = false; flow = flow.InFlow; inner = false }

  outer-home : (g : Facts) → is_stray outer g ≡ false
  outer-home g = ap (λ (b : Bool). is_in_flow g.flow && b) (in-table-home form.Wrapper g.form refl) ∙ and-false (is_in_flow g.flow)

  pub inside-generated : (t : Tree) → Before P false t → Each (After P false) (generated t)
  inside-generated t h =
      let r1 : BeforeRule relevant = record { along = λ f b ts g. each-relevant (Child f b) f ts g; bare = no-relevant } in
      let r2 : BeforeRule child_wrapped = record { along = child-along; bare = no-child } in
      let r4 : AfterRule in_wrapper = record { along = λ f b ts g. each-in_wrapper (After P b) f (table-box f b) ts g; bare = no-table } in
      let r6 : AfterRule run_wrapped = record { along = λ f b ts g. each-run_wrapped (After P b) f (made-after f b) ts g; bare = λ f w. no-run f } in
      let t1 = remade (in_box relevant) t in
      let t2 = all_remade (in_box child_wrapped) (trees_of t1) in
      let t3 = all_remade (in_box parented) (trees_of t2) in
      let t4 = all_remade (in_box in_wrapper) (trees_of t3) in
      let t5 = all_remade broken (trees_of t4) in
      let h1 : Each (Child outer false) t1 = before-remade relevant r1 outer false t (subst (λ (b : Bool). Before P b t) (sym (outer-home (facts_of t))) h) in
      let h2 : Each (Child outer false) t2 = before-all child_wrapped r2 outer false (trees_of t1) (child-in outer false t1 h1) in
      let h3 : Each (After P false) t3 = each-map (Middle outer false) (After P false) (λ u k. at-state (is_stray outer (facts_of u)) false (outer-home (facts_of u)) u k) t3 (middle-all outer false (trees_of t2) (child-in outer false t2 h2)) in
      let h4 = after-all in_wrapper r4 false (trees_of t3) (after-in false t3 h3) in
      let h5 = broken-all false (trees_of t4) (after-in false t4 h4) in
      after-all run_wrapped r6 false (trees_of t5) (after-in false t5 h5)

  -- What is left of a part.
  put-by : (b c : Bool) (us : Trees) → AfterIn P c (all_put nothing us) → AfterIn P c (if b then no_trees else all_put nothing us)
  put-by true c us h = tt
  put-by false c us h = h

  none-by : (b : Bool) (us : Trees) → us ≡ no_trees → (if b then no_trees else all_put nothing us) ≡ no_trees
  none-by true us e = refl
  none-by false us e = ap (all_put nothing) e

  mutual
    after-put : (b : Bool) (t : Tree) → After P b t → After P b (put nothing t)
    after-put b (tree f us) h = (
      h.0,
      λ w. (let g = h.1 w in (g.0, none-by (is_closed f) us g.1)),
      put-by (is_closed f) (b || is_anonymous_table f) us (after-puts (b || is_anonymous_table f) us h.2),
    )

    after-puts : (b : Bool) (us : Trees) → AfterIn P b us → AfterIn P b (all_put nothing us)
    after-puts b no_trees h = tt
    after-puts b (also t ts) h = (after-put b t h.0, after-puts b ts h.1)

  pub after-list : (b : Bool) (ts : List Tree) → Each (After P b) ts → Each (After P b) (put_list nothing ts)
  after-list b [] h = tt
  after-list b (t ∷ ts) h = (after-put b t h.0, after-list b ts h.1)
