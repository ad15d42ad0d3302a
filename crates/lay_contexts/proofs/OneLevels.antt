-- A box that is generated holds boxes of one level.
use Rattle.std.proofs.Common.{◌≡◌, Bool, true, false, ◌&&◌, ◌||◌, not, List, [], ◌∷◌, ◌++◌, filter, refl, sym, ap, ◌∙◌, if◌then◌else◌, Option, None, Some}
use Rattle.std.specs.List.{list_any}
use Rattle.std.proofs.lemmas.Bool.{or_from, or_parts}
use Rattle.lay_box_tree.specs.declared.box_tree.Flow.TheVariants as flow
use Rattle.lay_boxgen.specs.Boxes.{Tree, Trees, tree, no_trees, also, trees_of, facts_of, remade, all_remade, in_box}
use Rattle.lay_boxgen.specs.BrokenInlines.{broken, is_block_box, is_no_text_box, is_unseen, part_over, parts_from}
use Rattle.lay_boxgen.specs.Forms.{is_blank_text, is_block, is_block_container, is_in_flow, is_inline, is_inline_level, is_text, is_white}
use Rattle.lay_boxgen.specs.Generation.{generated}
use Rattle.lay_boxgen.specs.InlineRuns.{block_round, is_no_block, is_seen_box, run_wrapped}
use Rattle.lay_boxgen.specs.MissingChildren.{child_wrapped}
use Rattle.lay_boxgen.specs.MissingParents.{parented}
use Rattle.lay_boxgen.specs.Irrelevant.{relevant}
use Rattle.lay_boxgen.specs.TableWrappers.{in_wrapper}
use Rattle.lay_boxgen.specs.Runs.{anonymous_box, gathered, gathered_from, is_some, is_white_box, run_over}
use Rattle.lay_boxgen.specs.declared.facts.Facts.{Facts}
use Rattle.lay_boxgen.specs.declared.facts.Form.{Form}
use Rattle.lay_boxgen.specs.declared.facts.Form.TheVariants as form
use Rattle.lay_boxgen.specs.NodeTrees.{tree_at}
use Rattle.lay_boxgen.specs.Parts.{all_put, generated_of, is_closed, nothing, own_tree, put, put_list, whole}
use Rattle.lay_contexts.specs.LevelLaws.{BoxesHoldOneLevel, EachBox, EachIn, EachOf, HoldsOneLevel, any_in, is_in_line}

-- Kinds of boxes.
module _ (p : Facts → Bool) where
  abbrev any : List Tree → Bool
  any ts = list_any (λ t. p (facts_of t)) ts

  any_is : (ts : List Tree) → any_in p (trees_of ts) ≡ any ts
  any_is [] = refl
  any_is (t ∷ ts) = ap (λ b. p (facts_of t) || b) (any_is ts)

  none_append : (xs ys : List Tree) → any xs ≡ false → any ys ≡ false → any (xs ++ ys) ≡ false
  none_append [] ys e f = f
  none_append (x ∷ xs) ys e f =
      or_from (p (facts_of x)) (any (xs ++ ys)) (or_parts (p (facts_of x)) (any xs) e).0 (none_append xs ys (or_parts (p (facts_of x)) (any xs) e).1 f)

  -- a rule that leaves a box leaves its kind
  any_remade : (change : Facts → List Tree → List Tree) (us : Trees) → any (all_remade (in_box change) us) ≡ any_in p us
  any_remade change no_trees = refl
  any_remade change (also (tree f us) ts) = ap (λ b. p f || b) (any_remade change ts)

  any_put : (us : Trees) → any_in p (all_put nothing us) ≡ any_in p us
  any_put no_trees = refl
  any_put (also (tree f us) ts) = ap (λ b. p f || b) (any_put ts)

-- Facts of each box.
module _ (P : Facts → Trees → Type 0) where
  each_append : (xs ys : List Tree) → EachOf P xs → EachOf P ys → EachOf P (xs ++ ys)
  each_append [] ys h g = g
  each_append (x ∷ xs) ys h g = (h.0, each_append xs ys h.1 g)

  each_in : (xs : List Tree) → EachOf P xs → EachIn P (trees_of xs)
  each_in [] h = tt
  each_in (x ∷ xs) h = (h.0, each_in xs h.1)

  each_filter : (p : Tree → Bool) (xs : List Tree) → EachOf P xs → EachOf P (filter p xs)
  each_filter p [] h = tt
  each_filter p (x ∷ xs) h = by (p x) (each_filter p xs h.1)
    where
      by : (b : Bool) → EachOf P (filter p xs) → EachOf P (if b then x ∷ filter p xs else filter p xs)
      by true g = (h.0, g)
      by false g = g

-- Breaking.
abbrev HoldsNoBlock : Facts → Trees → Type 0
HoldsNoBlock f us = is_inline f.form ≡ true → any_in is_block us ≡ false

abbrev NoBlocks : List Tree → Type 0
NoBlocks ts = list_any is_block_box ts ≡ false

over_each : (f : Facts) (after : Bool) (held : List Tree) → EachOf HoldsNoBlock held → NoBlocks held → EachOf HoldsNoBlock (part_over f after held)
over_each f true held h none = each_filter HoldsNoBlock is_no_text_box held h
over_each f false held h none = ((λ e. any_is is_block held ∙ none, each_in HoldsNoBlock held h), tt)

parts_each : (f : Facts) (ts : List Tree) (after : Bool) (held : List Tree) → EachOf HoldsNoBlock held → NoBlocks held → EachOf HoldsNoBlock ts → EachOf HoldsNoBlock (parts_from f after held ts)
parts_each f [] after held h none g = over_each f false held h none
parts_each f (t ∷ ts) after held h none g =
    by (is_block_box t) refl (parts_each f ts true [] tt refl g.1)
    (λ e. parts_each f ts (after && is_unseen (facts_of t)) (held ++ t ∷ []) (each_append HoldsNoBlock held (t ∷ []) h (g.0, tt)) (none_append is_block held (t ∷ []) none (or_from (is_block_box t) false e refl)) g.1)
  where
    by : (b : Bool) → is_block_box t ≡ b → EachOf HoldsNoBlock (parts_from f true [] ts) → (is_block_box t ≡ false → EachOf HoldsNoBlock (parts_from f (after && is_unseen (facts_of t)) (held ++ t ∷ []) ts))
        → EachOf HoldsNoBlock (if b then part_over f after held ++ t ∷ [] ++ parts_from f true [] ts else parts_from f (after && is_unseen (facts_of t)) (held ++ t ∷ []) ts)
    by true e past on =
        each_append HoldsNoBlock (part_over f after held ++ t ∷ []) (parts_from f true [] ts)
        (each_append HoldsNoBlock (part_over f after held) (t ∷ []) (over_each f after held h none) (g.0, tt)) past
    by false e past on = on e

broken_each : (f : Facts) (ts : List Tree) → EachOf HoldsNoBlock ts → EachOf HoldsNoBlock (broken f ts)
broken_each f ts h = by (is_inline f.form) (list_any is_block_box ts) refl refl
  where
    by : (a b : Bool) → is_inline f.form ≡ a → list_any is_block_box ts ≡ b → EachOf HoldsNoBlock (if a && b then parts_from f false [] ts else (tree f (trees_of ts) ∷ []))
    by true true p q = parts_each f ts false [] tt refl h
    by true false p q = ((λ e. any_is is_block ts ∙ q, each_in HoldsNoBlock ts h), tt)
    by false b p q = ((λ e. absurd (let never : true ≡ false = sym e ∙ p in cc), each_in HoldsNoBlock ts h), tt)

mutual
  one_broken : (t : Tree) → EachOf HoldsNoBlock (remade broken t)
  one_broken (tree f us) = broken_each f (all_remade broken us) (all_broken us)

  all_broken : (us : Trees) → EachOf HoldsNoBlock (all_remade broken us)
  all_broken no_trees = tt
  all_broken (also t ts) = each_append HoldsNoBlock (remade broken t) (all_remade broken ts) (one_broken t) (all_broken ts)

-- Wrapping.
blank_text : (f : Form) → is_blank_text f ≡ true → is_text f ≡ true
blank_text (form.Text t) e = refl
blank_text form.Block e = absurd cc
blank_text form.InlineBlock e = absurd cc
blank_text form.Inline e = absurd cc
blank_text (form.Replaced w h i) e = absurd cc
blank_text form.Wrapper e = absurd cc
blank_text form.InlineWrapper e = absurd cc
blank_text form.Table e = absurd cc
blank_text form.Caption e = absurd cc
blank_text form.RowGroup e = absurd cc
blank_text form.HeaderGroup e = absurd cc
blank_text form.FooterGroup e = absurd cc
blank_text form.Row e = absurd cc
blank_text (form.ColumnGroup n) e = absurd cc
blank_text (form.Column n) e = absurd cc
blank_text (form.Cell m n) e = absurd cc
blank_text form.Anchor e = absurd cc

-- what is unseen and no text is out of flow
out_by : (in_flow blank is_text level : Bool) → (blank ≡ true → is_text ≡ true) → not (not in_flow || blank) ≡ false → not is_text ≡ true → (in_flow && level) ≡ false
out_by false blank is_text level f e n = refl
out_by true true is_text level f e n = absurd (let t = f refl in cc)
out_by true false is_text level f e n = absurd cc

unseen_left : (run : List Tree) → list_any is_seen_box run ≡ false → any is_in_line (filter is_no_text_box run) ≡ false
unseen_left [] e = refl
unseen_left (t ∷ ts) e =
    by (is_no_text_box t) refl (or_parts (is_seen_box t) (list_any is_seen_box ts) e).0 (unseen_left ts (or_parts (is_seen_box t) (list_any is_seen_box ts) e).1)
  where
    by : (b : Bool) → is_no_text_box t ≡ b → is_seen_box t ≡ false → any is_in_line (filter is_no_text_box ts) ≡ false → any is_in_line (if b then t ∷ filter is_no_text_box ts else filter is_no_text_box ts) ≡ false
    by true n seen rest =
        let f : Facts = facts_of t in
        or_from (is_in_line f) _ (out_by (is_in_flow f.flow) (is_blank_text f.form) (is_text f.form) (is_inline_level f.form) (blank_text f.form) seen n) rest
    by false n seen rest = rest

round_out : (f : Facts) (run : List Tree) → any is_in_line (block_round f run) ≡ false
round_out f run = by (list_any is_seen_box run) refl
  where
    by : (b : Bool) → list_any is_seen_box run ≡ b → any is_in_line (if b then (anonymous_box f form.Block run ∷ []) else filter is_no_text_box run) ≡ false
    by true e = refl
    by false e = unseen_left run e

over_out : (f : Facts) (run : List Tree) → any is_in_line (run_over (block_round f) run []) ≡ false
over_out f [] = refl
over_out f (t ∷ ts) = none_append is_in_line (block_round f (t ∷ ts)) [] (round_out f (t ∷ ts)) refl

-- white space is no block, so that it is in the run
white_level : (f : Form) → is_white f ≡ true → is_inline_level f ≡ true
white_level (form.Text t) e = refl
white_level form.Block e = absurd cc
white_level form.InlineBlock e = absurd cc
white_level form.Inline e = absurd cc
white_level (form.Replaced w h i) e = absurd cc
white_level form.Wrapper e = absurd cc
white_level form.InlineWrapper e = absurd cc
white_level form.Table e = absurd cc
white_level form.Caption e = absurd cc
white_level form.RowGroup e = absurd cc
white_level form.HeaderGroup e = absurd cc
white_level form.FooterGroup e = absurd cc
white_level form.Row e = absurd cc
white_level (form.ColumnGroup n) e = absurd cc
white_level (form.Column n) e = absurd cc
white_level (form.Cell m n) e = absurd cc
white_level form.Anchor e = absurd cc

white_by : (in_flow level white : Bool) → (white ≡ true → level ≡ true) → not (in_flow && not level) ≡ false → white ≡ false
white_by in_flow level false f e = refl
white_by true true true f e = absurd cc
white_by true false true f e = absurd (let t = f refl in cc)
white_by false level true f e = absurd cc

block_by : (in_flow level : Bool) → not (in_flow && not level) ≡ false → (in_flow && level) ≡ false
block_by true true e = absurd cc
block_by true false e = refl
block_by false level e = absurd cc

block_of : (in_flow level : Bool) → not (in_flow && not level) ≡ true → (in_flow && not level) ≡ false
block_of true true e = refl
block_of true false e = absurd cc
block_of false level e = refl

module _ (f : Facts) where
  abbrev from : List Tree → List Tree → List Tree
  from run ts = gathered_from is_no_block (block_round f) run [] ts

  from_out : (ts run : List Tree) → any is_in_line (from run ts) ≡ false
  from_out [] run = over_out f run
  from_out (t ∷ ts) run = by (is_no_block (facts_of t)) (is_some run) (is_white_box t) refl refl (from_out ts (run ++ [] ++ t ∷ [])) (from_out ts [])
    where
      ended : is_no_block (facts_of t) ≡ false → any is_in_line (from [] ts) ≡ false → any is_in_line (run_over (block_round f) run [] ++ t ∷ [] ++ from [] ts) ≡ false
      ended p past =
          let x : Facts = facts_of t in
          none_append is_in_line (run_over (block_round f) run [] ++ t ∷ []) (from [] ts)
          (none_append is_in_line (run_over (block_round f) run []) (t ∷ []) (over_out f run) (or_from (is_in_line x) false (block_by (is_in_flow x.flow) (is_inline_level x.form) p) refl)) past

      by : (a b c : Bool) → is_no_block (facts_of t) ≡ a → is_white_box t ≡ c → any is_in_line (from (run ++ [] ++ t ∷ []) ts) ≡ false → any is_in_line (from [] ts) ≡ false
          → any is_in_line (if a then from (run ++ [] ++ t ∷ []) ts
          else (if b && c then gathered_from is_no_block (block_round f) run ([] ++ t ∷ []) ts else run_over (block_round f) run [] ++ t ∷ [] ++ from [] ts)) ≡ false
      by true b c p q on past = on
      by false b true p q on past =
          let x : Facts = facts_of t in
          let never = white_by (is_in_flow x.flow) (is_inline_level x.form) (is_white x.form) (white_level x.form) p in absurd (let no : true ≡ false = sym q ∙ never in cc)
      by false true false p q on past = ended p past
      by false false false p q on past = ended p past

  over_one : (run : List Tree) → EachOf HoldsOneLevel run → NoBlocks run → EachOf HoldsOneLevel (run_over (block_round f) run [])
  over_one [] h none = tt
  over_one (t ∷ ts) h none = each_append HoldsOneLevel (block_round f (t ∷ ts)) [] (by (list_any is_seen_box (t ∷ ts))) tt
    where
      by : (b : Bool) → EachOf HoldsOneLevel (if b then (anonymous_box f form.Block (t ∷ ts) ∷ []) else filter is_no_text_box (t ∷ ts))
      by true = ((record { container = λ c b. absurd (let never : true ≡ false = sym b ∙ (any_is is_block (t ∷ ts) ∙ none) in cc); inline = λ e. absurd cc }, each_in HoldsOneLevel (t ∷ ts) h), tt)
      by false = each_filter HoldsOneLevel is_no_text_box (t ∷ ts) h

  from_one : (ts run : List Tree) → EachOf HoldsOneLevel run → NoBlocks run → EachOf HoldsOneLevel ts → EachOf HoldsOneLevel (from run ts)
  from_one [] run h none g = over_one run h none
  from_one (t ∷ ts) run h none g =
      by (is_no_block (facts_of t)) (is_some run) (is_white_box t) refl refl
      (λ p. from_one ts (run ++ [] ++ t ∷ []) (each_append HoldsOneLevel (run ++ []) (t ∷ []) (each_append HoldsOneLevel run [] h tt) (g.0, tt))
      (none_append is_block (run ++ []) (t ∷ []) (none_append is_block run [] none refl) (or_from (is_block_box t) false (block_of (is_in_flow (facts_of t).flow) (is_inline_level (facts_of t).form) p) refl)) g.1)
      (from_one ts [] tt refl g.1)
    where
      ended : EachOf HoldsOneLevel (from [] ts) → EachOf HoldsOneLevel (run_over (block_round f) run [] ++ t ∷ [] ++ from [] ts)
      ended past =
          each_append HoldsOneLevel (run_over (block_round f) run [] ++ t ∷ []) (from [] ts)
          (each_append HoldsOneLevel (run_over (block_round f) run []) (t ∷ []) (over_one run h none) (g.0, tt)) past

      by : (a b c : Bool) → is_no_block (facts_of t) ≡ a → is_white_box t ≡ c → (is_no_block (facts_of t) ≡ true → EachOf HoldsOneLevel (from (run ++ [] ++ t ∷ []) ts)) → EachOf HoldsOneLevel (from [] ts)
          → EachOf HoldsOneLevel (if a then from (run ++ [] ++ t ∷ []) ts
          else (if b && c then gathered_from is_no_block (block_round f) run ([] ++ t ∷ []) ts else run_over (block_round f) run [] ++ t ∷ [] ++ from [] ts))
      by true b c p q on past = on p
      by false b true p q on past =
          let x : Facts = facts_of t in
          let never = white_by (is_in_flow x.flow) (is_inline_level x.form) (is_white x.form) (white_level x.form) p in absurd (let no : true ≡ false = sym q ∙ never in cc)
      by false true false p q on past = ended past
      by false false false p q on past = ended past

no_container : (f : Form) → is_inline f ≡ true → is_block_container f ≡ false
no_container form.Inline e = refl
no_container (form.Text t) e = absurd cc
no_container form.Block e = absurd cc
no_container form.InlineBlock e = absurd cc
no_container (form.Replaced w h i) e = absurd cc
no_container form.Wrapper e = absurd cc
no_container form.InlineWrapper e = absurd cc
no_container form.Table e = absurd cc
no_container form.Caption e = absurd cc
no_container form.RowGroup e = absurd cc
no_container form.HeaderGroup e = absurd cc
no_container form.FooterGroup e = absurd cc
no_container form.Row e = absurd cc
no_container (form.ColumnGroup n) e = absurd cc
no_container (form.Column n) e = absurd cc
no_container (form.Cell m n) e = absurd cc
no_container form.Anchor e = absurd cc

-- what a box holds after its runs are wrapped
wrapped_one : (f : Facts) (cs : List Tree) → EachOf HoldsOneLevel cs → (is_inline f.form ≡ true → list_any is_block_box cs ≡ false) → EachBox HoldsOneLevel (tree f (trees_of (run_wrapped f cs)))
wrapped_one f cs h inline = by (is_block_container f.form) (list_any is_block_box cs) refl refl
  where
    by : (a b : Bool) → is_block_container f.form ≡ a → list_any is_block_box cs ≡ b → EachBox HoldsOneLevel (tree f (trees_of (if a && b then gathered is_no_block (block_round f) cs else cs)))
    by true true p q = (
      record {
        container = λ c some. any_is is_in_line (gathered is_no_block (block_round f) cs) ∙ from_out f cs [];
        inline = λ e. absurd (let never : true ≡ false = sym p ∙ no_container f.form e in cc);
      },
      each_in HoldsOneLevel (gathered is_no_block (block_round f) cs) (from_one f cs [] tt refl h),
    )
    by true false p q = (
      record {
        container = λ c some. absurd (let never : true ≡ false = sym some ∙ (any_is is_block cs ∙ q) in cc);
        inline = λ e. any_is is_block cs ∙ inline e;
      },
      each_in HoldsOneLevel cs h,
    )
    by false b p q = (
      record {
        container = λ c some. absurd (let never : true ≡ false = sym c ∙ p in cc);
        inline = λ e. any_is is_block cs ∙ inline e;
      },
      each_in HoldsOneLevel cs h,
    )

mutual
  one_wrapped : (t : Tree) → EachBox HoldsNoBlock t → EachOf HoldsOneLevel (remade (in_box run_wrapped) t)
  one_wrapped (tree f us) h = (wrapped_one f (all_remade (in_box run_wrapped) us) (all_wrapped us h.1) (λ e. any_remade is_block run_wrapped us ∙ h.0 e), tt)

  all_wrapped : (us : Trees) → EachIn HoldsNoBlock us → EachOf HoldsOneLevel (all_remade (in_box run_wrapped) us)
  all_wrapped no_trees h = tt
  all_wrapped (also t ts) h = each_append HoldsOneLevel (remade (in_box run_wrapped) t) (all_remade (in_box run_wrapped) ts) (one_wrapped t h.0) (all_wrapped ts h.1)

-- The part of a context.
generated_one : (t : Tree) → EachOf HoldsOneLevel (generated t)
generated_one t =
    let t4 : List Tree = all_remade (in_box in_wrapper) (trees_of (all_remade (in_box parented) (trees_of (all_remade (in_box child_wrapped) (trees_of (remade (in_box relevant) t)))))) in
    all_wrapped (trees_of (all_remade broken (trees_of t4))) (each_in HoldsNoBlock (all_remade broken (trees_of t4)) (all_broken (trees_of t4)))

whole_one : (o : Option Tree) → EachOf HoldsOneLevel (generated_of o)
whole_one None = tt
whole_one (Some t) = generated_one (own_tree t)

put_by : (f : Facts) (us : Trees) → HoldsOneLevel f us → EachIn HoldsOneLevel (all_put nothing us) → (b : Bool) → EachBox HoldsOneLevel (tree f (if b then no_trees else all_put nothing us))
put_by f us h g true = (record { container = λ c some. refl; inline = λ e. refl }, tt)
put_by f us h g false = (
  record {
    container = λ c some. any_put is_in_line us ∙ h.container c (sym (any_put is_block us) ∙ some);
    inline = λ e. any_put is_block us ∙ h.inline e;
  },
  g,
)

mutual
  one_put : (t : Tree) → EachBox HoldsOneLevel t → EachBox HoldsOneLevel (put nothing t)
  one_put (tree f us) h = put_by f us h.0 (all_puts us h.1) (is_closed f)

  all_puts : (us : Trees) → EachIn HoldsOneLevel us → EachIn HoldsOneLevel (all_put nothing us)
  all_puts no_trees h = tt
  all_puts (also t ts) h = (one_put t h.0, all_puts ts h.1)

list_put : (ts : List Tree) → EachOf HoldsOneLevel ts → EachOf HoldsOneLevel (put_list nothing ts)
list_put [] h = tt
list_put (t ∷ ts) h = (one_put t h.0, list_put ts h.1)

pub boxes_hold_one_level_lem : BoxesHoldOneLevel
boxes_hold_one_level_lem nodes styles k = list_put (whole nodes styles k) (whole_one (tree_at nodes styles k))
