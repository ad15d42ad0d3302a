-- Rules that change nothing.
use Rattle.std.proofs.Common.{rules, ◌≡◌, Bool, true, false, not, List, [], ◌∷◌, ◌++◌, refl, ap, sym, ◌∙◌, IsTrue, Option, None, Some}
use Rattle.std.specs.List.{list_any}
use Rattle.std.proofs.lemmas.Bool.{and_right, or_parts}
use Rattle.std.proofs.lemmas.List.{append_assoc, append-nil}
use Rattle.lay_boxgen.specs.Boxes.{Tree, tree, trees_of, facts_of, in_box, remade, all_remade}
use Rattle.lay_boxgen.specs.Forms.{is_tabular_container, is_in_flow}
use Rattle.lay_boxgen.specs.Irrelevant.{kept_from, kept_gap, is_table_part_box, is_table_part_there, without_white_space}
use Rattle.lay_boxgen.specs.Runs.{gathered, is_faulty_box, is_white_box}
use Rattle.lay_boxgen.specs.declared.facts.Facts.{Facts}
use Rattle.lay_boxgen.specs.declared.facts.Form.{Form}
use Rattle.lay_boxgen.proofs.Replaced.{stays}

pub isnt : (a : Bool) → IsTrue (not a) → a ≡ false
isnt true h = cc
isnt false h = refl

-- where nothing is faulty, gathering changes nothing
pub none_gathered : (fault : Facts → Bool) (close : List Tree → List Tree) (ts : List Tree) → list_any (is_faulty_box fault) ts ≡ false → gathered fault close ts ≡ ts
none_gathered fault close [] h = refl
none_gathered fault close (t ∷ ts) h =
    stays fault close t ts (or_parts (is_faulty_box fault t) (list_any (is_faulty_box fault) ts) h).0
    ∙ ap (λ r. t ∷ r) (none_gathered fault close ts (or_parts (is_faulty_box fault t) (list_any (is_faulty_box fault) ts) h).1)

-- a gap without white space is kept
nothing_kept : (parent : Form) (before after : Option Facts) → kept_gap parent before [] after ≡ []
nothing_kept parent before after = search rules

-- where no child is white space, all are kept
seen_kept : (parent : Form) (before : Option Facts) (ts : List Tree) → list_any is_white_box ts ≡ false → kept_from parent before [] ts ≡ ts
seen_kept parent before [] h = nothing_kept parent before None
seen_kept parent before (t ∷ ts) h =
    let w = (or_parts (is_white_box t) (list_any is_white_box ts) h).0 in
    let step : kept_from parent before [] (t ∷ ts) ≡ (kept_gap parent before [] (Some (facts_of t)) ++ t ∷ []) ++ kept_from parent (Some (facts_of t)) [] ts = simp w refl in
    step
    ∙ (ap (λ r. (r ++ t ∷ []) ++ kept_from parent (Some (facts_of t)) [] ts) (nothing_kept parent before (Some (facts_of t)))
    ∙ ap (λ r. t ∷ r) (seen_kept parent (Some (facts_of t)) ts (or_parts (is_white_box t) (list_any is_white_box ts) h).1))

pub no_white_kept : (parent : Form) (ts : List Tree) → list_any is_white_box ts ≡ false → without_white_space parent ts ≡ ts
no_white_kept parent ts h = seen_kept parent None ts h

-- and all where neither the box nor a child is of a table
gap_kept : (parent : Form) (before after : Option Facts) (gap : List Tree) → is_tabular_container parent ≡ false → is_table_part_there before ≡ false → kept_gap parent before gap after ≡ gap
gap_kept parent before after gap c b = simp (c, b) refl

module _ (parent : Form) (c : is_tabular_container parent ≡ false) where
  -- from a first child on, where that is known of those behind it
  one_more : (before : Option Facts) (gap : List Tree) (t : Tree) (ts : List Tree)
      → ((b : Option Facts) (g : List Tree) → is_table_part_there b ≡ false → kept_from parent b g ts ≡ g ++ ts)
      → (w : Bool) → is_white_box t ≡ w → is_table_part_there before ≡ false → is_table_part_box t ≡ false
      → kept_from parent before gap (t ∷ ts) ≡ gap ++ t ∷ ts
  one_more before gap t ts rest true w b p =
      let step : kept_from parent before gap (t ∷ ts) ≡ kept_from parent before (gap ++ t ∷ []) ts = simp w refl in
      step ∙ (rest before (gap ++ t ∷ []) b ∙ append_assoc gap (t ∷ []) ts)
  one_more before gap t ts rest false w b p =
      let step : kept_from parent before gap (t ∷ ts) ≡ (kept_gap parent before gap (Some (facts_of t)) ++ t ∷ []) ++ kept_from parent (Some (facts_of t)) [] ts = simp w refl in
      step
      ∙ (ap (λ r. (r ++ t ∷ []) ++ kept_from parent (Some (facts_of t)) [] ts) (gap_kept parent before (Some (facts_of t)) gap c b)
      ∙ (ap (λ r. (gap ++ t ∷ []) ++ r) (rest (Some (facts_of t)) [] (and_right (is_in_flow (facts_of t).flow) (is_table_part_box t) p))
      ∙ append_assoc gap (t ∷ []) ts))

  all_kept : (ts : List Tree) → list_any is_table_part_box ts ≡ false → (before : Option Facts) (gap : List Tree) → is_table_part_there before ≡ false → kept_from parent before gap ts ≡ gap ++ ts
  all_kept [] h before gap b = gap_kept parent before None gap c b ∙ sym (append-nil gap)
  all_kept (t ∷ ts) h before gap b =
      one_more before gap t ts (all_kept ts (or_parts (is_table_part_box t) (list_any is_table_part_box ts) h).1) (is_white_box t) refl b
      (or_parts (is_table_part_box t) (list_any is_table_part_box ts) h).0

pub no_part_kept : (parent : Form) (ts : List Tree) → is_tabular_container parent ≡ false → list_any is_table_part_box ts ≡ false → without_white_space parent ts ≡ ts
no_part_kept parent ts c h = all_kept parent c ts h None [] refl

-- trees that a rule leaves
pub one_kept : (make : Facts → List Tree → List Tree) (f : Facts) (ts : List Tree) → all_remade make (trees_of ts) ≡ ts → make f ts ≡ tree f (trees_of ts) ∷ [] → remade make (tree f (trees_of ts)) ≡ tree f (trees_of ts) ∷ []
one_kept make f ts all one = ap (make f) all ∙ one

pub in_box_kept : (change : Facts → List Tree → List Tree) (f : Facts) (ts : List Tree) → change f ts ≡ ts → in_box change f ts ≡ tree f (trees_of ts) ∷ []
in_box_kept change f ts h = ap (λ r. tree f (trees_of r) ∷ []) h
