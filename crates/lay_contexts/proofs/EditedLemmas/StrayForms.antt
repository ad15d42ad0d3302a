-- Which parts of tables stray in which boxes (17.2.1). What the second stage puts round boxes is at home where it stands, and what strayed
-- goes on straying in it. In the third stage cells stray where a row would, and all else that strays is misparented.
use Rattle.std.proofs.Common.{◌≡◌, ◌⊎◌, inl, inr, ℕ, Bool, true, false, ◌&&◌, ◌||◌, not, refl, ap, sym, ◌∙◌}
use Rattle.std.proofs.lemmas.Bool.{and_left}
use Rattle.lay_boxgen.specs.Forms.{is_cell, is_column, is_column_group, is_in_flow, is_inline, is_proper_table_child, is_proper_table_descendant, is_row, is_row_group, is_table, is_table_part, is_white}
use Rattle.lay_boxgen.specs.MissingParents.{is_misparented_column, is_misparented_group_or_caption, is_misparented_row}
use Rattle.lay_boxgen.specs.declared.facts.Facts.{Facts}
use Rattle.lay_boxgen.specs.declared.facts.Form.{Form}
use Rattle.lay_boxgen.specs.declared.facts.Form.TheVariants as form
use Rattle.lay_contexts.specs.Edited.AnonymousTables.{is_stray, strays_in}

-- Booleans.
pub or-false : (b c : Bool) → c ≡ false → (b || c) ≡ b
or-false true c e = refl
or-false false c e = e

pub and-false : (b : Bool) → (b && false) ≡ false
and-false true = refl
and-false false = refl

-- not both: one of them isn't
pub not-both : (b c : Bool) → not (b && c) ≡ true → (b ≡ false) ⊎ (c ≡ false)
not-both true true e = absurd cc
not-both true false e = inr refl
not-both false c e = inl refl

-- Forms.
pub inline-is : (x : Form) → is_inline x ≡ true → x ≡ form.Inline
inline-is form.Inline e = refl
inline-is _ e = absurd cc

-- white space is neither a table nor a part of one
pub record IsNoPart (x : Form) : Type 0 where
  pub part : is_table_part x ≡ false
  pub cell : is_cell x ≡ false
  pub table : is_table x ≡ false

pub white-part : (x : Form) → is_white x ≡ true → IsNoPart x
white-part (form.Text t) e = record { part = refl; cell = refl; table = refl }
white-part _ e = absurd cc

-- what is no part strays nowhere
pub no-stray : (f g : Facts) → is_table_part g.form ≡ false → is_stray f g ≡ false
no-stray f g e =
    ap (λ (b : Bool). is_in_flow g.flow && b) (and_left (is_table_part g.form) (not (is_proper_table_descendant f.form g.form || (is_column_group f.form && is_column g.form))) e)
    ∙ and-false (is_in_flow g.flow)

-- what strays alike where it is in flow
pub strays-alike : (x y : Form) (g : Facts) → ((is_in_flow g.flow ≡ false) ⊎ (strays_in x g.form ≡ strays_in y g.form))
    → (is_in_flow g.flow && strays_in x g.form) ≡ (is_in_flow g.flow && strays_in y g.form)
strays-alike x y g (inl out) = and_left (is_in_flow g.flow) (strays_in x g.form) out ∙ sym (and_left (is_in_flow g.flow) (strays_in y g.form) out)
strays-alike x y g (inr same) = ap (λ (b : Bool). is_in_flow g.flow && b) same

-- The second stage. What is no cell in a row strays in its cell as in the row.
in-cell-as-in-row : (c : Form) → is_cell c ≡ false → strays_in form.Row c ≡ strays_in (form.Cell 1 1) c
in-cell-as-in-row (form.Cell m n) other = absurd cc
in-cell-as-in-row _ other = refl

pub kept-in-cell : (x c : Form) → is_row x ≡ true → is_cell c ≡ false → strays_in x c ≡ strays_in (form.Cell 1 1) c
kept-in-cell form.Row c row other = in-cell-as-in-row c other
kept-in-cell _ c row other = absurd cc

pub cell-at-home : (x : Form) (m n : ℕ) → is_row x ≡ true → strays_in x (form.Cell m n) ≡ false
cell-at-home form.Row m n row = refl
cell-at-home _ m n row = absurd cc

-- in a table nothing strays, and what is no proper child of one strays in no row
all-home : (part : Bool) → (part && not (part || false || false || false)) ≡ false
all-home true = refl
all-home false = refl

pub in-table-home : (x c : Form) → is_table x ≡ true → strays_in x c ≡ false
in-table-home form.Wrapper c table = all-home (is_table_part c)
in-table-home form.InlineWrapper c table = all-home (is_table_part c)
in-table-home _ c table = absurd cc

pub in-row-home : (c : Form) → is_proper_table_child c ≡ false → strays_in form.Row c ≡ false
in-row-home form.Caption other = absurd cc
in-row-home form.RowGroup other = absurd cc
in-row-home form.HeaderGroup other = absurd cc
in-row-home form.FooterGroup other = absurd cc
in-row-home form.Row other = absurd cc
in-row-home (form.ColumnGroup n) other = absurd cc
in-row-home (form.Column n) other = absurd cc
in-row-home _ other = refl

-- what is no row in a row group strays in its row as in the group
in-group-as-in-row : (c : Form) → is_row c ≡ false → strays_in form.RowGroup c ≡ strays_in form.Row c
in-group-as-in-row form.Row other = absurd cc
in-group-as-in-row _ other = refl

pub kept-in-row : (x c : Form) → is_row_group x ≡ true → is_row c ≡ false → strays_in x c ≡ strays_in form.Row c
kept-in-row form.RowGroup c group other = in-group-as-in-row c other
kept-in-row form.HeaderGroup c group other = in-group-as-in-row c other
kept-in-row form.FooterGroup c group other = in-group-as-in-row c other
kept-in-row _ c group other = absurd cc

pub row-at-home : (x : Form) → (is_table x || is_row_group x) ≡ true → strays_in x form.Row ≡ false
row-at-home form.Wrapper e = refl
row-at-home form.InlineWrapper e = refl
row-at-home form.RowGroup e = refl
row-at-home form.HeaderGroup e = refl
row-at-home form.FooterGroup e = refl
row-at-home _ e = absurd cc

-- The third stage.
pub cells-as-rows : (x : Form) (m n : ℕ) → is_row x ≡ false → strays_in x (form.Cell m n) ≡ strays_in x form.Row
cells-as-rows form.Row m n other = absurd cc
cells-as-rows _ m n other = refl

abbrev pub is_misparented_form : Form → Form → Bool
is_misparented_form x c = is_misparented_row x c || is_misparented_column x c || is_misparented_group_or_caption x c

misparented-row : (x : Form) → is_misparented_form x form.Row ≡ strays_in x form.Row
misparented-row form.Row = refl
misparented-row _ = refl

misparented-column : (x : Form) (n : ℕ) → is_misparented_form x (form.Column n) ≡ strays_in x (form.Column n)
misparented-column form.Row n = refl
misparented-column _ n = refl

misparented-group : (x : Form) → is_misparented_form x form.RowGroup ≡ strays_in x form.RowGroup
misparented-group form.Row = refl
misparented-group _ = refl

pub misparented-is : (x c : Form) → is_cell c ≡ false → is_misparented_form x c ≡ strays_in x c
misparented-is x form.Row other = misparented-row x
misparented-is x (form.Column n) other = misparented-column x n
misparented-is x form.RowGroup other = misparented-group x
misparented-is x form.HeaderGroup other = misparented-group x
misparented-is x form.FooterGroup other = misparented-group x
misparented-is x (form.ColumnGroup n) other = misparented-group x
misparented-is x form.Caption other = misparented-group x
misparented-is x (form.Cell m n) other = absurd cc
misparented-is x _ other = refl

pub cell-misparented : (x : Form) (m n : ℕ) → is_misparented_form x (form.Cell m n) ≡ false
cell-misparented x m n = refl
