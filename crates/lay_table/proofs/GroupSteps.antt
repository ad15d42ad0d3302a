-- How many rows are drawn before a row group, by what is counted of them.
use Rattle.std.proofs.Common.{◌≡◌, ℕ, zero, suc, ◌+◌, ◌-◌, ◌<◌, ◌≤◌, ◌==◌, ◌&&◌, ◌||◌, not, nat_lt, cond, Bool, true, false, List, [], ◌∷◌, length, slice_index, take, get_or, refl, sym, ap, ◌∙◌, arith, if◌then◌else◌}
use Rattle.std.specs.List.{count_by}
use Rattle.std.proofs.Math.Seq.{take-length}
use Rattle.std.proofs.lemmas.Bool.Decides.{nat_tests}
use Rattle.std.proofs.lemmas.List.Sums.{count_by-le-length, count_by_more_no, count_by_more_yes, sum_by-cons}
use Rattle.lay_box_tree.specs.declared.box_tree.BoxNode.{BoxNode}
use Rattle.lay_table_grid.specs.declared.rows.TableRow.{TableRow}
use Rattle.lay_table.specs.declared.groups.OuterGroups.{OuterGroups}
use Rattle.lay_table.specs.GroupCounts.{AreBodyRows, AreGroupCounts, AreRowsWithin, GroupCounts, is_body_row_at, sum_before}
use Rattle.lay_table.specs.Groups.{is_at, is_body_row, is_body_row_before, is_drawn_before, is_header_row, is_row_in, outer_groups, rows_before}

abbrev pub one_if : Bool → ℕ
one_if b = if b then 1 else 0

-- one more row
pub count_more : (p : TableRow → Bool) (rows : List TableRow) (n : ℕ) (d : TableRow) → n < length rows → count_by p (take (n + 1) rows) ≡ count_by p (take n rows) + one_if (p (get_or rows n d))
count_more p rows n d less = by (p (get_or rows n d)) refl
  where
    by : (b : Bool) → p (get_or rows n d) ≡ b → count_by p (take (n + 1) rows) ≡ count_by p (take n rows) + one_if (p (get_or rows n d))
    by true e = rw e (count_by_more_yes p rows n d less e)
    by false e = let more = count_by_more_no p rows n d less e in rw e (omega (arith, more))

count_cons : (p : TableRow → Bool) (row : TableRow) (rows : List TableRow) → count_by p (row ∷ rows) ≡ one_if (p row) + count_by p rows
count_cons p row rows = by (p row) (sum_by-cons (λ x. cond (p x) 1 0) row rows)
  where
    by : (b : Bool) → count_by p (row ∷ rows) ≡ cond b 1 0 + count_by p rows → count_by p (row ∷ rows) ≡ one_if b + count_by p rows
    by true e = e
    by false e = e

-- what two tests split
count_split : (p q r : TableRow → Bool) → ((row : TableRow) → one_if (p row) ≡ one_if (q row) + one_if (r row)) → (rows : List TableRow) → count_by p rows ≡ count_by q rows + count_by r rows
count_split p q r split [] = refl
count_split p q r split (row ∷ rows) =
    let e = split row in
    let more = count_split p q r split rows in
    let a = count_cons p row rows in let b = count_cons q row rows in let c = count_cons r row rows in
    omega (arith, e, more, a, b, c)

count_none : (p : TableRow → Bool) → ((row : TableRow) → p row ≡ false) → (rows : List TableRow) → count_by p rows ≡ 0
count_none p none [] = refl
count_none p none (row ∷ rows) =
    let a = count_cons p row rows in let more = count_none p none rows in
    let e : one_if (p row) ≡ 0 = ap one_if (none row) in
    omega (arith, a, more, e)

count_same : (p q : TableRow → Bool) → ((row : TableRow) → p row ≡ q row) → (rows : List TableRow) → count_by p rows ≡ count_by q rows
count_same p q same [] = refl
count_same p q same (row ∷ rows) =
    let a = count_cons p row rows in let b = count_cons q row rows in let more = count_same p q same rows in
    let e : one_if (p row) ≡ one_if (q row) = ap one_if (same row) in
    omega (arith, a, b, more, e)

all_rows : (p : TableRow → Bool) (rows : List TableRow) → count_by p rows + count_by (λ row. not (p row)) rows ≡ length rows
all_rows p [] = refl
all_rows p (row ∷ rows) =
    let a = count_cons p row rows in let b = count_cons (λ r. not (p r)) row rows in let more = all_rows p rows in
    let e = by (p row) in
    omega (arith, a, b, more, e)
  where
    by : (b : Bool) → one_if b + one_if (not b) ≡ 1
    by true = refl
    by false = refl

-- before the next place
one_further : (b : Bool) (place k : ℕ) → one_if (b && nat_lt place (suc k)) ≡ one_if (b && nat_lt place k) + one_if (b && place == k)
one_further false place k = refl
one_further true place k = by (nat_lt place (suc k)) (nat_lt place k) (place == k) refl refl refl
  where
    by : (x y z : Bool) → nat_lt place (suc k) ≡ x → nat_lt place k ≡ y → (place == k) ≡ z → one_if x ≡ one_if y + one_if z
    by true true false e f g = refl
    by true false true e f g = refl
    by false false false e f g = refl
    by true true true e f g = absurd (grind (arith, nat_tests, e, f, g))
    by true false false e f g = absurd (grind (arith, nat_tests, e, f, g))
    by false true z e f g = absurd (grind (arith, nat_tests, e, f, g))
    by false false true e f g = absurd (grind (arith, nat_tests, e, f, g))

never_before : (b : Bool) (place : ℕ) → (b && nat_lt place 0) ≡ false
never_before true place = grind (arith, nat_tests)
never_before false place = refl

pub body_before : (outer : OuterGroups) (rows : List TableRow) (counts : List ℕ) → AreBodyRows outer rows (length rows) counts → (k : ℕ) → k ≤ length counts
    → sum_before counts k ≡ count_by (is_body_row_before outer k) rows
body_before outer rows counts are zero le = sym (count_none (is_body_row_before outer 0) (λ row. never_before (is_body_row outer row) row.place) rows)
body_before outer rows counts are (suc k) le =
    let before = body_before outer rows counts are k (omega (arith, le)) in
    let here = are.each k (omega (arith, le)) in
    let all = ap (count_by (is_body_row_at outer k)) (take-length rows) in
    let split = count_split (is_body_row_before outer (suc k)) (is_body_row_before outer k) (is_body_row_at outer k) (λ row. one_further (is_body_row outer row) row.place k) rows in
    omega (arith, before, here, all, split)

header_or_body : (h f l : Bool) → one_if (h || (not (h || f) && l)) ≡ one_if h + one_if (not (h || f) && l)
header_or_body true f l = refl
header_or_body false true l = refl
header_or_body false false true = refl
header_or_body false false false = refl

-- before the header group come none
pub before_header : (outer : OuterGroups) (rows : List TableRow) (k : ℕ) → is_at outer.header k ≡ true → count_by (is_drawn_before outer k) rows ≡ 0
before_header outer rows k e = count_none (is_drawn_before outer k) (λ row. rw e refl) rows

-- before the footer group come all that aren't in it
pub before_footer : (outer : OuterGroups) (rows : List TableRow) (k : ℕ) → is_at outer.header k ≡ false → is_at outer.footer k ≡ true
    → count_by (is_drawn_before outer k) rows ≡ length rows - count_by (is_row_in k) rows
before_footer outer rows k e f =
    let same = count_same (is_drawn_before outer k) (λ row. not (is_row_in k row)) (λ row. rw (e, f) refl) rows in
    let all = all_rows (is_row_in k) rows in
    omega (arith, same, all)

-- before another one those of the header group and the other ones before it
pub before_body : (outer : OuterGroups) (rows : List TableRow) (k : ℕ) → is_at outer.header k ≡ false → is_at outer.footer k ≡ false
    → count_by (is_drawn_before outer k) rows ≡ count_by (is_header_row outer) rows + count_by (is_body_row_before outer k) rows
before_body outer rows k e f =
    count_same (is_drawn_before outer k) (λ row. is_header_row outer row || is_body_row_before outer k row) (λ row. rw (e, f) refl) rows
    ∙ count_split (λ row. is_header_row outer row || is_body_row_before outer k row) (is_header_row outer) (is_body_row_before outer k)
    (λ row. header_or_body (is_header_row outer row) (is_at outer.footer row.group) (nat_lt row.place k)) rows

pub few_before : (boxes : List BoxNode) (rows : List TableRow) (k : ℕ) → rows_before boxes rows k ≤ length rows
few_before boxes rows k = count_by-le-length (is_drawn_before (outer_groups boxes) k) rows

-- the counts of these rows
pub are_counts : (boxes : List BoxNode) (rows : List TableRow) (outer : OuterGroups) (header_rows : ℕ) (within body before : List ℕ) → outer ≡ outer_groups boxes → header_rows ≡ count_by (is_header_row outer) rows
    → length within ≡ length boxes → AreRowsWithin rows (length rows) within → length body ≡ length boxes → AreBodyRows outer rows (length rows) body
    → length before ≡ length body → ((k : ℕ) → k < length body → slice_index before k ≡ sum_before body k)
    → AreGroupCounts boxes rows (record { outer = outer; header_rows = header_rows; within = within; body_before = before })
are_counts boxes rows outer header_rows within body before is header counted are body_counted body_are before_counted sums = record {
  outer = is;
  header_rows = header;
  within_count = counted;
  within = λ k less. are.each k (omega (arith, less, counted)) ∙ ap (count_by (is_row_in k)) (take-length rows);
  body_count = before_counted ∙ body_counted;
  body_before = λ k less. sums k (omega (arith, less, body_counted)) ∙ body_before outer rows body body_are k (omega (arith, less, body_counted));
}

module _ (boxes : List BoxNode) (rows : List TableRow) (g : GroupCounts) (are : AreGroupCounts boxes rows g) (k : ℕ) where
  by_outer : (outer : OuterGroups) → outer ≡ outer_groups boxes → rows_before boxes rows k ≡ count_by (is_drawn_before outer k) rows
  by_outer outer is = rw is refl

  pub counted_header : is_at g.outer.header k ≡ true → rows_before boxes rows k ≡ 0
  counted_header e = by_outer g.outer are.outer ∙ before_header g.outer rows k e

  pub counted_footer : is_at g.outer.header k ≡ false → is_at g.outer.footer k ≡ true → k < length boxes → rows_before boxes rows k ≡ length rows - slice_index g.within k
  counted_footer e f less =
      let before = by_outer g.outer are.outer ∙ before_footer g.outer rows k e f in
      let within = are.within k less in
      rw within before

  pub counted_body : is_at g.outer.header k ≡ false → is_at g.outer.footer k ≡ false → k < length boxes → rows_before boxes rows k ≡ g.header_rows + slice_index g.body_before k
  counted_body e f less =
      let before = by_outer g.outer are.outer ∙ before_body g.outer rows k e f in
      let header = are.header_rows in
      let body = are.body_before k less in
      omega (arith, before, header, body)

  pub few_within : k < length boxes → slice_index g.within k ≤ length rows
  few_within less =
      let within = are.within k less in
      let few = count_by-le-length (is_row_in k) rows in
      omega (arith, within, few)
