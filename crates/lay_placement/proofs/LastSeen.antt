-- The baseline of the last line that is seen, of more and more lines.
use Rattle.std.proofs.Common.{◌≡◌, Bool, true, false, cond, List, [], ◌∷◌, ◌++◌, reverse, Option, Some, None, refl, sym, ap, ◌∙◌, if◌then◌else◌}
use Rattle.std.specs.List.{find, flat_map}
use Rattle.std.specs.Option.{option_map, option_or}
use Rattle.std.proofs.lemmas.List.{append-nil, reverse-append}
use Rattle.std.proofs.lemmas.List.Concat.{flat_map-append}
use Rattle.std.proofs.lemmas.List.Folds.{find-append}
use Rattle.std.proofs.lemmas.Bool.{or_parts}
use Rattle.lay_units.specs.declared.length.Unit.{Unit as Length}
use Rattle.lay_lines.specs.declared.row.Ended.{Ended}
use Rattle.lay_inlines.specs.LinePieces.{baseline_of}
use Rattle.lay_placement.specs.Baselines.{last_baseline, last_seen_row}
use Rattle.lay_placement.specs.Laws.{LastSeenLineGivesBaseline, UnseenLinesGiveNone, any_seen}

last_more : (xs ys : List Ended) → last_seen_row (xs ++ ys) ≡ option_or (last_seen_row ys) (last_seen_row xs)
last_more xs ys = ap (find (λ (row : Ended). row.seen)) (reverse-append xs ys) ∙ find-append (λ (row : Ended). row.seen) (reverse ys) (reverse xs)

map_or : {X Y : Type 0} (f : X → Y) (a b : Option X) → option_map f (option_or a b) ≡ option_or (option_map f a) (option_map f b)
map_or f None b = refl
map_or f (Some x) b = refl

or_or : {X : Type 0} (a b c : Option X) → option_or (option_or a b) c ≡ option_or a (option_or b c)
or_or None b c = refl
or_or (Some x) b c = refl

-- the baseline of a line
abbrev line_baseline : Ended → Length
line_baseline row = record { 0 = baseline_of row }

baseline_more : (xs ys : List Ended) → last_baseline (xs ++ ys) ≡ option_or (last_baseline ys) (last_baseline xs)
baseline_more xs ys = ap (option_map line_baseline) (last_more xs ys) ∙ map_or line_baseline (last_seen_row ys) (last_seen_row xs)

by_seen : (seen : Bool) (row : Ended) (last : Option Length) → (if seen then Some (line_baseline row) else last) ≡ option_or (option_map line_baseline (cond seen (Some row) None)) last
by_seen true row last = refl
by_seen false row last = refl

one_line : (row : Ended) (last : Option Length) → (if row.seen then Some (line_baseline row) else last) ≡ option_or (last_baseline (row ∷ [])) last
one_line row last = by_seen row.seen row last

-- one line more
pub with_line : (before last next : Option Length) (rows : List Ended) (row : Ended) → last ≡ option_or (last_baseline rows) before → next ≡ (if row.seen then Some (record { 0 = baseline_of row }) else last)
    → next ≡ option_or (last_baseline (rows ++ row ∷ [])) before
with_line before last next rows row so_far is =
    is ∙ one_line row last ∙ ap (option_or (last_baseline (row ∷ []))) so_far ∙ sym (or_or (last_baseline (row ∷ [])) (last_baseline rows) before)
    ∙ sym (ap (λ (b : Option Length). option_or b before) (baseline_more rows (row ∷ [])))

-- the lines of one box more
pub with_lines : (last next : Option Length) (rows more : List Ended) → last ≡ last_baseline rows → next ≡ option_or (last_baseline more) last → next ≡ last_baseline (rows ++ more)
with_lines last next rows more so_far is = is ∙ ap (option_or (last_baseline more)) so_far ∙ sym (baseline_more rows more)

pub one_box_more : (lines : List (List Ended)) (rows : List Ended) → flat_map (λ (r : List Ended). r) (lines ++ rows ∷ []) ≡ flat_map (λ (r : List Ended). r) lines ++ rows
one_box_more lines rows = flat_map-append (λ (r : List Ended). r) lines (rows ∷ []) ∙ ap (λ (more : List Ended). flat_map (λ (r : List Ended). r) lines ++ more) (append-nil rows)

one_unseen : (row : Ended) → row.seen ≡ false → last_seen_row (row ∷ []) ≡ None
one_unseen row is = ap (λ b. cond b (Some row) None) is

one_seen : (row : Ended) → row.seen ≡ true → last_seen_row (row ∷ []) ≡ Some row
one_seen row is = ap (λ b. cond b (Some row) None) is

none_seen : (rows : List Ended) → any_seen rows ≡ false → last_seen_row rows ≡ None
none_seen [] none = refl
none_seen (row ∷ rows) none =
    let here = (or_parts row.seen (any_seen rows) none).0 in
    let behind = (or_parts row.seen (any_seen rows) none).1 in
    last_more (row ∷ []) rows ∙ ap (λ (o : Option Ended). option_or o (last_seen_row (row ∷ []))) (none_seen rows behind) ∙ one_unseen row here

pub unseen_lines_lem : UnseenLinesGiveNone
unseen_lines_lem rows none = ap (option_map line_baseline) (none_seen rows none)

pub last_seen_line_lem : LastSeenLineGivesBaseline
last_seen_line_lem before after row seen none =
    ap (option_map line_baseline)
    (last_more before (row ∷ after) ∙ ap (λ (o : Option Ended). option_or o (last_seen_row before)) (last_more (row ∷ []) after ∙ ap (λ (o : Option Ended). option_or o (last_seen_row (row ∷ []))) (none_seen after none) ∙ one_seen row seen))
