-- Content without floats, as preferred widths see it: no line ends in a segment.
use Rattle.std.proofs.Common.{◌≡◌, ℕ, ◌+◌, ◌==◌, ℤ, pos, ◌+ℤ◌, Bool, true, false, if◌then◌else◌, List, []}
use Rattle.std.proofs.Common.{◌∷◌, ◌++◌, All, refl, sym, ap, subst, ◌∙◌, arith, append_assoc, append-nil}
use Rattle.std.proofs.lemmas.Int.{ints}
use Rattle.std.proofs.lemmas.List.Elements.{All-head, All-tail}
use Rattle.std.specs.Int.{int_max}
use Rattle.lay_units.specs.declared.length.Unit.{Unit as Length}
use Rattle.lay_units.specs.declared.records.ClusterWidth.{ClusterWidth}
use Rattle.lay_units.specs.Lengths.{no_length}
use Rattle.lay_space.specs.declared.item.Item.{Item}
use Rattle.lay_space.specs.declared.item.Item.TheVariants as item
use Rattle.lay_space.specs.declared.item.Mode.{Mode}
use Rattle.lay_space.specs.declared.segment.Segment.{Segment}
use Rattle.lay_space.specs.declared.tokens.ClusterKind.{ClusterKind}
use Rattle.lay_space.specs.declared.tokens.ClusterKind.TheVariants.{CollapsibleSpace, PreservedSpace, Linefeed, Tab, ZeroWidthSpace, Other}
use Rattle.lay_space.specs.Modes.{wraps}
use Rattle.lay_space.specs.Tokens.{kind_of, next_place}
use Rattle.lay_line_measures.specs.BoxMeasuresValue.{BoxMeasuresValue}
use Rattle.lay_measure.specs.declared.line_parts.LinePart.{LinePart}
use Rattle.lay_measure.specs.declared.line_parts.LinePart.TheVariants as part
use Rattle.lay_measure.specs.declared.pen.Breaking.{Breaking}
use Rattle.lay_measure.specs.declared.pen.Breaking.TheVariants as breaking
use Rattle.lay_measure.specs.LineParts.{cluster_part, line_parts, line_parts_of_item, parts_of, text_parts}
use Rattle.lay_measure.specs.LineWidths.{ends_line, float_sum, line_width, lines_of, widest}
use Rattle.lay_measure.specs.MeasureInValue.{MeasureInValue}
use Rattle.lay_flow_boxes.specs.Words.LinesAlone.{AreAsMeasured, HaveNoFloats, IsAsMeasured, IsNoFloat}

-- neither a float nor a place where a line may break
abbrev pub IsContent : LinePart → Type 0
IsContent (part.Space w) = Unit {0}
IsContent (part.HangingSpace w) = Unit {0}
IsContent part.Tab = Unit {0}
IsContent part.Linefeed = Unit {0}
IsContent (part.Cluster w) = Unit {0}
IsContent (part.Edge w seen) = Unit {0}
IsContent (part.Atomic w) = Unit {0}
IsContent (part.Float w) = ⊥
IsContent (part.Break forced) = ⊥

abbrev pub AreContent : List LinePart → Type 0
AreContent [] = Unit {0}
AreContent (x ∷ xs) = IsContent x × AreContent xs

both_content : (xs ys : List LinePart) → AreContent xs → AreContent ys → AreContent (xs ++ ys)
both_content [] ys a b = b
both_content (x ∷ xs) ys a b = (a.0, both_content xs ys a.1 b)

either_content : (b : Bool) (x y : LinePart) → IsContent x → IsContent y → IsContent (if b then x else y)
either_content true x y a b = a
either_content false x y a b = b

cluster_content : (m : Mode) (k : ClusterKind) (lone : Bool) (w : Length) → IsContent (cluster_part m k lone w)
cluster_content m CollapsibleSpace lone w = tt
cluster_content m PreservedSpace lone w = either_content (wraps m) (part.HangingSpace w) (part.Cluster w) tt tt
cluster_content m Linefeed lone w = either_content lone part.Linefeed (part.Cluster w) tt tt
cluster_content m Tab lone w = tt
cluster_content m ZeroWidthSpace lone w = tt
cluster_content m Other lone w = tt

text_content : (m : Mode) (text : List ℕ) (ws : List ClusterWidth) → AreContent (text_parts m text ws)
text_content m text [] = tt
text_content m text (w ∷ ws) =
    let to = next_place text ws in
    (cluster_content m (kind_of m text w.place to) (to == w.place + 1) w.width, text_content m text ws)

item_content : (how : Breaking) (m : BoxMeasuresValue) (by : MeasureInValue) (x : Item)
    → IsAsMeasured how m by x → IsNoFloat x → AreContent (line_parts_of_item by x)
item_content how m by (item.Text k text mode widths) are free = text_content mode text widths
item_content how m by (item.Start k takes) are free = (subst IsContent (sym are.1) tt, tt)
item_content how m by (item.End k) are free = (subst IsContent (sym are.1) tt, tt)
item_content how m by (item.Atomic k mode) are free = (tt, tt)
item_content how m by (item.Float k) are free = absurd free
item_content how m by (item.Anchor k) are free = tt

pub items_content : (how : Breaking) (m : BoxMeasuresValue) (by : MeasureInValue) (xs : List Item)
    → All (IsAsMeasured how m by) xs → All IsNoFloat xs
    → AreContent (parts_of by xs)
items_content how m by [] are free = tt
items_content how m by (x ∷ xs) are free =
    both_content (line_parts_of_item by x) (parts_of by xs)
    (item_content how m by x (All-head (IsAsMeasured how m by) x xs are) (All-head IsNoFloat x xs free))
    (items_content how m by xs (All-tail (IsAsMeasured how m by) x xs are) (All-tail IsNoFloat x xs free))

-- the first segment, and the others
pub head_measured : (how : Breaking) (m : BoxMeasuresValue) (by : MeasureInValue) (s : Segment) (ss : List Segment)
    → AreAsMeasured how m by (s ∷ ss)
    → All (IsAsMeasured how m by) s.items
head_measured how m by s ss are = All-head (λ (t : Segment). All (IsAsMeasured how m by) t.items) s ss are

pub tail_measured : (how : Breaking) (m : BoxMeasuresValue) (by : MeasureInValue) (s : Segment) (ss : List Segment)
    → AreAsMeasured how m by (s ∷ ss)
    → AreAsMeasured how m by ss
tail_measured how m by s ss are = All-tail (λ (t : Segment). All (IsAsMeasured how m by) t.items) s ss are

pub head_free : (s : Segment) (ss : List Segment) → HaveNoFloats (s ∷ ss) → All IsNoFloat s.items
head_free s ss free = All-head (λ (t : Segment). All IsNoFloat t.items) s ss free

pub tail_free : (s : Segment) (ss : List Segment) → HaveNoFloats (s ∷ ss) → HaveNoFloats ss
tail_free s ss free = All-tail (λ (t : Segment). All IsNoFloat t.items) s ss free

-- floats of a line
pub sum_both : (xs ys : List LinePart) → float_sum (xs ++ ys) ≡ float_sum xs +ℤ float_sum ys
sum_both [] ys = omega (arith, ints)
sum_both (part.Float w ∷ xs) ys = let e = sum_both xs ys in omega (arith, ints, e)
sum_both (x ∷ xs) ys = sum_both xs ys

pub content_sum : (xs : List LinePart) → AreContent xs → float_sum xs ≡ pos 0
content_sum [] are = refl
content_sum (part.Float w ∷ xs) are = absurd are.0
content_sum (x ∷ xs) are = content_sum xs are.1

-- where lines end
stays : (how : Breaking) (x : LinePart) → IsContent x → ends_line how x ≡ false
stays breaking.WhereAllowed (part.Break forced) is = absurd is
stays breaking.WhereAllowed x is = refl
stays breaking.WhereForced (part.Break forced) is = absurd is
stays breaking.WhereForced x is = refl

lines_on : (how : Breaking) (line xs ys : List LinePart) → AreContent xs → lines_of how line (xs ++ ys) ≡ lines_of how (line ++ xs) ys
lines_on how line [] ys are = ap (λ (l : List LinePart). lines_of how l ys) (sym (append-nil line))
lines_on how line (x ∷ xs) ys are =
    let further = stays how x are.0 in
    let step : lines_of how line (x ∷ (xs ++ ys)) ≡ lines_of how (line ++ x ∷ []) (xs ++ ys) = rw further refl in
    step ∙ lines_on how (line ++ x ∷ []) xs ys are.1 ∙ ap (λ (l : List LinePart). lines_of how l ys) (append_assoc line (x ∷ []) xs)

-- the widest line of these segments, where the first line begins here and has this already
abbrev pub width_with : Breaking → ℤ → Length → List LinePart → MeasureInValue → List Segment → ℤ
width_with how tab start line by ss = widest how tab start (lines_of how line (line_parts by ss))

pub line_ends : (how : Breaking) (tab : ℤ) (start : Length) (line : List LinePart) (by : MeasureInValue) (s : Segment) (ss : List Segment)
    → AreContent (parts_of by s.items) → ends_line how (part.Break s.forced) ≡ true
    → width_with how tab start line by (s ∷ ss)
    ≡ int_max (line_width how tab start (line ++ parts_of by s.items)) (width_with how tab no_length [] by ss)
line_ends how tab start line by s ss are ends =
    let xs = parts_of by s.items in
    let rest = line_parts by ss in
    let step : lines_of how (line ++ xs) (part.Break s.forced ∷ rest) ≡ (line ++ xs) ∷ lines_of how [] rest = rw ends refl in
    ap (λ (ls : List (List LinePart)). widest how tab start ls) (lines_on how line xs (part.Break s.forced ∷ rest) are ∙ step)

pub line_goes_on
    : (how : Breaking) (tab : ℤ) (start : Length) (line : List LinePart) (by : MeasureInValue) (s : Segment) (ss : List Segment)
    → AreContent (parts_of by s.items) → ends_line how (part.Break s.forced) ≡ false
    → width_with how tab start line by (s ∷ ss) ≡ width_with how tab start ((line ++ parts_of by s.items) ++ part.Break s.forced ∷ []) by ss
line_goes_on how tab start line by s ss are further =
    let xs = parts_of by s.items in
    let rest = line_parts by ss in
    let step : lines_of how (line ++ xs) (part.Break s.forced ∷ rest) ≡ lines_of how ((line ++ xs) ++ part.Break s.forced ∷ []) rest =
    rw further refl in
    ap (λ (ls : List (List LinePart)). widest how tab start ls) (lines_on how line xs (part.Break s.forced ∷ rest) are ∙ step)
