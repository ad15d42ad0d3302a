-- Whatever goes over a text cluster by cluster, and over text by its width alone, comes as far over the gathered text.
use Rattle.std.proofs.Common.{◌≡◌, ℕ, ◌≤◌, ℤ, ◌+ℤ◌, Bool, true, false, if◌then◌else◌, List, [], ◌∷◌, ◌++◌, length, Option, Some, None, option_to_list, refl, sym, ap, ◌∙◌, arith}
use Rattle.lay_flow_boxes.proofs.Cited.{within as cut_within}
use Rattle.lay_units.specs.declared.records.ClusterWidth.{ClusterWidth}
use Rattle.lay_space.specs.SegmentLaws.{StandOnBoundaries}
use Rattle.lay_space.specs.Tokens.{next_place}
use Rattle.lay_line_items.specs.GatheredWidths.{gathered_after, joins_cluster, stands_alone, with_cluster}
use Rattle.lay_flow_boxes.proofs.WordsLemmas.Plain.{IsPlain, joined, plain_alone}

-- over clusters, one after another
abbrev pub go : {P : Type 0} → (P → ClusterWidth → ℕ → P) → List ℕ → P → List ClusterWidth → P
go step text p [] = p
go step text p (w ∷ ws) = go step text (step p w (next_place text ws)) ws

-- a step over text goes on by its width
pub record GoesByWidth {P : Type 0} (step : P → ClusterWidth → ℕ → P) (text : List ℕ) (wide : P → ℤ → P) : Type 0 where
  pub plain : (p : P) (w : ClusterWidth) (to : ℕ) → IsPlain text w.place to → step p w to ≡ wide p w.width.0
  pub adds : (p : P) (a b : ℤ) → wide (wide p a) b ≡ wide p (a +ℤ b)

-- what is gathered so far ends where the next cluster begins
abbrev IsOpen : List ℕ → Option ClusterWidth → List ClusterWidth → Type 0
IsOpen text None ws = Unit {0}
IsOpen text (Some v) ws = (v.place ≤ next_place text ws) × IsPlain text v.place (next_place text ws)

abbrev opened : {P : Type 0} → (P → ℤ → P) → P → Option ClusterWidth → P
opened wide p None = p
opened wide p (Some v) = wide p v.width.0

pub next_within : (text : List ℕ) (ws : List ClusterWidth) → StandOnBoundaries text ws → next_place text ws ≤ length text
next_within text [] stand = omega arith
next_within text (w ∷ ws) stand = cut_within text w.place stand.0

abbrev place_with : List ℕ → Option ClusterWidth → List ClusterWidth → ℕ
place_with text None ws = next_place text ws
place_with text (Some v) ws = v.place

-- what is to be shown, of the clusters that are left
abbrev Rest : {P : Type 0} → (P → ClusterWidth → ℕ → P) → List ℕ → (P → ℤ → P) → List ClusterWidth → Type 0
Rest {P = P} step text wide ws =
    (q : P) (b : Option ClusterWidth) → IsOpen text b ws → go step text q (gathered_after text b ws) ≡ go step text (opened wide q b) ws

-- where a gathered text begins
begins : (text : List ℕ) (before : Option ClusterWidth) (ws : List ClusterWidth)
    → next_place text (gathered_after text before ws) ≡ place_with text before ws
begins text None [] = refl
begins text (Some v) [] = refl
begins text before (w ∷ ws) =
    by before (stands_alone text w.place (next_place text ws)) (joins_cluster before w) (λ b. begins text b ws)
  where
    by : (before : Option ClusterWidth) (alone on : Bool)
        → ((b : Option ClusterWidth) → next_place text (gathered_after text b ws) ≡ place_with text b ws)
        → next_place text (if alone then option_to_list before ++ w ∷ gathered_after text None ws
        else (if on then gathered_after text (Some (with_cluster before w)) ws
        else option_to_list before ++ gathered_after text (Some w) ws)) ≡ place_with text before (w ∷ ws)
    by None true on ih = refl
    by (Some v) true on ih = refl
    by None false true ih = ih (Some w)
    by (Some v) false true ih = ih (Some (with_cluster (Some v) w))
    by None false false ih = ih (Some w)
    by (Some v) false false ih = refl

pub gathered_goes : {P : Type 0} (step : P → ClusterWidth → ℕ → P) (text : List ℕ) (wide : P → ℤ → P) → GoesByWidth step text wide
    → (p : P) (before : Option ClusterWidth) (ws : List ClusterWidth) → StandOnBoundaries text ws → IsOpen text before ws
    → go step text p (gathered_after text before ws) ≡ go step text (opened wide p before) ws
gathered_goes step text wide by_width p None [] stand held = refl
gathered_goes step text wide by_width p (Some v) [] stand held = by_width.plain p v (length text) held.1
gathered_goes {P = P} step text wide by_width p before (w ∷ ws) stand held =
    by before held (stands_alone text w.place (next_place text ws)) (joins_cluster before w) refl refl
    (λ q b o. gathered_goes step text wide by_width q b ws stand.2 o)
  where
    to : ℕ
    to = next_place text ws

    within : to ≤ length text
    within = next_within text ws stand.2

    -- a cluster before gathered ones
    first : (q : P) (v : ClusterWidth) (b : Option ClusterWidth)
        → go step text q (v ∷ gathered_after text b ws) ≡ go step text (step q v (place_with text b ws)) (gathered_after text b ws)
    first q v b = ap (λ (n : ℕ). go step text (step q v n) (gathered_after text b ws)) (begins text b ws)

    by : (b : Option ClusterWidth) → IsOpen text b (w ∷ ws) → (alone on : Bool) → stands_alone text w.place to ≡ alone → joins_cluster b w ≡ on → Rest step text wide ws
        → go step text p (if alone then option_to_list b ++ w ∷ gathered_after text None ws
        else (if on then gathered_after text (Some (with_cluster b w)) ws
        else option_to_list b ++ gathered_after text (Some w) ws)) ≡ go step text (opened wide p b) (w ∷ ws)
    by None o true on e f ih = first p w None ∙ ih (step p w to) None tt
    by (Some v) o true on e f ih =
        let here : step p v w.place ≡ wide p v.width.0 = by_width.plain p v w.place o.1 in
        ap (λ (q : P). go step text q (w ∷ gathered_after text None ws)) here
        ∙ first (wide p v.width.0) w None ∙ ih (step (wide p v.width.0) w to) None tt
    by None o false true e f ih =
        let plain = plain_alone text w.place to e in
        ih p (Some w) (stand.1, plain) ∙ ap (λ (q : P). go step text q ws) (sym (by_width.plain p w to plain))
    by (Some v) o false true e f ih =
        let plain = plain_alone text w.place to e in
        let low = o.0 in let high = stand.1 in
        let whole = joined text v.place w.place to low high within stand.0 o.1 plain in
        ih p (Some (with_cluster (Some v) w)) (omega (arith, low, high), whole)
        ∙ ap (λ (q : P). go step text q ws)
        (sym (by_width.plain (wide p v.width.0) w to plain ∙ by_width.adds p v.width.0 w.width.0))
    by None o false false e f ih = absurd (cc (f))
    by (Some v) o false false e f ih =
        let plain = plain_alone text w.place to e in
        let here : step p v w.place ≡ wide p v.width.0 = by_width.plain p v w.place o.1 in
        first p v (Some w)
        ∙ ap (λ (q : P). go step text q (gathered_after text (Some w) ws)) here
        ∙ ih (wide p v.width.0) (Some w) (stand.1, plain)
        ∙ ap (λ (q : P). go step text q ws) (sym (by_width.plain (wide p v.width.0) w to plain))
