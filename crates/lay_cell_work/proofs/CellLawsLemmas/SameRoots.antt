-- Contexts with the same boxes have roots at the same places, each with the same boxes; what these are given by the contexts inside is the
-- same where the cells of those keep the same.
use Rattle.std.proofs.Common.{◌≡◌, ◌<◌, ◌≤◌, ◌+◌, ◌-◌, ◌↔◌, ℕ, zero, suc, nat_lt, Bool, true, false, if◌then◌else◌, List, [], ◌∷◌, length, map, slice_index, Option, None, Some, refl, ap, sym, subst, ◌∙◌, arith, inl, inr}
use Rattle.std.specs.List.{range_with_len}
use Rattle.std.proofs.lemmas.Bool.{cases_lt}
use Rattle.std.proofs.lemmas.List.FromFn.{get_or-map-range_with_len, length-map-range_with_len}
use Rattle.std.proofs.lemmas.List.{ext_get_or}
use Rattle.lay_box_tree.specs.BoxColumns.{box_at}
use Rattle.lay_box_tree.specs.declared.box_tree.BoxNode.{BoxNode}
use Rattle.lay_contexts.specs.Contexts.{boxes_in, context_at}
use Rattle.lay_contexts.specs.FlowLaws.{is_anchor_at}
use Rattle.lay_contexts.specs.FormattingBoxes.{boxes_of_root, rank}
use Rattle.lay_contexts.specs.FormattingContexts.{AreFormattingContexts, FormattingContext, boxes_in as boxes_of, formatting_context_at}
use Rattle.lay_contexts.specs.FormattingContextList.{first_number, homes_in, number_at, number_of, rank_at, roots_before}
use Rattle.lay_contexts.specs.Homes.{IsHome, OneHome, is_root}
use Rattle.lay_cell_work.proofs.Cited.{home_root, home_there, in_order, place_there, roots_lt, roots_no, roots_yes}
use Rattle.lay_context_sizes.specs.ShrinkToFit.{shrinks_to_fit}
use Rattle.lay_context.specs.declared.input.Input.TheVariants as input
use Rattle.lay_context.specs.declared.task.Phase.{Phase}
use Rattle.lay_context.specs.Laws.{MeasuredWhereShrunk}
use Rattle.lay_context.specs.Measured.{ShrinksOutward, around, is_measured, own}
use Rattle.lay_context.specs.Medium.{Medium}
use Rattle.lay_cell_work.specs.declared.root_spot.RootSpot.{RootSpot}
use Rattle.lay_cell_work.specs.CellColumns.{links_or_none}
use Rattle.lay_cell_work.specs.CellInputs.{CellInput, RootInput}
use Rattle.lay_shape.specs.declared.cell_key.CellKey.{CellKey}
use Rattle.lay_cell_work.specs.PresentInputs.{key_of, root_count, root_input, spot_in}
use Rattle.lay_cell_work.specs.CellLaws.SameContexts.{IsSameContext, IsTable, Table, inner_number_at, input_in, workings_in}
use Rattle.lay_cell_work.proofs.CellLawsLemmas.InputForms.{table_are, table_calm, table_keeps}
use Rattle.lay_cell_work.proofs.CellLawsLemmas.MaskedColumns.{columns_same}
use Rattle.lay_cell_work.proofs.CellLawsLemmas.RootForms.{boxes_are, cell_or, chosen, given_at, link_at, members, number_within, other, positive, root_is}
use Rattle.lay_cell_work.proofs.CellLawsLemmas.RootsOfContexts.{spot_inside}

pub no_root : RootInput
no_root = record { given = input.Unmeasured; links = []; around = None }

-- the place of a root
record IsRootAt (boxes : List BoxNode) (n s : ℕ) : Type 0 where
  place : ℕ
  before : place < n
  root : is_root boxes place ≡ true
  number : roots_before boxes place ≡ s

further : (boxes : List BoxNode) (n s : ℕ) → IsRootAt boxes n s → IsRootAt boxes (suc n) s
further boxes n s r = record { place = r.place; before = (let b = r.before in omega (arith, b)); root = r.root; number = r.number }

last_root : (boxes : List BoxNode) (n s : ℕ) (b : Bool) → is_root boxes n ≡ b → s < roots_before boxes (suc n) → roots_before boxes n ≤ s → IsRootAt boxes (suc n) s
last_root boxes n s true e lt high = record { place = n; before = omega arith; root = e; number = omega (arith, lt, high, roots_yes boxes n e) }
last_root boxes n s false e lt high = absurd (omega (arith, lt, high, roots_no boxes n e))

root_at : (boxes : List BoxNode) (n s : ℕ) → s < roots_before boxes n → IsRootAt boxes n s
root_at boxes zero s lt = absurd (omega (arith, lt))
root_at boxes (suc n) s lt = elim (cases_lt s (roots_before boxes n)) [
  | inl low ↦ further boxes n s (root_at boxes n s low)
  | inr high ↦ last_root boxes n s (is_root boxes n) refl lt high
]

bool_same : (x y : Bool) → (x ≡ true → y ≡ true) → (y ≡ true → x ≡ true) → x ≡ y
bool_same true y to from = sym (to refl)
bool_same false true to from = from refl
bool_same false false to from = refl

pub flip : (a b : Table) (c e : ℕ) → IsSameContext a b c e → IsSameContext b a e c
flip a b c e same = record { within = same.there; there = same.within; root = (same.root.1, same.root.0); boxes = sym same.boxes }

-- where an anonymous root stands
abbrev pub spot_form : List BoxNode → List ℕ → ℕ → Option RootSpot
spot_form boxes homes zero = None
spot_form boxes homes (suc r) = Some (record { root = roots_before boxes (slice_index homes (suc r)); place = rank homes (suc r) })

module _ (t : Table) (is : IsTable t) (c : ℕ) (lt : c < length t.contexts) where
  abbrev All : List FormattingContext
  All = t.formatting_contexts

  abbrev B : List BoxNode
  B = boxes_in t.contexts c

  abbrev H : List ℕ
  H = homes_in is.are_formatting_contexts.homes c

  pub outer_form : (r : ℕ) → suc r < length B → is_root B (suc r) ≡ true → (formatting_context_at All (number_of t.contexts c (suc r))).outer ≡ number_of t.contexts c (slice_index H (suc r))
  outer_form r inside root =
      ap (λ (f : FormattingContext). f.outer) (root_is t.contexts All (table_are t is) is.are_formatting_contexts (table_calm t is) (table_keeps t is) c (suc r) lt inside root)
      ∙ ap (number_at t.contexts is.are_formatting_contexts.homes) (spot_inside t.contexts c (suc r) (omega arith))

  pub outer_box_form : (r : ℕ) → suc r < length B → is_root B (suc r) ≡ true → (formatting_context_at All (number_of t.contexts c (suc r))).outer_box ≡ rank H (suc r)
  outer_box_form r inside root =
      ap (λ (f : FormattingContext). f.outer_box) (root_is t.contexts All (table_are t is) is.are_formatting_contexts (table_calm t is) (table_keeps t is) c (suc r) lt inside root)
      ∙ ap (rank_at is.are_formatting_contexts.homes) (spot_inside t.contexts c (suc r) (omega arith))

  pub anonymous_form : (r : ℕ) → r < length B → is_root B r ≡ true → (formatting_context_at All (number_of t.contexts c r)).anonymous ≡ nat_lt 0 r
  anonymous_form r inside root =
      ap (λ (f : FormattingContext). f.anonymous) (root_is t.contexts All (table_are t is) is.are_formatting_contexts (table_calm t is) (table_keeps t is) c r lt inside root)

  pub spot_is : (r : ℕ) → r < length B → is_root B r ≡ true → spot_in All (first_number t.contexts c) (number_of t.contexts c r) ≡ spot_form B H r
  spot_is zero inside root = other (formatting_context_at All (number_of t.contexts c 0)).anonymous (Some (record {
    root = (formatting_context_at All (number_of t.contexts c 0)).outer - first_number t.contexts c;
    place = (formatting_context_at All (number_of t.contexts c 0)).outer_box;
  })) None (anonymous_form 0 inside root)
  spot_is (suc r) inside root =
      let m : ℕ = number_of t.contexts c (suc r) in
      let h : ℕ = slice_index H (suc r) in
      let outer = outer_form r inside root in
      let ordinal : (formatting_context_at All m).outer - first_number t.contexts c ≡ roots_before B h = omega (arith, outer) in
      let put : ℕ → ℕ → Option RootSpot = λ x y. Some (record { root = x; place = y }) in
      chosen (formatting_context_at All m).anonymous (put ((formatting_context_at All m).outer - first_number t.contexts c) (formatting_context_at All m).outer_box) None (anonymous_form (suc r) inside root ∙ positive (suc r) (omega arith))
      ∙ ap (λ (x : ℕ). put x (formatting_context_at All m).outer_box) ordinal ∙ ap (put (roots_before B h)) (outer_box_form r inside root)

module _ (one_home : OneHome) (a b : Table) (is_a : IsTable a) (is_b : IsTable b) (c e : ℕ) (same : IsSameContext a b c e) where
  abbrev BA : List BoxNode
  BA = boxes_in a.contexts c

  abbrev BB : List BoxNode
  BB = boxes_in b.contexts e

  abbrev HA : List ℕ
  HA = homes_in is_a.are_formatting_contexts.homes c

  abbrev HB : List ℕ
  HB = homes_in is_b.are_formatting_contexts.homes e

  pub homes_same : HA ≡ HB
  homes_same =
      let x = is_a.are_formatting_contexts.homes_are.each c same.within in
      let y = is_b.are_formatting_contexts.homes_are.each e same.there in
      let count : length HA ≡ length HB = x.count ∙ ap length same.boxes ∙ sym y.count in
      ext_get_or 0 HA HB count (λ k lt. one_home BA k (slice_index HA k) (slice_index HB k) (x.each k (let n = x.count in omega (arith, lt, n)))
      (subst (λ (boxes : List BoxNode). IsHome boxes k (slice_index HB k)) (sym same.boxes) (y.each k (let n = y.count in omega (arith, lt, count, n)))))

  pub inside_same : (r : ℕ) → r < length BA → r < length BB
  inside_same r inside = (let n : length BA ≡ length BB = ap length same.boxes in omega (arith, inside, n))

  pub root_same : (r : ℕ) → is_root BA r ≡ true → is_root BB r ≡ true
  root_same r root = ap (λ (boxes : List BoxNode). is_root boxes r) (sym same.boxes) ∙ root

  pub members_same : (r : ℕ) → members BA HA r ≡ members BB HB r
  members_same r = ap (λ (boxes : List BoxNode). members boxes HA r) same.boxes ∙ ap (λ (homes : List ℕ). members BB homes r) homes_same

  pub root_boxes_same : (r : ℕ) → boxes_of_root BA HA r ≡ boxes_of_root BB HB r
  root_boxes_same r = ap (λ (boxes : List BoxNode). boxes_of_root boxes HA r) same.boxes ∙ ap (λ (homes : List ℕ). boxes_of_root BB homes r) homes_same

  pub links_same : (r : ℕ) → links_or_none (None ∷ map (link_at BA) (members BA HA r)) ≡ links_or_none (None ∷ map (link_at BB) (members BB HB r))
  links_same r =
      ap (λ (boxes : List BoxNode). links_or_none (None ∷ map (link_at boxes) (members BA HA r))) same.boxes
      ∙ ap (λ (places : List ℕ). links_or_none (None ∷ map (link_at BB) places)) (members_same r)

  pub spots_same : (r : ℕ) → spot_form BA HA r ≡ spot_form BB HB r
  spots_same r = ap (λ (boxes : List BoxNode). spot_form boxes HA r) same.boxes ∙ ap (λ (homes : List ℕ). spot_form BB homes r) homes_same

  pub ordinals_same : (r : ℕ) → roots_before BA r ≡ roots_before BB r
  ordinals_same r = ap (λ (boxes : List BoxNode). roots_before boxes r) same.boxes

  module _ {X : Type 0} (nothing : X) (x y : ℕ → X) where
    cell_same : (p q : ℕ) → ((p ≡ 0) ↔ (q ≡ 0)) → (0 < p → x p ≡ y q) → cell_or nothing x p ≡ cell_or nothing y q
    cell_same zero zero both gives = refl
    cell_same zero (suc q) both gives = absurd (let z = both.0 refl in omega (arith, z))
    cell_same (suc p) zero both gives = absurd (let z = both.1 refl in omega (arith, z))
    cell_same (suc p) (suc q) both gives = gives (omega arith)

    module _ (some : (k : ℕ) → k < length BA → (inner_number_at a c k ≡ 0) ↔ (inner_number_at b e k ≡ 0))
        (gives : (k : ℕ) → k < length BA → 0 < inner_number_at a c k → is_anchor_at BA k ≡ false → x (inner_number_at a c k) ≡ y (inner_number_at b e k)) where
      abbrev IA : List ℕ
      IA = (context_at a.contexts c).inner

      abbrev IB : List ℕ
      IB = (context_at b.contexts e).inner

      given_by : (k : ℕ) (p q : Bool) → k < length BA → is_root BA k ≡ p → is_anchor_at BA k ≡ q → given_at nothing x BA IA k ≡ given_at nothing y BA IB k
      given_by k true q inside root anchor =
          chosen (is_root BA k) nothing (if is_anchor_at BA k then nothing else cell_or nothing x (slice_index IA k)) root
          ∙ sym (chosen (is_root BA k) nothing (if is_anchor_at BA k then nothing else cell_or nothing y (slice_index IB k)) root)
      given_by k false true inside root anchor =
          other (is_root BA k) nothing (if is_anchor_at BA k then nothing else cell_or nothing x (slice_index IA k)) root
          ∙ chosen (is_anchor_at BA k) nothing (cell_or nothing x (slice_index IA k)) anchor
          ∙ sym (chosen (is_anchor_at BA k) nothing (cell_or nothing y (slice_index IB k)) anchor)
          ∙ sym (other (is_root BA k) nothing (if is_anchor_at BA k then nothing else cell_or nothing y (slice_index IB k)) root)
      given_by k false false inside root anchor =
          other (is_root BA k) nothing (if is_anchor_at BA k then nothing else cell_or nothing x (slice_index IA k)) root
          ∙ other (is_anchor_at BA k) nothing (cell_or nothing x (slice_index IA k)) anchor
          ∙ cell_same (slice_index IA k) (slice_index IB k) (some k inside) (λ positive. gives k inside positive anchor)
          ∙ sym (other (is_anchor_at BA k) nothing (cell_or nothing y (slice_index IB k)) anchor)
          ∙ sym (other (is_root BA k) nothing (if is_anchor_at BA k then nothing else cell_or nothing y (slice_index IB k)) root)

      given_same : (k : ℕ) → k < length BA → given_at nothing x BA IA k ≡ given_at nothing y BB IB k
      given_same k inside = given_by k (is_root BA k) (is_anchor_at BA k) inside refl refl ∙ ap (λ (boxes : List BoxNode). given_at nothing y boxes IB k) same.boxes

      -- what is given by the contexts inside
      pub column_same : (r : ℕ) → map (given_at nothing x BA IA) (members BA HA r) ≡ map (given_at nothing y BB IB) (members BB HB r)
      column_same r =
          columns_same (given_at nothing x BA IA) (given_at nothing y BB IB) (members BA HA r)
          (λ m lt. given_same (slice_index (members BA HA r) m) (place_there HA r (length BA) m lt).before)
          ∙ ap (map (given_at nothing y BB IB)) (members_same r)

  -- inputs are equal where those of all roots are
  pub roots_same : (medium : Medium) (phase : Phase)
      → ((r : ℕ) → r < length BA → is_root BA r ≡ true
      → root_input medium a.formatting_contexts (workings_in a) (first_number a.contexts c) (number_of a.contexts c r) phase
      ≡ root_input medium b.formatting_contexts (workings_in b) (first_number b.contexts e) (number_of b.contexts e r) phase)
      → input_in medium a c phase ≡ input_in medium b e phase
  roots_same medium phase each =
      let f : ℕ → RootInput = λ s. root_input medium a.formatting_contexts (workings_in a) (first_number a.contexts c) (first_number a.contexts c + s) phase in
      let g : ℕ → RootInput = λ s. root_input medium b.formatting_contexts (workings_in b) (first_number b.contexts e) (first_number b.contexts e + s) phase in
      let n : ℕ = root_count a.contexts c in
      let m : ℕ = root_count b.contexts e in
      let count : n ≡ m = ap (λ (boxes : List BoxNode). roots_before boxes (length boxes)) same.boxes in
      let nf = length-map-range_with_len f 0 n in
      let ng = length-map-range_with_len g 0 m in
      let one : (s : ℕ) → s < n → f s ≡ g s = λ s lt. (let p = root_at BA (length BA) s lt in
      let left : first_number a.contexts c + s ≡ number_of a.contexts c p.place = ap (λ (i : ℕ). first_number a.contexts c + i) (sym p.number) in
      let right : number_of b.contexts e p.place ≡ first_number b.contexts e + s = ap (λ (i : ℕ). first_number b.contexts e + i) (sym (ordinals_same p.place) ∙ p.number) in
      ap (λ (i : ℕ). root_input medium a.formatting_contexts (workings_in a) (first_number a.contexts c) i phase) left
      ∙ each p.place p.before p.root
      ∙ ap (λ (i : ℕ). root_input medium b.formatting_contexts (workings_in b) (first_number b.contexts e) i phase) right) in
      let roots : map f (range_with_len 0 n) ≡ map g (range_with_len 0 m) = ext_get_or no_root (map f (range_with_len 0 n)) (map g (range_with_len 0 m)) (nf ∙ count ∙ sym ng)
      (λ s lt. get_or-map-range_with_len f 0 n s s no_root (omega (arith, lt, nf)) (omega arith) ∙ one s (omega (arith, lt, nf)) ∙ sym (get_or-map-range_with_len g 0 m s s no_root (omega (arith, lt, nf, count)) (omega arith))) in
      let key : key_of a.contexts c phase ≡ key_of b.contexts e phase = ap (λ (boxes : List BoxNode). record { node = (box_at boxes 0).node; phase = phase }) same.boxes in
      let put : CellKey → List RootInput → CellInput = λ k xs. record { key = k; roots = xs } in
      ap (λ (k : CellKey). put k (map f (range_with_len 0 n))) key ∙ ap (put (key_of b.contexts e phase)) roots

  -- the boxes of the formatting contexts of a root
  pub boxes_same : (r : ℕ) → r < length BA → is_root BA r ≡ true → boxes_of a.formatting_contexts (number_of a.contexts c r) ≡ boxes_of b.formatting_contexts (number_of b.contexts e r)
  boxes_same r inside root =
      boxes_are a.contexts a.formatting_contexts (table_are a is_a) is_a.are_formatting_contexts (table_calm a is_a) (table_keeps a is_a) c r same.within inside root
      ∙ root_boxes_same r
      ∙ sym (boxes_are b.contexts b.formatting_contexts (table_are b is_b) is_b.are_formatting_contexts (table_calm b is_b) (table_keeps b is_b) e r same.there (inside_same r inside) (root_same r root))

  -- a root may shrink to fit, or one around it, where its counterpart may
  shrinks : (i : ℕ) → ShrinksOutward a.formatting_contexts i → (r : ℕ) → r < length BA → is_root BA r ≡ true → i ≡ number_of a.contexts c r
      → (ShrinksOutward a.formatting_contexts (number_of a.contexts c 0) → ShrinksOutward b.formatting_contexts (number_of b.contexts e 0)) → ShrinksOutward b.formatting_contexts (number_of b.contexts e r)
  shrinks i (own i-1 s) r inside root is first =
      own (number_of b.contexts e r) (ap shrinks_to_fit (sym (boxes_same r inside root)) ∙ ap (λ (j : ℕ). shrinks_to_fit (boxes_of a.formatting_contexts j)) (sym is) ∙ s)
  shrinks i (around i-1 some rest) zero inside root is first = first (subst (ShrinksOutward a.formatting_contexts) is (around i some rest))
  shrinks i (around i-1 some rest) (suc r) inside root is first =
      let h : ℕ = slice_index HA (suc r) in
      let outer : (formatting_context_at a.formatting_contexts i).outer ≡ number_of a.contexts c h = ap (λ (j : ℕ). (formatting_context_at a.formatting_contexts j).outer) is ∙ outer_form a is_a c same.within r inside root in
      let there = home_there a.contexts is_a.are_formatting_contexts.homes (table_are a is_a) is_a.are_formatting_contexts.homes_are c (suc r) same.within inside in
      let root_h = home_root a.contexts is_a.are_formatting_contexts.homes (table_are a is_a) is_a.are_formatting_contexts.homes_are c (suc r) same.within inside in
      let more = shrinks (formatting_context_at a.formatting_contexts i).outer rest h there root_h outer first in
      let homes : slice_index HA (suc r) ≡ slice_index HB (suc r) = ap (λ (hs : List ℕ). slice_index hs (suc r)) homes_same in
      let around_b : number_of b.contexts e h ≡ (formatting_context_at b.formatting_contexts (number_of b.contexts e (suc r))).outer =
      ap (number_of b.contexts e) homes ∙ sym (outer_form b is_b e same.there r (inside_same (suc r) inside) (root_same (suc r) root)) in
      let low = roots_lt BB 0 (suc r) refl (omega arith) in
      around (number_of b.contexts e (suc r)) (omega (arith, low)) (subst (ShrinksOutward b.formatting_contexts) around_b more)

  pub shrinks_there : (r : ℕ) → r < length BA → is_root BA r ≡ true → (ShrinksOutward a.formatting_contexts (number_of a.contexts c 0) → ShrinksOutward b.formatting_contexts (number_of b.contexts e 0))
      → ShrinksOutward a.formatting_contexts (number_of a.contexts c r) → ShrinksOutward b.formatting_contexts (number_of b.contexts e r)
  shrinks_there r inside root first s = shrinks (number_of a.contexts c r) s r inside root refl first

module _ (one_home : OneHome) (where_shrunk : MeasuredWhereShrunk) (a b : Table) (is_a : IsTable a) (is_b : IsTable b) (c e : ℕ) (same : IsSameContext a b c e)
    (measured : is_measured a.formatting_contexts (first_number a.contexts c) ≡ is_measured b.formatting_contexts (first_number b.contexts e)) where
  order : (t : Table) → IsTable t → AreFormattingContexts t.formatting_contexts
  order t is = in_order t.contexts t.formatting_contexts (table_are t is) is.are_formatting_contexts

  within : (t : Table) (is : IsTable t) (x r : ℕ) → x < length t.contexts → r < length (boxes_in t.contexts x) → is_root (boxes_in t.contexts x) r ≡ true → number_of t.contexts x r < length t.formatting_contexts
  within t is x r lt inside root = number_within t.contexts t.formatting_contexts (table_are t is) is.are_formatting_contexts (table_calm t is) (table_keeps t is) x r lt inside root

  first_to : (s t : Table) (is_s : IsTable s) (is_t : IsTable t) (x y : ℕ) → IsSameContext s t x y
      → is_measured s.formatting_contexts (first_number s.contexts x) ≡ is_measured t.formatting_contexts (first_number t.contexts y)
      → ShrinksOutward s.formatting_contexts (number_of s.contexts x 0) → ShrinksOutward t.formatting_contexts (number_of t.contexts y 0)
  first_to s t is_s is_t x y like bit shrinks =
      let some_s = ((table_are s is_s).boxes x like.within).some in
      let some_t = ((table_are t is_t).boxes y like.there).some in
      let es : number_of s.contexts x 0 ≡ first_number s.contexts x = omega arith in
      let et : first_number t.contexts y ≡ number_of t.contexts y 0 = omega arith in
      let here = (where_shrunk s.formatting_contexts (number_of s.contexts x 0) (order s is_s) (within s is_s x 0 like.within some_s refl)).1 shrinks in
      (where_shrunk t.formatting_contexts (number_of t.contexts y 0) (order t is_t) (within t is_t y 0 like.there some_t refl)).0
      (ap (is_measured t.formatting_contexts) (sym et) ∙ sym bit ∙ ap (is_measured s.formatting_contexts) (sym es) ∙ here)

  -- the bit of a root comes of that of its context
  pub measured_same : (r : ℕ) → r < length (boxes_in a.contexts c) → is_root (boxes_in a.contexts c) r ≡ true
      → is_measured a.formatting_contexts (number_of a.contexts c r) ≡ is_measured b.formatting_contexts (number_of b.contexts e r)
  measured_same r inside root =
      let inside_b = inside_same one_home a b is_a is_b c e same r inside in
      let root_b = root_same one_home a b is_a is_b c e same r root in
      let x = where_shrunk a.formatting_contexts (number_of a.contexts c r) (order a is_a) (within a is_a c r same.within inside root) in
      let y = where_shrunk b.formatting_contexts (number_of b.contexts e r) (order b is_b) (within b is_b e r same.there inside_b root_b) in
      bool_same (is_measured a.formatting_contexts (number_of a.contexts c r)) (is_measured b.formatting_contexts (number_of b.contexts e r))
      (λ m. y.1 (shrinks_there one_home a b is_a is_b c e same r inside root (first_to a b is_a is_b c e same measured) (x.0 m)))
      (λ m. x.1 (shrinks_there one_home b a is_b is_a e c (flip a b c e same) r inside_b root_b (first_to b a is_b is_a e c (flip a b c e same) (sym measured)) (y.0 m)))
