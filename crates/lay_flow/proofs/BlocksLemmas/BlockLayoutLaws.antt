-- The blocks of a context have one layout and no other.
use Rattle.std.proofs.Common.{◌≡◌, ℕ, zero, suc, ◌<◌, Bool, false, ℤ, List, [], length, refl, sym, ap, ◌∙◌, arith, subst, slice_index_or}
use Rattle.std.proofs.lemmas.List.{ext_get_or}
use Rattle.lay_flow.specs.declared.blocks.flow_box.FlowBox.{FlowBox}
use Rattle.lay_flow.specs.Blocks.Boxes.{parents_of}
use Rattle.lay_units.specs.declared.length.Unit.{Unit as Length}
use Rattle.lay_units.specs.Lengths.{no_length}
use Rattle.lay_doc.specs.Tree.{IsTree}
use Rattle.lay_flow.specs.Blocks.Lengths.{length_at}
use Rattle.lay_flow.specs.Blocks.Children.{flag_at}
use Rattle.lay_flow.specs.Blocks.MarginRuns.{Runs, HasRuns, through_of, before_top_of, to_bottom_of, top_run_of, bottom_run_of}
use Rattle.lay_flow.specs.Blocks.BlockLayout.{Extents, Positions, BlockLayout}
use Rattle.lay_flow.specs.Blocks.BlockPositions.{HasPositions, start_of, mark_of, height_of, IsBlockLayout}
use Rattle.lay_flow.specs.Blocks.Laws.{OneBlockLayout, SomeBlockLayout}
use Rattle.lay_flow.proofs.BlocksLemmas.Lengths.{same_length}
use Rattle.lay_flow.proofs.BlocksLemmas.Tabulated.{tab, tab_length, tab_at}
use Rattle.lay_flow.proofs.BlocksLemmas.RunsAgree.{AreNext}
use Rattle.lay_flow.proofs.BlocksLemmas.WholeRunsAgree.{agree_at, all_same}
use Rattle.lay_flow.proofs.BlocksLemmas.PositionsAgree.{AreNextPositions, stands, all_positions}

next_of : (boxes : List FlowBox) (r : Runs) → HasRuns boxes r → AreNext boxes r r
next_of boxes r is = record { through = is.through; before_top = is.before_top; to_bottom = is.to_bottom; top_run = is.top_run; bottom_run = is.bottom_run }

same_runs : (r x : Runs) → r.clears ≡ x.clears → r.through ≡ x.through → r.before_tops ≡ x.before_tops → r.to_bottoms ≡ x.to_bottoms → r.top_runs ≡ x.top_runs → r.bottom_runs ≡ x.bottom_runs → r ≡ x
same_runs r x c t l m u v = λ i. record { clears = c i; through = t i; before_tops = l i; to_bottoms = m i; top_runs = u i; bottom_runs = v i }

pub one_runs : (boxes : List FlowBox) (r x : Runs) → IsTree (parents_of boxes) → 0 < length boxes → r.clears ≡ x.clears → HasRuns boxes r → HasRuns boxes x → r ≡ x
one_runs boxes r x tree some c is also =
    let clears : (i k : ℕ) → flag_at r.clears k ≡ flag_at x.clears k = λ i k. ap (λ (flags : List Bool). flag_at flags k) c in
    let n : ℕ = agree_at boxes tree (λ i. r) (λ i. x) (λ i. next_of boxes r is) (λ i. next_of boxes x also) clears some in
    let all = all_same boxes tree (λ i. r) (λ i. x) (λ i. next_of boxes r is) (λ i. next_of boxes x also) clears some n (omega arith) in
    same_runs r x c
    (ext_get_or false r.through x.through (is.through_length ∙ sym also.through_length) (λ k lt. all.through k (omega (arith, lt, is.through_length))))
    (ext_get_or [] r.before_tops x.before_tops (is.before_tops_length ∙ sym also.before_tops_length) (λ k lt. all.before_top k (omega (arith, lt, is.before_tops_length))))
    (ext_get_or [] r.to_bottoms x.to_bottoms (is.to_bottoms_length ∙ sym also.to_bottoms_length) (λ k lt. all.to_bottom k (omega (arith, lt, is.to_bottoms_length))))
    (ext_get_or [] r.top_runs x.top_runs (is.top_runs_length ∙ sym also.top_runs_length) (λ k lt. all.top_run k (omega (arith, lt, is.top_runs_length))))
    (ext_get_or [] r.bottom_runs x.bottom_runs (is.bottom_runs_length ∙ sym also.bottom_runs_length) (λ k lt. all.bottom_run k (omega (arith, lt, is.bottom_runs_length))))

pub same_lengths : (xs ys : List Length) → length xs ≡ length ys → ((k : ℕ) → k < length xs → length_at xs k ≡ length_at ys k) → xs ≡ ys
same_lengths xs ys e each = ext_get_or no_length xs ys e (λ k lt. same_length (slice_index_or xs k no_length) (slice_index_or ys k no_length) (each k lt))

next_positions : (boxes : List FlowBox) (y : BlockLayout) → HasPositions boxes y → AreNextPositions boxes y y.places
next_positions boxes y is = record { start = is.start; mark = is.mark; height = is.height }

same_positions : (s t : Positions) → s.starts ≡ t.starts → s.marks ≡ t.marks → s.heights ≡ t.heights → s ≡ t
same_positions s t e f g = λ i. record { starts = e i; marks = f i; heights = g i }

one_positions : (boxes : List FlowBox) (y : BlockLayout) (t : Positions) → IsTree (parents_of boxes) → 0 < length boxes → HasPositions boxes y → HasPositions boxes (record y { places = t }) → y.places ≡ t
one_positions boxes y t tree some is also =
    let s = y.places in
    let mine : (i : ℕ) → AreNextPositions boxes y s = λ i. next_positions boxes y is in
    let other : (i : ℕ) → AreNextPositions boxes (record y { places = t }) t = λ i. next_positions boxes (record y { places = t }) also in
    let st = stands boxes tree y (λ i. s) (λ i. t) mine other some in
    let all = all_positions boxes tree y (λ i. s) (λ i. t) mine other some st.after (omega arith) in
    same_positions s t
    (same_lengths s.starts t.starts (is.starts_length ∙ sym also.starts_length) (λ k lt. all.start k (omega (arith, lt, is.starts_length))))
    (same_lengths s.marks t.marks (is.marks_length ∙ sym also.marks_length) (λ k lt. all.mark k (omega (arith, lt, is.marks_length))))
    (same_lengths s.heights t.heights (is.heights_length ∙ sym also.heights_length) (λ k lt. all.height k (omega (arith, lt, is.heights_length))))

pub one_block_layout_lem : OneBlockLayout
one_block_layout_lem boxes y z tree some extents edges c is also =
    let e = one_runs boxes y.runs z.runs tree some c is.has_runs also.has_runs in
    let alike : (record z { places = y.places }) ≡ y = λ i. record { extents = sym extents i; clear_edges = sym edges i; runs = sym e i; places = y.places } in
    let there = subst (λ (x : BlockLayout). HasPositions boxes (record x { places = z.places })) alike also.has_positions in
    let f = one_positions boxes y z.places tree some is.has_positions there in
    λ i. record { extents = extents i; clear_edges = edges i; runs = e i; places = f i }

module _ (boxes : List FlowBox) (tree : IsTree (parents_of boxes)) (some : 0 < length boxes) (clears : List Bool) where
  -- the runs worked out once more from these
  abbrev refreshed : Runs → Runs
  refreshed r = record {
    clears = clears;
    through = tab (through_of boxes r) (length boxes);
    before_tops = tab (before_top_of boxes r) (length boxes);
    to_bottoms = tab (to_bottom_of boxes r) (length boxes);
    top_runs = tab (top_run_of boxes r) (length boxes);
    bottom_runs = tab (bottom_run_of boxes r) (length boxes);
  }

  abbrev turn : ℕ → Runs
  turn zero = record { clears = clears; through = []; before_tops = []; to_bottoms = []; top_runs = []; bottom_runs = [] }
  turn (suc i) = refreshed (turn i)

  turn_next : (i : ℕ) → AreNext boxes (turn i) (turn (suc i))
  turn_next i = record {
    through = λ k lt. tab_at (through_of boxes (turn i)) false (length boxes) k lt;
    before_top = λ k lt. tab_at (before_top_of boxes (turn i)) [] (length boxes) k lt;
    to_bottom = λ k lt. tab_at (to_bottom_of boxes (turn i)) [] (length boxes) k lt;
    top_run = λ k lt. tab_at (top_run_of boxes (turn i)) [] (length boxes) k lt;
    bottom_run = λ k lt. tab_at (bottom_run_of boxes (turn i)) [] (length boxes) k lt;
  }

  turn_clears : (i : ℕ) → (turn i).clears ≡ clears
  turn_clears zero = refl
  turn_clears (suc i) = refl

  same_clears : (i k : ℕ) → flag_at (turn i).clears k ≡ flag_at (turn (suc i)).clears k
  same_clears i k = ap (λ (flags : List Bool). flag_at flags k) (turn_clears i)

  abbrev at_last : ℕ
  at_last = suc (agree_at boxes tree turn (λ i. turn (suc i)) turn_next (λ i. turn_next (suc i)) same_clears some)

  runs_there : length clears ≡ length boxes → HasRuns boxes (turn at_last)
  runs_there l =
      let n : ℕ = at_last in
      let all = all_same boxes tree turn (λ i. turn (suc i)) turn_next (λ i. turn_next (suc i)) same_clears some n (omega arith) in
      let next = turn_next n in
      record {
        clears_length = l;
        through_length = tab_length _ (length boxes);
        before_tops_length = tab_length _ (length boxes);
        to_bottoms_length = tab_length _ (length boxes);
        top_runs_length = tab_length _ (length boxes);
        bottom_runs_length = tab_length _ (length boxes);
        through = λ k lt. all.through k lt ∙ next.through k lt;
        before_top = λ k lt. all.before_top k lt ∙ next.before_top k lt;
        to_bottom = λ k lt. all.to_bottom k lt ∙ next.to_bottom k lt;
        top_run = λ k lt. all.top_run k lt ∙ next.top_run k lt;
        bottom_run = λ k lt. all.bottom_run k lt ∙ next.bottom_run k lt;
      }

abbrev as_length : ℤ → Length
as_length v = record { 0 = v }

module _ (boxes : List FlowBox) (tree : IsTree (parents_of boxes)) (some : 0 < length boxes) (y : BlockLayout) where
  -- the positions worked out once more from these
  abbrev placed_again : Positions → Positions
  placed_again s = record {
    starts = tab (λ k. as_length (start_of boxes (record y { places = s }) k)) (length boxes);
    marks = tab (λ k. as_length (mark_of boxes (record y { places = s }) k)) (length boxes);
    heights = tab (λ k. as_length (height_of boxes (record y { places = s }) k)) (length boxes);
  }

  abbrev place_turn : ℕ → Positions
  place_turn zero = record { starts = []; marks = []; heights = [] }
  place_turn (suc i) = placed_again (place_turn i)

  place_next : (i : ℕ) → AreNextPositions boxes (record y { places = place_turn i }) (place_turn (suc i))
  place_next i = record {
    start = λ k lt. ap (λ (v : Length). v.0) (tab_at (λ k. as_length (start_of boxes (record y { places = place_turn i }) k)) no_length (length boxes) k lt);
    mark = λ k lt. ap (λ (v : Length). v.0) (tab_at (λ k. as_length (mark_of boxes (record y { places = place_turn i }) k)) no_length (length boxes) k lt);
    height = λ k lt. ap (λ (v : Length). v.0) (tab_at (λ k. as_length (height_of boxes (record y { places = place_turn i }) k)) no_length (length boxes) k lt);
  }

  abbrev place_last : ℕ
  place_last = (stands boxes tree y place_turn (λ i. place_turn (suc i)) place_next (λ i. place_next (suc i)) some).after

  positions_there : HasPositions boxes (record y { places = place_turn (suc place_last) })
  positions_there =
      let n : ℕ = place_last in
      let all = all_positions boxes tree y place_turn (λ i. place_turn (suc i)) place_next (λ i. place_next (suc i)) some n (omega arith) in
      let next = place_next (suc n) in
      record {
        starts_length = tab_length _ (length boxes);
        marks_length = tab_length _ (length boxes);
        heights_length = tab_length _ (length boxes);
        start = λ k lt. all.start k lt ∙ next.start k lt;
        mark = λ k lt. all.mark k lt ∙ next.mark k lt;
        height = λ k lt. all.height k lt ∙ next.height k lt;
      }

-- the positions by these runs, extents and clear edges
pub positions_in : (boxes : List FlowBox) (y : BlockLayout) → IsTree (parents_of boxes) → 0 < length boxes → (s : Positions) × HasPositions boxes (record y { places = s })
positions_in boxes y tree some = (place_turn boxes tree some y (suc (place_last boxes tree some y)), positions_there boxes tree some y)

-- the layout with these extents and clear edges
pub layout_there : (boxes : List FlowBox) (extents : Extents) (clear_edges : List Length) (clears : List Bool) → IsTree (parents_of boxes) → 0 < length boxes → length clears ≡ length boxes
    → (r : Runs) × (s : Positions) × (r.clears ≡ clears) × IsBlockLayout boxes (record { extents = extents; clear_edges = clear_edges; runs = r; places = s })
layout_there boxes extents clear_edges clears tree some l =
    let r : Runs = turn boxes tree some clears (at_last boxes tree some clears) in
    let y : BlockLayout = record { extents = extents; clear_edges = clear_edges; runs = r; places = record { starts = []; marks = []; heights = [] } } in (
      r,
      place_turn boxes tree some y (suc (place_last boxes tree some y)),
      turn_clears boxes tree some clears (at_last boxes tree some clears),
      record { has_runs = runs_there boxes tree some clears l; has_positions = positions_there boxes tree some y },
    )

pub some_block_layout_lem : SomeBlockLayout
some_block_layout_lem boxes extents clear_edges clears tree some l =
    let there = layout_there boxes extents clear_edges clears tree some l in
    (record { extents = extents; clear_edges = clear_edges; runs = there.0; places = there.1 }, refl, refl, there.2, there.3)
