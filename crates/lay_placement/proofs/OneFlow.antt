-- The flow of a context whose only box is a block.
use Rattle.std.proofs.Common.{◌≡◌, ℕ, zero, suc, ◌<◌, ℤ, pos, ◌-ℤ◌, ◌+ℤ◌, true, false, List, [], ◌∷◌, None, refl, sym, ap, arith}
use Rattle.std.proofs.lemmas.Int.{ints}
use Rattle.lay_units.specs.declared.length.Unit.{Unit as Length}
use Rattle.lay_units.specs.Lengths.{no_length}
use Rattle.lay_flow.specs.declared.blocks.flow_box.BlockBox.{BlockBox}
use Rattle.lay_flow.specs.declared.blocks.flow_box.FlowBox.{FlowBox}
use Rattle.lay_flow.specs.declared.blocks.flow_box.FlowKind.TheVariants.{Block as block}
use Rattle.lay_flow.specs.declared.blocks.block.Inside.TheVariants.{Blocks as blocks_inside}
use Rattle.lay_flow.specs.Blocks.Lengths.{length_at}
use Rattle.lay_flow.specs.Blocks.Children.{flag_at}
use Rattle.lay_flow.specs.Blocks.MarginRuns.{Runs, HasRuns, block_at, block_with, run_at, through_of, before_top_of, to_bottom_of, top_run_of, bottom_run_of}
use Rattle.lay_flow.specs.Blocks.BlockLayout.{BlockLayout}
use Rattle.lay_flow.specs.Blocks.BlockPositions.{HasPositions, border_height, height_of, is_lines, mark_of, start_of}
use Rattle.lay_flow.specs.Blocks.BlockFloats.{AreLinesAt, lines_at, no_lines, no_spot}
use Rattle.lay_flow.specs.Blocks.ContextFlow.{Flow, IsContextFlow}
use Rattle.lay_flow.specs.Blocks.FlowPlaces.{FlowPlacesValue, IsFlowOf, border_box_in, box_place_at}

-- what holds of the first box holds of each, where there is no other
pub at_first : (P : ℕ → Type 0) → P 0 → (k : ℕ) → k < 1 → P k
at_first P first zero lt = first
at_first P first (suc k) lt = absurd (omega (arith, lt))

nothing : (v : ℤ) → v -ℤ v ≡ pos 0
nothing v = omega (arith, ints)

module _ (b : BlockBox) where
  abbrev pub only : List FlowBox
  only = record { parent = 0; kind = block b } ∷ []

  abbrev height : Length
  height = record { 0 = border_height (block_with b blocks_inside) (pos 0) (pos 0) }

  -- it stands at the top, and there is no line
  abbrev pub only_places : FlowPlacesValue
  only_places = record { boxes = record { corner = record { x = b.x; y = no_length }; height = height } ∷ []; lines = [] ∷ [] }

  -- no margin is in a run
  abbrev runs : Runs
  runs = record { clears = false ∷ []; through = false ∷ []; before_tops = [] ∷ []; to_bottoms = [] ∷ []; top_runs = [] ∷ []; bottom_runs = [] ∷ [] }

  abbrev layout : BlockLayout
  layout = record {
    extents = record { depths = no_length ∷ []; floats = None };
    clear_edges = no_length ∷ [];
    runs = runs;
    places = record { starts = no_length ∷ []; marks = no_length ∷ []; heights = height ∷ [] };
  }

  abbrev flow : Flow
  flow = record { layout = layout; places = no_spot ∷ [] }

  has_runs : HasRuns only runs
  has_runs = record {
    clears_length = refl;
    through_length = refl;
    before_tops_length = refl;
    to_bottoms_length = refl;
    top_runs_length = refl;
    bottom_runs_length = refl;
    through = at_first (λ k. flag_at runs.through k ≡ through_of only runs k) refl;
    before_top = at_first (λ k. run_at runs.before_tops k ≡ before_top_of only runs k) refl;
    to_bottom = at_first (λ k. run_at runs.to_bottoms k ≡ to_bottom_of only runs k) refl;
    top_run = at_first (λ k. run_at runs.top_runs k ≡ top_run_of only runs k) refl;
    bottom_run = at_first (λ k. run_at runs.bottom_runs k ≡ bottom_run_of only runs k) refl;
  }

  has_positions : HasPositions only layout
  has_positions = record {
    starts_length = refl;
    marks_length = refl;
    heights_length = refl;
    start = at_first (λ k. length_at layout.places.starts k ≡ start_of only layout k) refl;
    mark = at_first (λ k. length_at layout.places.marks k ≡ mark_of only layout k) refl;
    height = at_first (λ k. length_at layout.places.heights k ≡ height_of only layout k) (ap (border_height (block_with b blocks_inside) (pos 0)) (sym (nothing (pos 0 +ℤ b.inset.top.0))));
  }

  is_flow : IsContextFlow only flow
  is_flow = record {
    by_clearances = record {
      layout = record { has_runs = has_runs; has_positions = has_positions };
      extents_length = refl;
      clear_edges_length = refl;
      places_length = refl;
      float = λ k side behind lt float. absurd (omega (arith, behind, lt));
      solid = λ k behind lt solid. absurd (omega (arith, behind, lt));
      no_place_root = refl;
      no_place_else = λ k behind lt float solid. absurd (omega (arith, behind, lt));
      lines = at_first (λ k. is_lines (block_at only k).inside ≡ true → AreLinesAt only layout.places.marks flow.places k) (λ is. absurd cc);
      no_lines_else = at_first (λ k. is_lines (block_at only k).inside ≡ false → lines_at flow.places k ≡ no_lines) (λ is. refl);
      solid_extent = λ k behind lt solid. absurd (omega (arith, behind, lt));
      lines_extent = at_first
          (λ k. is_lines (block_at only k).inside ≡ true → length_at layout.extents.depths k ≡ (lines_at flow.places k).end.0 -ℤ (length_at layout.places.marks k +ℤ (block_at only k).edge_top.0)) (λ is. absurd cc);
      no_extent = λ k lt placed. at_first (λ k. length_at layout.extents.depths k ≡ pos 0) refl k lt;
      bottom = λ i f is clears. absurd cc;
    };
    root_clear = refl;
    float_clear = λ k side lt float. at_first (λ k. flag_at runs.clears k ≡ false) refl k lt;
    clearance = λ k behind lt float. absurd (omega (arith, behind, lt));
    no_edge = λ k lt clears. at_first (λ k. length_at layout.clear_edges k ≡ pos 0) refl k lt;
  }

  pub one_block_flow : IsFlowOf only only_places
  one_block_flow = record {
    flow = flow;
    is_flow = is_flow;
    places = record { count = refl; each = at_first (λ k. box_place_at only_places.boxes k ≡ border_box_in only flow k) refl; lines = refl };
  }
