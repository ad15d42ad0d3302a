-- Before the first box is placed.
use Rattle.std.proofs.Common.{◌≡◌, ℕ, ℤ, pos, List, [], length, replicate, All, refl, sym, ap, ◌∙◌, arith, subst}
use Rattle.std.proofs.lemmas.List.{length-replicate}
use Rattle.std.proofs.lemmas.List.Elements.{All-nil}
use Rattle.std.proofs.lemmas.Int.{ints}
use Rattle.lay_units.specs.declared.length.Unit.{Unit as Length}
use Rattle.lay_units.specs.Lengths.{no_length}
use Rattle.lay_floats.specs.declared.placed.Placed.{Placed}
use Rattle.lay_floats.specs.declared.requests.Place.{Place}
use Rattle.lay_floats.specs.Within.{BoxWithin}
use Rattle.lay_flow.specs.declared.blocks.flow_box.FlowBox.{FlowBox}
use Rattle.lay_flow.specs.declared.placement.Placing.{Placing as PlacingState}
use Rattle.lay_flow.specs.Blocks.Lengths.{length_at}
use Rattle.lay_flow.specs.Blocks.Weights.{weight}
use Rattle.lay_flow.specs.Pass.Bounds.{IsMarkNear, reach}
use Rattle.lay_flow.specs.Pass.Placed.{PlacesTo}
use Rattle.lay_flow.specs.Pass.Knows.{AreExtentsKept, HaveNoExtent}
use Rattle.lay_flow.specs.Pass.Known.{ArePlaced, ArePlacedOn, AreSpotColumns, GoesOn, placing_of}
use Rattle.lay_flow.proofs.PassEnds.{lengths_at}
use Rattle.lay_flow.proofs.PassSteps.{no_extents_kept}

-- nothing is kept of any box
pub record IsEmpty (now : PlacingState) (n : ℕ) : Type 0 where
  pub extents : now.extents.items ≡ replicate n no_length
  pub floats : now.floats ≡ []
  pub places : now.places.items ≡ []
  pub rows : now.rows.items ≡ []
  pub met : now.met.items ≡ []

pub mark_near_none : (w : ℕ) (v : ℤ) → v ≡ pos 0 → IsMarkNear w v
mark_near_none w v e = (omega (arith, ints, e), omega (arith, ints, e))

module _ (boxes : List FlowBox) (marks : List Length) (now : PlacingState) (is : IsEmpty now (length boxes)) where
  are_none : AreSpotColumns now []
  are_none = record { places_are = sym is.places; rows_are = sym is.rows; met_are = sym is.met }

  to_none : PlacesTo boxes marks (placing_of now []) 0
  to_none = record {
    places_length = refl;
    extents_length = ap (λ (xs : List Length). length xs) is.extents ∙ length-replicate (length boxes) no_length;
    floats_are = is.floats;
    within = let none : All (BoxWithin (reach (weight boxes 0))) [] = All-nil (BoxWithin (reach (weight boxes 0))) in subst (λ (fs : List Placed). All (BoxWithin (reach (weight boxes 0))) fs) (sym is.floats) none;
    near = λ k lt. absurd (omega (arith, lt));
    root = λ some. absurd (omega (arith, some));
    float = λ k side some lt e. absurd (omega (arith, lt));
    solid = λ k some lt e. absurd (omega (arith, lt));
    extent = λ k some lt e. absurd (omega (arith, lt));
    low = λ k some lt e. absurd (omega (arith, lt));
    other = λ k some lt e s. absurd (omega (arith, lt));
    lines = λ k lt e. absurd (omega (arith, lt));
    lines_extent = λ k lt e. absurd (omega (arith, lt));
    no_lines_else = λ k lt e. absurd (omega (arith, lt));
  }

  none : length now.places.items ≡ 0
  none = ap (λ (ps : List Place). length ps) is.places

  pub none_placed : ArePlaced boxes marks now (length now.places.items)
  none_placed = record { places = []; are = are_none; to = subst (PlacesTo boxes marks (placing_of now [])) (sym none) to_none }

  -- and then the first ones are
  pub none_placed_to : (then : PlacingState) → GoesOn boxes marks now then → ArePlacedOn boxes marks then []
  none_placed_to then goes = goes [] are_none (subst (PlacesTo boxes marks (placing_of now [])) (sym none) to_none)

  pub first_extents : (then : PlacingState) → AreExtentsKept boxes (length now.places.items) now.extents.items then.extents.items → HaveNoExtent boxes then.extents.items
  first_extents then kept = no_extents_kept boxes now.extents.items then.extents.items (length now.places.items) kept (λ j flow. ap (λ (xs : List Length). length_at xs j) is.extents ∙ lengths_at (length boxes) j)
