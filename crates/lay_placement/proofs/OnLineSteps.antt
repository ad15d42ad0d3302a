-- A column of what stands on lines that grows.
use Rattle.std.proofs.Common.{◌≡◌, ℕ, zero, suc, ◌+◌, ◌<◌, false, List, [], ◌∷◌, ◌++◌, length, refl, sym, ◌∙◌, arith, inl, inr}
use Rattle.std.proofs.lemmas.Bool.{cases_lt}
use Rattle.std.proofs.lemmas.Grind.{elements}
use Rattle.lay_inlines.specs.declared.line_piece.LinePiece.{LinePiece}
use Rattle.lay_flow.specs.declared.blocks.flow_box.FlowKind.{FlowKind}
use Rattle.lay_flow.specs.declared.blocks.flow_box.FlowKind.TheVariants.{Block as block, Lines as lines, Solid as solid, Float as float, LineFloat as line_float, Inline as inline}
use Rattle.lay_flow.specs.Blocks.Boxes.{box_at}
use Rattle.lay_flow.specs.Blocks.FlowPlaces.{FlowPlacesValue}
use Rattle.lay_line_measures.specs.BoxMeasuresValue.{BoxMeasuresValue}
use Rattle.lay_flow_boxes.specs.PlaceInputs.{PlaceInput}
use Rattle.lay_placement.specs.ContextPlaces.{ContextPlaces, measures_of}
use Rattle.lay_placement.specs.OnLines.{AreOnLines, holds_lines, on_lines_at, pieces_on_lines}

read_before : (ss : List (List LinePiece)) (s : List LinePiece) (k : ℕ) → k < length ss → on_lines_at (ss ++ s ∷ []) k ≡ on_lines_at ss k
read_before ss s k lt = grind (arith, elements)

read_last : (ss : List (List LinePiece)) (s : List LinePiece) (k : ℕ) → k ≡ length ss → on_lines_at (ss ++ s ∷ []) k ≡ s
read_last ss s k is = grind (arith, elements)

-- with one more the places before n + 1 are as they have to be
pub one_more : (of : ℕ → List LinePiece) (ss : List (List LinePiece)) (n : ℕ) (s : List LinePiece) → length ss ≡ n → ((k : ℕ) → k < n → on_lines_at ss k ≡ of k) → s ≡ of n → (k : ℕ) → k < n + 1 → on_lines_at (ss ++ s ∷ []) k ≡ of k
one_more of ss n s counted so_far is k lt = elim (cases_lt k n) [
  | inl low ↦ read_before ss s k (omega (arith, counted)) ∙ so_far k low
  | inr high ↦ (let q : k ≡ n = omega arith in read_last ss s k (q ∙ sym counted) ∙ rw q is)
]

-- a box that holds no lines has nothing on them
none_of_kind : (m : BoxMeasuresValue) (places : FlowPlacesValue) (k : ℕ) (kind : FlowKind) → holds_lines kind ≡ false → [] ≡ pieces_on_lines m places k kind
none_of_kind m places k (block b) none = refl
none_of_kind m places k (lines l) none = absurd cc
none_of_kind m places k (solid b) none = refl
none_of_kind m places k (float b) none = refl
none_of_kind m places k (line_float b) none = refl
none_of_kind m places k inline none = refl

none_at : (k : ℕ) → on_lines_at [] k ≡ []
none_at zero = refl
none_at (suc k) = refl

pub none_on_lines : (i : PlaceInput) (p : ContextPlaces) → length p.shape.flow_boxes ≡ length i.boxes
    → ((k : ℕ) → k < length p.shape.flow_boxes → holds_lines (box_at p.shape.flow_boxes k).kind ≡ false) → AreOnLines i p []
none_on_lines i p count none = record {
  each = λ k lt. none_at k ∙ none_of_kind (measures_of i p) p.places k (box_at p.shape.flow_boxes k).kind (none k (omega (arith, lt, count)));
}
