-- The pieces of a tree that solves a document are of its nodes: so are those of each formatting context, where those of the ones inside
-- it are.
use Rattle.std.proofs.Common.{◌≡◌, ℕ, zero, suc, ◌+◌, ◌<◌, ◌≤◌, Bool, true, false, if◌then◌else◌, List, [], ◌∷◌, length, slice_index, refl, sym, subst, ◌∙◌, arith, Option, None, Some, option_map}
use Rattle.std.proofs.lemmas.List.Concat.{flat_map-append}
use Rattle.lay_doc.specs.Document.{Document}
use Rattle.lay_hit.proofs.Cited.{in_order, length-parents}
use Rattle.lay_frag.specs.Pieces.{Context as PageContext, frags_of, page_pieces}
use Rattle.lay_contexts.specs.FormattingContexts.{AreFormattingContexts, FormattingContext, IsInside, boxes_in, formatting_context_at}
use Rattle.lay_contexts.specs.FormattingLaws.{FormattingContextsStandInOrder}
use Rattle.lay_placements.specs.declared.corner.Corner.{Corner}
use Rattle.lay_placements.specs.Placements.{Placement}
use Rattle.lay_positioned.specs.Absolute.{is_absolute}
use Rattle.lay_table_sizes.specs.TableSizesValue.{TableSizesValue}
use Rattle.lay_context.specs.declared.task.Phase.TheVariants.{Place}
use Rattle.lay_context.specs.declared.task.Task.{Task}
use Rattle.lay_context.specs.declared.value.Value.TheVariants as value
use Rattle.lay_context.specs.DocumentLayout.{flow_number, flow_numbers, inner_pieces, painted_of, pieces_in}
use Rattle.lay_context.specs.Local.{IsLocal, IsTaskDone, flow_input, place_as, stand_input, table_input}
use Rattle.lay_context.specs.Medium.{Medium}
use Rattle.lay_context.specs.PlacedContexts.{placed_in, placement_in}
use Rattle.lay_context.specs.Settings.{sizes_in}
use Rattle.lay_context.specs.Solves.{listed_unless_anonymous, medium_of, page_context, page_contexts}
use Rattle.lay_context.specs.Workings.{Workings}
use Rattle.lay_hit.specs.Laws.{IsPieceOf}
use Rattle.lay_hit.specs.Painted.Laws.{SolvedPiecesAreOfNodes}
use Rattle.lay_hit.proofs.PaintedLemmas.Each.{Each, each-append, each-get, each-map, each-or}
use Rattle.lay_hit.proofs.PaintedLemmas.FlowPieces.{AreInner, Is, at-place, flow-pieces}
use Rattle.lay_hit.proofs.PaintedLemmas.FormattingBoxes.{boxes-of-formatting-context}
use Rattle.lay_hit.proofs.PaintedLemmas.NodeBoxes.{IsBoxOf}
use Rattle.lay_hit.proofs.PaintedLemmas.TablePieces.{table-pieces}

-- a fact of each number in a list, place by place
from-places : (P : ℕ → Type 0) (xs : List ℕ) → ((k : ℕ) → k < length xs → P (slice_index xs k)) → Each P xs
from-places P [] each = tt
from-places P (x ∷ xs) each = (each 0 (omega arith), from-places P xs (λ k lt. each (suc k) (omega (arith, lt))))

module _ (d : Document) (medium : Medium) (contexts : List FormattingContext) (are : AreFormattingContexts contexts) (w : Workings)
    (done : (task : Task) → task.context < length contexts → IsTaskDone medium contexts w task)
    (boxes : (i : ℕ) → i < length contexts → Each (IsBoxOf d.nodes) (boxes_in contexts i)) where
  abbrev IsGood : ℕ → Type 0
  IsGood i = Each (Is d) (placement_in w.places i).pieces

  -- what an inner one gives, which stands behind
  given : (anonymous : Bool) (p : Placement) → Each (Is d) p.pieces → Each (Is d) (painted_of anonymous p)
  given true p h = h
  given false p h = tt

  inside : (i j : ℕ) → i < length contexts → ((m : ℕ) → i < m → m < length contexts → IsGood m) → (k : ℕ) → k < length (formatting_context_at contexts i).inner
      → slice_index (formatting_context_at contexts i).inner k ≡ j → Each (Is d) (pieces_in contexts w.places j)
  inside i zero lt behind k within e = tt
  inside i (suc j) lt behind k within e =
      let is : IsInside contexts i (suc j) = record { box = k; within = within; number = e; some = omega arith } in
      given (formatting_context_at contexts (suc j)).anonymous (placement_in w.places (suc j)) (behind (suc j) (are.behind i (suc j) lt is) (are.within i (suc j) lt is))

  flowing : (j : ℕ) (b : Bool) → Each (Is d) (pieces_in contexts w.places j) → Each (Is d) (pieces_in contexts w.places (if b then 0 else j))
  flowing j true h = tt
  flowing j false h = h

  inner : (i : ℕ) → i < length contexts → ((m : ℕ) → i < m → m < length contexts → IsGood m) → AreInner d (inner_pieces contexts w.places i)
  inner i lt behind k =
      let numbers : List ℕ = (formatting_context_at contexts i).inner in
      each-or (Each (Is d)) (inner_pieces contexts w.places i)
      (each-map (Each (Is d)) (pieces_in contexts w.places) (flow_numbers contexts i)
      (each-map (λ j. Each (Is d) (pieces_in contexts w.places j)) (flow_number contexts) numbers
      (from-places (λ j. Each (Is d) (pieces_in contexts w.places (flow_number contexts j))) numbers
      (λ n within. flowing (slice_index numbers n) (is_absolute contexts (slice_index numbers n)) (inside i (slice_index numbers n) lt behind n within refl)))))
      k [] tt

  by-table : (i : ℕ) → i < length contexts → ((m : ℕ) → i < m → m < length contexts → IsGood m) → (o : Option TableSizesValue)
      → IsLocal (place_as (flow_input medium contexts w i) (option_map (table_input contexts w i) o) (stand_input medium contexts w i)) (value.Place (placed_in w.places i)) → IsGood i
  by-table i lt behind None h = flow-pieces d (flow_input medium contexts w i) (placement_in w.places i) h.1 (boxes i lt) (inner i lt behind)
  by-table i lt behind (Some t) h = table-pieces d (table_input contexts w i t) (placement_in w.places i) h.0 (boxes i lt) (inner i lt behind)

  good : (fuel i : ℕ) → i < length contexts → length contexts ≤ fuel + i → IsGood i
  good zero i lt le = absurd (omega (arith, lt, le))
  good (suc fuel) i lt le =
      by-table i lt (λ m less within. good fuel m within (omega (arith, le, less))) (sizes_in w.sizes i).table (done (record { context = i; phase = Place }) lt)

  -- the pieces of a context of the tree on the page, if it is one
  on-page : (anonymous : Bool) (c : PageContext) → Each (Is d) c.pieces → Each (Is d) (frags_of (listed_unless_anonymous anonymous c))
  on-page true c h = tt
  on-page false c h = each-append (Is d) (page_pieces c) [] (at-place d c.rect c.shift c.pieces h) tt

  up-to : (corners : List Corner) (n : ℕ) → n ≤ length contexts → Each (Is d) (frags_of (page_contexts contexts w corners n))
  up-to corners zero le = tt
  up-to corners (suc n) le =
      let before : List PageContext = page_contexts contexts w corners n in
      let last : List PageContext = listed_unless_anonymous (formatting_context_at contexts n).anonymous (page_context contexts w corners n) in
      subst (Each (Is d)) (sym (flat_map-append page_pieces before last))
      (each-append (Is d) (frags_of before) (frags_of last) (up-to corners n (omega (arith, le)))
      (on-page (formatting_context_at contexts n).anonymous (page_context contexts w corners n) (good (length contexts) n (omega (arith, le)) (omega arith))))

pub solved_pieces_are_of_nodes_lem : FormattingContextsStandInOrder → SolvedPiecesAreOfNodes
solved_pieces_are_of_nodes_lem stand_in_order d face tree doc s k lt =
    let counted : length s.styles ≡ length d.nodes = s.has_styles.length_is ∙ length-parents d.nodes in
    let all : List FormattingContext = s.formatting_contexts in
    let c = s.solves_contexts in
    let boxes = boxes-of-formatting-context d s.styles doc counted s.contexts s.are_contexts all s.are_formatting_contexts in
    let pieces = up-to d (medium_of d face) all (in_order stand_in_order d face tree doc s) c.workings c.done boxes c.assembled.corners (length all) (omega arith) in
    each-get (IsPieceOf d) (frags_of tree) (subst (λ (t : List PageContext). Each (Is d) (frags_of t)) (sym c.assembled.tree_is) pieces) k lt
