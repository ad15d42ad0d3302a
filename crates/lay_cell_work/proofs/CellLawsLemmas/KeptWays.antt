-- Two ways out whose cells have the same keys are the same, step by step: contexts of the same keys are the same ones, so their boxes lead
-- to the same holder, or on to the same place in the contexts around.
use Rattle.std.proofs.Common.{◌≡◌, ◌<◌, ◌≤◌, ℕ, zero, suc, Bool, List, [], ◌∷◌, length, map, flat_map, slice_index_or, Option, None, Some, refl, ap, sym, subst, ◌∙◌, arith}
use Rattle.lay_box_tree.specs.declared.box_tree.BoxNode.{BoxNode}
use Rattle.lay_cells.specs.Shapes.{IsIn}
use Rattle.lay_contexts.specs.Contexts.{Context, boxes_in, context_at}
use Rattle.lay_positioned.specs.Holders.{IsHolderFor, holder_for}
use Rattle.lay_cell_work.proofs.Cited.{holder_is, in_here, in_there}
use Rattle.lay_context.specs.declared.task.Phase.TheVariants.{Size, Place}
use Rattle.lay_shape.specs.declared.cell_key.CellKey.{CellKey}
use Rattle.lay_shape.specs.Dependencies.{in_phase, on_way}
use Rattle.lay_shape.specs.Keys.{key_of as key_of_cell, node_of}
use Rattle.lay_shape.specs.Ways.{outside_unless_held, way_from}
use Rattle.lay_cell_work.specs.CellLaws.SameContexts.{IsLaidSame, IsSameContext, IsSameWay, IsTable, Table, further, held, initial}
use Rattle.lay_cell_work.proofs.CellLawsLemmas.InputForms.{table_are}
use Rattle.lay_cell_work.proofs.CellLawsLemmas.OuterBoxes.{outer_boxes_same}
use Rattle.lay_cell_work.proofs.CellLawsLemmas.SameWays.{positive_other}
use Rattle.lay_cell_work.proofs.CellLawsLemmas.NeedLists.{tails}

-- the keys of the cells of contexts on a way
abbrev pub way_keys : List Context → List ℕ → List CellKey
way_keys contexts ws = map (key_of_cell contexts) (flat_map on_way ws)

-- the first one is that where the way begins
begins : (contexts : List Context) (fixed : Bool) (d : CellKey) (t i k : ℕ) → slice_index_or (way_keys contexts (way_from t fixed contexts i k)) 0 d ≡ key_of_cell contexts (in_phase Size i)
begins contexts fixed d zero i k = refl
begins contexts fixed d (suc t) zero k = refl
begins contexts fixed d (suc t) (suc i) k = refl

begins_in : (contexts : List Context) (fixed : Bool) (t i k : ℕ) → IsIn (way_from t fixed contexts i k) i
begins_in contexts fixed zero i k = in_here i []
begins_in contexts fixed (suc t) zero k = in_here 0 []
begins_in contexts fixed (suc t) (suc i) k =
    in_here (suc i) (outside_unless_held (holder_for fixed (boxes_in contexts (suc i)) k) (way_from t fixed contexts (context_at contexts (suc i)).outer (context_at contexts (suc i)).outer_box))

-- and it goes on where no holder is found
goes_on : (contexts : List Context) (fixed : Bool) (t i k : ℕ) → holder_for fixed (boxes_in contexts (suc i)) k ≡ None
    → way_from (suc t) fixed contexts (suc i) k ≡ suc i ∷ way_from t fixed contexts (context_at contexts (suc i)).outer (context_at contexts (suc i)).outer_box
goes_on contexts fixed t i k none =
    ap (λ (o : Option ℕ). suc i ∷ outside_unless_held o (way_from t fixed contexts (context_at contexts (suc i)).outer (context_at contexts (suc i)).outer_box)) none

-- contexts of one node, of these in a and any in b, are laid out the same
abbrev pub AreLaidSame : (a b : Table) → List ℕ → Type 0
AreLaidSame a b ws = (x y : ℕ) → x < length a.contexts → y < length b.contexts → IsIn ws x → node_of a.contexts x ≡ node_of b.contexts y → IsLaidSame a b x y

module _ (a b : Table) (is_a : IsTable a) (is_b : IsTable b) (fixed : Bool) where
  abbrev A : List Context
  A = a.contexts

  abbrev B : List Context
  B = b.contexts

  abbrev way_a : (t i k : ℕ) → List ℕ
  way_a t i k = way_from t fixed A i k

  abbrev way_b : (t i k : ℕ) → List ℕ
  way_b t i k = way_from t fixed B i k

  abbrev outer_a : ℕ → ℕ
  outer_a c = (context_at A c).outer

  abbrev outer_b : ℕ → ℕ
  outer_b c = (context_at B c).outer

  abbrev box_a : ℕ → ℕ
  box_a c = (context_at A c).outer_box

  abbrev box_b : ℕ → ℕ
  box_b c = (context_at B c).outer_box

  -- the contexts around c and e are, and c and e stand at the same box there
  record AreAround (c e : ℕ) : Type 0 where
    laid : IsLaidSame a b (outer_a c) (outer_b e)
    box : box_a c ≡ box_b e

  around : (t u c e : ℕ) → 0 < c → IsSameContext a b c e → way_keys A (way_a t (outer_a c) (box_a c)) ≡ way_keys B (way_b u (outer_b e) (box_b e)) → AreLaidSame a b (way_a t (outer_a c) (box_a c)) → AreAround c e
  around t u c e some same keys laid =
      let some_b : 0 < e = positive_other e (λ z. (let y = same.root.1 z in omega (arith, some, y))) in
      let out_a = (table_are a is_a).outer c some same.within in
      let out_b = (table_are b is_b).outer e some_b same.there in
      let lt_c = same.within in
      let lt_e = same.there in
      let none : CellKey = key_of_cell A (in_phase Size (outer_a c)) in
      let key : key_of_cell A (in_phase Size (outer_a c)) ≡ key_of_cell B (in_phase Size (outer_b e)) =
      sym (begins A fixed none t (outer_a c) (box_a c)) ∙ ap (λ (l : List CellKey). slice_index_or l 0 none) keys ∙ begins B fixed none u (outer_b e) (box_b e) in
      let both : IsLaidSame a b (outer_a c) (outer_b e) =
      laid (outer_a c) (outer_b e) (omega (arith, out_a, lt_c)) (omega (arith, out_b, lt_e)) (begins_in A fixed t (outer_a c) (box_a c)) (ap (λ (k : CellKey). k.node) key) in
      record { laid = both; box = outer_boxes_same a b is_a is_b c e some some_b same both.own }

  -- one step further out
  further_out : (t u p q k : ℕ) → suc p ≤ suc t → suc q ≤ suc u → IsLaidSame a b (suc p) (suc q) → holder_for fixed (boxes_in A (suc p)) k ≡ None
      → way_keys A (way_a (suc t) (suc p) k) ≡ way_keys B (way_b (suc u) (suc q) k) → AreLaidSame a b (way_a (suc t) (suc p) k)
      → (outer_a (suc p) ≤ t → outer_b (suc q) ≤ u → box_a (suc p) < length (boxes_in A (outer_a (suc p))) → IsLaidSame a b (outer_a (suc p)) (outer_b (suc q))
      → way_keys A (way_a t (outer_a (suc p)) (box_a (suc p))) ≡ way_keys B (way_b u (outer_b (suc q)) (box_a (suc p))) → AreLaidSame a b (way_a t (outer_a (suc p)) (box_a (suc p)))
      → IsSameWay fixed a b (outer_a (suc p)) (outer_b (suc q)) (box_a (suc p)))
      → IsSameWay fixed a b (suc p) (suc q) k
  further_out t u p q k le_p le_q l none keys laid go =
      let rest_a : List ℕ = way_a t (outer_a (suc p)) (box_a (suc p)) in
      let rest_b : List ℕ = way_b u (outer_b (suc q)) (box_b (suc q)) in
      let is_on_a : way_a (suc t) (suc p) k ≡ suc p ∷ rest_a = goes_on A fixed t p k none in
      let none_b : holder_for fixed (boxes_in B (suc q)) k ≡ None = ap (λ (boxes : List BoxNode). holder_for fixed boxes k) (sym l.own.boxes) ∙ none in
      let is_on_b : way_b (suc u) (suc q) k ≡ suc q ∷ rest_b = goes_on B fixed u q k none_b in
      let all : way_keys A (suc p ∷ rest_a) ≡ way_keys B (suc q ∷ rest_b) = ap (way_keys A) (sym is_on_a) ∙ keys ∙ ap (way_keys B) is_on_b in
      let places : key_of_cell A (in_phase Place (suc p)) ∷ way_keys A rest_a ≡ key_of_cell B (in_phase Place (suc q)) ∷ way_keys B rest_b =
      tails (key_of_cell A (in_phase Size (suc p))) (key_of_cell B (in_phase Size (suc q)))
      (key_of_cell A (in_phase Place (suc p)) ∷ way_keys A rest_a) (key_of_cell B (in_phase Place (suc q)) ∷ way_keys B rest_b) all in
      let rest : way_keys A rest_a ≡ way_keys B rest_b = tails (key_of_cell A (in_phase Place (suc p))) (key_of_cell B (in_phase Place (suc q))) (way_keys A rest_a) (way_keys B rest_b) places in
      let rest_laid : AreLaidSame a b rest_a = λ x y lt_x lt_y has node. laid x y lt_x lt_y (subst (λ (ws : List ℕ). IsIn ws x) (sym is_on_a) (in_there (suc p) x rest_a has)) node in
      let out = around t u (suc p) (suc q) (omega arith) l.own rest rest_laid in
      let low_a = (table_are a is_a).outer (suc p) (omega arith) l.own.within in
      let low_b = (table_are b is_b).outer (suc q) (omega arith) l.own.there in
      let place = (table_are a is_a).outer_box (suc p) (omega arith) l.own.within in
      further (suc p) (suc q) k (omega arith) l
      (go (omega (arith, le_p, low_a)) (omega (arith, le_q, low_b)) place out.laid (rest ∙ ap (λ (m : ℕ). way_keys B (way_b u (outer_b (suc q)) m)) (sym out.box)) rest_laid)

  -- where the box has a holder in its context the way ends there
  by_holder : (p q k : ℕ) (o : Option ℕ) → holder_for fixed (boxes_in A p) k ≡ o → k < length (boxes_in A p) → IsLaidSame a b p q
      → (o ≡ None → IsSameWay fixed a b p q k) → IsSameWay fixed a b p q k
  by_holder p q k None e inside l go = go refl
  by_holder p q k (Some holder) e inside l go =
      held p q k holder l (subst (λ (o : Option ℕ). IsHolderFor fixed (boxes_in A p) k o) e (holder_is (boxes_in A p) ((table_are a is_a).boxes p l.own.within).tree fixed k inside))

  same_way : (t u p q k : ℕ) → p ≤ t → q ≤ u → k < length (boxes_in A p) → IsLaidSame a b p q → way_keys A (way_a t p k) ≡ way_keys B (way_b u q k) → AreLaidSame a b (way_a t p k) → IsSameWay fixed a b p q k
  same_way t u zero zero k le_p le_q inside l keys laid = initial k l
  same_way t u zero (suc q) k le_p le_q inside l keys laid = absurd (let z = l.own.root.0 refl in omega (arith, z))
  same_way t u (suc p) zero k le_p le_q inside l keys laid = absurd (let z = l.own.root.1 refl in omega (arith, z))
  same_way zero u (suc p) (suc q) k le_p le_q inside l keys laid = absurd (omega (arith, le_p))
  same_way (suc t) zero (suc p) (suc q) k le_p le_q inside l keys laid = absurd (omega (arith, le_q))
  same_way (suc t) (suc u) (suc p) (suc q) k le_p le_q inside l keys laid =
      by_holder (suc p) (suc q) k (holder_for fixed (boxes_in A (suc p)) k) refl inside l
      (λ none. further_out t u p q k le_p le_q l none keys laid
      (λ le_po le_qo place out rest rest_laid. same_way t u (outer_a (suc p)) (outer_b (suc q)) (box_a (suc p)) le_po le_qo place out rest rest_laid))

  -- the ways out of a context and its counterpart
  pub same_out : (t u c e : ℕ) → 0 < c → IsSameContext a b c e → outer_a c ≤ t → outer_b e ≤ u
      → way_keys A (way_a t (outer_a c) (box_a c)) ≡ way_keys B (way_b u (outer_b e) (box_b e)) → AreLaidSame a b (way_a t (outer_a c) (box_a c))
      → IsSameWay fixed a b (outer_a c) (outer_b e) (box_a c)
  same_out t u c e some same le_a le_b keys laid =
      let out = around t u c e some same keys laid in
      let place = (table_are a is_a).outer_box c some same.within in
      same_way t u (outer_a c) (outer_b e) (box_a c) le_a le_b place out.laid (keys ∙ ap (λ (m : ℕ). way_keys B (way_b u (outer_b e) m)) (sym out.box)) laid
