-- The seven steps of painting are one walk: of each node its own pieces, and then what it paints.
use Rattle.std.proofs.Common.{◌≡◌, ℕ, zero, suc, ◌+◌, ◌-◌, ◌<◌, ◌≤◌, Bool, true, false, ◌&&◌, ◌||◌, List, [], ◌∷◌, ◌++◌, pos, refl, sym, ap, ◌∙◌, subst, arith, if◌then◌else◌}
use Rattle.std.proofs.lemmas.List.{append-nil}
use Rattle.std.proofs.lemmas.Bool.{eqb-true, ne_eqb, and_parts}
use Rattle.std.proofs.lemmas.Grind.{flat_map-append}
use Rattle.std.specs.Prelude.{int_lt, int_le, ◌==◌}
use Rattle.std.specs.List.{filter, flat_map, AllByRecursion}
use Rattle.lay_frag.specs.declared.frag.Frag.{Frag}
use Rattle.lay_hit.specs.declared.kinds.PaintKind.{PaintKind}
use Rattle.lay_hit.specs.declared.kinds.PaintKind.TheVariants.{Stacking, Layered, Float, Atomic, Block, Inline}
use Rattle.lay_hit.specs.PaintKinds.{is_stacking, is_layered, is_float_paint, is_atomic_paint, is_block_paint, is_inline_paint, forms_group}
use Rattle.lay_hit.specs.Sorting.{in_order}
use Rattle.lay_hit.specs.Pages.{Page}
use Rattle.lay_hit.specs.Painting.{group, owner, others, by_level, is_negative_of, is_block_of, is_float_of, is_inline_of, is_level_zero, is_zero_of, is_positive_of, negative_layers, block_boxes, floats, inline_content, zero_layers, positive_layers, paint}
use Rattle.lay_hit.specs.Ranks.{painter_at}
use Rattle.lay_hit.specs.Wholes.{own_pieces, is_painted_under, painted_by, whole}
use Rattle.lay_hit.specs.OrderedPages.{IsOrdered}
use Rattle.lay_hit.proofs.Buckets.{in_step}
use Rattle.lay_hit.proofs.Rising.{all-in_order}
use Rattle.lay_hit.proofs.PaintTests.{and_none, stacking_forms}
use Rattle.lay_hit.proofs.PaintedBy.{filter-none, all-range, all-each, all-passing, step, levels, mine, owner-stacks, group-before, owner-before, painter-forms, painter-before, painted-steps, negatives, positives, blocks, floating, inlines, zeros}

pub flat_map-same : {X Y : Type 0} (f g : X → List Y) (xs : List X) → AllByRecursion (λ x. f x ≡ g x) xs → flat_map f xs ≡ flat_map g xs
flat_map-same f g [] all = refl
flat_map-same {X} {Y} f g (x ∷ xs) all = ap (λ (ys : List Y). ys ++ flat_map f xs) all.0 ∙ ap (λ (ys : List Y). g x ++ ys) (flat_map-same f g xs all.1)

module _ (p : Page) (o : IsOrdered p) where
  -- a place of another node than the root
  abbrev pub IsOther : ℕ → Type 0
  IsOther k = (0 < k) × (k < p.count)

  pub all-others : AllByRecursion IsOther (others p)
  all-others = all-range IsOther 1 (p.count - 1) (λ k low high. (omega arith, omega (arith, high, low)))

  all-of : (P : ℕ → Type 0) (test : ℕ → Bool) → ((k : ℕ) → IsOther k → test k ≡ true → P k) → AllByRecursion P (filter test (others p))
  all-of P test each = all-passing P IsOther test (others p) all-others each

  -- a node that isn't painted as a whole paints no other
  pub paints_none : (g : ℕ) → forms_group (p.kind g) ≡ false → painted_by p g ≡ []
  paints_none g plain = ap (in_order (is_painted_under p)) (filter-none (λ k. painter_at p k == g) (others p) (all-each (λ k. (painter_at p k == g) ≡ false) (others p)
      (λ k. ne_eqb (painter_at p k) g (λ e. let h = painter-forms p o k in let f : forms_group (p.kind g) ≡ true = subst (λ (j : ℕ). forms_group (p.kind j) ≡ true) e h in cc))))

  leaf : (turns k : ℕ) → 0 < turns → forms_group (p.kind k) ≡ false → whole p turns k ≡ own_pieces p k
  leaf zero k some plain = absurd (omega arith)
  leaf (suc turns) k some plain = ap (λ (ks : List ℕ). own_pieces p k ++ flat_map (whole p turns) ks) (paints_none k plain) ∙ append-nil (own_pieces p k)

  boxes_of : (k : ℕ) → is_inline_paint (p.kind k) ≡ false → own_pieces p k ≡ p.boxes k
  boxes_of k e = ap (λ (b : Bool). if b then p.boxes_and_texts k else p.boxes k) e

  texts_of : (k : ℕ) → is_inline_paint (p.kind k) ≡ true → own_pieces p k ≡ p.boxes_and_texts k
  texts_of k e = ap (λ (b : Bool). if b then p.boxes_and_texts k else p.boxes k) e

  group_plain : (x : PaintKind) → forms_group x ≡ true → is_inline_paint x ≡ false
  group_plain Stacking e = refl
  group_plain Layered e = refl
  group_plain Float e = refl
  group_plain Atomic e = refl
  group_plain Block e = refl
  group_plain Inline e = absurd cc

  block_plain : (x : PaintKind) → is_block_paint x ≡ true → (forms_group x ≡ false) × (is_inline_paint x ≡ false)
  block_plain Stacking e = absurd cc
  block_plain Layered e = absurd cc
  block_plain Float e = absurd cc
  block_plain Atomic e = absurd cc
  block_plain Block e = (refl, refl)
  block_plain Inline e = absurd cc

  float_forms : (x : PaintKind) → is_float_paint x ≡ true → forms_group x ≡ true
  float_forms Stacking e = refl
  float_forms Layered e = refl
  float_forms Float e = refl
  float_forms Atomic e = refl
  float_forms Block e = absurd cc
  float_forms Inline e = absurd cc

  atomic_forms : (x : PaintKind) → is_atomic_paint x ≡ true → forms_group x ≡ true
  atomic_forms Stacking e = refl
  atomic_forms Layered e = refl
  atomic_forms Float e = refl
  atomic_forms Atomic e = refl
  atomic_forms Block e = absurd cc
  atomic_forms Inline e = absurd cc

  inline_plain : (x : PaintKind) → is_atomic_paint x ≡ false → (is_inline_paint x || is_atomic_paint x) ≡ true → (forms_group x ≡ false) × (is_inline_paint x ≡ true)
  inline_plain Stacking e f = absurd cc
  inline_plain Layered e f = absurd cc
  inline_plain Float e f = absurd cc
  inline_plain Atomic e f = absurd cc
  inline_plain Block e f = absurd cc
  inline_plain Inline e f = (refl, refl)

  zero_forms : (k : ℕ) (x : PaintKind) → (is_layered x || (is_stacking x && (int_le (pos 0) (p.level k) && int_le (p.level k) (pos 0)))) ≡ true → forms_group x ≡ true
  zero_forms k Stacking e = refl
  zero_forms k Layered e = refl
  zero_forms k Float e = refl
  zero_forms k Atomic e = refl
  zero_forms k Block e = absurd cc
  zero_forms k Inline e = absurd cc

  -- One turn, where each node that is painted as a whole and stands behind g is painted so.
  module _ (turns g : ℕ) (some : (k : ℕ) → g < k → k < p.count → 0 < turns) (inner : (k : ℕ) → g < k → k < p.count → forms_group (p.kind k) ≡ true → paint p turns k ≡ whole p turns k) where
    of_owner : (k : ℕ) → IsOther k → (owner p k == g) ≡ true → forms_group (p.kind k) ≡ true → paint p turns k ≡ whole p turns k
    of_owner k other is forms = let e = eqb-true (owner p k) g is in let b = owner-before p o k other.0 in inner k (omega (arith, e, b)) other.1 forms

    of_group : (k : ℕ) → IsOther k → (group p k == g) ≡ true → forms_group (p.kind k) ≡ true → paint p turns k ≡ whole p turns k
    of_group k other is forms = let e = eqb-true (group p k) g is in let b = group-before p o k other.0 in inner k (omega (arith, e, b)) other.1 forms

    turns_left : (k : ℕ) → IsOther k → (group p k == g) ≡ true → 0 < turns
    turns_left k other is = let e = eqb-true (group p k) g is in let b = group-before p o k other.0 in some k (omega (arith, e, b)) other.1

    -- a node that makes no stacking context owns none
    owns_none : (test : ℕ → Bool) → ((k : ℕ) → (owner p k == g) ≡ false → test k ≡ false) → is_stacking (p.kind g) ≡ false → filter test (others p) ≡ []
    owns_none test passes plain = filter-none test (others p) (all-each (λ k. test k ≡ false) (others p)
        (λ k. passes k (ne_eqb (owner p k) g (λ e. let h = owner-stacks p o k in let f : is_stacking (p.kind g) ≡ true = subst (λ (j : ℕ). is_stacking (p.kind j) ≡ true) e h in cc))))

    guarded : (ks : List ℕ) → (is_stacking (p.kind g) ≡ false → ks ≡ []) → (if is_stacking (p.kind g) then flat_map (paint p turns) ks else []) ≡ flat_map (paint p turns) ks
    guarded ks none = by_test (is_stacking (p.kind g)) none
      where
        by_test : (b : Bool) → (b ≡ false → ks ≡ []) → (if b then flat_map (paint p turns) ks else []) ≡ flat_map (paint p turns) ks
        by_test true h = refl
        by_test false h = sym (ap (flat_map (paint p turns)) (h refl))

    same_nodes : (ks : List ℕ) → AllByRecursion (λ k. paint p turns k ≡ whole p turns k) ks → flat_map (paint p turns) ks ≡ flat_map (whole p turns) ks
    same_nodes ks all = flat_map-same (paint p turns) (whole p turns) ks all

    negative_part : negative_layers p (paint p turns) g ≡ flat_map (whole p turns) (in_order (levels p o) (filter (in_step (step p o) (levels p o) 2) (mine p o g)))
    negative_part =
        guarded (by_level p (filter (is_negative_of p g) (others p)))
        (λ plain. ap (by_level p) (owns_none (is_negative_of p g) (λ k e. ap (λ (b : Bool). is_stacking (p.kind k) && (int_lt (p.level k) (pos 0) && b)) e ∙ ap (λ (b : Bool). is_stacking (p.kind k) && b) (and_none (int_lt (p.level k) (pos 0))) ∙ and_none (is_stacking (p.kind k))) plain))
        ∙ same_nodes (by_level p (filter (is_negative_of p g) (others p)))
        (all-in_order (λ j k. int_le (p.level j) (p.level k)) (λ k. paint p turns k ≡ whole p turns k) (filter (is_negative_of p g) (others p))
        (all-of (λ k. paint p turns k ≡ whole p turns k) (is_negative_of p g)
        (λ k other e. let a = and_parts (is_stacking (p.kind k)) (int_lt (p.level k) (pos 0) && (owner p k == g)) e in of_owner k other (and_parts (int_lt (p.level k) (pos 0)) (owner p k == g) a.1).1 (stacking_forms (p.kind k) a.0))))
        ∙ ap (flat_map (whole p turns)) (sym (negatives p o g))

    positive_part : positive_layers p (paint p turns) g ≡ flat_map (whole p turns) (in_order (levels p o) (filter (in_step (step p o) (levels p o) 7) (mine p o g)))
    positive_part =
        guarded (by_level p (filter (is_positive_of p g) (others p)))
        (λ plain. ap (by_level p) (owns_none (is_positive_of p g) (λ k e. ap (λ (b : Bool). is_stacking (p.kind k) && (int_lt (pos 0) (p.level k) && b)) e ∙ ap (λ (b : Bool). is_stacking (p.kind k) && b) (and_none (int_lt (pos 0) (p.level k))) ∙ and_none (is_stacking (p.kind k))) plain))
        ∙ same_nodes (by_level p (filter (is_positive_of p g) (others p)))
        (all-in_order (λ j k. int_le (p.level j) (p.level k)) (λ k. paint p turns k ≡ whole p turns k) (filter (is_positive_of p g) (others p))
        (all-of (λ k. paint p turns k ≡ whole p turns k) (is_positive_of p g)
        (λ k other e. let a = and_parts (is_stacking (p.kind k)) (int_lt (pos 0) (p.level k) && (owner p k == g)) e in of_owner k other (and_parts (int_lt (pos 0) (p.level k)) (owner p k == g) a.1).1 (stacking_forms (p.kind k) a.0))))
        ∙ ap (flat_map (whole p turns)) (sym (positives p o g))

    zero_part : zero_layers p (paint p turns) g ≡ flat_map (whole p turns) (in_order (levels p o) (filter (in_step (step p o) (levels p o) 6) (mine p o g)))
    zero_part =
        guarded (filter (is_zero_of p g) (others p))
        (λ plain. owns_none (is_zero_of p g) (λ k e. ap (λ (b : Bool). is_level_zero p k && b) e ∙ and_none (is_level_zero p k)) plain)
        ∙ same_nodes (filter (is_zero_of p g) (others p))
        (all-of (λ k. paint p turns k ≡ whole p turns k) (is_zero_of p g)
        (λ k other e. let a = and_parts (is_level_zero p k) (owner p k == g) e in of_owner k other a.1 (zero_forms k (p.kind k) a.0)))
        ∙ ap (flat_map (whole p turns)) (sym (zeros p o g))

    float_part : floats p (paint p turns) g ≡ flat_map (whole p turns) (in_order (levels p o) (filter (in_step (step p o) (levels p o) 4) (mine p o g)))
    float_part =
        same_nodes (filter (is_float_of p g) (others p))
        (all-of (λ k. paint p turns k ≡ whole p turns k) (is_float_of p g)
        (λ k other e. let a = and_parts (is_float_paint (p.kind k)) (group p k == g) e in of_group k other a.1 (float_forms (p.kind k) a.0)))
        ∙ ap (flat_map (whole p turns)) (sym (floating p o g))

    block_part : block_boxes p g ≡ flat_map (whole p turns) (in_order (levels p o) (filter (in_step (step p o) (levels p o) 3) (mine p o g)))
    block_part =
        flat_map-same p.boxes (whole p turns) (filter (is_block_of p g) (others p))
        (all-of (λ k. p.boxes k ≡ whole p turns k) (is_block_of p g)
        (λ k other e. let a = and_parts (is_block_paint (p.kind k)) (group p k == g) e in let b = block_plain (p.kind k) a.0 in sym (leaf turns k (turns_left k other a.1) b.0 ∙ boxes_of k b.1)))
        ∙ ap (flat_map (whole p turns)) (sym (blocks p o g))

    inline_part : inline_content p (paint p turns) g ≡ flat_map (whole p turns) (in_order (levels p o) (filter (in_step (step p o) (levels p o) 5) (mine p o g)))
    inline_part =
        flat_map-same (λ k. if is_atomic_paint (p.kind k) then paint p turns k else p.boxes_and_texts k) (whole p turns) (filter (is_inline_of p g) (others p))
        (all-of (λ k. (if is_atomic_paint (p.kind k) then paint p turns k else p.boxes_and_texts k) ≡ whole p turns k) (is_inline_of p g)
        (λ k other e. let a = and_parts (is_inline_paint (p.kind k) || is_atomic_paint (p.kind k)) (group p k == g) e in by_test k other a.0 a.1 (is_atomic_paint (p.kind k)) refl))
        ∙ ap (flat_map (whole p turns)) (sym (inlines p o g))
      where
        by_test : (k : ℕ) → IsOther k → (is_inline_paint (p.kind k) || is_atomic_paint (p.kind k)) ≡ true → (group p k == g) ≡ true → (b : Bool) → is_atomic_paint (p.kind k) ≡ b → (if b then paint p turns k else p.boxes_and_texts k) ≡ whole p turns k
        by_test k other plain mine true is = of_group k other mine (atomic_forms (p.kind k) is)
        by_test k other plain mine false is = let b = inline_plain (p.kind k) is plain in sym (leaf turns k (turns_left k other mine) b.0 ∙ texts_of k b.1)

    six_parts : flat_map (whole p turns) (painted_by p g) ≡ negative_layers p (paint p turns) g ++ (block_boxes p g ++ (floats p (paint p turns) g ++ (inline_content p (paint p turns) g ++ (zero_layers p (paint p turns) g ++ positive_layers p (paint p turns) g))))
    six_parts =
        ap (flat_map (whole p turns)) (painted-steps p o g)
        ∙ spread (of_step 2) (of_step 3) (of_step 4) (of_step 5) (of_step 6) (of_step 7)
        ∙ ap (λ (ws : List Frag). ws ++ (flat_map (whole p turns) (of_step 3) ++ (flat_map (whole p turns) (of_step 4) ++ (flat_map (whole p turns) (of_step 5) ++ (flat_map (whole p turns) (of_step 6) ++ flat_map (whole p turns) (of_step 7)))))) (sym negative_part)
        ∙ ap (λ (ws : List Frag). negative_layers p (paint p turns) g ++ (ws ++ (flat_map (whole p turns) (of_step 4) ++ (flat_map (whole p turns) (of_step 5) ++ (flat_map (whole p turns) (of_step 6) ++ flat_map (whole p turns) (of_step 7)))))) (sym block_part)
        ∙ ap (λ (ws : List Frag). negative_layers p (paint p turns) g ++ (block_boxes p g ++ (ws ++ (flat_map (whole p turns) (of_step 5) ++ (flat_map (whole p turns) (of_step 6) ++ flat_map (whole p turns) (of_step 7)))))) (sym float_part)
        ∙ ap (λ (ws : List Frag). negative_layers p (paint p turns) g ++ (block_boxes p g ++ (floats p (paint p turns) g ++ (ws ++ (flat_map (whole p turns) (of_step 6) ++ flat_map (whole p turns) (of_step 7)))))) (sym inline_part)
        ∙ ap (λ (ws : List Frag). negative_layers p (paint p turns) g ++ (block_boxes p g ++ (floats p (paint p turns) g ++ (inline_content p (paint p turns) g ++ (ws ++ flat_map (whole p turns) (of_step 7)))))) (sym zero_part)
        ∙ ap (λ (ws : List Frag). negative_layers p (paint p turns) g ++ (block_boxes p g ++ (floats p (paint p turns) g ++ (inline_content p (paint p turns) g ++ (zero_layers p (paint p turns) g ++ ws))))) (sym positive_part)
      where
        of_step : ℕ → List ℕ
        of_step n = in_order (levels p o) (filter (in_step (step p o) (levels p o) n) (mine p o g))

        spread : (a b c d e h : List ℕ) → flat_map (whole p turns) (a ++ (b ++ (c ++ (d ++ (e ++ (h ++ []))))))
            ≡ flat_map (whole p turns) a ++ (flat_map (whole p turns) b ++ (flat_map (whole p turns) c ++ (flat_map (whole p turns) d ++ (flat_map (whole p turns) e ++ flat_map (whole p turns) h))))
        spread a b c d e h = simp (flat_map-append {X = ℕ} {A = Frag}, append-nil)

    pub one_turn : forms_group (p.kind g) ≡ true → paint p (suc turns) g ≡ whole p (suc turns) g
    one_turn forms = ap (λ (ws : List Frag). p.boxes g ++ ws) (sym six_parts) ∙ ap (λ (ws : List Frag). ws ++ flat_map (whole p turns) (painted_by p g)) (sym (boxes_of g (group_plain (p.kind g) forms)))

  -- where there are turns enough, the walk is the painting
  pub paint-whole : (turns g : ℕ) → p.count ≤ turns + g → g < p.count → forms_group (p.kind g) ≡ true → paint p turns g ≡ whole p turns g
  paint-whole zero g enough within forms = absurd (omega arith)
  paint-whole (suc turns) g enough within forms =
      one_turn turns g (λ k behind low. omega (arith, behind, low, enough)) (λ k behind low inner. paint-whole turns k (omega (arith, behind, enough)) low inner) forms

  -- of what a node paints
  pub all-painted : (P : ℕ → Type 0) (g : ℕ) → ((k : ℕ) → g < k → k < p.count → P k) → AllByRecursion P (painted_by p g)
  all-painted P g each = all-in_order (is_painted_under p) P (filter (λ k. painter_at p k == g) (others p)) (all-of P (λ k. painter_at p k == g)
      (λ k other is. let e = eqb-true (painter_at p k) g is in let b = painter-before p o k other.0 in each k (omega (arith, e, b)) other.1))

  -- and how many turns there are doesn't matter
  pub whole_turns : (t u k : ℕ) → p.count ≤ t + k → p.count ≤ u + k → k < p.count → whole p t k ≡ whole p u k
  whole_turns zero u k some more within = absurd (omega arith)
  whole_turns (suc t) zero k some more within = absurd (omega arith)
  whole_turns (suc t) (suc u) k some more within =
      ap (λ (ws : List Frag). own_pieces p k ++ ws) (flat_map-same (whole p t) (whole p u) (painted_by p k) (all-painted (λ j. whole p t j ≡ whole p u j) k (λ j behind low. whole_turns t u j (omega (arith, behind, some)) (omega (arith, behind, more)) low)))

  pub whole_is : (k : ℕ) → k < p.count → whole p p.count k ≡ own_pieces p k ++ flat_map (whole p p.count) (painted_by p k)
  whole_is k within =
      whole_turns p.count (suc p.count) k (omega arith) (omega arith) within
