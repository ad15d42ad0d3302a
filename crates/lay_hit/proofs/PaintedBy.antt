-- What a node paints, step by step.
use Rattle.std.proofs.Common.{◌≡◌, ℕ, zero, suc, ◌+◌, ◌<◌, ◌≤◌, Bool, true, false, cond, ◌&&◌, ◌||◌, List, [], ◌∷◌, ℤ, pos, refl, ap, ◌∙◌, arith, if◌then◌else◌}
use Rattle.std.specs.Prelude.{int_le, ◌==◌}
use Rattle.std.specs.List.{filter, range_with_len, AllByRecursion}
use Rattle.std.proofs.lemmas.Bool.{and_parts}
use Rattle.std.proofs.lemmas.List.Elements.{filter_agree}
use Rattle.lay_hit.specs.declared.kinds.PaintKind.{PaintKind}
use Rattle.lay_hit.specs.declared.kinds.PaintKind.TheVariants.{Stacking, Layered, Float, Atomic, Block, Inline}
use Rattle.lay_hit.specs.PaintKinds.{is_stacking, is_layered, is_float_paint, is_atomic_paint, is_block_paint, is_inline_paint, forms_group}
use Rattle.lay_hit.specs.Sorting.{put_in_order, in_order}
use Rattle.lay_hit.specs.Pages.{Page}
use Rattle.lay_hit.specs.Painting.{group, owner, others, by_level, is_negative_of, is_block_of, is_float_of, is_inline_of, is_level_zero, is_zero_of, is_positive_of}
use Rattle.lay_hit.specs.Ranks.{is_of_owner, step_of, painter_at}
use Rattle.lay_hit.specs.Wholes.{painted_by}
use Rattle.lay_hit.specs.OrderedPages.{IsOrdered}
use Rattle.lay_hit.proofs.Nearest.{around-counts, around-before}
use Rattle.lay_hit.proofs.Buckets.{all-filter, in_step, steps_from, in_order-steps}
use Rattle.lay_hit.proofs.PaintTests.{stacking_forms, step_low, negative_test, positive_test, zero_test, block_test, float_test, inline_test, level_zero}

pub filter-both : {X : Type 0} (a b : X → Bool) (xs : List X) → filter a (filter b xs) ≡ filter (λ x. b x && a x) xs
filter-both a b [] = refl
filter-both {X} a b (x ∷ xs) = by_test (filter-both a b xs) (b x)
  where
    by_test : filter a (filter b xs) ≡ filter (λ y. b y && a y) xs → (c : Bool) → filter a (cond c (x ∷ filter b xs) (filter b xs)) ≡ cond (c && a x) (x ∷ filter (λ y. b y && a y) xs) (filter (λ y. b y && a y) xs)
    by_test rest true = ap (λ (ys : List X). cond (a x) (x ∷ ys) ys) rest
    by_test rest false = rest

pub filter-none : {X : Type 0} (a : X → Bool) (xs : List X) → AllByRecursion (λ x. a x ≡ false) xs → filter a xs ≡ []
filter-none a [] all = refl
filter-none a (x ∷ xs) all = ap (λ (c : Bool). cond c (x ∷ filter a xs) (filter a xs)) all.0 ∙ filter-none a xs all.1

pub all-range : (P : ℕ → Type 0) (a n : ℕ) → ((k : ℕ) → a ≤ k → k < a + n → P k) → AllByRecursion P (range_with_len a n)
all-range P a zero each = tt
all-range P a (suc n) each = (each a (omega arith) (omega arith), all-range P (a + 1) n (λ k low high. each k (omega (arith, low)) (omega (arith, high))))

pub all-each : {X : Type 0} (P : X → Type 0) (xs : List X) → ((x : X) → P x) → AllByRecursion P xs
all-each P [] each = tt
all-each P (x ∷ xs) each = (each x, all-each P xs each)

-- what holds of those that pass a test
pub all-passing : {X : Type 0} (P Q : X → Type 0) (a : X → Bool) → (xs : List X) → AllByRecursion Q xs → ((x : X) → Q x → a x ≡ true → P x) → AllByRecursion P (filter a xs)
all-passing P Q a [] all each = tt
all-passing {X} P Q a (x ∷ xs) all each = by_test (all-passing P Q a xs all.1 each) (a x) refl
  where
    by_test : AllByRecursion P (filter a xs) → (c : Bool) → a x ≡ c → AllByRecursion P (cond c (x ∷ filter a xs) (filter a xs))
    by_test rest true is = (each x all.0 is, rest)
    by_test rest false is = rest

module _ (p : Page) (o : IsOrdered p) where
  abbrev pub step : ℕ → ℕ
  step k = step_of (p.kind k) (p.level k)

  abbrev pub levels : ℕ → ℕ → Bool
  levels j k = int_le (p.level j) (p.level k)

  abbrev pub mine : ℕ → List ℕ
  mine g = filter (λ k. painter_at p k == g) (others p)

  pub group-forms : (k : ℕ) → forms_group (p.kind (group p k)) ≡ true
  group-forms k = around-counts (λ j. forms_group (p.kind j)) p.parent (ap forms_group o.root) o.before k

  pub owner-stacks : (k : ℕ) → is_stacking (p.kind (owner p k)) ≡ true
  owner-stacks k = around-counts (λ j. is_stacking (p.kind j)) p.parent (ap is_stacking o.root) o.before k

  pub group-before : (k : ℕ) → 0 < k → group p k < k
  group-before k some = around-before (λ j. forms_group (p.kind j)) p.parent (ap forms_group o.root) o.before k some

  pub owner-before : (k : ℕ) → 0 < k → owner p k < k
  owner-before k some = around-before (λ j. is_stacking (p.kind j)) p.parent (ap is_stacking o.root) o.before k some

  -- what paints is painted as a whole, and stands before what it paints
  pub painter-forms : (k : ℕ) → forms_group (p.kind (painter_at p k)) ≡ true
  painter-forms k = by_test (is_of_owner (p.kind k))
    where
      by_test : (b : Bool) → forms_group (p.kind (if b then owner p k else group p k)) ≡ true
      by_test true = stacking_forms (p.kind (owner p k)) (owner-stacks k)
      by_test false = group-forms k

  pub painter-before : (k : ℕ) → 0 < k → painter_at p k < k
  painter-before k some = by_test (is_of_owner (p.kind k))
    where
      by_test : (b : Bool) → (if b then owner p k else group p k) < k
      by_test true = owner-before k some
      by_test false = group-before k some

  pub painted-steps : (g : ℕ) → painted_by p g ≡ steps_from step levels 2 6 (mine g)
  painted-steps g = in_order-steps step levels 2 6 (mine g) (all-each (λ k. (2 ≤ step k) × (step k < 2 + 6)) (mine g) (λ k. step_low (p.kind k) (p.level k)))

  -- the nodes of a step that g paints
  pub step-nodes : (test : ℕ → Bool) (n g : ℕ) → ((k : ℕ) → ((painter_at p k == g) && (step k == n)) ≡ test k) → filter (in_step step levels n) (mine g) ≡ filter test (others p)
  step-nodes test n g same = filter-both (in_step step levels n) (λ k. painter_at p k == g) (others p) ∙ filter_agree (λ k. (painter_at p k == g) && (step k == n)) test same (others p)

  -- nodes of one level stay as they are
  pub one_level : (ks : List ℕ) → AllByRecursion (λ k. p.level k ≡ pos 0) ks → in_order levels ks ≡ ks
  one_level [] all = refl
  one_level (k ∷ ks) all = ap (put_in_order levels k) (one_level ks all.1) ∙ first ks all.1
    where
      first : (js : List ℕ) → AllByRecursion (λ j. p.level j ≡ pos 0) js → put_in_order levels k js ≡ k ∷ js
      first [] more = refl
      first (j ∷ js) more = ap (λ (b : Bool). cond b (k ∷ j ∷ js) (j ∷ put_in_order levels k js)) (ap (λ (l : ℤ). int_le l (p.level j)) all.0 ∙ ap (int_le (pos 0)) more.0)

  plain_step : (test : ℕ → Bool) (n g : ℕ) → ((k : ℕ) → ((painter_at p k == g) && (step k == n)) ≡ test k) → ((k : ℕ) → test k ≡ true → p.level k ≡ pos 0)
      → in_order levels (filter (in_step step levels n) (mine g)) ≡ filter test (others p)
  plain_step test n g same flat = ap (in_order levels) (step-nodes test n g same) ∙ one_level (filter test (others p)) (all-filter (λ k. p.level k ≡ pos 0) test flat (others p))

  block_flat : (x : PaintKind) → is_block_paint x ≡ true → is_stacking x ≡ false
  block_flat Block e = refl
  block_flat Stacking e = absurd cc
  block_flat Layered e = refl
  block_flat Float e = refl
  block_flat Atomic e = refl
  block_flat Inline e = refl

  float_flat : (x : PaintKind) → is_float_paint x ≡ true → is_stacking x ≡ false
  float_flat Block e = refl
  float_flat Stacking e = absurd cc
  float_flat Layered e = refl
  float_flat Float e = refl
  float_flat Atomic e = refl
  float_flat Inline e = refl

  inline_flat : (x : PaintKind) → (is_inline_paint x || is_atomic_paint x) ≡ true → is_stacking x ≡ false
  inline_flat Block e = refl
  inline_flat Stacking e = absurd cc
  inline_flat Layered e = refl
  inline_flat Float e = refl
  inline_flat Atomic e = refl
  inline_flat Inline e = refl

  zero_flat : (k : ℕ) (x : PaintKind) → p.kind k ≡ x → (is_layered x || (is_stacking x && (int_le (pos 0) (p.level k) && int_le (p.level k) (pos 0)))) ≡ true → p.level k ≡ pos 0
  zero_flat k Stacking is e = level_zero (p.level k) e
  zero_flat k Layered is e = o.level k (ap is_stacking is)
  zero_flat k Float is e = absurd cc
  zero_flat k Atomic is e = absurd cc
  zero_flat k Block is e = absurd cc
  zero_flat k Inline is e = absurd cc

  pub negatives : (g : ℕ) → in_order levels (filter (in_step step levels 2) (mine g)) ≡ by_level p (filter (is_negative_of p g) (others p))
  negatives g = ap (in_order levels) (step-nodes (is_negative_of p g) 2 g (λ k. negative_test (p.level k) (owner p k) (group p k) g (p.kind k)))

  pub positives : (g : ℕ) → in_order levels (filter (in_step step levels 7) (mine g)) ≡ by_level p (filter (is_positive_of p g) (others p))
  positives g = ap (in_order levels) (step-nodes (is_positive_of p g) 7 g (λ k. positive_test (p.level k) (owner p k) (group p k) g (p.kind k)))

  pub blocks : (g : ℕ) → in_order levels (filter (in_step step levels 3) (mine g)) ≡ filter (is_block_of p g) (others p)
  blocks g = plain_step (is_block_of p g) 3 g (λ k. block_test (p.level k) (owner p k) (group p k) g (p.kind k)) (λ k e. o.level k (block_flat (p.kind k) (and_parts (is_block_paint (p.kind k)) (group p k == g) e).0))

  pub floating : (g : ℕ) → in_order levels (filter (in_step step levels 4) (mine g)) ≡ filter (is_float_of p g) (others p)
  floating g = plain_step (is_float_of p g) 4 g (λ k. float_test (p.level k) (owner p k) (group p k) g (p.kind k)) (λ k e. o.level k (float_flat (p.kind k) (and_parts (is_float_paint (p.kind k)) (group p k == g) e).0))

  pub inlines : (g : ℕ) → in_order levels (filter (in_step step levels 5) (mine g)) ≡ filter (is_inline_of p g) (others p)
  inlines g = plain_step (is_inline_of p g) 5 g (λ k. inline_test (p.level k) (owner p k) (group p k) g (p.kind k)) (λ k e. o.level k (inline_flat (p.kind k) (and_parts (is_inline_paint (p.kind k) || is_atomic_paint (p.kind k)) (group p k == g) e).0))

  pub zeros : (g : ℕ) → in_order levels (filter (in_step step levels 6) (mine g)) ≡ filter (is_zero_of p g) (others p)
  zeros g = plain_step (is_zero_of p g) 6 g (λ k. zero_test (p.level k) (owner p k) (group p k) g (p.kind k)) (λ k e. zero_flat k (p.kind k) refl (and_parts (is_level_zero p k) (owner p k == g) e).0)
