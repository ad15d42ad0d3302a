-- The walk over the nodes in the order of painting comes to each node once.
use Rattle.std.proofs.Common.{◌≡◌, ℕ, zero, suc, ◌+◌, ◌-◌, ◌<◌, ◌≤◌, Bool, cond, List, [], ◌∷◌, ◌++◌, refl, sym, ap, ◌∙◌, arith, ◌⊎◌, inl, inr}
use Rattle.std.proofs.lemmas.Bool.{cases_lt, eq-eqb, ne_eqb, cases_eq}
use Rattle.std.proofs.lemmas.Grind.{flat_map-append}
use Rattle.std.specs.Prelude.{◌==◌}
use Rattle.std.specs.List.{filter, flat_map, range_with_len, AllByRecursion}
use Rattle.lay_frag.specs.declared.frag.Frag.{Frag}
use Rattle.lay_hit.specs.Pages.{Page}
use Rattle.lay_hit.specs.Painting.{others}
use Rattle.lay_hit.specs.Ranks.{painter_at}
use Rattle.lay_hit.specs.Wholes.{own_pieces, is_painted_under, painted_by, whole}
use Rattle.lay_hit.specs.OrderedPages.{IsOrdered}
use Rattle.lay_hit.proofs.Counts.{one_if, times, times-append, in_order-times, filter-times, range-times, range-none}
use Rattle.lay_hit.proofs.PaintedBy.{painter-before}
use Rattle.lay_hit.proofs.WholePaint.{flat_map-same, all-painted}

flat_map-flat_map : {X : Type 0} (f : ℕ → List X) (g : ℕ → List ℕ) (ks : List ℕ) → flat_map f (flat_map g ks) ≡ flat_map (λ k. flat_map f (g k)) ks
flat_map-flat_map f g [] = refl
flat_map-flat_map {X} f g (k ∷ ks) = flat_map-append f (g k) (flat_map g ks) ∙ ap (λ (xs : List X). flat_map f (g k) ++ xs) (flat_map-flat_map f g ks)

-- where each list has j once more for its own number than it has i
more_times : (f : ℕ → List ℕ) (i j : ℕ) (ks : List ℕ) → AllByRecursion (λ k. times j (f k) ≡ one_if (k == j) + times i (f k)) ks → times j (flat_map f ks) ≡ times j ks + times i (flat_map f ks)
more_times f i j [] all = omega arith
more_times f i j (k ∷ ks) all =
    let a = times-append j (f k) (flat_map f ks) in
    let b = times-append i (f k) (flat_map f ks) in
    let c = more_times f i j ks all.1 in
    let d = all.0 in
    omega (arith, a, b, c, d)

no_times : (f : ℕ → List ℕ) (j : ℕ) (ks : List ℕ) → AllByRecursion (λ k. times j (f k) ≡ 0) ks → times j (flat_map f ks) ≡ 0
no_times f j [] all = refl
no_times f j (k ∷ ks) all =
    let a = times-append j (f k) (flat_map f ks) in
    let c = no_times f j ks all.1 in
    let d = all.0 in
    omega (arith, a, c, d)

module _ (p : Page) (o : IsOrdered p) where
  -- the nodes that are painted in g, in order
  abbrev pub walk : (turns : ℕ) → ℕ → List ℕ
  walk zero g = []
  walk (suc turns) g = g ∷ flat_map (walk turns) (painted_by p g)

  pub walk-whole : (turns g : ℕ) → whole p turns g ≡ flat_map (own_pieces p) (walk turns g)
  walk-whole zero g = refl
  walk-whole (suc turns) g =
      ap (λ (ws : List Frag). own_pieces p g ++ ws) (flat_map-same (whole p turns) (λ k. flat_map (own_pieces p) (walk turns k)) (painted_by p g) (each (painted_by p g) (walk-whole turns))
      ∙ sym (flat_map-flat_map (own_pieces p) (walk turns) (painted_by p g)))
    where
      each : (ks : List ℕ) → ((k : ℕ) → whole p turns k ≡ flat_map (own_pieces p) (walk turns k)) → AllByRecursion (λ k. whole p turns k ≡ flat_map (own_pieces p) (walk turns k)) ks
      each [] h = tt
      each (k ∷ ks) h = (h k, each ks h)

  -- g paints j just where it is the node that paints j
  painted-times : (g j : ℕ) → 0 < j → j < p.count → times j (painted_by p g) ≡ one_if (painter_at p j == g)
  painted-times g j some within =
      in_order-times (is_painted_under p) j (filter (λ k. painter_at p k == g) (others p)) ∙ filter-times (λ k. painter_at p k == g) j (others p)
      ∙ ap (λ (n : ℕ). cond (painter_at p j == g) n 0) (range-times (p.count - 1) 1 j (omega (arith, some)) (omega (arith, within, some)))

  flip : (a b : ℕ) → one_if (a == b) ≡ one_if (b == a)
  flip a b = elim (cases_eq a b) [
    | inl same ↦ ap one_if (eq-eqb a b same ∙ sym (eq-eqb b a (sym same)))
    | inr other ↦ ap one_if (ne_eqb a b other ∙ sym (ne_eqb b a (λ e. other (sym e))))
  ]

  -- the walk comes to j as often as to the node that paints it, but for its own start
  walk-times : (turns g j : ℕ) → p.count ≤ turns + g → g < p.count → 0 < j → j < p.count → times j (walk turns g) ≡ one_if (g == j) + times (painter_at p j) (walk turns g)
  walk-times zero g j enough within some low = absurd (omega arith)
  walk-times (suc turns) g j enough within some low =
      let inner = more_times (walk turns) (painter_at p j) j (painted_by p g) (all-painted p o (λ k. times j (walk turns k) ≡ one_if (k == j) + times (painter_at p j) (walk turns k)) g (λ k behind there. walk-times turns k j (omega (arith, behind, enough)) there some low)) in
      let here = painted-times g j some low in
      let turned = flip (painter_at p j) g in
      omega (arith, inner, here, turned)

  -- and never to another than these
  walk-none : (turns g j : ℕ) → p.count ≤ turns + g → g < p.count → (j ≡ g → ⊥) → (j ≡ 0) ⊎ (p.count ≤ j) → times j (walk turns g) ≡ 0
  walk-none zero g j enough within other out = absurd (omega arith)
  walk-none (suc turns) g j enough within other out =
      let inner = no_times (walk turns) j (painted_by p g) (all-painted p o (λ k. times j (walk turns k) ≡ 0) g (λ k behind there. walk-none turns k j (omega (arith, behind, enough)) there (apart k behind there) out)) in
      let here = ne_eqb g j (λ e. other (sym e)) in
      let first : one_if (g == j) + times j (flat_map (walk turns) (painted_by p g)) ≡ 0 + times j (flat_map (walk turns) (painted_by p g)) = ap (λ (b : Bool). one_if b + times j (flat_map (walk turns) (painted_by p g))) here in
      omega (arith, first, inner)
    where
      apart : (k : ℕ) → g < k → k < p.count → j ≡ k → ⊥
      apart k behind there e = elim out [
        | inl none ↦ omega (arith, none, e, behind)
        | inr high ↦ omega (arith, high, e, there)
      ]

  all_once : (n j : ℕ) → j < n → j < p.count → times j (walk p.count 0) ≡ 1
  all_once zero j less within = absurd (omega arith)
  all_once (suc n) zero less within = root p.count (omega arith)
    where
      root : (turns : ℕ) → p.count ≤ turns + 0 → times 0 (walk turns 0) ≡ 1
      root zero enough = absurd (let s = o.some in omega arith)
      root (suc turns) enough =
          let inner = no_times (walk turns) 0 (painted_by p 0) (all-painted p o (λ k. times 0 (walk turns k) ≡ 0) 0 (λ k behind there. walk-none turns k 0 (omega (arith, behind, enough)) there (λ e. omega (arith, e, behind)) (inl refl))) in
          omega (arith, inner)
  all_once (suc n) (suc j) less within =
      let before = painter-before p o (suc j) (omega arith) in
      let step = walk-times p.count 0 (suc j) (omega arith) o.some (omega arith) within in
      let rest = all_once n (painter_at p (suc j)) (omega (arith, before, less)) (omega (arith, before, within)) in
      let none = ne_eqb 0 (suc j) (λ e. omega arith) in
      let first : one_if (0 == suc j) + times (painter_at p (suc j)) (walk p.count 0) ≡ 0 + times (painter_at p (suc j)) (walk p.count 0) = ap (λ (b : Bool). one_if b + times (painter_at p (suc j)) (walk p.count 0)) none in
      omega (arith, step, first, rest)

  -- so it comes to each node just as often as a list of all
  pub each_once : (j : ℕ) → times j (walk p.count 0) ≡ times j (range_with_len 0 p.count)
  each_once j = elim (cases_lt j p.count) [
    | inl low ↦ all_once (suc j) j (omega arith) low ∙ sym (range-times p.count 0 j (omega arith) (omega (arith, low)))
    | inr high ↦ walk-none p.count 0 j (omega arith) o.some (λ e. let s = o.some in omega (arith, e, high, s)) (inr high) ∙ sym (range-none p.count 0 j (omega (arith, high)))
  ]
