-- And so the same shape.
use Rattle.std.proofs.Common.{◌≡◌, ℕ, ◌+◌, ◌==◌, Bool, List, ◌++◌, length, map, reverse, ap, ◌∙◌}
use Rattle.std.specs.List.{filter, flat_map, range_with_len}
use Rattle.std.proofs.Math.Path.{fun_ext}
use Rattle.lay_context.specs.declared.task.Phase.TheVariants.{Measure, Size, Place}
use Rattle.lay_cells.specs.Shapes.{Entry}
use Rattle.lay_contexts.specs.Contexts.{Context}
use Rattle.lay_doc.specs.declared.node.NodeId.{NodeId}
use Rattle.lay_after_edits.specs.Contexts.Links.{AreRestyled}
use Rattle.lay_shape.specs.declared.cell_key.CellKey.{CellKey}
use Rattle.lay_shape.specs.declared.context_phase.ContextPhase.{ContextPhase}
use Rattle.lay_shape.specs.Dependencies.{in_phase, needs_in, needs_of}
use Rattle.lay_shape.specs.Keys.{key_of}
use Rattle.lay_shape.specs.Levels.{level_of}
use Rattle.lay_shape.specs.Shapes.{at_level, cells_of, entry_of, numbers_of, round_of}
use Rattle.lay_shape.specs.KeptShapes.ShapesStay.{ShapesStay}
use Rattle.lay_shape.proofs.KeptShapesLemmas.SameLinks.{same-node}
use Rattle.lay_shape.proofs.KeptShapesLemmas.SameWays.{levels-stay, needs-stay}

module _ (contexts later : List Context) (made : List Bool) (are : AreRestyled contexts later made) where
  pub keys-stay : (c : ContextPhase) → key_of later c ≡ key_of contexts c
  keys-stay c = ap (λ (n : NodeId). record { node = n; phase = c.phase }) (same-node contexts later made are c.context)

  key-needs-stay : (c : ContextPhase) → needs_of later c ≡ needs_of contexts c
  key-needs-stay c =
      ap (λ (f : ContextPhase → CellKey). map f (needs_in later c)) (fun_ext keys-stay) ∙ ap (map (key_of contexts)) (needs-stay contexts later made are c)

  abbrev entry_by : CellKey → List CellKey → Entry CellKey
  entry_by key needs = record { key = key; needs = needs }

  entries-stay : (c : ContextPhase) → entry_of later c ≡ entry_of contexts c
  entries-stay c = ap (λ (k : CellKey). entry_by k (needs_of later c)) (keys-stay c) ∙ ap (entry_by (key_of contexts c)) (key-needs-stay c)

  numbers-stay : numbers_of later ≡ numbers_of contexts
  numbers-stay = ap (range_with_len 0) are.count

  level-stays : (level : ℕ) → at_level later level ≡ at_level contexts level
  level-stays level =
      ap (λ (p : ℕ → Bool). filter p (numbers_of later)) (fun_ext (λ i. ap (λ (n : ℕ). n == level) (levels-stay contexts later made are i)))
      ∙ ap (filter (λ i. level_of contexts i == level)) numbers-stay

  round-stays : (level : ℕ) → round_of later level ≡ round_of contexts level
  round-stays level = ap (λ (is : List ℕ). map (in_phase Size) is ++ map (in_phase Place) (reverse is)) (level-stays level)

  abbrev in_rounds : List ℕ → (ℕ → List ContextPhase) → ℕ → List ContextPhase
  in_rounds numbers round count = map (in_phase Measure) (reverse numbers) ++ flat_map round (range_with_len 0 (count + 1))

  pub cells-stay : cells_of later ≡ cells_of contexts
  cells-stay =
      ap (λ (ns : List ℕ). in_rounds ns (round_of later) (length later)) numbers-stay
      ∙ (ap (λ (r : ℕ → List ContextPhase). in_rounds (numbers_of contexts) r (length later)) (fun_ext round-stays)
      ∙ ap (in_rounds (numbers_of contexts) (round_of contexts)) are.count)

pub shapes_stay : ShapesStay
shapes_stay contexts later made are =
    ap (λ (f : ContextPhase → Entry CellKey). map f (cells_of later)) (fun_ext (entries-stay contexts later made are))
    ∙ ap (map (entry_of contexts)) (cells-stay contexts later made are)
