-- Of which contexts the boxes stay, one context after another.
use Rattle.std.proofs.Common.{◌≡◌, ◌↔◌, inl, inr, ℕ, ◌+◌, Bool, false, List, [], ◌∷◌, ◌++◌, ap, sym, ◌∙◌, arith, slice_index_or}
use Rattle.std.proofs.lemmas.Bool.{cases_lt}
use Rattle.std.proofs.lemmas.Grind.{elements}
use Rattle.lay_contexts.specs.Contexts.{Context, boxes_in}
use Rattle.lay_shape.proofs.Cited.{flag-before, flag-last}
use Rattle.lay_shape.specs.KeptShapes.KeptBoxes.{AreBoxFlags, AreBoxFlagsTo, AreOfSameNodes, KeepBoxes, RestyledKeepCells}
use Rattle.lay_shape.proofs.KeptShapesLemmas.SameLinks.{same-node}
use Rattle.lay_shape.proofs.KeptShapesLemmas.SameShape.{shapes_stay}

pub restyled-keep-cells : RestyledKeepCells
restyled-keep-cells contexts later made are = record {
  boxes = record {
    nodes = record { count = are.count; each = λ i lt. same-node contexts later made are i };
    flags = are.flags;
    kept = are.kept;
  };
  shape = shapes_stay contexts later made are;
}

-- one more
pub one-more-flag : (contexts later : List Context) (flags : List Bool) (b : Bool) (n : ℕ) → AreBoxFlagsTo contexts later flags n
    → (b ≡ false) ↔ (boxes_in later n ≡ boxes_in contexts n) → AreBoxFlagsTo contexts later (flags ++ b ∷ []) (n + 1)
one-more-flag contexts later flags b n known is = record {
  count = grind (arith, elements, known.count);
  each = λ i lt. elim (cases_lt i n) [
    | inl low ↦ (let e = flag-before flags b i (omega (arith, low, known.count)) in rw e (known.each i low))
    | inr high ↦ (let z : i ≡ n = omega (arith, lt, high) in
        let e = flag-last flags b i (omega (arith, z, known.count)) in
        rw (e, z) is)
  ];
}

-- these flags say of which contexts the boxes stay
pub keep-boxes : (contexts later : List Context) (flags : List Bool) → AreOfSameNodes contexts later → AreBoxFlags contexts later flags → KeepBoxes contexts later flags
keep-boxes contexts later flags nodes are = record {
  nodes = nodes;
  flags = are.count;
  kept = λ i lt same. (are.each i lt).0 same;
}
