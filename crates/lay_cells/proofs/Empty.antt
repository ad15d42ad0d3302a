-- No cells are in order.
use Rattle.std.proofs.Common.{◌≡◌, ℕ, [], Some, None, ap, sym, ◌∙◌, arith, rules}
use Rattle.std.specs.BTreeMap.{BTreeMap, get}
use Rattle.std.specs.declared.cmp.Ordering.{Ordering}
use Rattle.std.specs.Map.{lookup}
use Rattle.std.specs.BTreeMap.{is_at}
use Rattle.lay_cells.specs.Kept.{IsKept}

pub nothing : {K : Type 0} (cmp : K → K → Ordering) (index : BTreeMap K ℕ) → index.entries ≡ [] → (key : K) (place : ℕ) → get cmp index key ≡ Some place → ⊥
nothing cmp index empty key place is = let e : None ≡ Some place = ap (lookup (is_at (cmp key))) (sym empty) ∙ is in grind (rules, e)

module _ {K I V : Type 0} (relates : I → V → Type 0) (cmp : K → K → Ordering) (index : BTreeMap K ℕ) (empty : index.entries ≡ []) where
  pub kept_none : IsKept {K = K} {I = I} {V = V} relates cmp [] index 0 0
  kept_none = record {
    sound = record {
      each = λ r has. absurd (grind (rules, has.1));
      shaped = record {
        few = omega arith;
        apart = λ i j e f at. absurd (grind (rules, at));
        earlier = λ i e at. absurd (grind (rules, at));
        once = λ i e at. absurd (grind (rules, at));
      };
    };
    wired = record {
      found = λ key place is. absurd (nothing cmp index empty key place is);
      there = λ w place at. absurd (grind (rules, at));
      places = λ w has. absurd (grind (rules, has.1));
    };
    first_dirty = record {
      before = λ j lt r at. absurd (grind (rules, at));
      at = λ r at. absurd (grind (rules, at));
    };
  }
