-- The numbers of contexts by their nodes, one after another.
use Rattle.std.proofs.Common.{◌≡◌, ℕ, ◌+◌, ◌==◌, List, sym, ap, ◌∙◌, arith, inl, inr, Option, None, Some, if◌then◌else◌}
use Rattle.std.proofs.lemmas.Bool.{cases_eq, cases_lt, eq-eqb, ne_eqb}
use Rattle.lay_contexts.specs.Contexts.{Context}
use Rattle.lay_shape.specs.Keys.{node_of}
use Rattle.lay_shape.specs.Touched.NumbersByNode.{IsNumberOf}

number_stays : (contexts : List Context) (n x : ℕ) (o : Option ℕ) → ((node_of contexts n).0 ≡ x → ⊥) → IsNumberOf contexts n x o → IsNumberOf contexts (n + 1) x o
number_stays contexts n x None other known = λ i lt is. elim (cases_lt i n) [
  | inl low ↦ known i low is
  | inr high ↦ (let e : n ≡ i = omega (arith, lt, high) in other (ap (λ (j : ℕ). (node_of contexts j).0) e ∙ is))
]
number_stays contexts n x (Some i) other known = (let a = known.0 in omega (arith, a), known.1)

pub number_more : (contexts : List Context) (n x id : ℕ) (o : Option ℕ) → (node_of contexts n).0 ≡ id → IsNumberOf contexts n x o
    → IsNumberOf contexts (n + 1) x (if x == id then Some n else o)
number_more contexts n x id o is known = elim (cases_eq x id) [
  | inl same ↦ (let t = eq-eqb x id same in rw t (omega arith, is ∙ sym same))
  | inr other ↦ (let t = ne_eqb x id other in rw t (number_stays contexts n x o (λ e. other (sym e ∙ is)) known))
]
