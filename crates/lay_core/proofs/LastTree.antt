-- The tree of the last version of a whole history.
use Rattle.std.proofs.Common.{◌≡◌, ◌⊎◌, ◌||◌, ℕ, ◌==◌, suc, List, [], ◌∷◌, find, true, cond, Option, Some, None, option_map, sym, ap, ◌∙◌, subst, arith, inl, inr, eq-eqb, ne_eqb, rules, All}
use Rattle.std.specs.List.{list_any}
use Rattle.std.proofs.lemmas.Bool.{cases_eq, or_right}
use Rattle.std.proofs.lemmas.Option.{same_Some, none-some}
use Rattle.lay_history.specs.Histories.{accepted, doc_at, last_or, published}
use Rattle.lay_history.specs.Trees.{PublishedTreeValue, tree_at, versions_of}
use Rattle.lay_context.specs.Solves.{Solves}
use Rattle.lay_core.specs.State.{IsCounted}
use Rattle.lay_core.specs.Laws.{LastTree}

-- the tree of a version, of which P holds
pub record IsFound (P : PublishedTreeValue → Type 0) (version : ℕ) (trees : List PublishedTreeValue) : Type 0 where
  pub published : PublishedTreeValue
  pub holds : P published
  pub version_is : published.version ≡ version
  pub at : tree_at version trees ≡ Some published.tree

pub found : (P : PublishedTreeValue → Type 0) (version : ℕ) (trees : List PublishedTreeValue) → All P trees
    → list_any (λ v. v == version) (versions_of trees) ≡ true → IsFound P version trees
found P version [] all e = absurd (search rules)
found P version (t ∷ trees) all e = elim (cases_eq t.version version) [
  | inl same ↦ record {
    published = t;
    holds = all 0 t (omega arith);
    version_is = same;
    at = ap (λ b. option_map (λ x. x.tree) (cond b (Some t) (find (λ x. x.version == version) trees))) (eq-eqb t.version version same);
  }
  | inr other ↦ (let differs = ne_eqb t.version version other in
      let rest = found P version trees (λ k d lt. all (suc k) d (omega (arith, lt)))
      (sym (ap (λ b. b || list_any (λ v. v == version) (versions_of trees)) differs) ∙ e) in
      record {
        published = rest.published;
        holds = rest.holds;
        version_is = rest.version_is;
        at = ap (λ b. option_map (λ x. x.tree) (cond b (Some t) (find (λ x. x.version == version) trees))) differs ∙ rest.at;
      })
]

last_in : (o : Option ℕ) (xs : List ℕ) (v : ℕ) → last_or o xs ≡ Some v → (o ≡ Some v) ⊎ (list_any (λ x. x == v) xs ≡ true)
last_in o [] v e = inl e
last_in o (x ∷ xs) v e = elim (last_in (Some x) xs v e) [
  | inl own ↦ inr (ap (λ b. b || list_any (λ y. y == v) xs) (eq-eqb x v (same_Some x v own)))
  | inr later ↦ inr (or_right (x == v) (list_any (λ y. y == v) xs) later)
]

pub listed : (xs : List ℕ) (v : ℕ) → last_or None xs ≡ Some v → list_any (λ x. x == v) xs ≡ true
listed xs v e = elim (last_in None xs v e) [ inl none ↦ absurd (none-some v none) | inr is ↦ is ]

pub last_tree : LastTree
last_tree s is whole = record {
  tree = last.published.tree;
  at = last.at;
  solves = subst (λ d. Solves d s.face last.published.tree) (ap (doc_at s.init s.history) last.version_is ∙ sym is.document_is) last.holds.0;
  counted = last.holds.1;
}
  where
    last : IsFound (λ t. Solves (doc_at s.init s.history t.version) s.face t.tree × IsCounted s.laid t.tree) (accepted s.history) s.trees
    last = found (λ t. Solves (doc_at s.init s.history t.version) s.face t.tree × IsCounted s.laid t.tree) (accepted s.history) s.trees
        (λ k d lt. (is.solved k d lt, is.counted k d lt))
        (subst (λ vs. list_any (λ v. v == accepted s.history) vs ≡ true) (sym is.has_trees) (listed (published s.history) (accepted s.history) whole))
