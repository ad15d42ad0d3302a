-- The trees of a history that goes on.
use Rattle.std.proofs.Common.{◌≡◌, ◌⊎◌, ◌||◌, ℕ, ◌==◌, ◌+◌, ◌≤◌, zero, suc, List, [], ◌∷◌, ◌++◌, length, take, find, fold, Bool, true, false, cond, Option, Some, None, IfSome, option_map, refl, sym, ap, ◌∙◌, subst, arith, inl, inr, append-nil, eq-eqb, ne_eqb, rules, All, slice_index_or}
use Rattle.std.specs.List.{list_any}
use Rattle.std.proofs.lemmas.Bool.{cases_eq, or_right}
use Rattle.std.proofs.lemmas.List.Concat.{flat_map-append}
use Rattle.std.proofs.lemmas.List.Elements.{All-push}
use Rattle.std.proofs.lemmas.Option.{same_Some, none-some}
use Rattle.std.proofs.lemmas.List.{take-append-le}
use Rattle.lay_doc.specs.Document.{Document}
use Rattle.lay_history.specs.Edits.EditLists.{after_all}
use Rattle.lay_history.specs.declared.edits.history.Entry.{Entry}
use Rattle.lay_history.specs.declared.edits.history.Entry.TheVariants.{Publish}
use Rattle.lay_history.specs.Histories.{accepted, doc_at, list_in, lists, last_or, last_published, published, version_in}
use Rattle.lay_history.specs.Legal.{IsLegal}
use Rattle.lay_history.specs.Trees.{HasTrees, PublishedTreeValue, tree_at, versions_of}
use Rattle.lay_audit.proofs.Cited.{doc_before, last_of_all, none_greater, published_more}
use Rattle.lay_context.specs.Laws.{OneSolution}
use Rattle.lay_context.specs.Solves.{Solves}
use Rattle.lay_audit.specs.declared.step.Step.{Step}
use Rattle.lay_audit.specs.declared.step.Step.TheVariants as step
use Rattle.lay_audit.specs.LegalReports.{AreTreesSolved, Basis, IsWholeRun}
use Rattle.lay_audit.specs.Presents.{IsStep, Moves, PresentValue}
use Rattle.lay_audit.specs.Readings.{GoesOn, HaveTrees, IsLayoutOf, IsPlayed, IsTreeOf, LastTreeValue}
use Rattle.lay_audit.proofs.NextEntries.{present_more}

-- the tree of a version that is published

pub record IsFound (P : PublishedTreeValue → Type 0) (version : ℕ) (trees : List PublishedTreeValue) : Type 0 where
  pub published : PublishedTreeValue
  pub holds : P published
  pub version_is : published.version ≡ version
  pub at : tree_at version trees ≡ Some published.tree

pub found : (P : PublishedTreeValue → Type 0) (version : ℕ) (trees : List PublishedTreeValue) → All P trees
    → list_any (λ v. v == version) (versions_of trees) ≡ true → IsFound P version trees
found P version [] all e = absurd (search rules)
found P version (t ∷ trees) all e = elim (cases_eq t.version version) [
  | inl same ↦ record {
    published = t;
    holds = all 0 t (omega arith);
    version_is = same;
    at = ap (λ b. option_map (λ x. x.tree) (cond b (Some t) (find (λ x. x.version == version) trees))) (eq-eqb t.version version same);
  }
  | inr other ↦ (let differs = ne_eqb t.version version other in
      let rest = found P version trees (λ k d lt. all (suc k) d (omega (arith, lt)))
      (sym (ap (λ b. b || list_any (λ v. v == version) (versions_of trees)) differs) ∙ e) in
      record {
        published = rest.published;
        holds = rest.holds;
        version_is = rest.version_is;
        at = ap (λ b. option_map (λ x. x.tree) (cond b (Some t) (find (λ x. x.version == version) trees))) differs ∙ rest.at;
      })
]

last_in : (o : Option ℕ) (xs : List ℕ) (v : ℕ) → last_or o xs ≡ Some v → (o ≡ Some v) ⊎ (list_any (λ x. x == v) xs ≡ true)
last_in o [] v e = inl e
last_in o (x ∷ xs) v e = elim (last_in (Some x) xs v e) [
  | inl own ↦ inr (ap (λ b. b || list_any (λ y. y == v) xs) (eq-eqb x v (same_Some x v own)))
  | inr later ↦ inr (or_right (x == v) (list_any (λ y. y == v) xs) later)
]

listed : (xs : List ℕ) (v : ℕ) → last_or None xs ≡ Some v → list_any (λ x. x == v) xs ≡ true
listed xs v e = elim (last_in None xs v e) [ inl none ↦ absurd (none-some v none) | inr is ↦ is ]

or_true_left : (b c d : Bool) → (b ≡ true → c ≡ true) → (d || b) ≡ true → (d || c) ≡ true
or_true_left b c true more e = e
or_true_left b c false more e = more e

any_more : (v : ℕ) (xs ys : List ℕ) → list_any (λ x. x == v) xs ≡ true → list_any (λ x. x == v) (xs ++ ys) ≡ true
any_more v [] ys e = absurd (search rules)
any_more v (x ∷ xs) ys e = or_true_left (list_any (λ y. y == v) xs) (list_any (λ y. y == v) (xs ++ ys)) (x == v) (any_more v xs ys) e

-- the documents of versions that are there stay

pub doc_front : (init : Document) (h later : List Entry) (v : ℕ) → v ≤ accepted h → doc_at init (h ++ later) v ≡ doc_at init h v
doc_front init h later v le =
    ap (fold after_all init) (ap (take v) (flat_map-append list_in h later) ∙ take-append-le v (lists h) (lists later) le)

pub last_not_past : (init : Document) (h : List Entry) (v : ℕ) → IsLegal init h → last_published h ≡ Some v → v ≤ accepted h
last_not_past init h v legal e = last_of_all (λ w. w ≤ accepted h) (published h) v (none_greater init h legal) e

version_at : (trees : List PublishedTreeValue) (k : ℕ) (d : PublishedTreeValue) → slice_index_or (versions_of trees) k d.version ≡ (slice_index_or trees k d).version
version_at [] k d = refl
version_at (t ∷ trees) zero d = refl
version_at (t ∷ trees) (suc k) d = version_at trees k d

version_count : (trees : List PublishedTreeValue) → length (versions_of trees) ≡ length trees
version_count [] = refl
version_count (t ∷ trees) = ap suc (version_count trees)

past_of : (init : Document) (h : List Entry) (trees : List PublishedTreeValue) → IsLegal init h → HasTrees h trees → All (λ t. t.version ≤ accepted h) trees
past_of init h trees legal has k d lt =
    subst (λ v. v ≤ accepted h) (version_at trees k d)
    (subst (λ vs. All (λ v. v ≤ accepted h) vs) (sym has) (none_greater init h legal) k d.version
    (let n = version_count trees in omega (arith, lt, n)))

solved_more : (basis : Basis) (h : List Entry) (e : Entry) (trees : List PublishedTreeValue) → IsLegal basis.init h → HasTrees h trees
    → AreTreesSolved basis h trees → AreTreesSolved basis (h ++ e ∷ []) trees
solved_more basis h e trees legal has solved k d lt =
    subst (λ x. Solves x basis.face (slice_index_or trees k d).tree)
    (sym (doc_before basis.init h e (slice_index_or trees k d).version (past_of basis.init h trees legal has k d lt))) (solved k d lt)

versions_more : (trees : List PublishedTreeValue) (t : PublishedTreeValue) → versions_of (trees ++ t ∷ []) ≡ versions_of trees ++ t.version ∷ []
versions_more [] t = refl
versions_more (x ∷ trees) t = ap (λ vs. x.version ∷ vs) (versions_more trees t)

-- one more entry that publishes nothing

same_trees : (basis : Basis) (h : List Entry) (e : Entry) → version_in e ≡ [] → IsLegal basis.init h → HaveTrees basis h → HaveTrees basis (h ++ e ∷ [])
same_trees basis h e none legal have = record {
  trees = have.trees;
  has_trees = have.has_trees ∙ sym (published_more h e ∙ (ap (λ v. published h ++ v) none ∙ append-nil (published h)));
  solved = solved_more basis h e have.trees legal have.has_trees have.solved;
}

pub tree_of_more : (basis : Basis) (h later : List Entry) (t : LastTreeValue) (v : ℕ) → v ≤ accepted h → IsTreeOf basis h t v → IsTreeOf basis (h ++ later) t v
tree_of_more basis h later t v le is = subst (λ d. IsLayoutOf d basis.face t) (sym (doc_front basis.init h later v le)) is

last_tree_more : (basis : Basis) (h : List Entry) (e : Entry) (t : LastTreeValue) (o : Option ℕ) → ((v : ℕ) → o ≡ Some v → v ≤ accepted h)
    → IfSome o (IsTreeOf basis h t) → IfSome o (IsTreeOf basis (h ++ e ∷ []) t)
last_tree_more basis h e t None past is = tt
last_tree_more basis h e t (Some v) past is = tree_of_more basis h (e ∷ []) t v (past v refl) is

pub played_more : (basis : Basis) (h : List Entry) (p q : PresentValue) (t : LastTreeValue) (s : Step) (e : Entry) → version_in e ≡ [] → IsPlayed basis h p t
    → IsStep basis.scripts p s e → Moves p s e q → IsPlayed basis (h ++ e ∷ []) q t
played_more basis h p q t s e none played is moves = record {
  present = present_more basis h p q s e played.present is moves;
  have_trees = same_trees basis h e none played.present.legal played.have_trees;
  last_tree = subst (λ o. IfSome o (IsTreeOf basis (h ++ e ∷ []) t)) (sym (moves.last_is ∙ ap (last_or p.last) none))
      (last_tree_more basis h e t p.last (λ v at. last_not_past basis.init h v played.present.legal (sym played.present.last_is ∙ at)) played.last_tree);
}

-- the present version is published

pub published_played : (basis : Basis) (h : List Entry) (p q : PresentValue) (t u : LastTreeValue) (e : Entry) → IsPlayed basis h p t
    → IsStep basis.scripts p step.Publish e → Moves p step.Publish e q → IsLayoutOf p.document basis.face u → IsPlayed basis (h ++ e ∷ []) q u
published_played basis h p q t u e played is moves layout = record {
  present = present_more basis h p q step.Publish e played.present is moves;
  have_trees = record {
    trees = have.trees ++ new ∷ [];
    has_trees = versions_more have.trees new ∙ (ap (λ vs. vs ++ p.count ∷ []) have.has_trees
        ∙ (ap (λ vs. published h ++ vs) (sym (ap version_in is.1)) ∙ sym (published_more h e)));
    solved = All-push (λ t. Solves (doc_at basis.init (h ++ e ∷ []) t.version) basis.face t.tree) have.trees new
        (solved_more basis h e have.trees played.present.legal have.has_trees have.solved) (subst (λ d. Solves d basis.face layout.tree) now layout.solves);
  };
  last_tree = subst (λ o. IfSome o (IsTreeOf basis (h ++ e ∷ []) u)) (sym (moves.last_is ∙ ap (last_or p.last) (ap version_in is.1)))
      (subst (λ d. IsLayoutOf d basis.face u) now layout);
}
  where
    have : HaveTrees basis h
    have = played.have_trees

    new : PublishedTreeValue
    new = record { version = p.count; tree = layout.tree }

    now : p.document ≡ doc_at basis.init (h ++ e ∷ []) p.count
    now = played.present.document_is ∙ (ap (doc_at basis.init h) (sym played.present.count_is)
        ∙ sym (doc_before basis.init h e p.count (let c = played.present.count_is in omega (arith, c))))

-- what whole runs that go on from a history show of its last version

pub shown_same : OneSolution → (basis : Basis) (h whole : List Entry) (trees : List PublishedTreeValue) (t : LastTreeValue) (v : ℕ)
    → IsWholeRun basis whole trees → GoesOn h whole → IsLegal basis.init h → last_published h ≡ Some v
    → (is : IsTreeOf basis h t v) → tree_at v trees ≡ Some is.tree
shown_same one basis h whole trees t v run goes legal last is = at.at ∙ ap (λ x. Some x) same
  where
    among : list_any (λ x. x == v) (published whole) ≡ true
    among = subst (λ vs. list_any (λ x. x == v) vs ≡ true) (sym (ap published goes.history_is ∙ flat_map-append version_in h goes.later))
        (any_more v (published h) (published goes.later) (listed (published h) v last))

    at : IsFound (λ x. Solves (doc_at basis.init whole x.version) basis.face x.tree) v trees
    at = found (λ x. Solves (doc_at basis.init whole x.version) basis.face x.tree) v trees run.solved
        (subst (λ vs. list_any (λ x. x == v) vs ≡ true) (sym run.has_trees) among)

    docs : doc_at basis.init whole at.published.version ≡ doc_at basis.init h v
    docs = ap (doc_at basis.init whole) at.version_is ∙ (ap (λ x. doc_at basis.init x v) goes.history_is
        ∙ doc_front basis.init h goes.later v (last_not_past basis.init h v legal last))

    same : at.published.tree ≡ is.tree
    same = one (doc_at basis.init h v) basis.face at.published.tree is.tree is.valid (subst (λ d. Solves d basis.face at.published.tree) docs at.holds) is.solves
