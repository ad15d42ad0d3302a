-- A core's report, as a legal one.
use Rattle.std.proofs.Common.{◌≡◌, ℕ, ◌==◌, suc, List, [], ◌∷◌, find, cond, Some, option_map, refl, sym, ap, ◌∙◌, subst, arith, inl, inr, eq-eqb, ne_eqb, All}
use Rattle.std.proofs.lemmas.Bool.{cases_eq}
use Rattle.std.proofs.lemmas.Option.{same_Some, none-some}
use Rattle.lay_doc.specs.Document.{Document}
use Rattle.lay_face.specs.FaceValue.{FaceValue}
use Rattle.lay_frag.specs.Pieces.{Context}
use Rattle.lay_history.specs.Histories.{doc_at}
use Rattle.lay_history.specs.Trees.{PublishedTreeValue, tree_at}
use Rattle.lay_context.specs.Laws.{OneSolution}
use Rattle.lay_context.specs.Solves.{Solves}
use Rattle.lay_core.specs.CoreLaws.Laws.{VersionsAreDocuments}
use Rattle.lay_core.specs.CoreLaws.ReachedCores.{IsReached, called, new}
use Rattle.lay_core.specs.Laws.{LastTree}
use Rattle.lay_core.specs.State.{IsCore, State}
use Rattle.lay_cli.specs.RunReports.Laws.{PublishedTreesAreLayouts, ReachedTreesAreLayouts, RunReportsAreLegal}

pub run_reports_are_legal : LastTree → RunReportsAreLegal
run_reports_are_legal tree_of s scripts has =
    let last = tree_of s has.core has.whole in
    record {
      history = s.history;
      trees = s.trees;
      last = last.tree;
      laid = s.laid;
      run = record { legal = has.core.legal; answers = has.answers; whole = has.whole; has_trees = has.core.has_trees; solved = has.core.solved };
      last_is = last.at;
      enough = last.counted;
      within = has.within;
      text_is = refl;
    }

-- the tree of a version is among those that are there
record IsAmong (P : PublishedTreeValue → Type 0) (version : ℕ) (tree : List Context) : Type 0 where
  published : PublishedTreeValue
  holds : P published
  version_is : published.version ≡ version
  tree_is : published.tree ≡ tree

among : (P : PublishedTreeValue → Type 0) (version : ℕ) (trees : List PublishedTreeValue) (tree : List Context) → All P trees
    → tree_at version trees ≡ Some tree → IsAmong P version tree
among P version [] tree all e = absurd (none-some tree e)
among P version (t ∷ trees) tree all e = elim (cases_eq t.version version) [
  | inl same ↦ record {
    published = t;
    holds = all 0 t (omega arith);
    version_is = same;
    tree_is = same_Some t.tree tree (sym (ap (λ b. option_map (λ x. x.tree) (cond b (Some t) (find (λ x. x.version == version) trees))) (eq-eqb t.version version same)) ∙ e);
  }
  | inr other ↦ among P version trees tree (λ k d lt. all (suc k) d (omega (arith, lt)))
      (sym (ap (λ b. option_map (λ x. x.tree) (cond b (Some t) (find (λ x. x.version == version) trees))) (ne_eqb t.version version other)) ∙ e)
]

pub published_trees_are_layouts : OneSolution → PublishedTreesAreLayouts
published_trees_are_layouts one s version tree scratch is at valid solves =
    sym found.tree_is
    ∙ one (doc_at s.init s.history version) s.face found.published.tree scratch valid
    (subst (λ v. Solves (doc_at s.init s.history v) s.face found.published.tree) found.version_is found.holds) solves
  where
    found : IsAmong (λ t. Solves (doc_at s.init s.history t.version) s.face t.tree) version tree
    found = among (λ t. Solves (doc_at s.init s.history t.version) s.face t.tree) version s.trees tree is.solved at

core_of : (init : Document) (face : FaceValue) (s : State) → IsReached init face s → IsCore s
core_of init face s (new calls _ is core) = core
core_of init face s (called before _ reached call core) = core

pub reached_trees_are_layouts : OneSolution → VersionsAreDocuments → ReachedTreesAreLayouts
reached_trees_are_layouts one versions s version tree scratch reached at solves =
    published_trees_are_layouts one s version tree scratch (core_of s.init s.face s reached) at (versions s.init s.face s version reached) solves
