-- The trees of the versions that entries show.
use Rattle.std.proofs.Common.{◌≡◌, ◌||◌, ℕ, ◌==◌, List, [], ◌∷◌, ◌++◌, take, drop, Bool, true, false, sym, ap, ◌∙◌, subst, rules}
use Rattle.std.specs.List.{list_any}
use Rattle.std.proofs.lemmas.List.{take-append-drop}
use Rattle.std.proofs.lemmas.List.Concat.{flat_map-append}
use Rattle.lay_history.specs.declared.edits.history.Entry.{Entry}
use Rattle.lay_history.specs.Histories.{doc_at, published, version_in}
use Rattle.lay_core.proofs.Cited.{shown_last}
use Rattle.lay_context.specs.Solves.{Solves}
use Rattle.lay_core.specs.Laws.{ShownTrees}
use Rattle.lay_core.proofs.LastTree.{IsFound, found, listed}

or_true_left : (b c d : Bool) → (b ≡ true → c ≡ true) → (d || b) ≡ true → (d || c) ≡ true
or_true_left b c true more e = e
or_true_left b c false more e = more e

-- what is among these is among more
any_more : (v : ℕ) (xs ys : List ℕ) → list_any (λ x. x == v) xs ≡ true → list_any (λ x. x == v) (xs ++ ys) ≡ true
any_more v [] ys e = absurd (search rules)
any_more v (x ∷ xs) ys e = or_true_left (list_any (λ y. y == v) xs) (list_any (λ y. y == v) (xs ++ ys)) (x == v) (any_more v xs ys) e

published_parts : (h : List Entry) (k : ℕ) → published (take k h) ++ published (drop k h) ≡ published h
published_parts h k = sym (flat_map-append version_in (take k h) (drop k h)) ∙ ap published (take-append-drop k h)

pub shown_trees : ShownTrees
shown_trees s k version e is at shows = record {
  tree = shown.published.tree;
  at = shown.at;
  solves = subst (λ v. Solves (doc_at s.init s.history v) s.face shown.published.tree) shown.version_is shown.holds;
}
  where
    among : list_any (λ v. v == version) (published s.history) ≡ true
    among = subst (λ vs. list_any (λ v. v == version) vs ≡ true) (published_parts s.history k)
        (any_more version (published (take k s.history)) (published (drop k s.history))
        (listed (published (take k s.history)) version (shown_last s.init (take k s.history) e version (is.legal k e at) shows)))

    shown : IsFound (λ t. Solves (doc_at s.init s.history t.version) s.face t.tree) version s.trees
    shown = found (λ t. Solves (doc_at s.init s.history t.version) s.face t.tree) version s.trees is.solved
        (subst (λ vs. list_any (λ v. v == version) vs ≡ true) (sym is.has_trees) among)
