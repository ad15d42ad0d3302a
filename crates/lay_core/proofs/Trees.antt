-- The trees that a core keeps, and the versions of its history.
use Rattle.std.proofs.Common.{◌≡◌, ℕ, ◌==◌, ◌-◌, suc, List, [], ◌∷◌, length, map, find, Bool, true, false, cond, Option, Some, None, option_map, is_some, refl, sym, ap, ◌∙◌, subst, arith, ◌||◌, slice_get}
use Rattle.std.specs.List.{list_any}
use Rattle.std.proofs.lemmas.Option.{none-some}
use Rattle.lay_frag.specs.Pieces.{Context}
use Rattle.lay_history.specs.Histories.{is_published, last_or}
use Rattle.lay_history.specs.Trees.{HasTrees, PublishedTreeValue, tree_at, versions_of}
use Rattle.lay_history.specs.declared.edits.history.Entry.{Entry}

found_by : (b : Bool) (t : PublishedTreeValue) (o : Option PublishedTreeValue) (others : Bool) → is_some (option_map (λ x. x.tree) o) ≡ others
    → is_some (option_map (λ x. x.tree) (cond b (Some t) o)) ≡ (b || others)
found_by true t o others e = refl
found_by false t o others e = e

found : (version : ℕ) (trees : List PublishedTreeValue) → is_some (tree_at version trees) ≡ list_any (λ v. v == version) (versions_of trees)
found version [] = refl
found version (t ∷ trees) =
    found_by (t.version == version) t (find (λ x. x.version == version) trees) (list_any (λ v. v == version) (versions_of trees)) (found version trees)

some_mapped : {X Y : Type 0} (f : X → Y) (o : Option X) → is_some (option_map f o) ≡ is_some o
some_mapped f None = refl
some_mapped f (Some x) = refl

-- there is a tree of a version exactly where it is published
pub there_of : {X : Type 0} (f : X → List Context) (o : Option X) (version : ℕ) (history : List Entry) (trees : List PublishedTreeValue)
    → option_map f o ≡ tree_at version trees → HasTrees history trees → is_some o ≡ is_published history version
there_of f o version history trees got has =
    sym (some_mapped f o) ∙ (ap is_some got ∙ (found version trees ∙ ap (list_any (λ v. v == version)) has))

pub last_of_get : {X : Type 0} (f : X → ℕ) (o : Option ℕ) (xs : List X) (a : X) → slice_get xs (length xs - 1) ≡ Some a → last_or o (map f xs) ≡ Some (f a)
last_of_get f o [] a e = absurd (none-some a e)
last_of_get f o (x ∷ []) a e = ap (option_map f) e
last_of_get f o (x ∷ y ∷ xs) a e =
    let n : length (x ∷ y ∷ xs) - 1 ≡ suc (length (y ∷ xs) - 1) = omega arith in
    last_of_get f (Some (f x)) (y ∷ xs) a (subst (λ k. slice_get (x ∷ y ∷ xs) k ≡ Some a) n e)
