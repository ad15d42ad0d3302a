-- What the lines of a report show of a history, and the scripts, determine it.
use Rattle.std.proofs.Common.{◌≡◌, ℕ, ◌==◌, List, [], ◌∷◌, ◌++◌, drop, Bool, true, false, if◌then◌else◌, refl, sym, ap, ◌∙◌, eq-eqb, slice_get}
use Rattle.std.proofs.lemmas.Option.{same_Some}
use Rattle.lay_doc.specs.declared.edit.Edit.{Edit as Change}
use Rattle.lay_history.specs.declared.edits.command.Cmd.{Cmd}
use Rattle.lay_history.specs.declared.edits.command.Cmd.TheVariants as command
use Rattle.lay_history.specs.declared.edits.history.Entry.{Entry}
use Rattle.lay_history.specs.declared.edits.history.Entry.TheVariants.{Edit, Publish, Latest, Sync}
use Rattle.lay_history.specs.Calls.{Call, calls, calls_of}
use Rattle.lay_history.specs.Laws.{OneHistory, ShowSame}

pub heads_same : {X : Type 0} (x y : X) (xs ys : List X) → (x ∷ xs) ≡ (y ∷ ys) → x ≡ y
heads_same x y xs ys e = same_Some x y (ap (λ zs. slice_get zs 0) e)

pub tails_same : {X : Type 0} (x y : X) (xs ys : List X) → (x ∷ xs) ≡ (y ∷ ys) → xs ≡ ys
tails_same x y xs ys e = ap (λ zs. drop 1 zs) e

-- an editor's own call comes first among its calls
pub own_first : (c : Call) (cs : List Call) → calls_of c.editor (c ∷ cs) ≡ c ∷ calls_of c.editor cs
own_first c cs = ap (λ b. (if b then c ∷ [] else []) ++ calls_of c.editor cs) (eq-eqb c.editor c.editor refl)

cut : (b : Bool) (c d : Call) (xs ys : List Call) → (if b then c ∷ [] else []) ++ xs ≡ (if b then d ∷ [] else []) ++ ys → xs ≡ ys
cut true c d xs ys e = tails_same c d xs ys e
cut false c d xs ys e = e

-- where the first calls are of one editor, the rest of each editor's calls is the same
pub rest_same : (c d : Call) (cs ds : List Call) → d.editor ≡ c.editor → ((editor : ℕ) → calls_of editor (c ∷ cs) ≡ calls_of editor (d ∷ ds))
    → (editor : ℕ) → calls_of editor cs ≡ calls_of editor ds
rest_same c d cs ds own same editor =
    cut (c.editor == editor) c d (calls_of editor cs) (calls_of editor ds)
    (same editor ∙ ap (λ n. (if n == editor then d ∷ [] else []) ++ calls_of editor ds) own)

-- and they are the same calls
pub first_same : (c d : Call) (cs ds : List Call) → d.editor ≡ c.editor → ((editor : ℕ) → calls_of editor (c ∷ cs) ≡ calls_of editor (d ∷ ds)) → c ≡ d
first_same c d cs ds own same =
    heads_same c d (calls_of c.editor cs) (calls_of d.editor ds)
    (sym (own_first c cs) ∙ (same c.editor ∙ (ap (λ n. calls_of n (d ∷ ds)) (sym own) ∙ own_first d ds)))

abbrev edits_or : List Change → Cmd → List Change
edits_or other (command.Edits edits) = edits
edits_or other command.Latest = other
edits_or other command.Sync = other

pub same_histories : (g h : List Entry) → ((editor : ℕ) → calls_of editor (calls g) ≡ calls_of editor (calls h)) → ShowSame g h → g ≡ h
same_histories [] [] same show = refl
same_histories [] (y ∷ h) same show = absurd show
same_histories (x ∷ g) [] same show = absurd show
same_histories (Edit a i e r ∷ g) (Edit b j f s ∷ h) same show =
    let c : Call = record { editor = a; index = i; command = command.Edits e } in
    let d : Call = record { editor = b; index = j; command = command.Edits f } in
    let rest = same_histories g h (rest_same c d (calls g) (calls h) (sym show.0.0) same) show.1 in
    let edits_same : e ≡ f = ap (λ x. edits_or e x.command) (first_same c d (calls g) (calls h) (sym show.0.0) same) in
    ap (λ n. Edit n i e r ∷ g) show.0.0 ∙ (ap (λ n. Edit b n e r ∷ g) show.0.1 ∙ (ap (λ x. Edit b j x r ∷ g) edits_same
    ∙ (ap (λ x. Edit b j f x ∷ g) show.0.2 ∙ ap (λ t. Edit b j f s ∷ t) rest)))
same_histories (Publish v ∷ g) (Publish w ∷ h) same show =
    ap (λ n. Publish n ∷ g) show.0 ∙ ap (λ t. Publish w ∷ t) (same_histories g h same show.1)
same_histories (Latest a i r ∷ g) (Latest b j s ∷ h) same show =
    let c : Call = record { editor = a; index = i; command = command.Latest } in
    let d : Call = record { editor = b; index = j; command = command.Latest } in
    let rest = same_histories g h (rest_same c d (calls g) (calls h) (sym show.0.0) same) show.1 in
    ap (λ n. Latest n i r ∷ g) show.0.0 ∙ (ap (λ n. Latest b n r ∷ g) show.0.1 ∙ (ap (λ x. Latest b j x ∷ g) show.0.2 ∙ ap (λ t. Latest b j s ∷ t) rest))
same_histories (Sync a i r ∷ g) (Sync b j s ∷ h) same show =
    let c : Call = record { editor = a; index = i; command = command.Sync } in
    let d : Call = record { editor = b; index = j; command = command.Sync } in
    let rest = same_histories g h (rest_same c d (calls g) (calls h) (sym show.0.0) same) show.1 in
    ap (λ n. Sync n i r ∷ g) show.0.0 ∙ (ap (λ n. Sync b n r ∷ g) show.0.1 ∙ (ap (λ x. Sync b j x ∷ g) show.0.2 ∙ ap (λ t. Sync b j s ∷ t) rest))
same_histories (Edit a i e r ∷ g) (Publish w ∷ h) same show = absurd show.0
same_histories (Edit a i e r ∷ g) (Latest b j s ∷ h) same show = absurd show.0
same_histories (Edit a i e r ∷ g) (Sync b j s ∷ h) same show = absurd show.0
same_histories (Publish v ∷ g) (Edit b j f s ∷ h) same show = absurd show.0
same_histories (Publish v ∷ g) (Latest b j s ∷ h) same show = absurd show.0
same_histories (Publish v ∷ g) (Sync b j s ∷ h) same show = absurd show.0
same_histories (Latest a i r ∷ g) (Edit b j f s ∷ h) same show = absurd show.0
same_histories (Latest a i r ∷ g) (Publish w ∷ h) same show = absurd show.0
same_histories (Latest a i r ∷ g) (Sync b j s ∷ h) same show = absurd show.0
same_histories (Sync a i r ∷ g) (Edit b j f s ∷ h) same show = absurd show.0
same_histories (Sync a i r ∷ g) (Publish w ∷ h) same show = absurd show.0
same_histories (Sync a i r ∷ g) (Latest b j s ∷ h) same show = absurd show.0

pub one_history : OneHistory
one_history scripts g h of_g of_h show = same_histories g h (λ editor. of_g editor ∙ sym (of_h editor)) show
