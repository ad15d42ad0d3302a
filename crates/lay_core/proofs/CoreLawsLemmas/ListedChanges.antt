-- The changes of a cell's input in a history: there is one list of them, and not more turns than changes, since from a version to a later
-- one in which the cell is given another input some list of edits changes it.
use Rattle.std.proofs.Common.{◌≡◌, ◌⊎◌, ⊎_elim, inl, inr, ◌<◌, ◌≤◌, ◌+◌, ◌-◌, ℕ, zero, suc, Bool, true, false, List, [], ◌∷◌, length, take, slice_get, Option, None, Some, refl, ap, sym, subst, ◌∙◌, arith}
use Rattle.std.proofs.lemmas.Option.{same_Some}
use Rattle.lay_positioned.specs.Levels.{one_if}
use Rattle.lay_doc.specs.Document.{Document}
use Rattle.lay_history.specs.declared.edits.history.Entry.{Entry}
use Rattle.lay_face.specs.FaceValue.{FaceValue}
use Rattle.lay_history.specs.Histories.{accepted, doc_at}
use Rattle.lay_core.proofs.Cited.{get_some, take_whole}
use Rattle.lay_shape.specs.declared.cell_key.CellKey.{CellKey}
use Rattle.lay_cell_work.specs.CellInputs.{CellInput}
use Rattle.lay_core.specs.CoreLaws.GivenInputs.{HasCell, IsGivenIn}
use Rattle.lay_core.specs.CoreLaws.InputChanges.{AreChanges, ChangesInput, IsInputChange, KeepsInput, changes}
use Rattle.lay_core.specs.CoreLaws.Laws.{OneGivenInput, OneListOfChanges, TurnsAreFew}
use Rattle.lay_core.specs.CoreLaws.Turns.{StaysThere, Turned, again, first}
use Rattle.lay_core.proofs.CoreLawsLemmas.TurnSteps.{has_cell, last_given, last_within}

-- one more flag counts as much as it says
one_more : (flags : List Bool) (v : ℕ) (flag : Bool) → slice_get flags v ≡ Some flag → changes (take (suc v) flags) ≡ changes (take v flags) + one_if flag
one_more [] v flag e = absurd cc
one_more (f ∷ fs) zero flag e = let same : one_if f ≡ one_if flag = ap one_if (same_Some f flag e) in omega (arith, same)
one_more (f ∷ fs) (suc v) flag e = let rest = one_more fs v flag e in omega (arith, rest)

rise : (flags : List Bool) (v w : ℕ) → v ≤ w → changes (take v flags) ≤ changes (take w flags)
rise [] zero w le = omega arith
rise [] (suc v) w le = omega arith
rise (f ∷ fs) zero w le = omega arith
rise (f ∷ fs) (suc v) zero le = absurd (omega (arith, le))
rise (f ∷ fs) (suc v) (suc w) le = let rest = rise fs v w (omega (arith, le)) in omega (arith, rest)

few : (flags : List Bool) (v : ℕ) → v ≤ length flags → changes (take v flags) ≤ changes flags
few flags v le = subst (λ (fs : List Bool). changes (take v flags) ≤ changes fs) (take_whole flags) (rise flags v (length flags) le)

module _ (one : OneGivenInput) (init : Document) (face : FaceValue) (h : List Entry) (key : CellKey) (flags : List Bool) (are : AreChanges init face h key flags) where
  abbrev Given : ℕ → CellInput → Type 0
  Given v i = IsGivenIn (doc_at init h v) face key i

  abbrev Rises : (v w : ℕ) → Type 0
  Rises v w = changes (take v flags) < changes (take w flags)

  -- what was given stays so where no change is listed
  keeps : (w : ℕ) (g : CellInput) → Given w g → KeepsInput face key (doc_at init h w) (doc_at init h (w + 1)) → Given (w + 1) g
  keeps w g given kept = subst (λ (i : CellInput). Given (w + 1) i) (one (doc_at init h w) face key kept.input g kept.before given) kept.after

  next : (u w : ℕ) (g : CellInput) → u ≤ w → w < accepted h → Given w g → StaysThere init h key u (w + 1)
      → (o : Option Bool) → slice_get flags w ≡ o → Rises u (suc w) ⊎ Given (suc w) g
  next u w g le lt given stays None e = absurd (get_some flags w (let c = are.count in omega (arith, c, lt)) e)
  next u w g le lt given stays (Some true) e = inl (let r = rise flags u w le in let m = one_more flags w true e in omega (arith, r, m))
  next u w g le lt given stays (Some false) e =
      let m : w + 1 ≡ suc w = omega arith in
      let kept = are.each w false e (stays w le (omega arith)) (stays (w + 1) (omega (arith, le)) (omega arith)) in
      inr (subst (λ (v : ℕ). Given v g) m (keeps w g given kept))

  -- from a version on, some lists of edits change it, or it is still given the same
  between : (n u w : ℕ) (g : CellInput) → w ≡ u + n → w ≤ accepted h → Given u g → StaysThere init h key u w → Rises u w ⊎ Given w g
  between zero u w g is le given stays = let m : u ≡ w = omega (arith, is) in inr (subst (λ (v : ℕ). Given v g) m given)
  between (suc n) u w g is le given stays =
      let m : suc (u + n) ≡ w = omega (arith, is) in
      ⊎_elim
      (λ (more : Rises u (u + n)). inl (let r = rise flags (u + n) w (omega (arith, m)) in omega (arith, more, r)))
      (λ (still : Given (u + n) g).
      subst (λ (v : ℕ). Rises u v ⊎ Given v g) m
      (next u (u + n) g (omega arith) (omega (arith, m, le)) still (λ v from to. stays v from (omega (arith, to, m))) (slice_get flags (u + n)) refl))
      (between n u (u + n) g refl (omega (arith, m, le)) given (λ v from to. stays v from (omega (arith, to, m))))

  turned_few : (turns v : ℕ) (g : CellInput) → Turned init face h key turns v g → turns ≤ changes (take v flags)
  turned_few _ v g (first _ _ within given) = omega arith
  turned_few _ v g (again turns u _ old _ before lt within stays given other) =
      let so_far = turned_few turns u old before in
      ⊎_elim
      (λ (more : Rises u v). omega (arith, so_far, more))
      (λ (still : Given v old). absurd (other (one (doc_at init h v) face key old g still given)))
      (between (v - u) u v old (omega (arith, lt)) within (last_given init face h key turns u old before) stays)

pub turns_are_few_lem : OneGivenInput → TurnsAreFew
turns_are_few_lem one init face h key turns v g flags turned are =
    let most = turned_few one init face h key flags are turns v g turned in
    let within = last_within init face h key turns v g turned in
    let all = few flags v (let c = are.count in omega (arith, c, within)) in
    omega (arith, most, all)

-- one flag for each list of edits
not_both : OneGivenInput → (face : FaceValue) (key : CellKey) (d e : Document) → ChangesInput face key d e → (HasCell d key → HasCell e key → KeepsInput face key d e) → ⊥
not_both one face key d e a keeps =
    let k = keeps (has_cell d face key a.old a.before) (has_cell e face key a.new a.after) in
    a.other (one d face key a.old k.input a.before k.before ∙ one e face key k.input a.new k.after a.after)

one_flag : OneGivenInput → (face : FaceValue) (key : CellKey) (d e : Document) (f g : Bool) → IsInputChange face key d e f → IsInputChange face key d e g → f ≡ g
one_flag one face key d e true true a b = refl
one_flag one face key d e false false a b = refl
one_flag one face key d e true false a b = absurd (not_both one face key d e a b)
one_flag one face key d e false true a b = absurd (not_both one face key d e b a)

same_flags : (xs ys : List Bool) → length xs ≡ length ys → ((v : ℕ) (f g : Bool) → slice_get xs v ≡ Some f → slice_get ys v ≡ Some g → f ≡ g) → xs ≡ ys
same_flags [] [] same each = refl
same_flags [] (y ∷ ys) same each = absurd (omega (arith, same))
same_flags (x ∷ xs) [] same each = absurd (omega (arith, same))
same_flags (x ∷ xs) (y ∷ ys) same each =
    ap (λ (z : Bool). z ∷ xs) (each 0 x y refl refl)
    ∙ ap (λ (zs : List Bool). y ∷ zs) (same_flags xs ys (omega (arith, same)) (λ v f g at_f at_g. each (suc v) f g at_f at_g))

pub one_list_of_changes_lem : OneGivenInput → OneListOfChanges
one_list_of_changes_lem one init face h key flags others a b =
    same_flags flags others (a.count ∙ sym b.count)
    (λ v f g at_f at_g. one_flag one face key (doc_at init h v) (doc_at init h (v + 1)) f g (a.each v f at_f) (b.each v g at_g))
