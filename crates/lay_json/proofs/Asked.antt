-- Objects that have the same members of the names that are asked for are read alike.
use Rattle.std.proofs.Common.{◌≡◌, ℕ, List, Bool, ◌||◌, true, false, Option, Some, None, codes, is_some, refl, sym, ap, ◌∙◌, subst, bytes_eq, if◌then◌else◌, Result, Ok, Err, OnOk}
use Rattle.std.proofs.lemmas.Slice.Eq.{bytes_eq-Decides}
use Rattle.std.proofs.lemmas.Bool.{true≢false}
use Rattle.serde_json.specs.Data.{Data, object, Members, put}
use Rattle.serde_json.specs.Find.{get_member}
use Rattle.serde_json.proofs.Views.{get_member-put, get_member-put_other}
use Rattle.lay_json.specs.declared.fault.Field.TheVariants.{Editors}
use Rattle.lay_json.specs.declared.taken.Taken.{Taken}
use Rattle.lay_json.specs.Fields.{then_read, map_read, value_in}
use Rattle.lay_json.specs.FaceFields.{run_face}
use Rattle.lay_json.specs.Editors.{scripts_of}
use Rattle.lay_json.specs.Pulled.{is_asked, SayAlike, editors_at, scripts_in, sheet_text, input_with, read_with}
use Rattle.lay_json.proofs.Composed.{same_face, same_editors, same_text}

-- a member that is put into both
module _ (name : List ℕ) (d : Data) (a b : Members) where
  put_in_both : (q : List ℕ) (is : Bool) → bytes_eq q name ≡ is → get_member q a ≡ get_member q b → get_member q (put name d a) ≡ get_member q (put name d b)
  put_in_both q true e h =
      subst (λ x. get_member x (put name d a) ≡ get_member x (put name d b)) (sym ((bytes_eq-Decides q name).0 e)) (get_member-put name d a ∙ sym (get_member-put name d b))
  put_in_both q false e h =
      let other : q ≡ name → ⊥ = λ is. true≢false (sym ((bytes_eq-Decides q name).1 is) ∙ e) in
      get_member-put_other q name d a other ∙ h ∙ sym (get_member-put_other q name d b other)

  pub put_alike : SayAlike (object a) (object b) → SayAlike (object (put name d a)) (object (put name d b))
  put_alike same = (
    put_in_both (codes "viewport") (bytes_eq (codes "viewport") name) refl same.0,
    put_in_both (codes "face") (bytes_eq (codes "face") name) refl same.1,
    put_in_both (codes "sheet") (bytes_eq (codes "sheet") name) refl same.2,
    put_in_both (codes "editors") (bytes_eq (codes "editors") name) refl same.3,
  )

-- a member that isn't asked for
neither : (x y : Bool) → (x || y) ≡ false → (x ≡ false) × (y ≡ false)
neither true y e = absurd (true≢false e)
neither false y e = (refl, e)

module _ (name : List ℕ) (d : Data) (a : Data) (b : Members) where
  passed_by : (q : List ℕ) → bytes_eq name q ≡ false → get_member q (put name d b) ≡ get_member q b
  passed_by q e = get_member-put_other q name d b (λ is. true≢false (sym ((bytes_eq-Decides name q).1 (sym is)) ∙ e))

  pub skip_alike : is_asked name ≡ false → SayAlike a (object b) → SayAlike a (object (put name d b))
  skip_alike not same =
      let first = neither (bytes_eq name (codes "viewport")) _ not in
      let second = neither (bytes_eq name (codes "face")) _ first.1 in
      let third = neither (bytes_eq name (codes "sheet")) (bytes_eq name (codes "editors")) second.1 in (
        same.0 ∙ sym (passed_by (codes "viewport") first.0),
        same.1 ∙ sym (passed_by (codes "face") second.0),
        same.2 ∙ sym (passed_by (codes "sheet") third.0),
        same.3 ∙ sym (passed_by (codes "editors") third.1),
      )

-- what is read of both
abbrev pick : Option Data → Option Data → Option Data → Option Data
pick None x y = y
pick (Some d) x y = x

picked : (o : Option Data) (x y : Data) → value_in Editors (if is_some o then x else y) ≡ pick o (value_in Editors x) (value_in Editors y)
picked None x y = refl
picked (Some d) x y = refl

module _ (a b l m : Data) (before : SayAlike a b) (later : SayAlike l m) where
  editors_alike : value_in Editors (editors_at a l) ≡ value_in Editors (editors_at b m)
  editors_alike =
      picked (value_in Editors l) l a ∙ ap (λ o. pick o o (value_in Editors a)) later.3 ∙ ap (pick (value_in Editors m) (value_in Editors m)) before.3
      ∙ sym (picked (value_in Editors m) m b)

  pub read_alike : (taken : Taken) → read_with a l taken ≡ read_with b m taken
  read_alike taken =
      let scripts : scripts_in a l ≡ scripts_in b m = ap (λ r. then_read r scripts_of) (same_editors (editors_at a l) (editors_at b m) editors_alike) in
      ap (λ r. then_read r (λ face. then_read (scripts_in a l) (λ scripts. map_read (input_with taken face scripts) (sheet_text a)))) (same_face a b before.1)
      ∙ ap (λ r. then_read (run_face b) (λ face. then_read r (λ scripts. map_read (input_with taken face scripts) (sheet_text a)))) scripts
      ∙ ap (λ r. then_read (run_face b) (λ face. then_read (scripts_in b m) (λ scripts. map_read (input_with taken face scripts) r))) (same_text a b before.2)

-- what follows from what a call that went well left
pub on_ok : {A E P Q : Type 0} (r : Result A E) → (P → Q) → OnOk r P → OnOk r Q
on_ok (Ok a) f p = f p
on_ok (Err e) f p = tt
