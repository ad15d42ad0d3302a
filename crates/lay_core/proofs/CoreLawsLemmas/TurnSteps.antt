-- How turns go on: where an input is handed in that the cell is given in the present version, and where a history goes on.
use Rattle.std.proofs.Common.{◌≡◌, ◌≢◌, ◌⊎◌, ⊎_elim, inl, inr, ◌<◌, ◌≤◌, ◌+◌, ℕ, zero, suc, List, Option, None, Some, IsSome, refl, ap, sym, subst, ◌∙◌, arith}
use Rattle.std.proofs.lemmas.Bool.{false≢true}
use Rattle.std.proofs.lemmas.Option.{same_Some}
use Rattle.lay_doc.specs.Document.{Document}
use Rattle.lay_history.specs.declared.edits.history.Entry.{Entry}
use Rattle.lay_face.specs.FaceValue.{FaceValue}
use Rattle.lay_history.specs.Histories.{accepted, doc_at}
use Rattle.lay_shape.specs.declared.cell_key.CellKey.{CellKey}
use Rattle.lay_cell_work.specs.CellInputs.{CellInput}
use Rattle.lay_core.specs.CoreLaws.GivenInputs.{HasCell, IsGivenIn}
use Rattle.lay_core.specs.CoreLaws.Laws.{OneGivenInput}
use Rattle.lay_core.specs.CoreLaws.Turns.{HasTurned, HasTurnedTo, StaysThere, Turned, again, first}

pub has_cell : (d : Document) (face : FaceValue) (key : CellKey) (i : CellInput) → IsGivenIn d face key i → HasCell d key
has_cell d face key i g = record { lists = g.lists; lists_are = g.lists_are; cell = g.among.cell; cell_is = g.among.cell_is }

order : (a b : ℕ) → a ≤ b → (a ≡ b) ⊎ (a < b)
order zero zero le = inl refl
order zero (suc b) le = inr (omega arith)
order (suc a) zero le = absurd (omega (arith, le))
order (suc a) (suc b) le =
    ⊎_elim (λ (e : a ≡ b). inl (ap suc e)) (λ (lt : a < b). inr (omega (arith, lt))) (order a b (omega (arith, le)))

-- what an input that is handed in makes of the one before it and of the number of turns
abbrev pub TurnsTo : Option CellInput → ℕ → CellInput → ℕ → Type 0
TurnsTo given turns input n =
    ((given ≡ None) × (n ≡ turns)) ⊎ (((given ≡ Some input) × (n ≡ turns)) ⊎ (IsSome given × (given ≢ Some input) × (n ≡ turns + 1)))

module _ (init : Document) (face : FaceValue) (h : List Entry) (key : CellKey) where
  pub last_given : (turns v : ℕ) (i : CellInput) → Turned init face h key turns v i → IsGivenIn (doc_at init h v) face key i
  last_given _ v i (first _ _ within given) = given
  last_given _ v i (again turns u _ old _ before lt within stays given other) = given

  pub last_within : (turns v : ℕ) (i : CellInput) → Turned init face h key turns v i → v ≤ accepted h
  last_within _ v i (first _ _ within given) = within
  last_within _ v i (again turns u _ old _ before lt within stays given other) = within

  -- each turn is of a later version
  pub turns_below : (turns v : ℕ) (i : CellInput) → Turned init face h key turns v i → turns ≤ v
  turns_below _ v i (first _ _ within given) = omega arith
  turns_below _ v i (again turns u _ old _ before lt within stays given other) = let few = turns_below turns u old before in omega (arith, few, lt)

  -- in the present version the document has the cell
  stays_now : HasCell (doc_at init h (accepted h)) key → StaysThere init h key (accepted h) (accepted h)
  stays_now has v from to =
      let same : accepted h ≡ v = omega (arith, from, to) in
      subst (λ (n : ℕ). HasCell (doc_at init h n) key) same has

  module _ (one : OneGivenInput) (input : CellInput) (given_now : IsGivenIn (doc_at init h (accepted h)) face key input) where
    stays : StaysThere init h key (accepted h) (accepted h)
    stays = stays_now (has_cell (doc_at init h (accepted h)) face key input given_now)

    -- another input than the last one turns it
    another : (given : Option CellInput) (turns : ℕ) → IsSome given → given ≢ Some input → HasTurned init face h key given turns → HasTurnedTo init face h key (suc turns) input
    another None turns some other is = absurd (false≢true some)
    another (Some old) turns some other is =
        let to = is.some old refl in
        let differ : old ≡ input → ⊥ = λ e. other (ap Some e) in
        ⊎_elim
        (λ (now : to.version ≡ accepted h).
        absurd (differ (one (doc_at init h (accepted h)) face key old input
        (subst (λ (n : ℕ). IsGivenIn (doc_at init h n) face key old) now (last_given turns to.version old to.turned)) given_now)))
        (λ (lt : to.version < accepted h).
        record {
          version = accepted h;
          within = omega arith;
          turned = again turns to.version (accepted h) old input to.turned lt (omega arith) to.stays given_now differ;
          stays = stays;
        })
        (order to.version (accepted h) to.within)

    handed_to : (given : Option CellInput) (turns n : ℕ) → HasTurned init face h key given turns → TurnsTo given turns input n → HasTurnedTo init face h key n input
    handed_to given turns n is (inl none) =
        let z : 0 ≡ n = sym (none.1 ∙ is.none none.0) in
        subst (λ (m : ℕ). HasTurnedTo init face h key m input) z
        (record { version = accepted h; within = omega arith; turned = first (accepted h) input (omega arith) given_now; stays = stays })
    handed_to given turns n is (inr (inl same)) = subst (λ (m : ℕ). HasTurnedTo init face h key m input) (sym same.1) (is.some input same.0)
    handed_to given turns n is (inr (inr new)) =
        let m : suc turns ≡ n = (let e = new.2 in omega (arith, e)) in
        subst (λ (m : ℕ). HasTurnedTo init face h key m input) m (another given turns new.0 new.1 is)

    pub handed_in : (given : Option CellInput) (turns n : ℕ) → HasTurned init face h key given turns → TurnsTo given turns input n → HasTurned init face h key (Some input) n
    handed_in given turns n is turned = record {
      none = λ e. absurd cc;
      some = λ i e. subst (λ (x : CellInput). HasTurnedTo init face h key n x) (same_Some input i e) (handed_to given turns n is turned);
    }

  pub not_turned : HasTurned init face h key None 0
  not_turned = record { none = λ e. refl; some = λ i e. absurd cc }

-- a history goes on, with the same versions so far
pub record GoesOn (init : Document) (h later : List Entry) : Type 0 where
  pub count : accepted h ≤ accepted later
  pub same : (v : ℕ) → v ≤ accepted h → doc_at init later v ≡ doc_at init h v

module _ (init : Document) (face : FaceValue) (h later : List Entry) (on : GoesOn init h later) (key : CellKey) where
  stays_on : (u v : ℕ) → v ≤ accepted h → StaysThere init h key u v → StaysThere init later key u v
  stays_on u v within stays w from to = subst (λ (d : Document). HasCell d key) (sym (on.same w (omega (arith, to, within)))) (stays w from to)

  given_on : (v : ℕ) (i : CellInput) → v ≤ accepted h → IsGivenIn (doc_at init h v) face key i → IsGivenIn (doc_at init later v) face key i
  given_on v i within given = subst (λ (d : Document). IsGivenIn d face key i) (sym (on.same v within)) given

  turned_on : (turns v : ℕ) (i : CellInput) → Turned init face h key turns v i → Turned init face later key turns v i
  turned_on _ v i (first _ _ within given) = first v i (let c = on.count in omega (arith, within, c)) (given_on v i within given)
  turned_on _ v i (again turns u _ old _ before lt within stays given other) =
      again turns u v old i (turned_on turns u old before) lt (let c = on.count in omega (arith, within, c)) (stays_on u v within stays) (given_on v i within given) other

  -- the cell is there in the versions that came
  abbrev pub StaysOn : Type 0
  StaysOn = (v : ℕ) → accepted h < v → v ≤ accepted later → HasCell (doc_at init later v) key

  stays_all : (u : ℕ) → StaysOn → StaysThere init h key u (accepted h) → StaysThere init later key u (accepted later)
  stays_all u new stays v from to =
      ⊎_elim
      (λ (old : v ≤ accepted h). stays_on u (accepted h) (omega arith) stays v from old)
      (λ (lt : accepted h < v). new v lt to)
      (either v (accepted h))
    where
      either : (a b : ℕ) → (a ≤ b) ⊎ (b < a)
      either zero b = inl (omega arith)
      either (suc a) zero = inr (omega arith)
      either (suc a) (suc b) = ⊎_elim (λ (le : a ≤ b). inl (omega (arith, le))) (λ (lt : b < a). inr (omega (arith, lt))) (either a b)

  pub has_turned_on : (given : Option CellInput) (turns : ℕ) → StaysOn → HasTurned init face h key given turns → HasTurned init face later key given turns
  has_turned_on given turns new is = record {
    none = is.none;
    some = λ i e. (let to = is.some i e in record {
      version = to.version;
      within = (let c = on.count in let w = to.within in omega (arith, w, c));
      turned = turned_on turns to.version i to.turned;
      stays = stays_all to.version new to.stays;
    });
  }
