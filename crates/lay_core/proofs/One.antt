-- What editors see of a core after a call is decided by what they saw before, but for want of memory.
use Rattle.std.proofs.Common.{◌≡◌, ◌+◌, ℕ, Bool, true, false, List, Option, Some, refl, sym, ap, ◌∙◌, subst, rules}
use Rattle.std.proofs.lemmas.Option.{same_Some, none-some}
use Rattle.lay_doc.specs.Document.{IsDocument}
use Rattle.lay_history.specs.Edits.EditLists.{after_all, first}
use Rattle.lay_doc.specs.declared.edit.Edit.{Edit as Change}
use Rattle.lay_doc.specs.declared.edit.EditFault.{EditFault}
use Rattle.lay_history.specs.declared.edits.command.Reply.{Reply}
use Rattle.lay_history.specs.declared.edits.command.Reply.TheVariants.{Accepted, Refused, Shown, NoMemory}
use Rattle.lay_history.specs.declared.edits.history.Entry.TheVariants.{Edit, Latest, Sync}
use Rattle.lay_cells.specs.Laws.{OneFirstDirty}
use Rattle.lay_cells.specs.Reads.{AllClean, IsFirstDirtyKey}
use Rattle.lay_shape.specs.declared.cell_key.CellKey.{CellKey}
use Rattle.lay_cell_work.specs.CellInputs.{CellInput}
use Rattle.lay_cell_work.specs.CellValues.{CellValue}
use Rattle.lay_cell_work.specs.CellLaws.SoundCells.{CellRow}
use Rattle.lay_history.specs.Histories.{accepted, last_published}
use Rattle.lay_context.specs.Laws.{OneSolution}
use Rattle.lay_context.specs.Solves.{Solves}
use Rattle.lay_document_cells.specs.Laws.{OneEdit as OneCellsEdit}
use Rattle.lay_document_cells.specs.State.{IsOfDocument}
use Rattle.lay_core.specs.State.{IsCore, State, document_cells, is_clean}
use Rattle.lay_core.specs.Publishing.{Publishes, PublishesUnless, is_last, with_tree}
use Rattle.lay_core.specs.Steps.{EditsDocument, ShowsLatest, ShowsPresent, ShowsVersion, called, due_of, is_due}
use Rattle.lay_core.specs.Laws.{OneReplyToEdit, OneLatest, OnePublishing, OneRefreshing, OneSeenEdit, OneSettling, OneSync, without_cells}
use Rattle.lay_core.specs.declared.answers.Publish.TheVariants.{Published, Unsettled, NoMemory as no_publishing}

pub one_settling : OneSettling
one_settling s z t u same a b = ap without_cells a.state ∙ (same ∙ sym (ap without_cells b.state))

-- to publish the layout of one document
trees_are : OneSolution → (m n t u : State) → IsDocument m.document → without_cells m ≡ without_cells n → (p : PublishesUnless false m t) (q : PublishesUnless false n u) → p.tree ≡ q.tree
trees_are one m n t u valid same p q =
    one m.document m.face p.tree q.tree valid p.solves (subst (λ (x : State). Solves x.document x.face q.tree) (sym same) q.solves)

seen_by : OneSolution → (b : Bool) (m n t u : State) → IsDocument m.document → without_cells m ≡ without_cells n → PublishesUnless b m t → PublishesUnless b n u → without_cells t ≡ without_cells u
seen_by one true m n t u valid same p q = ap without_cells p ∙ (same ∙ sym (ap without_cells q))
seen_by one false m n t u valid same p q =
    ap without_cells p.state ∙ (ap (with_tree (without_cells m)) (trees_are one m n t u valid same p q) ∙ (ap (λ x. with_tree x q.tree) same ∙ sym (ap without_cells q.state)))

published_seen : OneSolution → (m n t u : State) → IsDocument m.document → without_cells m ≡ without_cells n → Publishes m t → Publishes n u → without_cells t ≡ without_cells u
published_seen one m n t u valid same p q =
    seen_by one (is_last m) m n t u valid same p (subst (λ b. PublishesUnless b n u) (sym (ap is_last same)) q)

pub one_refreshing : OneSolution → OneRefreshing
one_refreshing one s z t u valid same a b =
    published_seen one a.settled b.settled t u (subst (λ d. IsDocument d) (sym (ap (λ x. x.document) a.settles.state)) valid)
    (one_settling s z a.settled b.settled same a.settles b.settles) a.publishes b.publishes

-- one state
state_by : OneSolution → (b : Bool) (s t u : State) → IsDocument s.document → PublishesUnless b s t → PublishesUnless b s u → t ≡ u
state_by one true s t u valid p q = p ∙ sym q
state_by one false s t u valid p q = p.state ∙ (ap (with_tree s) (trees_are one s s t u valid refl p q) ∙ sym q.state)

no_dirty_key : (rows : List CellRow) (key : CellKey) → AllClean rows → IsFirstDirtyKey rows key → ⊥
no_dirty_key rows key clean first = not_both (sym (clean first.1 (first.0, first.2.0)) ∙ first.3)
  where
    not_both : false ≡ true → ⊥
    not_both f = absurd (search rules)

pub one_publishing : OneSolution → OneFirstDirty CellKey CellInput CellValue → OnePublishing
one_publishing one first s t u (Published v) (Published w) valid p q a b =
    (ap (λ n. Published n) (a.1 ∙ sym b.1), state_by one (is_last s) s t u valid a.2 b.2)
one_publishing one first s t u (Published v) (Unsettled k) valid p q a b = absurd (no_dirty_key s.cells.rows k a.0 b.0)
one_publishing one first s t u (Published v) no_publishing valid p q a b = absurd (q refl)
one_publishing one first s t u (Unsettled k) (Published v) valid p q a b = absurd (no_dirty_key s.cells.rows k b.0 a.0)
one_publishing one first s t u (Unsettled k) (Unsettled l) valid p q a b =
    let same : Some k ≡ Some l = first s.cells.rows (Some k) (Some l) (record { some = a.0; none = tt }) (record { some = b.0; none = tt }) in
    (ap (λ x. Unsettled x) (same_Some k l same), a.1 ∙ sym b.1)
one_publishing one first s t u (Unsettled k) no_publishing valid p q a b = absurd (q refl)
one_publishing one first s t u no_publishing y valid p q a b = absurd (p refl)

-- an edit of the document with its cells
edit_by : OneCellsEdit → (s t u : State) (edits : List Change) → IsCore s → IsCore t → (e : State) → document_cells e ≡ document_cells s
    → EditsDocument e edits t → EditsDocument e edits u → t ≡ u
edit_by one s t u edits is later e same a b =
    a.state ∙ (ap (λ c. record e { document = after_all e.document edits; cells = c }) (ap (λ d. d.cells) cells) ∙ sym b.state)
  where
    cells : document_cells t ≡ document_cells u
    cells = one (document_cells e) (document_cells t) (document_cells u) edits
        (subst (λ d. IsOfDocument d) (sym same) is.sound)
        (subst (λ d. IsDocument d) (ap (λ x. x.document) a.state) later.sound.cells.is_document) a.cells b.cells

pub one_edit : OneCellsEdit → OneReplyToEdit
one_edit one s t u editor index edits (Accepted v) (Accepted w) is later q r a b =
    let same : v ≡ w = a.1 ∙ sym b.1 in (
      ap (λ n. Accepted n) same,
      edit_by one s t u edits is later (called s (Edit editor index edits (Accepted v))) refl a.2
          (subst (λ n. EditsDocument (called s (Edit editor index edits (Accepted n))) edits u) (sym same) b.2),
    )
one_edit one s t u editor index edits (Accepted v) (Refused place g) is later q r a b = absurd (none-some (place, g) (sym a.0 ∙ b.0))
one_edit one s t u editor index edits (Accepted v) (Shown w) is later q r a b = absurd b
one_edit one s t u editor index edits (Accepted v) NoMemory is later q r a b = absurd (r refl)
one_edit one s t u editor index edits (Refused place f) (Accepted w) is later q r a b = absurd (none-some (place, f) (sym b.0 ∙ a.0))
one_edit one s t u editor index edits (Refused place f) (Refused place' g) is later q r a b =
    let same = same_Some (place, f) (place', g) (sym a.0 ∙ b.0) in
    (ap (λ (x : ℕ × EditFault). Refused x.0 x.1) same, a.1 ∙ (ap (λ (x : ℕ × EditFault). called s (Edit editor index edits (Refused x.0 x.1))) same ∙ sym b.1))
one_edit one s t u editor index edits (Refused place f) (Shown w) is later q r a b = absurd b
one_edit one s t u editor index edits (Refused place f) NoMemory is later q r a b = absurd (r refl)
one_edit one s t u editor index edits (Shown v) y is later q r a b = absurd a
one_edit one s t u editor index edits NoMemory y is later q r a b = absurd (q refl)

-- what is seen of it
faults_same : (s z : State) (edits : List Change) → without_cells s ≡ without_cells z → first s.document edits ≡ first z.document edits
faults_same s z edits same = ap (λ (x : State). first x.document edits) same

pub one_seen_edit : OneSeenEdit
one_seen_edit s z t u editor index edits (Accepted v) (Accepted w) same q r a b =
    let versions : v ≡ w = a.1 ∙ (ap (λ (x : State). accepted x.history + 1) same ∙ sym b.1) in (
      ap (λ n. Accepted n) versions,
      ap without_cells a.2.state
          ∙ (ap (λ (x : State). record (called x (Edit editor index edits (Accepted v))) { document = after_all x.document edits }) same
          ∙ (ap (λ n. record (called (without_cells z) (Edit editor index edits (Accepted n))) { document = after_all z.document edits }) versions ∙ sym (ap without_cells b.2.state))),
    )
one_seen_edit s z t u editor index edits (Accepted v) (Refused place g) same q r a b =
    absurd (none-some (place, g) (sym a.0 ∙ (faults_same s z edits same ∙ b.0)))
one_seen_edit s z t u editor index edits (Accepted v) (Shown w) same q r a b = absurd b
one_seen_edit s z t u editor index edits (Accepted v) NoMemory same q r a b = absurd (r refl)
one_seen_edit s z t u editor index edits (Refused place f) (Accepted w) same q r a b =
    absurd (none-some (place, f) (sym b.0 ∙ (sym (faults_same s z edits same) ∙ a.0)))
one_seen_edit s z t u editor index edits (Refused place f) (Refused place' g) same q r a b =
    let faults = same_Some (place, f) (place', g) (sym a.0 ∙ (faults_same s z edits same ∙ b.0)) in (
      ap (λ (x : ℕ × EditFault). Refused x.0 x.1) faults,
      ap without_cells a.1 ∙ (ap (λ x. called x (Edit editor index edits (Refused place f))) same
          ∙ (ap (λ (x : ℕ × EditFault). called (without_cells z) (Edit editor index edits (Refused x.0 x.1))) faults ∙ sym (ap without_cells b.1))),
    )
one_seen_edit s z t u editor index edits (Refused place f) (Shown w) same q r a b = absurd b
one_seen_edit s z t u editor index edits (Refused place f) NoMemory same q r a b = absurd (r refl)
one_seen_edit s z t u editor index edits (Shown v) y same q r a b = absurd a
one_seen_edit s z t u editor index edits NoMemory y same q r a b = absurd (q refl)

present_by : OneRefreshing → (s z t u : State) (q r : Reply) → IsDocument s.document → without_cells s ≡ without_cells z → (q ≡ NoMemory → ⊥) → (r ≡ NoMemory → ⊥)
    → ShowsPresent s q t → ShowsPresent z r u → (q ≡ r) × (without_cells t ≡ without_cells u)
present_by one s z t u (Shown v) (Shown w) valid same q r a b =
    (ap (λ n. Shown n) (a.0 ∙ (ap (λ (x : State). accepted x.history) same ∙ sym b.0)), one s z t u valid same a.1 b.1)
present_by one s z t u (Shown v) (Accepted w) valid same q r a b = absurd b
present_by one s z t u (Shown v) (Refused place f) valid same q r a b = absurd b
present_by one s z t u (Shown v) NoMemory valid same q r a b = absurd (r refl)
present_by one s z t u (Accepted v) y valid same q r a b = absurd a
present_by one s z t u (Refused place f) y valid same q r a b = absurd a
present_by one s z t u NoMemory y valid same q r a b = absurd (q refl)

version_by : (o : Option ℕ) (q r : Reply) → ShowsVersion o q → ShowsVersion o r → q ≡ r
version_by o (Shown v) (Shown w) a b = ap (λ n. Shown n) (same_Some v w (sym a ∙ b))
version_by o (Shown v) (Accepted w) a b = absurd b
version_by o (Shown v) (Refused place f) a b = absurd b
version_by o (Shown v) NoMemory a b = absurd b
version_by o (Accepted v) y a b = absurd a
version_by o (Refused place f) y a b = absurd a
version_by o NoMemory y a b = absurd a

latest_by : OneRefreshing → (due : Bool) (s z t u : State) (q r : Reply) → IsDocument s.document → without_cells s ≡ without_cells z → (q ≡ NoMemory → ⊥) → (r ≡ NoMemory → ⊥)
    → ShowsLatest due s q t → ShowsLatest due z r u → (q ≡ r) × (without_cells t ≡ without_cells u)
latest_by one true s z t u x y valid same q r a b = present_by one s z t u x y valid same q r a b
latest_by one false s z t u x y valid same q r a b = (
  version_by (last_published s.history) x y a.0 (subst (λ (k : State). ShowsVersion (last_published k.history) y) (sym same) b.0),
  ap without_cells a.1 ∙ (same ∙ sym (ap without_cells b.1)),
)

due_same : (s z : State) → without_cells s ≡ without_cells z → is_clean s ≡ is_clean z → is_due s ≡ is_due z
due_same s z same clean =
    ap (λ (x : State). due_of (last_published x.history) (is_clean s) (accepted x.history)) same
    ∙ ap (λ c. due_of (last_published z.history) c (accepted z.history)) clean

pub one_latest : OneRefreshing → OneLatest
one_latest one s z t u editor index x y valid same clean q r a b =
    let shows = latest_by one (is_due s) s z a.before b.before x y valid same q r a.shows
    (subst (λ due. ShowsLatest due z y b.before) (sym (due_same s z same clean)) b.shows) in (
      shows.0,
      ap without_cells a.state ∙ (ap (λ m. called m (Latest editor index x)) shows.1
          ∙ (ap (λ k. called (without_cells b.before) (Latest editor index k)) shows.0 ∙ sym (ap without_cells b.state))),
    )

pub one_sync : OneRefreshing → OneSync
one_sync one s z t u editor index x y valid same q r a b =
    let shows = present_by one s z a.before b.before x y valid same q r a.shows b.shows in (
      shows.0,
      ap without_cells a.state ∙ (ap (λ m. called m (Sync editor index x)) shows.1
          ∙ (ap (λ k. called (without_cells b.before) (Sync editor index k)) shows.0 ∙ sym (ap without_cells b.state))),
    )
