-- Each version of a core that calls led to is a document: when it was the present one, cells were kept of it.
use Rattle.std.proofs.Common.{◌≡◌, ◌+◌, ◌≤◌, ℕ, List, [], ◌∷◌, ◌++◌, length, fold, inl, inr, ap, subst, sym, ◌∙◌, arith}
use Rattle.std.proofs.lemmas.Bool.{cases_lt}
use Rattle.std.proofs.lemmas.List.{take_all}
use Rattle.lay_doc.specs.Document.{Document, IsDocument}
use Rattle.lay_face.specs.FaceValue.{FaceValue}
use Rattle.lay_history.specs.Edits.EditLists.{after_all}
use Rattle.lay_history.specs.declared.edits.command.Reply.TheVariants.{Accepted}
use Rattle.lay_history.specs.declared.edits.history.Entry.{Entry}
use Rattle.lay_history.specs.declared.edits.history.Entry.TheVariants.{Edit}
use Rattle.lay_history.specs.Histories.{accepted, doc_at, list_in, lists}
use Rattle.lay_history.specs.Legal.{doc_after}
use Rattle.lay_core.proofs.Cited.{accepted_more, doc_before}
use Rattle.lay_core.specs.State.{IsCore, State}
use Rattle.lay_core.specs.CoreLaws.Laws.{VersionsAreDocuments}
use Rattle.lay_core.specs.CoreLaws.ReachedCores.{IsReached, called, new}
use Rattle.lay_core.proofs.CoreLawsLemmas.LeadsOn.{Leaves, accepts, origin_stays, rests, what_left}

present : (init : Document) (s : State) → s.init ≡ init → IsCore s → IsDocument (doc_after init s.history)
present init s same core =
    subst (λ (d : Document). IsDocument (doc_after d s.history)) same (subst IsDocument core.document_is core.sound.cells.is_document)

-- the versions up to the present one are documents
abbrev HasDocuments : Document → List Entry → Type 0
HasDocuments init h = (v : ℕ) → v ≤ accepted h → IsDocument (doc_at init h v)

at_first : (init : Document) (h : List Entry) → h ≡ [] → IsDocument (doc_after init h) → HasDocuments init h
at_first init h none is v le =
    subst (λ (n : ℕ). IsDocument (doc_at init h n)) (let z = ap accepted none in let same : accepted h ≡ v = omega (arith, z, le) in same) is

one_more : (init : Document) (h later : List Entry) (e : Entry) → later ≡ h ++ e ∷ [] → accepted later ≤ accepted h + 1 → HasDocuments init h
    → IsDocument (doc_after init later) → HasDocuments init later
one_more init h later e is few before now v le = elim (cases_lt (accepted h) v) [
  | inl last ↦ subst (λ (n : ℕ). IsDocument (doc_at init later n)) (let same : accepted later ≡ v = omega (arith, few, le, last) in same) now
  | inr earlier ↦ subst (λ (l : List Entry). IsDocument (doc_at init l v)) (sym is)
      (subst IsDocument (sym (doc_before init h e v (omega (arith, earlier)))) (before v (omega (arith, earlier))))
]

-- what an accepted list of edits leaves, or a call that accepts none
after_call : (init : Document) (before s : State) → before.init ≡ init → HasDocuments init before.history → IsCore s → Leaves before s
    → HasDocuments init s.history
after_call init before s from was core (accepts editor index edits version _ does) v le =
    let e : Entry = Edit editor index edits (Accepted version) in
    let is : s.history ≡ before.history ++ e ∷ [] = ap (λ (x : State). x.history) does.2.state in
    let stays : s.init ≡ before.init = ap (λ (x : State). x.init) does.2.state in
    let few : accepted s.history ≡ accepted before.history + length (list_in e) = ap accepted is ∙ accepted_more before.history e in
    one_more init before.history s.history e is (omega (arith, few)) was (present init s (stays ∙ from) core) v le
after_call init before s from was core (rests _ stays) v le =
    let count = stays.history.count in
    let within : v ≤ accepted before.history = omega (arith, count, le) in
    let same = subst (λ (d : Document). doc_at d s.history v ≡ doc_at d before.history v) from (stays.history.on.same v within) in
    subst IsDocument (sym same) (was v within)

reached_documents : (init : Document) (face : FaceValue) (s : State) → IsReached init face s → HasDocuments init s.history
reached_documents init face s (new calls _ is core) =
    at_first init s.history (ap (λ (x : State). x.history) is.state) (present init s (ap (λ (x : State). x.init) is.state) core)
reached_documents init face s (called before _ reached call core) =
    after_call init before s (origin_stays init face before reached).0 (reached_documents init face before reached) core (what_left before s call)

whole : (init : Document) (h : List Entry) (v : ℕ) → accepted h ≤ v → doc_at init h (accepted h) ≡ doc_at init h v
whole init h v le = ap (fold after_all init) (take_all (accepted h) (lists h) (omega arith) ∙ sym (take_all v (lists h) le))

pub versions_are_documents_lem : VersionsAreDocuments
versions_are_documents_lem init face s version reached = elim (cases_lt version (accepted s.history)) [
  | inl within ↦ reached_documents init face s reached version (omega (arith, within))
  | inr all ↦ subst IsDocument (whole init s.history version (omega (arith, all))) (reached_documents init face s reached (accepted s.history) (omega arith))
]
