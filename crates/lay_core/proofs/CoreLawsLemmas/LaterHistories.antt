-- Histories with more entries: their versions so far are the same, and without an accepted list of edits there is none more.
use Rattle.std.proofs.Common.{◌≡◌, ◌+◌, List, [], ◌∷◌, ◌++◌, length, ap, ◌∙◌, arith}
use Rattle.lay_doc.specs.Document.{Document}
use Rattle.lay_history.specs.declared.edits.history.Entry.{Entry}
use Rattle.lay_history.specs.Histories.{accepted, doc_at, list_in}
use Rattle.lay_core.proofs.Cited.{accepted_more, doc_before}
use Rattle.lay_core.proofs.CoreLawsLemmas.TurnSteps.{GoesOn}

pub one_entry : (init : Document) (h : List Entry) (e : Entry) → GoesOn init h (h ++ e ∷ [])
one_entry init h e = record { count = (let a = accepted_more h e in omega (arith, a)); same = λ v le. doc_before init h e v le }

-- no list of edits was accepted
pub record Rests (init : Document) (h later : List Entry) : Type 0 where
  pub count : accepted later ≡ accepted h
  pub on : GoesOn init h later

pub rests_itself : (init : Document) (h later : List Entry) → later ≡ h → Rests init h later
rests_itself init h later e = record {
  count = ap accepted e;
  on = record { count = (let a = ap accepted e in omega (arith, a)); same = λ v le. ap (λ (x : List Entry). doc_at init x v) e };
}

pub rests_one : (init : Document) (h : List Entry) (e : Entry) → list_in e ≡ [] → Rests init h (h ++ e ∷ [])
rests_one init h e none = record { count = (let a = accepted_more h e in let n = ap length none in omega (arith, a, n)); on = one_entry init h e }

pub rests_both : (init : Document) (h m later : List Entry) → Rests init h m → Rests init m later → Rests init h later
rests_both init h m later a b = record {
  count = b.count ∙ a.count;
  on = record {
    count = (let x = a.count in let y = b.count in omega (arith, x, y));
    same = λ v le. b.on.same v (let x = a.count in omega (arith, x, le)) ∙ a.on.same v le;
  };
}
