-- What follows of the definitions: there is one verdict on a text, lines that are alike make texts that are equal, the first bad line
-- is counted from 1, and memory never answers for a fault.
use Rattle.std.specs.Prelude.{ℕ, suc, ◌≡◌, ◌*◌, ◌^◌, ◌<◌, ◌≤◌, ◌↔◌, List, [], ◌∷◌, length, take, slice_get, Some}
use Rattle.lay_doc.specs.Document.{Document, IsDocument}
use Rattle.lay_doc.specs.Edits.{fault}
use Rattle.lay_doc.specs.declared.edit.Edit.{Edit as Change}
use Rattle.lay_doc.specs.declared.edit.EditFault.{EditFault}
use Rattle.lay_frag.specs.Pieces.{Context}
use Rattle.lay_history.specs.declared.edits.command.Reply.{Reply}
use Rattle.lay_history.specs.declared.edits.command.Reply.TheVariants.{Refused}
use Rattle.lay_history.specs.declared.edits.history.Entry.{Entry}
use Rattle.lay_history.specs.declared.edits.history.Entry.TheVariants.{Edit}
use Rattle.lay_history.specs.Legal.{IsLegal, doc_after}
use Rattle.lay_context.specs.Solves.{Solves}
use Rattle.lay_audit.specs.declared.verdict.Verdict.{Verdict}
use Rattle.lay_audit.specs.declared.verdict.Verdict.TheVariants.{Yes}
use Rattle.lay_audit.specs.LegalReports.{Basis, IsLegalReport}
use Rattle.lay_audit.specs.Lines.{StartAlike, line_count}
use Rattle.lay_audit.specs.Verdicts.{IsFirstBad, IsVerdict}

-- there is one verdict on a text
abbrev pub OneVerdict : Type 0
OneVerdict = (basis : Basis) (text : List ℕ) (v w : Verdict) → IsVerdict basis text v → IsVerdict basis text w → v ≡ w

-- it is yes just on legal reports
abbrev pub YesIsLegal : Type 0
YesIsLegal = (basis : Basis) (text : List ℕ) (v : Verdict) → IsVerdict basis text v → (v ≡ Yes) ↔ IsLegalReport basis text

-- texts that have all lines of one of them and its end in common are equal
abbrev pub AlikeAreEqual : Type 0
AlikeAreEqual = (s t : List ℕ) → StartAlike (suc (length s)) s t → s ≡ t

-- so the first bad line is one of the text, or its end
abbrev pub BadLineIsThere : Type 0
BadLineIsThere = (basis : Basis) (text : List ℕ) (number : ℕ) → IsFirstBad basis text number → number ≤ suc (line_count text)

-- the document before any edit has a layout, of so few contexts that a report can count their claims
pub record BeginsWithLayout (basis : Basis) : Type 0 where
  pub tree : List Context
  pub valid : IsDocument basis.init
  pub solves : Solves basis.init basis.face tree
  pub few : 3 * length tree < 2 ^ 64

-- then there is a legal report
abbrev pub SomeReportIsLegal : Type 0
SomeReportIsLegal = (basis : Basis) → BeginsWithLayout basis → (report : List ℕ) × IsLegalReport basis report

-- so lines are counted from 1
abbrev pub BadLinesCountFromOne : Type 0
BadLinesCountFromOne = (basis : Basis) (text : List ℕ) (number : ℕ) → BeginsWithLayout basis → IsFirstBad basis text number → 1 ≤ number

-- in a legal history an edit alone that has a fault is refused for it
abbrev pub FaultsAreRefused : Type 0
FaultsAreRefused = (init : Document) (history : List Entry) (k editor index : ℕ) (edit : Change) (f : EditFault) (reply : Reply)
    → IsLegal init history → slice_get history k ≡ Some (Edit editor index (edit ∷ []) reply)
    → fault (doc_after init (take k history)) edit ≡ Some f → reply ≡ Refused 0 f
