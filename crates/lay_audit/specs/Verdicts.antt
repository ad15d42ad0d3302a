-- What is found of a text: that it is a legal report, or else the least number of lines with which no legal report begins.
-- The end of the text counts as one more line. So a text that breaks off is found bad at its end, and what stands behind
-- a whole report is its first bad line, as is a last line without a linefeed.
use Rattle.std.specs.Prelude.{ℕ, ◌<◌, List}
use Rattle.lay_audit.specs.declared.verdict.Verdict.{Verdict}
use Rattle.lay_audit.specs.declared.verdict.Verdict.TheVariants.{Yes, No}
use Rattle.lay_audit.specs.LegalReports.{Basis, IsLegalReport}
use Rattle.lay_audit.specs.Lines.{StartAlike}

-- some legal report begins with the first n lines of the text
pub record CanBegin (basis : Basis) (n : ℕ) (text : List ℕ) : Type 0 where
  pub report : List ℕ
  pub legal : IsLegalReport basis report
  pub alike : StartAlike n report text

-- with the line of this number, and with none before it, the text begins as no legal report does
pub record IsFirstBad (basis : Basis) (text : List ℕ) (number : ℕ) : Type 0 where
  pub before : (n : ℕ) → n < number → CanBegin basis n text
  pub never : CanBegin basis number text → ⊥

abbrev pub IsVerdict : Basis → List ℕ → Verdict → Type 0
IsVerdict basis text Yes = IsLegalReport basis text
IsVerdict basis text (No number) = IsFirstBad basis text number
