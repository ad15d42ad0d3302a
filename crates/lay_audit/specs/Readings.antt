-- How far a report is read: the lines so far are the front of the report of each legal history that goes on from the one
-- that they tell, up to lines of its last tree that are still to come.
use Rattle.std.specs.Prelude.{ℕ, ◌≡◌, ◌+◌, ◌<◌, ◌≤◌, ◌*◌, ◌^◌, List, [], ◌++◌, length, Option, Some, None, IfSome}
use Rattle.std.specs.List.{All, flat_map}
use Rattle.lay_doc.specs.Document.{Document, IsDocument}
use Rattle.lay_history.specs.declared.edits.command.Cmd.{Cmd}
use Rattle.lay_history.specs.declared.edits.history.Entry.{Entry}
use Rattle.lay_face.specs.FaceValue.{FaceValue}
use Rattle.lay_frag.specs.Pieces.{Context}
use Rattle.lay_frag.specs.Lines.{tree_text}
use Rattle.lay_context.specs.Solves.{Solves}
use Rattle.lay_history.specs.Histories.{doc_at}
use Rattle.lay_history.specs.Trees.{HasTrees, PublishedTreeValue}
use Rattle.lay_report.specs.Report.{entry_text, final_line, laid_line, run_report}
use Rattle.lay_audit.specs.declared.next.Next.{Next}
use Rattle.lay_audit.specs.declared.next.Next.TheVariants.{Entry as entry_read, Bad, NoEntry}
use Rattle.lay_audit.specs.declared.step.Step.{Step}
use Rattle.lay_audit.specs.LegalReports.{AreTreesSolved, Basis, IsLegalReport, IsWholeRun}
use Rattle.lay_audit.specs.Lines.{first_line}
use Rattle.lay_audit.specs.Presents.{AllAnswered, AreCommandsWithin, IsPresent, PresentValue}
use Rattle.lay_audit.specs.NextLines.{StandsNot}
use Rattle.lay_audit.specs.Verdicts.{IsFirstBad}
use Rattle.lay_audit.specs.WholeLines.{AreLines}

-- what is known of the tree that was published last: its lines, and the number of its contexts
pub record LastTreeValue : Type 0 where
  pub text : List ℕ
  pub contexts : ℕ

-- what was read: how many lines, what is left of the text, what stands now, and the last tree
pub record ReadingValue : Type 0 where
  pub lines : ℕ
  pub rest : List ℕ
  pub present : PresentValue
  pub tree : LastTreeValue

-- each version that is published has a tree
pub record HaveTrees (basis : Basis) (history : List Entry) : Type 0 where
  pub trees : List PublishedTreeValue
  pub has_trees : HasTrees history trees
  pub solved : AreTreesSolved basis history trees

-- it is of the layout of a document
pub record IsLayoutOf (d : Document) (face : FaceValue) (t : LastTreeValue) : Type 0 where
  pub tree : List Context
  pub valid : IsDocument d
  pub solves : Solves d face tree
  pub text_is : t.text ≡ tree_text tree
  pub contexts_are : t.contexts ≡ length tree
  pub few : 3 * length tree < 2 ^ 64

-- it is the tree of this version
abbrev pub IsTreeOf : Basis → List Entry → LastTreeValue → ℕ → Type 0
IsTreeOf basis history t version = IsLayoutOf (doc_at basis.init history version) basis.face t

-- what stands after a history, with the trees that it publishes
pub record IsPlayed (basis : Basis) (history : List Entry) (p : PresentValue) (t : LastTreeValue) : Type 0 where
  pub present : IsPresent basis history p
  pub have_trees : HaveTrees basis history
  pub last_tree : IfSome p.last (IsTreeOf basis history t)

-- the history begins with this one
pub record GoesOn (before history : List Entry) : Type 0 where
  pub later : List Entry
  pub history_is : history ≡ before ++ later

-- the first lines of a text were read, and these lines of the last tree come next
pub record IsRead (basis : Basis) (text : List ℕ) (r : ReadingValue) (pending : List ℕ) : Type 0 where
  pub history : List Entry
  pub front : List ℕ
  pub text_is : text ≡ front ++ r.rest
  pub are_lines : AreLines r.lines front
  pub played : IsPlayed basis history r.present r.tree
  -- they are the lines of this history, in the report of any that goes on from it
  pub writes : (whole : List Entry) (trees : List PublishedTreeValue) → IsWholeRun basis whole trees → GoesOn history whole
      → flat_map (entry_text trees) history ≡ front ++ pending
  -- and each report that begins with them is of such a one
  pub tells : (whole : List Entry) (trees : List PublishedTreeValue) (laid : ℕ) (more : List ℕ) → IsWholeRun basis whole trees
      → run_report whole trees laid ≡ front ++ more → GoesOn history whole

-- the lines that come next once an entry is read
abbrev pub pending_of : Option ℕ → List ℕ → List ℕ
pending_of None text = []
pending_of (Some version) text = text

-- no line of an entry that may come stands next
abbrev pub NoStep : List (List Cmd) → ReadingValue → Type 0
NoStep scripts r = (s : Step) → StandsNot scripts r.present r.rest s

-- the layout of a document
abbrev pub HasLayout : Document → FaceValue → Type 0
HasLayout d face = (t : LastTreeValue) × IsLayoutOf d face t

-- the history may end here
pub record MayEnd (scripts : List (List Cmd)) (p : PresentValue) : Type 0 where
  pub answered : AllAnswered scripts p
  pub whole : p.last ≡ Some p.count

-- the history ended; behind what was read come these lines of the last tree, and the number of claims
pub record ReadingEnds (contexts : ℕ) (pending more : List ℕ) : Type 0 where
  pub laid : ℕ
  pub enough : 3 * contexts ≤ laid
  pub within : laid < 2 ^ 64
  pub more_is : more ≡ pending ++ laid_line laid

pub record IsAtEnd (basis : Basis) (text : List ℕ) (lines : ℕ) (rest : List ℕ) (contexts : ℕ) (pending : List ℕ) : Type 0 where
  pub front : List ℕ
  pub text_is : text ≡ front ++ rest
  pub are_lines : AreLines lines front
  pub few : 3 * contexts < 2 ^ 64
  pub writes : (laid : ℕ) → 3 * contexts ≤ laid → laid < 2 ^ 64 → IsLegalReport basis (front ++ (pending ++ laid_line laid))
  pub tells : (more : List ℕ) → IsLegalReport basis (front ++ more) → ReadingEnds contexts pending more

-- two texts are compared line by line: the first one is a front of the other, or else a line of it, behind so many that
-- are the same, isn't the next one there
pub record IsFrontOf (wanted text : List ℕ) (lines : ℕ) (rest : List ℕ) : Type 0 where
  pub are_lines : AreLines lines wanted
  pub text_is : text ≡ wanted ++ rest

pub record PartsFrom (wanted text : List ℕ) (lines : ℕ) : Type 0 where
  pub seen : List ℕ
  pub left : List ℕ
  pub rest : List ℕ
  pub are_lines : AreLines lines seen
  pub wanted_is : wanted ≡ seen ++ left
  pub text_is : text ≡ seen ++ rest
  pub other : (more : List ℕ) → first_line (left ++ more) ≡ first_line rest → ⊥

-- the numbers that are counted while a text is read are below 2^64, and each editor has its place
pub record IsSteady (scripts : List (List Cmd)) (r : ReadingValue) : Type 0 where
  pub lists : All AreCommandsWithin scripts
  pub room : r.lines + length r.rest + 1 < 2 ^ 64
  pub few : r.present.count ≤ r.lines
  pub editors : length r.present.next ≡ length scripts

abbrev pub basis_of : Document → FaceValue → List (List Cmd) → Basis
basis_of init face scripts = record { init = init; face = face; scripts = scripts }

-- an entry was read, with the lines of the tree that it shows; or the first bad line is found; or no entry stands next
abbrev pub ReadsTo : Basis → List ℕ → ReadingValue → Next → Type 0
ReadsTo basis text r entry_read = IsRead basis text r []
ReadsTo basis text r (Bad number) = IsFirstBad basis text number
ReadsTo basis text r NoEntry = IsRead basis text r [] × NoStep basis.scripts r

-- the final line stands next, and may
pub record IsFinalNext (scripts : List (List Cmd)) (r : ReadingValue) (rest : List ℕ) : Type 0 where
  pub may : MayEnd scripts r.present
  pub rest_is : r.rest ≡ final_line r.present.count ++ rest

-- a number of claims stands next that is great enough
pub record IsLaidNext (contexts : ℕ) (text rest : List ℕ) : Type 0 where
  pub laid : ℕ
  pub enough : 3 * contexts ≤ laid
  pub within : laid < 2 ^ 64
  pub text_is : text ≡ laid_line laid ++ rest
