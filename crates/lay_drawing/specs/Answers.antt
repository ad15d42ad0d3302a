-- Which text answers which bytes: the picture of what is wished; or one line, for the first line that is none of a report, or
-- for the version that the report doesn't show.
use Rattle.std.specs.Prelude.{ℕ, ◌≡◌, ◌⊎◌, true, false, List, ◌++◌, codes, Option, Some, None, IfSome}
use Rattle.lay_outside.specs.Outside.{Rose, IsDrained}
use Rattle.lay_frag.specs.declared.frag.Frag.{Frag}
use Rattle.lay_report.specs.Report.{numbered_line}
use Rattle.lay_drawing.specs.declared.answer.Answer.{Answer}
use Rattle.lay_drawing.specs.declared.answer.Answer.TheVariants.{Picture, Refusal}
use Rattle.lay_drawing.specs.declared.answer.Lack.{Lack}
use Rattle.lay_drawing.specs.declared.answer.Lack.TheVariants.{Failed, NoMemory}
use Rattle.lay_drawing.specs.declared.mark.Marked.{Marked}
use Rattle.lay_drawing.specs.declared.words.Wish.{Wish}
use Rattle.lay_drawing.specs.declared.hit.PieceName.{PieceName}
use Rattle.lay_drawing.specs.declared.words.Wish.TheVariants.{Tree, Between, Hit}
use Rattle.lay_drawing.specs.declared.state.Reading.{Reading}
use Rattle.lay_drawing.specs.Reports.{IsBadLine, ShowsPieces, ShowsNoTree}
use Rattle.lay_drawing.specs.Marks.{plain_pieces}
use Rattle.lay_drawing.specs.Changes.{differences}
use Rattle.lay_drawing.specs.Hits.{hit_pieces}
use Rattle.lay_drawing.specs.Picture.{picture}

-- what the bytes show of a wish: the pieces of a tree, the differences of two, or the pieces of the last tree with one that is marked
abbrev pub Shows : List ℕ → Wish → List Marked → Type 0
Shows bytes (Tree wanted) marked = (pieces : List Frag) × ShowsPieces bytes wanted pieces × (marked ≡ plain_pieces pieces)
Shows bytes (Between before after) marked =
    (old new : List Frag) × ShowsPieces bytes (Some before) old × ShowsPieces bytes (Some after) new × (marked ≡ differences old new)
Shows bytes (Hit name) marked = (pieces : List Frag) × ShowsPieces bytes None pieces × (marked ≡ hit_pieces name pieces)

-- the text is the picture of what the report shows
pub record IsPicture (bytes : List ℕ) (wish : Wish) (text : List ℕ) : Type 0 where
  pub marked : List Marked
  pub shows : Shows bytes wish marked
  pub text_is : text ≡ picture marked

-- the bytes are a report that shows the tree of the version
abbrev pub ShowsTree : List ℕ → ℕ → Type 0
ShowsTree bytes version = (pieces : List Frag) × ShowsPieces bytes (Some version) pieces

-- the first version of a wish whose tree the report doesn't show
abbrev pub Misses : List ℕ → Wish → ℕ → Type 0
Misses bytes (Tree wanted) version = (wanted ≡ Some version) × ShowsNoTree bytes version
Misses bytes (Between before after) version =
    ((version ≡ before) × ShowsNoTree bytes before) ⊎ ((version ≡ after) × ShowsTree bytes before × ShowsNoTree bytes after)
Misses bytes (Hit name) version = ⊥

-- why bytes are refused, and the line that says so
pub data IsRefusal (bytes : List ℕ) (wish : Wish) (line : List ℕ) : Type 0 where
  bad_line : (number : ℕ) → IsBadLine bytes number → line ≡ numbered_line (codes "refused line ") number → IsRefusal bytes wish line
  no_tree : (version : ℕ) → Misses bytes wish version → line ≡ numbered_line (codes "refused version ") version → IsRefusal bytes wish line

-- a text that answers the bytes
pub data IsDrawingAnswer (bytes : List ℕ) (wish : Wish) (text : List ℕ) : Type 0 where
  drawn : IsPicture bytes wish text → IsDrawingAnswer bytes wish text
  refused : IsRefusal bytes wish text → IsDrawingAnswer bytes wish text

abbrev pub AnswersBytes : List ℕ → Wish → Answer → Type 0
AnswersBytes bytes wish (Picture text) = IsPicture bytes wish text
AnswersBytes bytes wish (Refusal line) = IsRefusal bytes wish line

-- the answer for what was read of one tree
abbrev pub AnswersReading : Reading → Answer → Type 0
AnswersReading s (Picture text) = IfSome s.wanted (λ version. s.is_shown ≡ true) × (text ≡ picture (plain_pieces s.pieces.items))
AnswersReading s (Refusal line) =
    (version : ℕ) × (s.wanted ≡ Some version) × (s.is_shown ≡ false) × (line ≡ numbered_line (codes "refused version ") version)

-- the answer for what was read of the last tree, with a piece that is marked
abbrev pub AnswersHit : PieceName → Reading → Answer → Type 0
AnswersHit name s (Picture text) = text ≡ picture (hit_pieces name s.pieces.items)
AnswersHit name s (Refusal line) = ⊥

-- the answer for what was read of two trees
abbrev pub AnswersBoth : Reading → Reading → Answer → Type 0
AnswersBoth s t (Picture text) = (s.is_shown ≡ true) × (t.is_shown ≡ true) × (text ≡ picture (differences s.pieces.items t.pieces.items))
AnswersBoth s t (Refusal line) =
    (version : ℕ) × (line ≡ numbered_line (codes "refused version ") version)
    × (((s.wanted ≡ Some version) × (s.is_shown ≡ false)) ⊎ ((t.wanted ≡ Some version) × (s.is_shown ≡ true) × (t.is_shown ≡ false)))

-- a picture is there once all was read
abbrev pub DrainsFor : Option (List ℕ) → Option (List ℕ) → Answer → Type 0
DrainsFor left now (Picture text) = IsDrained left now
DrainsFor left now (Refusal line) = Unit {0}

-- why there is no answer
abbrev pub IsLack : ℕ → ℕ → Lack → Type 0
IsLack old new Failed = Rose old new
IsLack old new NoMemory = Unit {0}
