-- Which lines of a report stand where, and which pieces they show.
-- First comes the history: a line for each command and each version that was published. A line that shows a version
-- is followed by the pieces of its tree, one line each; the last version and its pieces follow the history, and then,
-- where it is told, the count of contexts that were laid out.
use Rattle.std.specs.Prelude.{ℕ, ◌≡◌, ◌+◌, ◌==◌, Bool, true, false, List, [], ◌∷◌, ◌++◌, length}
use Rattle.std.specs.Prelude.{Option, Some, None, IfSome, option_and_then, if◌then◌else◌}
use Rattle.std.specs.List.{flat_map, list_any, All}
use Rattle.lay_frag.specs.declared.frag.Frag.{Frag}
use Rattle.lay_drawing.specs.declared.line.Line.{Line}
use Rattle.lay_drawing.specs.declared.line.Line.TheVariants.{Edit, Publish, Latest, Sync, Final, Laid, Piece}
use Rattle.lay_drawing.specs.declared.places.Place.{Place}
use Rattle.lay_drawing.specs.declared.places.Place.TheVariants.{History, Tree, LastTree, End}
use Rattle.lay_drawing.specs.Lines.{line_text, IsLine}

-- a line of the history, which shows no tree
abbrev pub after_entry : Place → Option Place
after_entry History = Some History
after_entry Tree = Some History
after_entry LastTree = None
after_entry End = None

-- a line that shows a version, or that memory ran out
abbrev pub after_read : Option ℕ → Place → Option Place
after_read None place = after_entry place
after_read (Some version) History = Some Tree
after_read (Some version) Tree = Some Tree
after_read (Some version) LastTree = None
after_read (Some version) End = None

abbrev pub after_final : Place → Option Place
after_final History = Some LastTree
after_final Tree = Some LastTree
after_final LastTree = None
after_final End = None

abbrev pub after_piece : Place → Option Place
after_piece History = None
after_piece Tree = Some Tree
after_piece LastTree = Some LastTree
after_piece End = None

abbrev pub after_laid : Place → Option Place
after_laid History = None
after_laid Tree = None
after_laid LastTree = Some End
after_laid End = None

-- where a line leads that stands in a place, if it may stand there
abbrev pub place_behind_line : Line → Place → Option Place
place_behind_line (Edit editor index reply) place = after_entry place
place_behind_line (Publish version) place = after_entry place
place_behind_line (Latest editor index shown) place = after_read shown place
place_behind_line (Sync editor index shown) place = after_read shown place
place_behind_line (Final version) place = after_final place
place_behind_line (Laid count) place = after_laid place
place_behind_line (Piece f) place = after_piece place

-- where the lines lead from a place, if they may stand there one after the other
abbrev pub place_after : Place → List Line → Option Place
place_after place [] = Some place
place_after place (line ∷ lines) = option_and_then (λ next. place_after next lines) (place_behind_line line place)

-- a report may end there
abbrev pub is_report_whole : Place → Bool
is_report_whole History = false
is_report_whole Tree = false
is_report_whole LastTree = true
is_report_whole End = true

abbrev pub is_wanted_version : Option ℕ → ℕ → Bool
is_wanted_version None version = false
is_wanted_version (Some wanted) version = version == wanted

abbrev pub shows_read : Option ℕ → Option ℕ → Bool
shows_read wanted None = false
shows_read wanted (Some version) = is_wanted_version wanted version

abbrev pub shows_final : Option ℕ → ℕ → Bool
shows_final None version = true
shows_final (Some wanted) version = version == wanted

-- the line shows the wanted tree: that of a version, or else the last one
abbrev pub shows : Option ℕ → Line → Bool
shows wanted (Edit editor index reply) = false
shows wanted (Publish version) = false
shows wanted (Latest editor index shown) = shows_read wanted shown
shows wanted (Sync editor index shown) = shows_read wanted shown
shows wanted (Final version) = shows_final wanted version
shows wanted (Laid count) = false
shows wanted (Piece f) = false

-- some line shows it
abbrev pub is_shown : Option ℕ → List Line → Bool
is_shown wanted lines = list_any (shows wanted) lines

abbrev pub piece_in : Line → List Frag
piece_in (Edit editor index reply) = []
piece_in (Publish version) = []
piece_in (Latest editor index shown) = []
piece_in (Sync editor index shown) = []
piece_in (Final version) = []
piece_in (Laid count) = []
piece_in (Piece f) = f ∷ []

abbrev pub is_piece : Line → Bool
is_piece (Edit editor index reply) = false
is_piece (Publish version) = false
is_piece (Latest editor index shown) = false
is_piece (Sync editor index shown) = false
is_piece (Final version) = false
is_piece (Laid count) = false
is_piece (Piece f) = true

-- the pieces before the first line of another kind
abbrev pub first_pieces : List Line → List Frag
first_pieces [] = []
first_pieces (line ∷ lines) = if is_piece line then piece_in line ++ first_pieces lines else []

-- the pieces behind the first line that shows the wanted tree
abbrev pub pieces_shown : Option ℕ → List Line → List Frag
pieces_shown wanted [] = []
pieces_shown wanted (line ∷ lines) = if shows wanted line then first_pieces lines else pieces_shown wanted lines

-- the bytes are those of these lines, which may stand one after the other, and what is behind them
pub record AreLines (bytes : List ℕ) (lines : List Line) (place : Place) (rest : List ℕ) : Type 0 where
  pub bytes_are : bytes ≡ flat_map line_text lines ++ rest
  pub all : All IsLine lines
  pub place_is : place_after History lines ≡ Some place

-- the bytes are a whole report with these lines
pub record IsReport (bytes : List ℕ) (lines : List Line) : Type 0 where
  pub place : Place
  pub are_lines : AreLines bytes lines place []
  pub whole : is_report_whole place ≡ true

-- the bytes are a report that shows the wanted tree, and these are its pieces; the last tree is in every report
pub record ShowsPieces (bytes : List ℕ) (wanted : Option ℕ) (pieces : List Frag) : Type 0 where
  pub lines : List Line
  pub report : IsReport bytes lines
  pub shown : IfSome wanted (λ version. is_shown wanted lines ≡ true)
  pub pieces_are : pieces ≡ pieces_shown wanted lines

-- the bytes are a report that doesn't show the tree of the version
pub record ShowsNoTree (bytes : List ℕ) (version : ℕ) : Type 0 where
  pub lines : List Line
  pub report : IsReport bytes lines
  pub not_shown : is_shown (Some version) lines ≡ false

-- no line that may stand there stands in front of what is left, and nothing is left only where lines are missing
pub record IsNoLine (place : Place) (rest : List ℕ) : Type 0 where
  pub none : (line : Line) (next : Place) (more : List ℕ) → IsLine line → place_behind_line line place ≡ Some next
      → rest ≡ line_text line ++ more → ⊥
  pub missing : rest ≡ [] → is_report_whole place ≡ false

-- the line of this number, from 1, is the first that is none of a report
pub record IsBadLine (bytes : List ℕ) (number : ℕ) : Type 0 where
  pub lines : List Line
  pub place : Place
  pub rest : List ℕ
  pub are_lines : AreLines bytes lines place rest
  pub no_line : IsNoLine place rest
  pub number_is : number ≡ length lines + 1
